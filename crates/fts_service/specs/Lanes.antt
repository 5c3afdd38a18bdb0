-- Connections over a pass of the lock, and the lanes that serve them one after the other.
use Rattle.std.specs.Prelude.{◌≡◌, ◌⊎◌, ℕ, ◌-◌, ◌==◌, ◌<◌, ◌≤◌, Bool, false, List, [], ◌∷◌, ◌++◌, length, Option, Some, option_map, IfSome}
use Rattle.std.specs.Option.{option_map_or}
use Rattle.fts_tables.specs.Counts.{Rose}
use Rattle.fts_tables.specs.Coming.{Coming, Gives}
use Rattle.fts_tables.specs.History.{tables_of}
use Rattle.fts_tables.specs.declared.commands.Entry.{Entry}
use Rattle.fts_turnstile.specs.Passes.{PassView, IsSame, own_items}
use Rattle.fts_wire.specs.RequestData.{RequestData}
use Rattle.fts_wire.specs.declared.response.Reply.{Reply}
use Rattle.fts_keep.specs.Keeps.{bodies_of, used_of}
use Rattle.fts_routes.specs.Replies.{Way, Said, said, said_so, CausedBy, IsInsteadOf}
use Rattle.fts_shop.specs.Shops.{TakesTurn, point, shown_before, doubt_shown, faults_shown, telling_shown, DoubtMovesIn, HasFault, KeepsLanes, LaneEnds}
use Rattle.fts_session.specs.Connections.{Reading, reading_of, IsConnection}
use Rattle.fts_service.specs.Doors.{DoorsData, PassThrough}
use Rattle.fts_session.specs.declared.ends.LineEnd.{LineEnd}
use Rattle.fts_session.specs.declared.ends.LineEnd.TheVariants as line_ends
use Rattle.fts_service.specs.declared.lane.LaneStop.{LaneStop}
use Rattle.fts_service.specs.declared.lane.LaneStop.TheVariants.{NoMore, Enough, DoorsFailed}
use Rattle.fts_wire.specs.declared.outside.Source as source
use Rattle.fts_wire.specs.declared.outside.Sink as sink

-- where a lane stands: what its pass has seen, and the moments to come, where they are told
pub record Standing : Type 0 where
  pub pass : PassView Entry
  pub moments : Option Coming

-- the same by its parts
abbrev pub standing : PassView Entry → Option Coming → Standing
standing pass moments = record { pass = pass; moments = moments }

-- the entries of a list as a turn shows them: as many, and where the disk showed before the turn that it tells its contents, each by its spelling
pub record AreShownIn (shown : List ℕ) (entries : List Entry) (bodies : List (List ℕ)) : Type 0 where
  pub counted : length bodies ≡ length entries
  pub spelled : telling_shown shown ≡ 1 → bodies ≡ bodies_of entries

-- what is said over a list whose entries are shown so
abbrev pub said_in : List Entry → List (List ℕ) → ℕ → RequestData → ℕ → Said
said_in entries bodies writer request now = said (tables_of entries) bodies (used_of entries) writer request now

-- The entry in doubt behind a request, as it is shown, by the entries that it asks to add and those that were added: none behind one that was added, and
-- else at most that from before the request, or the one that it asks for, and then the disk's count rose.
abbrev pub DoubtComesIn : Type 0 → List ℕ → List ℕ → List Entry → List Entry → Type 0
DoubtComesIn rose before after asked (entry ∷ more) = after ≡ []
DoubtComesIn rose before after (entry ∷ more) [] = DoubtMovesIn rose before after entry
DoubtComesIn rose before after [] [] = (after ≡ before) ⊎ (after ≡ [])

-- A request was answered in one turn at this moment, over the list before that turn, and its command is all that the turn adds.
pub record AnsweredInTurn (old new : PassView Entry) (request : RequestData) (now : ℕ) (reply : Reply) : Type 0 where
  pub taken : TakesTurn old new
  pub lanes : KeepsLanes taken
  pub own : own_items new ≡ own_items old ++ taken.turn.items
  -- as it is defined, or without memory, or without the disk, whose count rose in that very turn
  pub way : Way
  pub cause : CausedBy way (faults_shown (shown_before taken)) (faults_shown taken.turn.shows)
  -- only a look at one entry reads them from the disk
  pub bodies : List (List ℕ)
  pub shown : AreShownIn (shown_before taken) (point taken) bodies
  pub instead : IsInsteadOf way (said_in (point taken) bodies old.number request now)
  pub replies : reply ≡ (said_so way (said_in (point taken) bodies old.number request now)).reply
  pub added : taken.turn.items ≡ (said_so way (said_in (point taken) bodies old.number request now)).added
  pub doubt : DoubtComesIn (HasFault taken) (doubt_shown (shown_before taken)) (doubt_shown taken.turn.shows)
      (said_in (point taken) bodies old.number request now).added taken.turn.items

-- a request was answered so at the next moment
pub record AnswersInTurn (old : Standing) (request : RequestData) (reply : Reply) (new : Standing) : Type 0 where
  pub now : ℕ
  pub moment : Gives old.moments new.moments now
  pub answered : AnsweredInTurn old.pass new.pass request now reply

-- nothing follows a response
abbrev pub Stays : Standing → Standing → Type 0
Stays old new = new ≡ old

-- A line was served: its requests in their order, each at a point not before that of the one before it. Nothing was kept of an earlier line.
abbrev pub IsLineServed : Standing → Standing → Reading → Reading → Option (List ℕ) → Option (List ℕ) → LineEnd → Type 0
IsLineServed old new input left held now end = IsConnection AnswersInTurn Stays [] old new input left held now end

-- what a line shows of its two sides
pub record Sides (L : Type 0) : Type 0 where
  pub left : L → Option (List ℕ)
  pub reads : L → ℕ
  pub held : L → Option (List ℕ)
  pub read_faults : L → ℕ
  pub write_faults : L → ℕ

-- the same, by what its two sides show
abbrev pub sides_of : {L : Type 0} → source.Ghosts L → sink.Ghosts L → Sides L
sides_of input output =
    record { left = input.left; reads = input.reads; held = output.held; read_faults = input.faults; write_faults = output.faults }

-- how many lines a lane may still serve, where that is told: whether that is none, and one less
abbrev pub is_none_left : Option ℕ → Bool
is_none_left left = option_map_or (λ n. n == 0) left false

abbrev pub less_one : Option ℕ → Option ℕ
less_one left = option_map (λ n. n - 1) left

-- a lane that may serve so many lines at most has served fewer
abbrev pub MayServeMore : Option ℕ → ℕ → Type 0
MayServeMore connections served = IfSome connections (λ most. served < most)

module _ {L : Type 0} (sides : Sides L) where
  -- how far a line was read
  abbrev pub reading_at : L → Reading
  reading_at line = reading_of (sides.left line) (sides.reads line)

  -- A line as it was given and as it went back, served in between. Only where its count rose may a read or a write have ended it.
  pub record IsServed (old : Standing) (line : L × L) (new : Standing) : Type 0 where
    pub end : LineEnd
    pub served : IsLineServed old new (reading_at line.0) (reading_at line.1) (sides.held line.0) (sides.held line.1) end
    pub input : end ≡ line_ends.SourceFailed → Rose (sides.read_faults line.0) (sides.read_faults line.1)
    pub output : end ≡ line_ends.SinkFailed → Rose (sides.write_faults line.0) (sides.write_faults line.1)

  -- lines were served one after the other
  abbrev pub AreLinesServed : Standing → List (L × L) → Standing → Type 0
  AreLinesServed old [] new = new ≡ old
  AreLinesServed old (line ∷ lines) new = (next : Standing) × (IsServed old line next × AreLinesServed next lines new)

  -- why a lane took no more lines
  abbrev pub IsStop : Option ℕ → ℕ → DoorsData L → Type 0 → LaneStop → Type 0
  IsStop connections served doors rose NoMore = MayServeMore connections served × IfSome doors.coming (λ coming. coming ≡ [])
  IsStop connections served doors rose (Enough lines) = (lines ≡ served) × (connections ≡ Some served)
  IsStop connections served doors rose DoorsFailed = MayServeMore connections served × rose

  -- a lane served these lines one after another, as many as it may at most, and its doors gave them and have them back
  pub record ServesLines (connections : Option ℕ) (old new : Standing) (doors doors_now : DoorsData L) (lines : List (L × L)) : Type 0 where
    pub served : AreLinesServed old lines new
    pub few : IfSome connections (λ most. length lines ≤ most)
    pub through : PassThrough doors doors_now lines

  -- a lane served lines, and then took no more, for this reason
  pub record StopsLines (connections : Option ℕ) (old new : Standing) (doors doors_now : DoorsData L) (rose : Type 0) (stop : LaneStop) : Type 0 where
    pub lines : List (L × L)
    pub serves : ServesLines connections old new doors doors_now lines
    pub stops : IsStop connections (length lines) doors_now rose stop

  -- what a lane did: it served lines, and then ended in a turn of its own
  pub record LaneDone (connections : Option ℕ) (old new : Standing) (doors doors_now : DoorsData L) (rose : Type 0) (stop : LaneStop) : Type 0 where
    pub between : Standing
    pub served : StopsLines connections old between doors doors_now rose stop
    pub ends : LaneEnds between.pass new.pass
    pub moments : new.moments ≡ between.moments

-- what is seen of a booth: where its lane stands, its doors, how often they failed, and how the lane stopped
pub record BoothData (L : Type 0) : Type 0 where
  pub standing : Standing
  pub doors : DoorsData L
  pub faults : ℕ
  pub end : Option LaneStop

-- The lane of a booth has ended, over the same pass, and says why.
pub record BoothDone {L : Type 0} (sides : Sides L) (connections : Option ℕ) (old new : BoothData L) : Type 0 where
  pub stop : LaneStop
  pub ended : new.end ≡ Some stop
  pub same : IsSame old.standing.pass new.standing.pass
  pub done : LaneDone sides connections old.standing new.standing old.doors new.doors (Rose old.faults new.faults) stop
