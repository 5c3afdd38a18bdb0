-- A session of one thread: each request is answered and followed by a round, and behind the last one come rounds until one is clear or fails.
-- It is a walk over any list that the tables and the bench are of: over a disk that tells its contents that is the disk's own.
use Rattle.std.specs.Prelude.{◌≡◌, ◌≢◌, ℕ, zero, suc, ◌+◌, ◌≤◌, Bool, true, List, ◌++◌, length, Option}
use Rattle.fts_tables.specs.Coming.{Coming, Gives}
use Rattle.fts_tables.specs.History.{tables_of, tables_from}
use Rattle.fts_tables.specs.declared.commands.Entry.{Entry}
use Rattle.fts_disk.specs.Disk.{IsTold}
use Rattle.fts_wire.specs.RequestData.{RequestData}
use Rattle.fts_wire.specs.declared.response.Reply.{Reply}
use Rattle.fts_keep.specs.Keeps.{KeepData, KeepsImagesSinceAny, bodies_of, used_after}
use Rattle.fts_workers.specs.Benches.{BenchData, KeepsOne}
use Rattle.fts_workers.specs.Copies.{Copy, copies_from, copies_kept, FollowsReports}
use Rattle.fts_workers.specs.Rounds.{Walk, IsRound, IsWorkedOver, walk_over}
use Rattle.fts_workers.specs.declared.ends.RoundEnd.{RoundEnd}
use Rattle.fts_workers.specs.declared.ends.RoundEnd.TheVariants.{Busy}
use Rattle.fts_routes.specs.Replies.{Way, Said, said, said_so, CausedBy, DoubtComes, IsInsteadOf, DoubtHasCause}
use Rattle.fts_laws.specs.Attempts.{claims_in}
use Rattle.fts_session.specs.Connections.{Reading, IsConnection}
use Rattle.fts_session.specs.declared.ends.SessionEnd.{SessionEnd}
use Rattle.fts_disk.specs.declared.disk.Disk as disk
use Rattle.fts_store.specs.declared.store.Store as store
use Rattle.fts_tables.specs.declared.clock.Clock as clock
use Rattle.fts_tables.specs.declared.words.Words as words
use Rattle.fts_session.specs.declared.session.Working.{Working}

-- what is said to a request where one thread stands, with its entries shown so
abbrev pub said_at : Walk → List (List ℕ) → RequestData → ℕ → Said
said_at walk bodies request now = said (tables_of walk.entries) bodies walk.used 0 request now

-- The entries of a list as they are shown: as many, and each by its spelling where the list is the disk's own. Over a disk that tells nothing what
-- a read gives is not known.
pub record AreShownOf (own : Bool) (entries : List Entry) (bodies : List (List ℕ)) : Type 0 where
  pub counted : length bodies ≡ length entries
  pub spelled : own ≡ true → bodies ≡ bodies_of entries

-- a request was answered over the list so far, at the next moment
pub record AnswersNext (own : Bool) (old : Walk) (request : RequestData) (reply : Reply) (new : Walk) : Type 0 where
  pub now : ℕ
  pub moment : Gives old.moments new.moments now
  pub words : new.words ≡ old.words
  pub kept : new.kept ≡ old.kept
  pub bodies : List (List ℕ)
  pub shown : AreShownOf own old.entries bodies
  -- as it is defined, or without memory, or without the disk, whose count rose then
  pub way : Way
  pub cause : CausedBy way old.faults new.faults
  pub instead : IsInsteadOf way (said_at old bodies request now)
  pub counts : old.faults ≤ new.faults
  pub replies : reply ≡ (said_so way (said_at old bodies request now)).reply
  pub listed : new.entries ≡ old.entries ++ (said_so way (said_at old bodies request now)).added
  pub filled : new.used ≡ used_after old.used (said_so way (said_at old bodies request now)).added
  pub doubt : DoubtComes old.faults new.faults old.doubt new.doubt (said_at old bodies request now).added (said_so way (said_at old bodies request now)).added

-- the round behind a request, however it ended
abbrev pub FollowedByRound : ℕ → Walk → Walk → Type 0
FollowedByRound workers old new = (end : RoundEnd) × IsRound workers old end new

-- the last rounds: so many that were busy, and then one that wasn't
abbrev pub AreLastRounds : ℕ → ℕ → Walk → RoundEnd → Walk → Type 0
AreLastRounds workers zero old end new = IsRound workers old end new × ((held : ℕ) → end ≢ Busy held)
AreLastRounds workers (suc busy) old end new =
    (next : Walk) × ((held : ℕ) × (IsRound workers old (Busy held) next × AreLastRounds workers busy next end new))

-- the same, however many were busy
abbrev pub LastRounds : ℕ → RoundEnd → Walk → Walk → Type 0
LastRounds workers end old new = (busy : ℕ) × AreLastRounds workers busy old end new

-- a session with so many workers, which began with these bytes kept; over a list that is the disk's own, or another one that keep and bench may be of
pub record IsSession (own : Bool) (kept : List ℕ) (workers : ℕ) (input left : Reading) (held now : Option (List ℕ)) (end : SessionEnd) (before after : Walk) : Type 0 where
  pub between : Walk
  pub connection : IsConnection (AnswersNext own) (FollowedByRound workers) kept before between input left held now end.line
  pub rounds : LastRounds workers end.last between after

-- A keep has these entries more: each was accepted, its tables are those behind them, and they stand behind its list. Meanwhile each image is one of
-- the list, with one entry more at most; and behind them an entry is in doubt only where one was before, or where the disk counted a failure.
pub record Extends {D : Type 0} (disks : disk.Ghosts D) (old new : KeepData D) (added : List Entry) : Type 0 where
  pub tables : new.tables ≡ tables_from old.tables added
  pub listed : new.entries ≡ old.entries ++ added
  pub told : (disks.state new.disk).told ≡ (disks.state old.disk).told
  pub counts : disks.faults old.disk ≤ disks.faults new.disk
  pub images : KeepsImagesSinceAny disks.state old new
  pub doubt : DoubtHasCause disks.state disks.faults old new

-- what one thread works with: its keep, its bench, how many files it has claimed, its store, and the moments and words to come
pub record ThreadData (D E : Type 0) : Type 0 where
  pub keep : KeepData D
  pub bench : BenchData
  pub claims : ℕ
  pub store : E
  pub moments : Option Coming
  pub words : Option Coming

-- the same by its parts
abbrev pub thread : {D E : Type 0} → KeepData D → BenchData → ℕ → E → Option Coming → Option Coming → ThreadData D E
thread keep bench claims store moments words =
    record { keep = keep; bench = bench; claims = claims; store = store; moments = moments; words = words }

-- the same of a thread at work, with its store, its clock and its words
abbrev pub thread_at : {D E C W : Type 0} → clock.Ghosts C → words.Ghosts W → Working D → E → C → W → ThreadData D E
thread_at clocks draws working store at words = thread working.keep working.bench working.claims store (clocks.moments at) (draws.words words)

-- keep and bench of a thread are over a list
abbrev pub IsOver : {D E : Type 0} → ThreadData D E → List Entry → Type 0
IsOver at entries = IsWorkedOver at.keep at.bench entries

-- a list is its disk's own, if this says so
abbrev pub IsOwn : {D E : Type 0} → disk.Ghosts D → Bool → ThreadData D E → List Entry → Type 0
IsOwn disks own at entries = own ≡ true → IsTold (disks.state at.keep.disk) × (entries ≡ at.keep.entries)

-- where a thread stands over a list
abbrev pub walk_of : {D E : Type 0} → (D → ℕ) → List Entry → ThreadData D E → Walk
walk_of faults entries at = walk_over faults entries at.keep at.bench at.moments at.words

-- the copies that a thread has made and not reported
abbrev pub kept_at : {D E : Type 0} → ThreadData D E → List Copy
kept_at at = copies_kept at.keep.tables at.bench.held

-- a thread may make a round: it is over some list, keeps no copy that was called off, and has claimed no more files than there are commands
pub record IsReady {D E : Type 0} (at : ThreadData D E) : Type 0 where
  pub over : (entries : List Entry) × IsOver at entries
  pub kept : KeepsOne at.bench.held
  pub few : at.claims ≤ at.keep.commands

-- A part of a session over every disk: it added entries, and whatever list keep and bench are over, the disk's own or another one, it goes so from
-- that list to it with these entries. The store follows from the reports among them, and the claims among them are counted.
pub record Works {D E : Type 0} (disks : disk.Ghosts D) (stores : store.Ghosts E)
    (Goes : Bool → Walk → Walk → Type 0) (old new : ThreadData D E) : Type 0 where
  pub added : List Entry
  pub extends : Extends disks old.keep new.keep added
  pub over : (entries : List Entry) → IsOver old entries → IsOver new (entries ++ added)
  pub goes : (own : Bool) (entries : List Entry) → IsOver old entries → IsOwn disks own old entries
      → Goes own (walk_of disks.faults entries old) (walk_of disks.faults (entries ++ added) new)
  pub follows : FollowsReports stores.state stores.calls stores.faults (kept_at old) (copies_from (λ writer. true) old.keep.tables added) (kept_at new) old.store new.store
  pub counted : new.claims ≡ old.claims + claims_in added
  pub places : new.bench.places ≡ old.bench.places
  pub ready : IsReady new
