-- A line that a monitor serves: one request at most, which is answered behind the look that it asks for, and nothing is read behind it.
use Rattle.std.specs.Prelude.{◌≡◌, ℕ, Bool, true, false, List, [], Option, Result, Ok, Err}
use Rattle.fts_tables.specs.Coming.{Coming, Gives}
use Rattle.fts_disk.specs.Disk.{DiskState}
use Rattle.fts_wire.specs.Outside.{Side}
use Rattle.fts_wire.specs.RequestData.{RequestData}
use Rattle.fts_wire.specs.RoomData.{RoomData}
use Rattle.fts_wire.specs.Answered.{IsLoaded}
use Rattle.fts_wire.specs.declared.fault.WireFault.{WireFault}
use Rattle.fts_wire.specs.declared.fault.WireFault.TheVariants.{EndsInside, SourceFailed}
use Rattle.fts_panel.specs.declared.asked.Asked.{Asked}
use Rattle.fts_panel.specs.declared.asked.Asked.TheVariants.{Page, Metrics, About, OtherMethod, Nothing}
use Rattle.fts_panel.specs.declared.view.View.{View}
use Rattle.fts_panel.specs.Views.{Looks}
use Rattle.fts_panel.specs.Responses.{asked_by, response_to, Says, IsRefused}

-- a line at a moment: what is left of its input and what its output holds, where it tells them, how often it was read, and how often a write has failed
pub record LineData : Type 0 where
  pub left : Option (List ℕ)
  pub reads : ℕ
  pub held : Option (List ℕ)
  pub faults : ℕ

-- the same by the two sides of a line
abbrev pub line_at : {L : Type 0} → Side L → Side L → L → LineData
line_at read written line = record { left = read.bytes line; reads = read.reads line; held = written.bytes line; faults = written.faults line }

-- what was seen of a journal, and the moments to come, where they are told
pub record Seen (D : Type 0) : Type 0 where
  pub view : View D
  pub moments : Option Coming

-- the same by its parts
abbrev pub seen : {D : Type 0} → View D → Option Coming → Seen D
seen view moments = record { view = view; moments = moments }

module _ {D : Type 0} (state : D → DiskState) (faults : D → ℕ) where
  -- the journal was looked at, at the next moment
  pub record LooksNext (moment : ℕ) (before after : Seen D) : Type 0 where
    pub given : Gives before.moments after.moments moment
    pub looks : Looks state faults moment before.view after.view

  -- it is looked at for the metrics and for a topic alone
  abbrev pub LooksFor : Asked → ℕ → Seen D → Seen D → Type 0
  LooksFor Page moment before after = after ≡ before
  LooksFor Metrics moment before after = LooksNext moment before after
  LooksFor (About topic) moment before after = LooksNext moment before after
  LooksFor OtherMethod moment before after = after ≡ before
  LooksFor Nothing moment before after = after ≡ before

  -- a request was answered by the view that its look left, at the moment of that look
  pub record IsAnswered (before after : Seen D) (request : RequestData) (held now : Option (List ℕ)) (old new : ℕ) : Type 0 where
    pub moment : ℕ
    pub looks : LooksFor (asked_by request) moment before after
    pub says : Says held now old new (response_to request moment after.view)

  -- what follows of what a load found: an answer to a request, a refusal of what is none, or nothing
  abbrev pub Follows : RoomData → Result Bool WireFault → Seen D → Seen D → Option (List ℕ) → Option (List ℕ) → ℕ → ℕ → Type 0
  Follows room (Ok true) before after held now old new = IsAnswered before after room.request held now old new
  Follows room (Ok false) before after held now old new = (after ≡ before) × (now ≡ held)
  Follows room (Err EndsInside) before after held now old new = (after ≡ before) × (now ≡ held)
  Follows room (Err SourceFailed) before after held now old new = (after ≡ before) × (now ≡ held)
  Follows room (Err fault) before after held now old new = (after ≡ before) × IsRefused fault held now old new

  -- one load, with nothing kept before it, and what follows of it; nothing is read behind that
  pub record IsLineServed (before after : Seen D) (line left : LineData) : Type 0 where
    pub room : RoomData
    pub found : Result Bool WireFault
    pub loads : IsLoaded [] line.left left.left line.reads left.reads room found
    pub follows : Follows room found before after line.held left.held line.faults left.faults
