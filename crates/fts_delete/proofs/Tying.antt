-- Rows tied to their journal: what that says over a disk that tells its contents.
use Rattle.std.proofs.Common.{◌≡◌, ◌⊎◌, ℕ, refl, ap, ◌∙◌, Bool, true, false, List, [], Option, option_and_then}
use Rattle.fts_disk.specs.Disk.{DiskState, IsTold}
use Rattle.fts_journal.specs.Journal.{JournalData}
use Rattle.fts_delete.specs.declared.events.Event.{Event}
use Rattle.fts_delete.specs.declared.rows.DeleteRow.{DeleteRow}
use Rattle.fts_delete.specs.Journals.{IsDeletes, StandsFor, with_doubt}
use Rattle.fts_delete.specs.Views.{events_in, read_of, list_if, option_if, deletes_of, IsHeld, IsTied}
use Rattle.fts_delete.proofs.Lists.{events_again, doubt_again, proper_list, image_of}

-- what is seen where it is told
pub list_told : {A : Type 0} (told : Bool) (items : List A) → told ≡ true → list_if told items ≡ items
list_told told items is = ap (λ b. list_if b items) is

-- and where it isn't
pub list_untold : {A : Type 0} (told : Bool) (items : List A) → told ≡ false → list_if told items ≡ []
list_untold told items is = ap (λ b. list_if b items) is

-- the same of an option
pub option_told : {A : Type 0} (told : Bool) (item : Option A) → told ≡ true → option_if told item ≡ item
option_told told item is = ap (λ b. option_if b item) is

-- what is seen of one list, by two disks of which both tell or none
pub same_list : {A : Type 0} (before after : Bool) (items others : List A) → after ≡ before → (before ≡ true → others ≡ items)
    → list_if after others ≡ list_if before items
same_list true after items others is same = ap (λ t. list_if t others) is ∙ same refl
same_list false after items others is same = ap (λ t. list_if t others) is

module _ {D : Type 0} (state : D → DiskState) (rows : List DeleteRow) (journal : JournalData D) (events : List Event) (doubt : Option Event)
    (held : IsHeld state rows journal events doubt) where
  -- the events that are held are seen
  pub seen_events : IsTold (state journal.disk) → (deletes_of state rows journal).events ≡ events
  seen_events told =
      list_told (state journal.disk).told (events_in journal.bodies) told
      ∙ ap events_in (held.bodies told)
      ∙ events_again events (proper_list events doubt held.proper)

  -- and the doubt
  pub seen_doubt : IsTold (state journal.disk) → (deletes_of state rows journal).doubt ≡ doubt
  seen_doubt told =
      option_told (state journal.disk).told (option_and_then read_of journal.doubt) told
      ∙ ap (λ found. option_and_then read_of found) (held.doubts told)
      ∙ doubt_again events doubt held.proper

  -- each image is one of the list, or of it with the doubt
  pub held_image : IsTold (state journal.disk) → (content : List ℕ) → (state journal.disk).may_leave content
      → StandsFor content events ⊎ StandsFor content (with_doubt events doubt)
  held_image told content left = image_of events doubt content (rw (← held.bodies told, ← held.doubts told) (held.images told content left))

-- what is tied keeps what callers see kept
pub kept_deletes : {D : Type 0} (state : D → DiskState) (rows : List DeleteRow) (journal : JournalData D) → IsTied state rows journal
    → IsDeletes state (deletes_of state rows journal)
kept_deletes state rows journal tied =
    let h = tied.held in
    record {
      low = h.low;
      high = h.high;
      some = (tied.events, record { folded = h.folded; counted = h.counted });
      holds = λ told.
          rw (seen_events state rows journal tied.events tied.doubt h told, seen_doubt state rows journal tied.events tied.doubt h told) (record {
            folded = h.folded;
            legal = h.legal;
            proper = h.proper;
            counted = h.counted;
            fills = h.fills;
            doubted = h.sure;
            images = held_image state rows journal tied.events tied.doubt h told;
          });
    }
