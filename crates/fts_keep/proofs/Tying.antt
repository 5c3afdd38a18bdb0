-- A desk tied to its journal: what that says over a disk that tells its contents, and what it needs.
use Rattle.std.proofs.Common.{◌≡◌, refl, ap, sym, ◌∙◌, ◌+◌, ◌*◌, ◌≤◌, ◌<◌, Bool, true, false, List, length, Option, Some, None, option_map, option_and_then, is_some, All}
use Rattle.fts_tables.specs.History.{tables_of, IsLegal}
use Rattle.fts_tables.specs.declared.limits.TheConstants.{JOURNAL_END}
use Rattle.fts_tables.specs.declared.commands.Entry.{Entry}
use Rattle.fts_record.specs.Spelling.{spelled}
use Rattle.fts_record.specs.Proper.{IsProper}
use Rattle.fts_record.specs.Reading.{read_of}
use Rattle.fts_desk.specs.DeskData.{DeskData}
use Rattle.fts_disk.specs.Disk.{DiskState, IsTold}
use Rattle.fts_journal.specs.Journal.{JournalData, IsSound}
use Rattle.fts_keep.specs.Keeps.{HoldsList, IsFilledBy, bodies_of, used_of, with_doubt}
use Rattle.fts_keep.specs.Views.{option_if, keep_of, IsTied}
use Rattle.fts_keep.proofs.Lists.{doubt_again, image_of}

-- what is seen of an option where it is told
pub option_told : {A : Type 0} (told : Bool) (item : Option A) → told ≡ true → option_if told item ≡ item
option_told told item is = ap (λ b. option_if b item) is

-- nothing is seen of one where it isn't told
pub option_untold : {A : Type 0} (told : Bool) (item : Option A) → told ≡ false → option_if told item ≡ None
option_untold told item is = ap (λ b. option_if b item) is

-- what is so whether a disk tells its contents or not
pub told_or_not : {P : Type 0} (told : Bool) → (told ≡ true → P) → (told ≡ false → P) → P
told_or_not true is not = is refl
told_or_not false is not = not refl

-- the desk holds these entries, and the journal their bodies, with this doubt
pub record IsHeld {D : Type 0} (desk : DeskData) (journal : JournalData D) (entries : List Entry) (doubt : Option Entry) : Type 0 where
  pub bodies : journal.bodies ≡ bodies_of entries
  pub doubts : journal.doubt ≡ option_map spelled doubt
  pub folded : desk.tables ≡ tables_of entries
  pub legal : IsLegal (with_doubt entries doubt)
  pub proper : All IsProper (with_doubt entries doubt)
  pub counted : desk.commands ≡ length entries
  pub sure : journal.in_doubt ≡ is_some doubt
  pub fills : journal.used ≡ used_of entries

-- the entries are held, with some doubt
pub record Holding {D : Type 0} (desk : DeskData) (journal : JournalData D) (entries : List Entry) : Type 0 where
  pub doubt : Option Entry
  pub held : IsHeld desk journal entries doubt

module _ {D : Type 0} (state : D → DiskState) (reads : (entry : Entry) → IsProper entry → read_of (spelled entry) ≡ Some entry) (desk : DeskData)
    (journal : JournalData D) (entries : List Entry) where
  -- the doubt that is held is seen
  pub seen_doubt : (doubt : Option Entry) → IsHeld desk journal entries doubt → IsTold (state journal.disk)
      → (keep_of state desk journal entries).doubt ≡ doubt
  seen_doubt doubt held told =
      option_told (state journal.disk).told (option_and_then read_of journal.doubt) told
      ∙ ap (λ found. option_and_then read_of found) held.doubts
      ∙ doubt_again reads entries doubt held.proper

  -- what is held is held by the keep
  pub holds : (doubt : Option Entry) → IsHeld desk journal entries doubt → IsSound (state journal.disk) journal.bodies journal.doubt
      → IsTold (state journal.disk)
      → HoldsList (state journal.disk) entries doubt desk.tables desk.commands journal.used journal.in_doubt
  holds doubt held sound told = record {
    folded = held.folded;
    legal = held.legal;
    proper = held.proper;
    counted = held.counted;
    fills = held.fills;
    doubted = held.sure;
    images = λ content left. image_of entries doubt content (rw (← held.bodies, ← held.doubts) (sound told content left));
  }

  -- what ties a desk to its journal
  pub tie : 8 + 6 * desk.commands ≤ journal.used → journal.used < JOURNAL_END → desk.commands ≡ journal.count
      → IsFilledBy (keep_of state desk journal entries) entries
      → (IsTold (state journal.disk) → Holding desk journal entries) → IsSound (state journal.disk) journal.bodies journal.doubt
      → IsTied state desk journal entries
  tie low high counted filled holding sound = record {
    fold = record {
      low = low;
      high = high;
      filled = filled;
      holds = λ told. let h = holding told in rw (seen_doubt h.doubt h.held told) (holds h.doubt h.held sound told);
    };
    counted = counted;
    bodies = λ told. (holding told).held.bodies;
    doubt = λ told. let h = holding told in
        h.held.doubts ∙ ap (λ found. option_map spelled found)
        (sym (ap (λ found. option_and_then read_of found) h.held.doubts ∙ doubt_again reads entries h.doubt h.held.proper));
  }

  -- what a tied desk holds
  pub held : IsTied state desk journal entries → IsTold (state journal.disk) → IsHeld desk journal entries (keep_of state desk journal entries).doubt
  held tied told =
      let holding = tied.fold.holds told in
      record {
        bodies = tied.bodies told;
        doubts = tied.doubt told
            ∙ ap (λ found. option_map spelled found) (sym (option_told (state journal.disk).told (option_and_then read_of journal.doubt) told));
        folded = holding.folded;
        legal = holding.legal;
        proper = holding.proper;
        counted = holding.counted;
        sure = holding.doubted;
        fills = holding.fills;
      }
