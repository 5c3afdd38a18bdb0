-- One entry is given: the journal was only looked at, so the keep is one still, and the bytes are those of its list.
use Rattle.std.proofs.Common.{◌≡◌, refl, ap, sym, ◌∙◌, subst, inl, inr, ◌⊎◌, ℕ, zero, suc, ◌+◌, ◌*◌, ◌≤◌, ◌<◌, Bool, true, false, List, [], ◌∷◌, length, slice_get, Option, Some, option_and_then, Ok, Err, arith}
use Rattle.std.proofs.lemmas.List.Sums.{sum_by-cons}
use Rattle.std.specs.List.{sum_by}
use Rattle.fts_tables.specs.Counts.{Rose}
use Rattle.fts_tables.specs.declared.limits.TheConstants.{JOURNAL_END}
use Rattle.fts_tables.specs.declared.commands.Entry.{Entry}
use Rattle.fts_record.specs.Reading.{read_of}
use Rattle.fts_desk.specs.DeskData.{DeskData}
use Rattle.fts_disk.specs.Disk.{DiskState, IsTold, IsLawful}
use Rattle.fts_journal.specs.Journal.{JournalData, Keeps, filled_by}
use Rattle.fts_journal.specs.declared.fault.JournalFault.{JournalFault}
use Rattle.fts_journal.specs.declared.fault.JournalFault.TheVariants.{DiskFailed as JournalDiskFailed, Memory as JournalMemory}
use Rattle.fts_keep.specs.Faults.{fault_of}
use Rattle.fts_keep.specs.Keeps.{IsFold}
use Rattle.fts_keep.specs.Views.{option_if, keep_of, IsKept}
use Rattle.fts_keep.specs.Looking.{OnlyLooks, EntryFault, GivesEntry}

-- what is told of an option as before, and is the same where it is told, is seen the same
option_still : {A : Type 0} (now before : Bool) (item was : Option A) → now ≡ before → (before ≡ true → item ≡ was) → option_if now item ≡ option_if before was
option_still now true item was told same = ap (λ b. option_if b item) told ∙ same refl
option_still now false item was told same = ap (λ b. option_if b item) told

-- each size is within what all fill
size_within : (sizes : List ℕ) (n size : ℕ) → slice_get sizes n ≡ Some size → 5 + size ≤ sum_by (λ s. 5 + s) sizes
size_within [] n size is = absurd cc
size_within (first ∷ sizes) zero size is = let same : first ≡ size = cc in omega (arith, same, sum_by-cons (λ s. 5 + s) first sizes)
size_within (first ∷ sizes) (suc n) size is = omega (arith, size_within sizes n size is, sum_by-cons (λ s. 5 + s) first sizes)

-- and behind the header
pub bytes_within : (sizes : List ℕ) (n size used : ℕ) → slice_get sizes n ≡ Some size → used ≡ filled_by sizes → 8 + 5 + size ≤ used
bytes_within sizes n size used is fills = omega (arith, size_within sizes n size is, fills)

module _ {D : Type 0} (state : D → DiskState) (faults : D → ℕ) (lawful : (disk : D) → IsTold (state disk) → IsLawful (state disk)) (desk : DeskData)
    (list : List Entry) (old new : JournalData D) (told : (state new.disk).told ≡ (state old.disk).told)
    (kept : (new.count ≡ old.count) × (new.used ≡ old.used) × (new.in_doubt ≡ old.in_doubt))
    (keeps : IsTold (state old.disk) → Keeps (state old.disk) (state new.disk) old.bodies new.bodies)
    (doubt : IsTold (state old.disk) → new.doubt ≡ old.doubt) where
  -- the same doubt is seen
  same_doubt : (keep_of state desk new list).doubt ≡ (keep_of state desk old list).doubt
  same_doubt = option_still (state new.disk).told (state old.disk).told (option_and_then read_of new.doubt) (option_and_then read_of old.doubt) told
      (λ is. ap (λ found. option_and_then read_of found) (doubt is))

  -- the list is held still
  held_still : IsFold state (keep_of state desk old list) → IsFold state (keep_of state desk new list)
  held_still fold = record {
    low = subst (λ n. 8 + 6 * desk.commands ≤ n) (sym kept.1) fold.low;
    high = subst (λ n. n < JOURNAL_END) (sym kept.1) fold.high;
    filled = record {
      list = record { folded = fold.filled.list.folded; legal = fold.filled.list.legal; counted = fold.filled.list.counted };
      proper = fold.filled.proper;
      fills = kept.1 ∙ fold.filled.fills;
    };
    holds = λ now. let was = sym told ∙ now in let held = fold.holds was in rw (same_doubt) (record {
      folded = held.folded;
      legal = held.legal;
      proper = held.proper;
      counted = held.counted;
      fills = kept.1 ∙ held.fills;
      doubted = kept.2 ∙ held.doubted;
      images = λ content left. held.images content ((keeps was).moments.each content
          ((lawful new.disk now).counts_now (state old.disk).moment content (keeps was).moments.later left));
    });
  }

  -- the keep is one still
  pub kept_still : IsKept state desk old list → IsKept state desk new list
  kept_still is = record {
    settings = is.settings;
    tied = record {
      fold = held_still is.tied.fold;
      counted = is.tied.counted ∙ sym kept.0;
      bodies = λ now. (keeps (sym told ∙ now)).same ∙ is.tied.bodies (sym told ∙ now);
      doubt = λ now. rw (doubt (sym told ∙ now)) (is.tied.doubt (sym told ∙ now));
    };
  }

  -- it was only looked at
  only_looks : faults old.disk ≤ faults new.disk → OnlyLooks state faults (keep_of state desk old list) (keep_of state desk new list)
  only_looks counts = record {
    entries = refl;
    doubt = same_doubt;
    tables = refl;
    commands = refl;
    used = kept.1;
    in_doubt = kept.2;
    told = told;
    counts = counts;
    moments = λ was. (keeps was).moments;
  }

  -- the cause of the journal's fault is the keep's
  cause_of : (fault : JournalFault) → (fault ≡ JournalDiskFailed → Rose (faults old.disk) (faults new.disk))
      → (fault ≡ JournalDiskFailed) ⊎ (fault ≡ JournalMemory) → EntryFault (faults old.disk) (faults new.disk) (fault_of fault)
  cause_of fault rose (inl failed) = subst (λ f. EntryFault (faults old.disk) (faults new.disk) (fault_of f)) (sym failed) (rose failed)
  cause_of fault rose (inr none) = subst (λ f. EntryFault (faults old.disk) (faults new.disk) (fault_of f)) (sym none) tt

  -- the entry was given
  pub given : (n : ℕ) (bytes : List ℕ) → IsKept state desk old list → faults old.disk ≤ faults new.disk
      → (IsTold (state old.disk) → slice_get old.bodies n ≡ Some bytes) → slice_get old.sizes n ≡ Some (length bytes) → old.used ≡ filled_by old.sizes
      → GivesEntry state faults (keep_of state desk old list) (keep_of state desk new list) n bytes (Ok tt)
  given n bytes is counts read long fills = record {
    looks = only_looks counts;
    given = λ was. ap (λ bodies. slice_get bodies n) (sym (is.tied.bodies was)) ∙ read was;
    within = bytes_within old.sizes n (length bytes) old.used long fills;
    cause = tt;
  }

  -- it wasn't
  pub not_given : (n : ℕ) (bytes : List ℕ) (fault : JournalFault) → faults old.disk ≤ faults new.disk
      → (fault ≡ JournalDiskFailed → Rose (faults old.disk) (faults new.disk)) → (fault ≡ JournalDiskFailed) ⊎ (fault ≡ JournalMemory)
      → GivesEntry state faults (keep_of state desk old list) (keep_of state desk new list) n bytes (Err (fault_of fault))
  not_given n bytes fault counts rose others = record {
    looks = only_looks counts;
    given = λ was. tt;
    within = tt;
    cause = cause_of fault rose others;
  }
