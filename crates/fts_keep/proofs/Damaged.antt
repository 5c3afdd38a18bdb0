-- The bytes of a file are damaged at one place, or whole for one list: by the laws of the journal's format and of the spelling.
use Rattle.std.proofs.Common.{◌≡◌, refl, ap, sym, ◌∙◌, inl, inr, ℕ, ◌+◌, ◌≤◌, ◌-◌, suc, List, [], ◌∷◌, length, Option, Some, None, Result, Ok, Err, All, arith}
use Rattle.std.proofs.lemmas.List.Elements.{All-head, All-tail}
use Rattle.fts_tables.specs.Tables.{Tables, empty_tables}
use Rattle.fts_tables.specs.Step.{Outcomes, step}
use Rattle.fts_tables.specs.History.{tables_after, IsAccepted, IsLegalFrom}
use Rattle.fts_tables.specs.declared.commands.Entry.{Entry}
use Rattle.fts_record.specs.Spelling.{spelled}
use Rattle.fts_record.specs.Proper.{IsProper}
use Rattle.fts_record.specs.Reading.{Read, entry_at, entry_in, ok_of, read_of, whole}
use Rattle.fts_journal.specs.Once.{StandsForOne, StandsUncut, IsCutOnce, StandsAsJournal, IsCutAsJournal}
use Rattle.fts_keep.specs.Keeps.{bodies_of}
use Rattle.fts_keep.specs.Damage.{fault_behind, fault_at, fault_from, fault_in, IsDamaged, IsWhole, DamageIsOne}
use Rattle.fts_keep.proofs.Lists.{entries_in, entries_again}

-- what is read is in the bytes
pub read_in : (bytes : List ℕ) (entry : Entry) → read_of bytes ≡ Some entry → entry_in bytes ≡ Ok entry
unfolding read_of
read_in bytes entry is = by (entry_in bytes) is
  where
    by : (read : Result Entry ℕ) → ok_of read ≡ Some entry → read ≡ Ok entry
    by (Ok found) e = cc
    by (Err place) e = absurd cc

-- the place of a field that isn't spelled is one of the bytes, or their end
pub place_inside : (bytes : List ℕ) (place : ℕ) → entry_in bytes ≡ Err place → place ≤ length bytes
unfolding entry_in
place_inside bytes place is = by (entry_at bytes) is
  where
    by : (read : Read Entry) → whole (length bytes) read ≡ Err place → place ≤ length bytes
    by (Err left) e = let at : length bytes - left ≡ place = cc in omega arith
    by (Ok (entry, [])) e = absurd cc
    by (Ok (entry, byte ∷ rest)) e = let at : length bytes - suc (length rest) ≡ place = cc in omega arith

-- an entry that is accepted leads on
pub leads_on : (tables : Tables) (gate : ℕ) (came : Outcomes) (later : Tables → Option ℕ) → IsAccepted came
    → fault_behind gate came later ≡ later (tables_after tables came)
leads_on tables gate (Ok done) later accepted = refl
leads_on tables gate (Err refusal) later accepted = absurd accepted

module _ (reads : (entry : Entry) → IsProper entry → read_of (spelled entry) ≡ Some entry) where
  -- the spellings of a legal list have no fault
  no_fault : (tables : Tables) (gate : ℕ) (entries : List Entry) → All IsProper entries → IsLegalFrom tables entries
      → fault_from tables gate (bodies_of entries) ≡ None
  no_fault tables gate [] proper legal = refl
  no_fault tables gate (entry ∷ entries) proper legal =
      ap (λ read. fault_at tables gate read (λ next. fault_from next (gate + 5 + length (spelled entry)) (bodies_of entries)))
      (read_in (spelled entry) entry (reads entry (All-head IsProper entry entries proper)))
      ∙ leads_on tables gate (step tables entry.command) (λ next. fault_from next (gate + 5 + length (spelled entry)) (bodies_of entries)) legal.0
      ∙ no_fault (tables_after tables (step tables entry.command)) (gate + 5 + length (spelled entry)) entries (All-tail IsProper entry entries proper) legal.1

  module _ (stands_one : StandsForOne) (uncut : StandsUncut) (cut_once : IsCutOnce) (stands_as : StandsAsJournal) (cut_as : IsCutAsJournal)
      (content : List ℕ) where
    one_offset : (one other : ℕ) → IsDamaged content one → IsDamaged content other → one ≡ other
    one_offset one other (inl first) (inl second) = first.1 ∙ sym second.1
    one_offset one other (inl first) (inr (inl cut)) = absurd (cut_as content other first.0 cut)
    one_offset one other (inl first) (inr (inr fault)) = absurd (stands_as content fault.bodies first.0 fault.stands)
    one_offset one other (inr (inl cut)) (inl second) = absurd (cut_as content one second.0 cut)
    one_offset one other (inr (inl cut)) (inr (inl second)) = cut_once content one other cut second
    one_offset one other (inr (inl cut)) (inr (inr fault)) = absurd (uncut content fault.bodies one fault.stands cut)
    one_offset one other (inr (inr fault)) (inl second) = absurd (stands_as content fault.bodies second.0 fault.stands)
    one_offset one other (inr (inr fault)) (inr (inl cut)) = absurd (uncut content fault.bodies other fault.stands cut)
    one_offset one other (inr (inr fault)) (inr (inr second)) =
        let same : Some one ≡ Some other = sym fault.fault ∙ ap fault_in (stands_one content fault.bodies second.bodies fault.stands second.stands)
        ∙ second.fault in cc

    not_both : (offset : ℕ) (entries : List Entry) → IsDamaged content offset → IsWhole content entries → ⊥
    not_both offset entries (inl other) sound = stands_as content (bodies_of entries) other.0 sound.stands
    not_both offset entries (inr (inl cut)) sound = uncut content (bodies_of entries) offset sound.stands cut
    not_both offset entries (inr (inr fault)) sound =
        let same : Some offset ≡ None = sym fault.fault ∙ ap fault_in (stands_one content fault.bodies (bodies_of entries) fault.stands sound.stands)
        ∙ no_fault empty_tables 8 entries sound.proper sound.legal in cc

    -- both the place and the list are one, and they exclude each other
    pub damage_once : DamageIsOne content
    damage_once = record {
      offset = one_offset;
      apart = not_both;
      list = λ one other first second.
          sym (entries_again reads one first.proper) ∙ ap entries_in (stands_one content (bodies_of one) (bodies_of other) first.stands second.stands)
          ∙ entries_again reads other second.proper;
    }
