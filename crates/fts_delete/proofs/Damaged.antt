-- The bytes of a file are damaged at one place, or whole for one list: by the laws of the journal's format and of the spelling.
use Rattle.std.proofs.Common.{◌≡◌, refl, ap, sym, ◌∙◌, inl, inr, ℕ, ◌+◌, ◌≤◌, ◌-◌, suc, List, [], ◌∷◌, length, Option, Some, None, Ok, Err, All, arith}
use Rattle.std.proofs.lemmas.List.Elements.{All-head, All-tail}
use Rattle.fts_record.specs.Reading.{Read}
use Rattle.fts_journal.specs.Once.{StandsForOne, StandsUncut, IsCutOnce, StandsAsJournal, IsCutAsJournal}
use Rattle.fts_delete.specs.declared.events.Event.{Event}
use Rattle.fts_delete.specs.declared.rows.DeleteRow.{DeleteRow}
use Rattle.fts_delete.specs.Rows.{rows_after, rows_from}
use Rattle.fts_delete.specs.Spelling.{IsProper, body_of, bodies_of, event_at, whole_event, event_in}
use Rattle.fts_delete.specs.Journals.{fault_behind, fault_at, fault_from, fault_in, IsDamaged, IsWhole, DamageIsOne}
use Rattle.fts_delete.specs.Views.{events_in}
use Rattle.fts_delete.proofs.Beginnings.{none_some, none_stays}
use Rattle.fts_delete.proofs.ReadBack.{spelled_is_read}
use Rattle.fts_delete.proofs.Lists.{events_again}

-- the place of a field that isn't spelled is one of the bytes, or their end
pub place_inside : (bytes : List ℕ) (place : ℕ) → event_in bytes ≡ Err place → place ≤ length bytes
unfolding event_in
place_inside bytes place is = by (event_at bytes) is
  where
    by : (read : Read Event) → whole_event (length bytes) read ≡ Err place → place ≤ length bytes
    by (Err left) e = let at : length bytes - left ≡ place = cc in omega arith
    by (Ok (event, [])) e = absurd cc
    by (Ok (event, byte ∷ rest)) e = let at : length bytes - suc (length rest) ≡ place = cc in omega arith

-- what comes of an event that is legal, before events that have no fault
goes_on : (came : Option (List DeleteRow)) (new : List DeleteRow) (gate : ℕ) (events : List Event) (later : List DeleteRow → Option ℕ)
    → ((rows : List DeleteRow) → rows_from (Some rows) events ≡ Some new → later rows ≡ None) → rows_from came events ≡ Some new
    → fault_behind gate came later ≡ None
goes_on None new gate events later none came = absurd (none_some new (sym (none_stays events) ∙ came))
goes_on (Some rows) new gate events later none came = none rows came

-- the bodies of a legal list have no fault
no_fault : (rows new : List DeleteRow) (gate : ℕ) (events : List Event) → All IsProper events → rows_from (Some rows) events ≡ Some new
    → fault_from rows gate (bodies_of events) ≡ None
no_fault rows new gate [] proper legal = refl
no_fault rows new gate (event ∷ events) proper legal =
    ap (λ read. fault_at rows gate read (λ next. fault_from next (gate + 5 + length (body_of event)) (bodies_of events)))
    (spelled_is_read.read event (All-head IsProper event events proper))
    ∙ goes_on (rows_after rows event) new gate events (λ next. fault_from next (gate + 5 + length (body_of event)) (bodies_of events))
    (λ next came. no_fault next new (gate + 5 + length (body_of event)) events (All-tail IsProper event events proper) came) legal

module _ (stands_one : StandsForOne) (uncut : StandsUncut) (cut_once : IsCutOnce) (stands_as : StandsAsJournal) (cut_as : IsCutAsJournal)
    (content : List ℕ) where
  one_offset : (one other : ℕ) → IsDamaged content one → IsDamaged content other → one ≡ other
  one_offset one other (inl first) (inl second) = first.1 ∙ sym second.1
  one_offset one other (inl first) (inr (inl cut)) = absurd (cut_as content other first.0 cut)
  one_offset one other (inl first) (inr (inr fault)) = absurd (stands_as content fault.bodies first.0 fault.stands)
  one_offset one other (inr (inl cut)) (inl second) = absurd (cut_as content one second.0 cut)
  one_offset one other (inr (inl cut)) (inr (inl second)) = cut_once content one other cut second
  one_offset one other (inr (inl cut)) (inr (inr fault)) = absurd (uncut content fault.bodies one fault.stands cut)
  one_offset one other (inr (inr fault)) (inl second) = absurd (stands_as content fault.bodies second.0 fault.stands)
  one_offset one other (inr (inr fault)) (inr (inl cut)) = absurd (uncut content fault.bodies other fault.stands cut)
  one_offset one other (inr (inr fault)) (inr (inr second)) =
      let same : Some one ≡ Some other = sym fault.fault ∙ ap fault_in (stands_one content fault.bodies second.bodies fault.stands second.stands)
      ∙ second.fault in cc

  not_both : (offset : ℕ) (events : List Event) → IsDamaged content offset → IsWhole content events → ⊥
  not_both offset events (inl other) sound = stands_as content (bodies_of events) other.0 sound.stands
  not_both offset events (inr (inl cut)) sound = uncut content (bodies_of events) offset sound.stands cut
  not_both offset events (inr (inr fault)) sound =
      let same : Some offset ≡ None = sym fault.fault ∙ ap fault_in (stands_one content fault.bodies (bodies_of events) fault.stands sound.stands)
      ∙ no_fault [] sound.legal.rows 8 events sound.proper sound.legal.are in cc

  -- both the place and the list are one, and they exclude each other
  pub damage_once : DamageIsOne content
  damage_once = record {
    offset = one_offset;
    apart = not_both;
    list = λ one other first second.
        sym (events_again one first.proper) ∙ ap events_in (stands_one content (bodies_of one) (bodies_of other) first.stands second.stands)
        ∙ events_again other second.proper;
  }
