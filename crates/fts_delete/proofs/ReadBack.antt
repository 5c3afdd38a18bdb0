-- What is spelled as an event is read, and nothing else is.
use Rattle.std.proofs.Common.{◌≡◌, inl, inr, refl, sym, ◌∙◌, ap, ℕ, true, List, [], ◌∷◌, ◌++◌, length, Ok, Err, arith}
use Rattle.std.proofs.lemmas.List.{append-nil}
use Rattle.fts_record.specs.Reading.{Read}
use Rattle.fts_record.specs.Laws.{AreBytes}
use Rattle.fts_record.proofs.NumberLaws.{AreBytes-rest}
use Rattle.fts_record.proofs.Found.{Taken, chosen}
use Rattle.fts_record.proofs.Readers.{Reads, number_reads, list_reads, start, step, finish, behind_byte}
use Rattle.fts_record.proofs.EntryLaws.{name_reads, path_reads}
use Rattle.fts_delete.specs.declared.events.Event.{Event}
use Rattle.fts_delete.specs.declared.events.Event.TheVariants.{Ask, Gone, Missed}
use Rattle.fts_delete.specs.Spelling.{place_bytes, body_of, place_of, place_at, event_at, whole_event, event_in, is_proper_place, is_proper_event, SpelledIsRead}

-- places
place_reads : Reads place_at place_bytes is_proper_place
unfolding place_at place_bytes
place_reads = finish (λ p. ((tt, p.endpoint), p.path)) (λ fields. refl) (λ p. refl) (step (step (start place_of) name_reads) path_reads)

-- what is read as an event is spelled so, kind by kind
event_takes : (input : List ℕ) (found : Event × List ℕ) → AreBytes input → event_at input ≡ Ok found → Taken input (body_of found.0) found.1 (is_proper_event found.0)
unfolding event_at body_of
event_takes [] found are e = absurd cc
event_takes (byte ∷ bytes) found are e =
    let rest = AreBytes-rest byte bytes are in
    elim (chosen byte 1 _ _ _ e) [
      | inl now ↦ behind_byte body_of is_proper_event 1 (step (start Ask) (list_reads 1 200 (omega arith) place_reads)) (λ f. refl) (λ f. refl) byte bytes found rest now.0 now.1
      | inr e1 ↦ elim (chosen byte 2 _ _ _ e1) [
        | inl now ↦ behind_byte body_of is_proper_event 2 (step (start Gone) (number_reads 0 4294967295 (omega arith))) (λ f. refl) (λ f. refl) byte bytes found rest now.0 now.1
        | inr e2 ↦ elim (chosen byte 3 _ _ _ e2) [
          | inl now ↦ behind_byte body_of is_proper_event 3 (step (start Missed) (number_reads 0 4294967295 (omega arith))) (λ f. refl) (λ f. refl) byte bytes found rest now.0 now.1
          | inr none ↦ absurd cc
        ]
      ]
    ]

-- what is spelled as an event is read so
event_again : (event : Event) (rest : List ℕ) → is_proper_event event ≡ true → event_at (body_of event ++ rest) ≡ Ok (event, rest)
unfolding event_at body_of
event_again (Ask places) rest fits = (step (start Ask) (list_reads 1 200 (omega arith) place_reads)).again (tt, places) rest fits
event_again (Gone id) rest fits = (step (start Gone) (number_reads 0 4294967295 (omega arith))).again (tt, id) rest fits
event_again (Missed id) rest fits = (step (start Missed) (number_reads 0 4294967295 (omega arith))).again (tt, id) rest fits

-- the whole of the bytes
whole_ok : (size : ℕ) (r : Read Event) (event : Event) → whole_event size r ≡ Ok event → r ≡ Ok (event, [])
whole_ok size (Err left) event e = absurd cc
whole_ok size (Ok (was, [])) event e = cc
whole_ok size (Ok (was, byte ∷ bytes)) event e = absurd cc

pub spelled_is_read : SpelledIsRead
unfolding event_in
spelled_is_read = record {
  read = λ event proper.
      let front : event_at (body_of event) ≡ Ok (event, []) = ap event_at (sym (append-nil (body_of event))) ∙ event_again event [] proper in
      ap (whole_event (length (body_of event))) front;
  spelled = λ bytes event are e.
      let t = event_takes bytes (event, []) are (whole_ok (length bytes) (event_at bytes) event e) in
      (t.parts ∙ append-nil (body_of event), t.fit);
}
