-- The call that removes a part behind a copy, as a store tells of it.
use Rattle.std.proofs.Common.{◌≡◌, refl, ap, ◌∙◌, subst, cond, ℕ, Bool, true, false, Option, None, Result, Ok, Err, List}
use Rattle.std.specs.Prelude.{OnOk, bytes_eq, ◌&&◌}
use Rattle.std.proofs.lemmas.Slice.Eq.{bytes_eq-Decides}
use Rattle.fts_tables.specs.Counts.{CountsFaults}
use Rattle.fts_tables.specs.Places.{is_same_place}
use Rattle.fts_tables.specs.declared.places.Place.{Place}
use Rattle.fts_tables.specs.declared.rows.Outcome.{Outcome}
use Rattle.fts_store.specs.Calls.{Call, Removed, answer_of, with_call}
use Rattle.fts_store.specs.Store.{StoreState, IsTold, Stays, Same, SameBut, with_file}
use Rattle.fts_store.specs.declared.store.StoreFailed.{StoreFailed as Failure}
use Rattle.fts_copy.specs.Copy.{Order, part_of}
use Rattle.fts_copy.specs.Tidying.{IsTidied, leaves_part}

-- a place is the same as itself
pub same_itself : (place : Place) → is_same_place place place ≡ true
same_itself place =
    both (bytes_eq place.endpoint place.endpoint) (bytes_eq place.path place.path) ((bytes_eq-Decides place.endpoint place.endpoint).1 refl)
    ((bytes_eq-Decides place.path place.path).1 refl)
  where
    both : (a b : Bool) → a ≡ true → b ≡ true → (a && b) ≡ true
    both true true one two = refl
    both true false one two = cc
    both false b one two = cc

-- a file that is removed is gone
gone_there : (at : Place) (old new : Place → Option (List ℕ)) (answer : Result (Unit {0}) Failure) → is_same_place at at ≡ true
    → OnOk answer (Same new (with_file old at None)) → OnOk answer (new at ≡ None)
gone_there at old new (Ok done) itself removed = removed at ∙ ap (λ (b : Bool). cond b None (old at)) itself
gone_there at old new (Err failure) itself removed = removed

-- the part was removed, or its removal was tried
pub part_removed : (order : Order) (outcome : Outcome) (old new : StoreState) (calls called : Option (List Call)) (faults later : ℕ) (at : Place)
    (answer : Result (Unit {0}) Failure) → at ≡ part_of order → leaves_part outcome ≡ true → Stays old new
    → (IsTold old → OnOk answer (Same new.files (with_file old.files at None))) → (IsTold old → SameBut at old.files new.files)
    → called ≡ with_call calls (Removed at (answer_of answer)) → CountsFaults faults later answer
    → IsTidied order outcome old new calls called faults later
part_removed order outcome old new calls called faults later at answer is leaves stays removed others call cause = record {
  stays = stays;
  counts = cause.keeps;
  removed = λ left. record {
    answer = answer;
    call = subst (λ (place : Place). called ≡ with_call calls (Removed place (answer_of answer))) is call;
    gone = λ told. subst (λ (place : Place). OnOk answer (new.files place ≡ None)) is
        (gone_there at old.files new.files answer (same_itself at) (removed told));
    others = λ told. subst (λ (place : Place). SameBut place old.files new.files) is (others told);
    cause = cause;
  };
  untouched = λ verified. absurd (clash (leaves_part outcome) leaves verified);
}
  where
    clash : (b : Bool) → b ≡ true → b ≡ false → ⊥
    clash b one other = cc
