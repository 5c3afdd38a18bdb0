-- What a pass leaves of a store that tells its files.
use Rattle.std.proofs.Common.{◌≡◌, refl, sym, ◌∙◌, ap, ℕ, Bool, true, false, None, List, [], ◌∷◌}
use Rattle.std.specs.Prelude.{bytes_eq}
use Rattle.std.proofs.lemmas.Bool.{and_parts}
use Rattle.std.proofs.lemmas.Slice.Eq.{bytes_eq-Decides}
use Rattle.fts_tables.specs.Places.{is_same_place}
use Rattle.fts_tables.specs.declared.places.Place.{Place}
use Rattle.fts_store.specs.Store.{StoreState, IsTold}
use Rattle.fts_delete.specs.declared.visits.Visit.{Visit}
use Rattle.fts_delete.specs.Looks.{Visits}
use Rattle.fts_delete.specs.Passed.{AreVisits, LeavesFiles, PassLeavesFiles}

-- a place of these two texts
abbrev place_of : List ℕ → List ℕ → Place
place_of endpoint path = record { endpoint = endpoint; path = path }

pub by_texts : (e f p q : List ℕ) → e ≡ f → p ≡ q → place_of e p ≡ place_of f q
by_texts e f p q one other = cc

-- places that are the same are equal
same_place : (one other : Place) → is_same_place one other ≡ true → one ≡ other
same_place one other e =
    let both = and_parts (bytes_eq one.endpoint other.endpoint) (bytes_eq one.path other.path) e in
    by_texts one.endpoint other.endpoint one.path other.path ((bytes_eq-Decides one.endpoint other.endpoint).0 both.0)
    ((bytes_eq-Decides one.path other.path).0 both.1)

module _ {E : Type 0} (files : E → StoreState) (failures : E → ℕ) where
  -- a visit makes no file, here or elsewhere
  none_by_place : (old new : E) (at : Place) (visit : Visit) → IsTold (files old) → Visits files failures old new at visit → (place : Place) (same : Bool) → is_same_place place at ≡ same
      → (files old).files place ≡ None → (files new).files place ≡ None
  none_by_place old new at visit told visits place true is none =
      let here : place ≡ at = same_place place at is in
      ap (λ p. (files new).files p) here ∙ visits.none_made told (ap (λ p. (files old).files p) (sym here) ∙ none)
  none_by_place old new at visit told visits place false is none = visits.others told place is ∙ none

  leaves : (places : List Place) (visits : List Visit) (store left : E) → IsTold (files store) → AreVisits files failures places visits store left → LeavesFiles files store left places visits
  leaves places [] store left told done = record {
    told = ap (λ s. (files s).told) done;
    absent = tt;
    none_made = λ place none. ap (λ s. (files s).files place) done ∙ none;
    elsewhere = λ place other. ap (λ s. (files s).files place) done;
  }
  leaves [] (visit ∷ visits) store left told done = absurd done
  leaves (at ∷ places) (visit ∷ visits) store left told done =
      let mid : E = done.0 in
      let first : Visits files failures store mid at visit = done.1.0 in
      let told_then : IsTold (files mid) = first.stays.told ∙ told in
      let later : LeavesFiles files mid left places visits = leaves places visits mid left told_then done.1.1 in
      record {
        told = later.told ∙ first.stays.told;
        absent = (λ saw. later.none_made at (first.gone told saw), later.absent);
        none_made = λ place none. later.none_made place (none_by_place store mid at visit told first place (is_same_place place at) refl none);
        elsewhere = λ place other. later.elsewhere place other.1 ∙ first.others told place other.0;
      }

  pub pass_leaves_files : PassLeavesFiles files failures
  pass_leaves_files places visits store left told done = leaves places visits store left told done
