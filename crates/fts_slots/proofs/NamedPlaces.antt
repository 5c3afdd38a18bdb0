-- An endpoint that is listed once is found by its name at its place.
use Rattle.std.proofs.Common.{◌≡◌, ℕ, zero, suc, ◌<◌, Bool, true, false, cond, List, [], ◌∷◌, length, Some, refl, ap, sym, ◌∙◌, arith, inl, inr}
use Rattle.std.specs.Prelude.{not, ◌&&◌, ◌||◌, bytes_eq, find, slice_get}
use Rattle.std.specs.List.{list_any}
use Rattle.std.specs.Option.{option_map_or}
use Rattle.std.proofs.lemmas.Bool.{and_parts, eq-eqb}
use Rattle.std.proofs.lemmas.Option.{slice_get_cases}
use Rattle.fts_tables.specs.SettingsData.{SettingsData, IsSettings, are_apart, is_same_endpoint}
use Rattle.fts_tables.specs.Limits.{endpoint_at}
use Rattle.fts_tables.specs.declared.settings.Endpoint.{Endpoint}
use Rattle.fts_slots.specs.SlotsData.{name_at}

-- a text is equal to itself
pub bytes_eq-refl : (text : List ℕ) → bytes_eq text text ≡ true
bytes_eq-refl [] = refl
bytes_eq-refl (byte ∷ text) = ap (λ answer. answer && bytes_eq text text) (eq-eqb byte byte refl) ∙ bytes_eq-refl text

-- an item that stands in a list passes where any does
pub any_at : {Item : Type 0} (test : Item → Bool) (items : List Item) (place : ℕ) (item : Item) → slice_get items place ≡ Some item → test item ≡ true
    → list_any test items ≡ true
any_at test [] place item at passes = cc
any_at test (first ∷ items) zero item at passes =
    let same : first ≡ item = cc in
    ap (λ answer. answer || list_any test items) (ap test same ∙ passes)
any_at test (first ∷ items) (suc place) item at passes = ap (λ answer. test first || answer) (any_at test items place item at passes) ∙ or_true (test first)
  where
    or_true : (answer : Bool) → (answer || true) ≡ true
    or_true true = refl
    or_true false = refl

-- of endpoints that are apart, each is the first of its name
found_by_name : (endpoints : List Endpoint) (place : ℕ) (endpoint : Endpoint) → are_apart is_same_endpoint endpoints ≡ true
    → slice_get endpoints place ≡ Some endpoint
    → find (λ (other : Endpoint). bytes_eq other.name endpoint.name) endpoints ≡ Some endpoint
found_by_name [] place endpoint apart at = cc
found_by_name (first ∷ endpoints) zero endpoint apart at =
    let same : first ≡ endpoint = cc in
    ap (λ answer. cond answer (Some first) (find (λ (other : Endpoint). bytes_eq other.name endpoint.name) endpoints))
    (ap (λ (other : Endpoint). bytes_eq other.name endpoint.name) same ∙ bytes_eq-refl endpoint.name) ∙ at
found_by_name (first ∷ endpoints) (suc place) endpoint apart at =
    let both = and_parts _ _ apart in
    by_head (found_by_name endpoints place endpoint both.1 at) (bytes_eq first.name endpoint.name) refl both.0
  where
    by_head : find (λ (other : Endpoint). bytes_eq other.name endpoint.name) endpoints ≡ Some endpoint → (answer : Bool)
        → bytes_eq first.name endpoint.name ≡ answer
        → not (list_any (is_same_endpoint first) endpoints) ≡ true
        → cond answer (Some first) (find (λ (other : Endpoint). bytes_eq other.name endpoint.name) endpoints) ≡ Some endpoint
    by_head behind false is distinct = behind
    by_head behind true is distinct =
        let clash : true ≡ false = sym distinct ∙ ap not (any_at (is_same_endpoint first) endpoints place endpoint at is) in
        cc

-- the endpoint at a place is that of its name
pub endpoint_by_place : (settings : SettingsData) (place : ℕ) → IsSettings settings → place < length settings.endpoints
    → endpoint_at (Some settings) (name_at settings place) ≡ slice_get settings.endpoints place
endpoint_by_place settings place kept inside = elim (slice_get_cases settings.endpoints place).1 [
  | inl found ↦
      ap (λ name. endpoint_at (Some settings) name) (ap (λ at. option_map_or (λ (endpoint : Endpoint). endpoint.name) at []) found.2)
      ∙ (found_by_name settings.endpoints place found.0 kept.endpoint_names found.2 ∙ sym found.2)
  | inr past ↦ absurd (omega (arith, past.0, inside))
]
