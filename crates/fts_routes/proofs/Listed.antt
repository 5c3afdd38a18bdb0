-- Lists of values: none has a float, and what a walk up to a limit has shown so far.
use Rattle.std.proofs.Common.{◌≡◌, ℕ, zero, suc, ◌+◌, ◌-◌, ◌<◌, ◌≤◌, Bool, true, false, List, [], ◌∷◌, ◌++◌, length, get_or, map, take, drop, refl, sym, ◌∙◌, arith, append-nil, append_assoc, drop-cons, add-one, length-append, Option, Some, None}
use Rattle.std.specs.Prelude.{filter, if◌then◌else◌, option_map}
use Rattle.std.specs.Option.{option_to_list}
use Rattle.std.proofs.lemmas.List.{map-append}
use Rattle.std.proofs.lemmas.Option.{same_Some, none-some}
use Rattle.serde_json.specs.Data.{Data}
use Rattle.serde_json.specs.View.{items_of}
use Rattle.serde_json.specs.Written.{has_float, items_have_float}

-- a list of values without floats has none
pub array-no_float : {A : Type 0} (shown : A → Data) → ((x : A) → has_float (shown x) ≡ false) → (items : List A) → items_have_float (items_of (map shown items)) ≡ false
array-no_float shown whole [] = refl
array-no_float shown whole (item ∷ items) = rw (whole item) (array-no_float shown whole items)

-- what is shown so far, and what will be of the rest, is what is shown of all
abbrev pub ShownSoFar : {A B V : Type 0} → (V → B) → (A → B) → (A → Bool) → ℕ → List A → ℕ → List V → Type 0
ShownSoFar view shown test limit items place list =
    map view list ++ map shown (take (limit - length list) (filter test (drop place items))) ≡ map shown (take limit (filter test items))

-- nothing is taken with the limit reached
pub nothing-over : {A : Type 0} (limit count : ℕ) (items : List A) → limit ≤ count → take (limit - count) items ≡ []
nothing-over limit count items over = let full : limit - count ≡ 0 = omega arith in rw full refl

module _ {A B V : Type 0} (view : V → B) (shown : A → B) (test : A → Bool) where
  -- with nothing left to be shown, all is shown
  pub all-shown : (limit : ℕ) (items : List A) (place : ℕ) (list : List V) → (take (limit - length list) (filter test (drop place items)) ≡ [])
      → ShownSoFar view shown test limit items place list → map view list ≡ map shown (take limit (filter test items))
  all-shown limit items place list none before = sym (append-nil (map view list)) ∙ (rw none at before)
