-- No text that begins with a hyphen is a UUID's.
use Rattle.std.proofs.Common.{◌≡◌, refl, ℕ, Bool, true, false, ◌&&◌, if◌then◌else◌, List, ◌∷◌, length, Option, None}
use Rattle.std.specs.Prelude.{◌==◌, slice_index}
use Rattle.uuid.specs.Text.{parsed, parsed_simple, parsed_hyphenated, parsed_braced, parsed_urn, digits_of, has_hyphens}
use Rattle.uuid.proofs.OnLiterals.{uuid_on_literals}

-- where a test fails, whatever stands before it and behind it
never : (b : Bool) (some : Option (List ℕ)) → (if b && false then some else None) ≡ None
never true some = refl
never false some = refl

never_between : (b c : Bool) (some : Option (List ℕ)) → (if b && false && c then some else None) ≡ None
never_between true c some = refl
never_between false c some = refl

-- where both are none
neither_is : (b : Bool) (one other : Option (List ℕ)) → one ≡ None → other ≡ None → (if b then one else other) ≡ None
neither_is true one other is also = is
neither_is false one other is also = also

simple_hyphen : (ds : List ℕ) → parsed_simple (45 ∷ ds) ≡ None
simple_hyphen ds = never (length (45 ∷ ds) == 32) _

digits_hyphen : (ds : List ℕ) → parsed_simple (digits_of (45 ∷ ds)) ≡ None
unfolding uuid_on_literals
digits_hyphen ds = refl

hyphenated_hyphen : (ds : List ℕ) → parsed_hyphenated (45 ∷ ds) ≡ None
hyphenated_hyphen ds = neither_is ((length (45 ∷ ds) == 36) && has_hyphens (45 ∷ ds)) (parsed_simple (digits_of (45 ∷ ds))) None (digits_hyphen ds) refl

braced_hyphen : (ds : List ℕ) → parsed_braced (45 ∷ ds) ≡ None
braced_hyphen ds = never_between (length (45 ∷ ds) == 38) (slice_index (45 ∷ ds) 37 == 125) _

urn_hyphen : (ds : List ℕ) → parsed_urn (45 ∷ ds) ≡ None
urn_hyphen ds = never (length (45 ∷ ds) == 45) _

pub parsed_hyphen : (ds : List ℕ) → parsed (45 ∷ ds) ≡ None
parsed_hyphen ds =
    neither_is (length (45 ∷ ds) == 32) (parsed_simple (45 ∷ ds)) _ (simple_hyphen ds)
    (neither_is (length (45 ∷ ds) == 36) (parsed_hyphenated (45 ∷ ds)) _ (hyphenated_hyphen ds)
    (neither_is (length (45 ∷ ds) == 38) (parsed_braced (45 ∷ ds)) _ (braced_hyphen ds)
    (neither_is (length (45 ∷ ds) == 45) (parsed_urn (45 ∷ ds)) None (urn_hyphen ds) refl)))
