-- A text against what `uuid` says of it.
use Rattle.std.proofs.Common.{◌≡◌, ℕ, List, Option, Some, None, refl}

-- nothing is spelled where nothing is parsed
pub not_parsed : (found : Option (List ℕ)) → (((id : List ℕ) × (found ≡ Some id)) → ⊥) → found ≡ None
not_parsed None not = refl
not_parsed (Some id) not = absurd (not (id, refl))
