-- Tests that agree.
use Rattle.std.proofs.Common.{◌≡◌, Bool, true, false, refl, sym}

-- two tests of which each passes where the other does are one
pub same_answer : (one other : Bool) → (one ≡ true → other ≡ true) → (other ≡ true → one ≡ true) → one ≡ other
same_answer true true there back = refl
same_answer true false there back = sym (there refl)
same_answer false true there back = back refl
same_answer false false there back = refl
