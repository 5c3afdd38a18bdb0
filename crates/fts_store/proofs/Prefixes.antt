-- What stands before the first of which a test holds, in a list and in the list of what its elements stand for.
use Rattle.std.proofs.Common.{◌≡◌, ℕ, zero, suc, ◌+◌, ◌≤◌, nat_lt, not, Bool, true, false, cond, Some, None, List, [], ◌∷◌, length, take, map, refl, sym, ◌∙◌, ap, arith}
use Rattle.std.specs.List.{position, position_or_len}
use Rattle.std.proofs.lemmas.Bool.{ltb-false}
use Rattle.std.proofs.lemmas.List.{take-map, length-map}

-- the place of the first one is the same
pub place-map : {X Y : Type 0} (f : X → Y) (p : Y → Bool) (xs : List X) → position_or_len p (map f xs) ≡ position_or_len (λ x. p (f x)) xs
place-map f p [] = refl
place-map f p (x ∷ xs) = ap (λ n. cond (not (p (f x))) (1 + n) 0) (place-map f p xs)

-- the number in an option that a test chose
chosen : (b : Bool) (m n : ℕ) → cond b (Some m) None ≡ Some n → m ≡ n
chosen true m n is = cc
chosen false m n is = cc

-- where it chose none
no_choice : (b : Bool) (m : ℕ) → cond b (Some m) None ≡ None → b ≡ false
no_choice true m is = cc
no_choice false m is = refl

unchosen : (m n : ℕ) → cond (nat_lt m n) (Some m) None ≡ None → n ≤ m
unchosen m n is = ltb-false m n (no_choice (nat_lt m n) m is)

-- where one was found, that is the place
place-found : {X Y : Type 0} (f : X → Y) (p : Y → Bool) (xs : List X) (n : ℕ) → position (λ x. p (f x)) xs ≡ Some n → n ≡ position_or_len p (map f xs)
place-found f p xs n is = sym (chosen (nat_lt (position_or_len (λ x. p (f x)) xs) (length xs)) (position_or_len (λ x. p (f x)) xs) n is) ∙ sym (place-map f p xs)

-- where none was, it is behind the whole list
place-none : {X Y : Type 0} (f : X → Y) (p : Y → Bool) (xs : List X) → position (λ x. p (f x)) xs ≡ None → length xs ≤ position_or_len p (map f xs)
place-none f p xs is =
    let same : position_or_len p (map f xs) ≡ position_or_len (λ x. p (f x)) xs = place-map f p xs in
    let no : length xs ≤ position_or_len (λ x. p (f x)) xs = unchosen (position_or_len (λ x. p (f x)) xs) (length xs) is in
    omega (arith, same, no)

-- all of a list
take_whole : {X : Type 0} (n : ℕ) (xs : List X) → length xs ≤ n → take n xs ≡ xs
take_whole zero [] le = refl
take_whole zero (x ∷ xs) le = absurd (omega arith)
take_whole (suc n) [] le = refl
take_whole (suc n) (x ∷ xs) le = ap (λ l. x ∷ l) (take_whole n xs (omega arith))

-- what stands before the first one, and so many behind
pub found-take : {X Y : Type 0} (f : X → Y) (p : Y → Bool) (xs : List X) (n more : ℕ) → position (λ x. p (f x)) xs ≡ Some n → map f (take (n + more) xs) ≡ take (position_or_len p (map f xs) + more) (map f xs)
found-take f p xs n more is = sym (take-map f (n + more) xs) ∙ ap (λ m. take (m + more) (map f xs)) (place-found f p xs n is)

-- all, where none is found
pub none-take : {X Y : Type 0} (f : X → Y) (p : Y → Bool) (xs : List X) (more : ℕ) → position (λ x. p (f x)) xs ≡ None → map f xs ≡ take (position_or_len p (map f xs) + more) (map f xs)
none-take f p xs more is =
    let long : length (map f xs) ≡ length xs = length-map xs f in
    let past : length xs ≤ position_or_len p (map f xs) = place-none f p xs is in
    sym (take_whole (position_or_len p (map f xs) + more) (map f xs) (omega (arith, long, past)))

-- what stands before the first one
pub found-before : {X Y : Type 0} (f : X → Y) (p : Y → Bool) (xs : List X) (n : ℕ) → position (λ x. p (f x)) xs ≡ Some n → map f (take n xs) ≡ take (position_or_len p (map f xs)) (map f xs)
found-before f p xs n is = sym (take-map f n xs) ∙ ap (λ m. take m (map f xs)) (place-found f p xs n is)

pub none-before : {X Y : Type 0} (f : X → Y) (p : Y → Bool) (xs : List X) → position (λ x. p (f x)) xs ≡ None → map f xs ≡ take (position_or_len p (map f xs)) (map f xs)
none-before f p xs is =
    let long : length (map f xs) ≡ length xs = length-map xs f in
    let past : length xs ≤ position_or_len p (map f xs) = place-none f p xs is in
    sym (take_whole (position_or_len p (map f xs)) (map f xs) (omega (arith, long, past)))
