-- The draw: its running sums, how many numbers draw each place, and when none is drawn.
use Rattle.std.proofs.Common.{◌≡◌, ℕ, zero, suc, ◌+◌, ◌%◌, ◌<◌, ◌≤◌, Bool, true, false, cond, List, [], ◌∷◌, ◌++◌, length, get_or, take, Option, Some, None, refl, ap, sym, ◌∙◌, arith, add-zero, zero-add}
use Rattle.std.specs.Prelude.{◌==◌, nat_lt, sum, count_by, position, option_map}
use Rattle.std.specs.List.{range_with_len, list_any}
use Rattle.std.specs.Option.{option_map_or}
use Rattle.std.proofs.Math.Nat.{mod-eq_of_lt}
use Rattle.std.proofs.Math.Dec.{eqb-suc-suc, eqb-suc-zero, eqb-zero-suc}
use Rattle.std.proofs.lemmas.Bool.{ltb-false, lt-ltb, le-ltb}
use Rattle.std.proofs.lemmas.List.Sums.{sum_by-cons, sum_by-append, sum_by_more}
use Rattle.fts_tables.specs.Choice.{shares, running_sums}
use Rattle.fts_choice.specs.Draws.{first_above, draws}
use Rattle.fts_tables.proofs.Positions.{position-cons}

-- the definition's place is the first above
pub place_is_first_above : (number start : ℕ) (parts : List ℕ) → position (λ total. nat_lt number total) (running_sums start parts)
    ≡ first_above number start parts
place_is_first_above number start [] = refl
place_is_first_above number start (share ∷ parts) = position-cons (λ total. nat_lt number total) (start + share) (running_sums (start + share) parts)
    ∙ ap (λ found. cond (nat_lt number (start + share)) (Some 0) (option_map suc found)) (place_is_first_above number (start + share) parts)

-- none is above where all the shares fit below
pub none_above : (number start : ℕ) (parts : List ℕ) → start + sum parts ≤ number → first_above number start parts ≡ None
none_above number start [] fits = refl
none_above number start (share ∷ parts) fits =
    let whole = sum_by-cons (λ (item : ℕ). item) share parts in
    let behind : (start + share) + sum parts ≤ number = omega arith in
    let head : nat_lt number (start + share) ≡ false = le-ltb number (start + share) (omega arith) in
    ap (λ answer. cond answer (Some 0) (option_map suc (first_above number (start + share) parts))) head
    ∙ ap (option_map suc) (none_above number (start + share) parts behind)

-- where none is above, all the shares fit below
pub fits_unless_above : (number start : ℕ) (parts : List ℕ) → start ≤ number → first_above number start parts ≡ None → start + sum parts ≤ number
fits_unless_above number start [] low none = omega arith
fits_unless_above number start (share ∷ parts) low none =
    by_head (λ fits behind. fits_unless_above number (start + share) parts fits behind) (nat_lt number (start + share)) refl none
  where
    unmapped : (found : Option ℕ) → option_map suc found ≡ None → found ≡ None
    unmapped None is = refl
    unmapped (Some place) is = cc

    by_head : (start + share ≤ number → first_above number (start + share) parts ≡ None → (start + share) + sum parts ≤ number) → (answer : Bool)
        → nat_lt number (start + share) ≡ answer
        → cond answer (Some 0) (option_map suc (first_above number (start + share) parts)) ≡ None → start + sum (share ∷ parts) ≤ number
    by_head behind true is none_is = cc
    by_head behind false is none_is =
        let fits = behind (ltb-false number (start + share) is) (unmapped (first_above number (start + share) parts) none_is) in
        omega (arith, sum_by-cons (λ (item : ℕ). item) share parts, fits)

-- the place at which the sum passes a number
pub at_above : (number start : ℕ) (parts : List ℕ) (place : ℕ) → place < length parts → start + sum (take place parts) ≤ number
    → number < (start + sum (take place parts)) + get_or parts place 0
    → first_above number start parts ≡ Some place
at_above number start [] place inside low high = absurd (omega arith)
at_above number start (share ∷ parts) zero inside low high =
    let head : nat_lt number (start + share) ≡ true = lt-ltb number (start + share) (omega arith) in
    ap (λ answer. cond answer (Some 0) (option_map suc (first_above number (start + share) parts))) head
at_above number start (share ∷ parts) (suc place) inside low high =
    let whole = sum_by-cons (λ (item : ℕ). item) share (take place parts) in
    let within : place < length parts = omega arith in
    let below : (start + share) + sum (take place parts) ≤ number = omega arith in
    let over : number < ((start + share) + sum (take place parts)) + get_or parts place 0 = omega arith in
    let head : nat_lt number (start + share) ≡ false = le-ltb number (start + share) (omega arith) in
    ap (λ answer. cond answer (Some 0) (option_map suc (first_above number (start + share) parts))) head
    ∙ ap (option_map suc) (at_above number (start + share) parts place within below over)

-- there are as many shares as weights
pub length-shares : (weights : List ℕ) (waiting : List Bool) → length weights ≡ length waiting → length (shares weights waiting) ≡ length weights
length-shares [] waiting alike = refl
length-shares (weight ∷ weights) [] alike = absurd (omega arith)
length-shares (weight ∷ weights) (waits ∷ waiting) alike =
    let behind : length weights ≡ length waiting = omega arith in
    ap suc (length-shares weights waiting behind)

-- a share is the weight of what takes part, and 0 of another
pub get_or-shares : (weights : List ℕ) (waiting : List Bool) (place : ℕ) → length weights ≡ length waiting → place < length weights
    → get_or (shares weights waiting) place 0 ≡ cond (get_or waiting place false) (get_or weights place 0) 0
get_or-shares [] waiting place alike inside = absurd (omega arith)
get_or-shares (weight ∷ weights) [] place alike inside = absurd (omega arith)
get_or-shares (weight ∷ weights) (waits ∷ waiting) zero alike inside = refl
get_or-shares (weight ∷ weights) (waits ∷ waiting) (suc place) alike inside =
    let behind : length weights ≡ length waiting = omega arith in
    let within : place < length weights = omega arith in
    get_or-shares weights waiting place behind within

-- the share of a place that takes part is its weight, also past the end, where both are 0
pub share_of_taking : (weights : List ℕ) (waiting : List Bool) (place : ℕ) → length weights ≡ length waiting → get_or waiting place false ≡ true
    → get_or (shares weights waiting) place 0 ≡ get_or weights place 0
share_of_taking [] waiting place alike takes = refl
share_of_taking (weight ∷ weights) [] place alike takes = absurd (omega arith)
share_of_taking (weight ∷ weights) (waits ∷ waiting) zero alike takes = ap (λ answer. cond answer weight 0) takes
share_of_taking (weight ∷ weights) (waits ∷ waiting) (suc place) alike takes =
    let behind : length weights ≡ length waiting = omega arith in
    share_of_taking weights waiting place behind takes

-- where nobody takes part the shares have no sum
pub nobody_waits : (weights : List ℕ) (waiting : List Bool) → length weights ≡ length waiting → list_any (λ (waits : Bool). waits) waiting ≡ false
    → sum (shares weights waiting) ≡ 0
nobody_waits [] waiting alike none = refl
nobody_waits (weight ∷ weights) [] alike none = absurd (omega arith)
nobody_waits (weight ∷ weights) (true ∷ waiting) alike none = cc
nobody_waits (weight ∷ weights) (false ∷ waiting) alike none =
    let behind : length weights ≡ length waiting = omega arith in
    omega (arith, sum_by-cons (λ (item : ℕ). item) 0 (shares weights waiting), nobody_waits weights waiting behind none)

-- where somebody takes part, with weights of 1 or above, they have one
pub somebody_waits : (weights : List ℕ) (waiting : List Bool) → length weights ≡ length waiting
    → ((place : ℕ) → place < length weights → 1 ≤ get_or weights place 0)
    → sum (shares weights waiting) ≡ 0 → list_any (λ (waits : Bool). waits) waiting ≡ false
somebody_waits [] [] alike least none = refl
somebody_waits [] (waits ∷ waiting) alike least none = absurd (omega arith)
somebody_waits (weight ∷ weights) [] alike least none = absurd (omega arith)
somebody_waits (weight ∷ weights) (true ∷ waiting) alike least none =
    absurd (omega (arith, sum_by-cons (λ (item : ℕ). item) weight (shares weights waiting), least 0 (omega arith)))
somebody_waits (weight ∷ weights) (false ∷ waiting) alike least none =
    let behind : length weights ≡ length waiting = omega arith in
    let rest : sum (shares weights waiting) ≡ 0 = omega (arith, sum_by-cons (λ (item : ℕ). item) 0 (shares weights waiting)) in
    somebody_waits weights waiting behind (λ place inside. least (suc place) (omega arith)) rest

-- the sum of one share more
module _ (weights : List ℕ) (waiting : List Bool) (place : ℕ) (alike : length weights ≡ length waiting) (inside : place < length weights) where
  -- by the share itself
  more : sum (take (place + 1) (shares weights waiting)) ≡ sum (take place (shares weights waiting)) + get_or (shares weights waiting) place 0
  more =
      let within : place < length (shares weights waiting) = omega (arith, length-shares weights waiting alike) in
      sum_by_more (λ item. item) (shares weights waiting) place 0 within

  -- by the weight of what takes part
  pub more_taking : get_or waiting place false ≡ true
      → sum (take (place + 1) (shares weights waiting)) ≡ sum (take place (shares weights waiting)) + get_or weights place 0
  more_taking takes = more ∙ ap (λ share. sum (take place (shares weights waiting)) + share) (get_or-shares weights waiting place alike inside
      ∙ ap (λ answer. cond answer (get_or weights place 0) 0) takes)

  -- by nothing where it doesn't
  pub more_idle : get_or waiting place false ≡ false → sum (take (place + 1) (shares weights waiting)) ≡ sum (take place (shares weights waiting))
  more_idle idle = more ∙ (ap (λ share. sum (take place (shares weights waiting)) + share) (get_or-shares weights waiting place alike inside
      ∙ ap (λ answer. cond answer (get_or weights place 0) 0) idle) ∙ omega arith)

-- whether a drawn place is this one
abbrev is_at : ℕ → Option ℕ → Bool
is_at place found = option_map_or (λ other. other == place) found false

-- a test with one answer for all numbers of a range counts all or none
count_all : (test : ℕ → Bool) (answer : Bool) (start count : ℕ) → ((number : ℕ) → start ≤ number → number < start + count → test number ≡ answer)
    → count_by test (range_with_len start count) ≡ cond answer count 0
count_all test true start zero same = refl
count_all test false start zero same = refl
count_all test answer start (suc count) same =
    sum_by-cons (λ number. cond (test number) 1 0) start (range_with_len (start + 1) count)
    ∙ (ap (λ head. cond head 1 0 + count_by test (range_with_len (start + 1) count)) (same start (omega arith) (omega arith))
    ∙ (ap (λ behind. cond answer 1 0 + behind) (count_all test answer (start + 1) count (λ number low high. same number (omega arith) (omega arith)))
    ∙ add_one answer))
  where
    add_one : (head : Bool) → cond head 1 0 + cond head count 0 ≡ cond head (suc count) 0
    add_one true = omega arith
    add_one false = omega arith

-- a range is its first part and what follows
range-append : (start first rest : ℕ) → range_with_len start (first + rest) ≡ range_with_len start first ++ range_with_len (start + first) rest
range-append start zero rest = rw (add-zero start, zero-add rest) refl
range-append start (suc first) rest =
    let whole : suc first + rest ≡ suc (first + rest) = omega arith in
    let next : (start + 1) + first ≡ start + suc first = omega arith in
    rw whole (ap (λ numbers. start ∷ numbers) (range-append (start + 1) first rest
    ∙ ap (λ from. range_with_len (start + 1) first ++ range_with_len from rest) next))

-- a place behind the head
is_at-suc : (place : ℕ) (found : Option ℕ) → is_at (suc place) (option_map suc found) ≡ is_at place found
is_at-suc place None = refl
is_at-suc place (Some other) = eqb-suc-suc other place

-- the head's place is none behind it
is_at-zero : (found : Option ℕ) → is_at 0 (option_map suc found) ≡ false
is_at-zero None = refl
is_at-zero (Some other) = eqb-suc-zero other

-- a number below the first sum draws the head
early : (number start share : ℕ) (parts : List ℕ) → number < start + share → first_above number start (share ∷ parts) ≡ Some 0
early number start share parts low =
    ap (λ answer. cond answer (Some 0) (option_map suc (first_above number (start + share) parts))) (lt-ltb number (start + share) low)

-- another draws a place behind it
late : (number start share : ℕ) (parts : List ℕ) → start + share ≤ number
    → first_above number start (share ∷ parts) ≡ option_map suc (first_above number (start + share) parts)
late number start share parts high =
    ap (λ answer. cond answer (Some 0) (option_map suc (first_above number (start + share) parts))) (le-ltb number (start + share) high)

-- tests that agree on a range count alike there
count_same_in : (test second : ℕ → Bool) (start count : ℕ) → ((number : ℕ) → start ≤ number → number < start + count → test number ≡ second number)
    → count_by test (range_with_len start count) ≡ count_by second (range_with_len start count)
count_same_in test second start zero same = refl
count_same_in test second start (suc count) same =
    sum_by-cons (λ number. cond (test number) 1 0) start (range_with_len (start + 1) count)
    ∙ (ap (λ head. cond head 1 0 + count_by test (range_with_len (start + 1) count)) (same start (omega arith) (omega arith))
    ∙ (ap (λ behind. cond (second start) 1 0 + behind)
    (count_same_in test second (start + 1) count (λ number low high. same number (omega arith) (omega arith)))
    ∙ sym (sum_by-cons (λ number. cond (second number) 1 0) start (range_with_len (start + 1) count))))

-- a count over a range, in two parts
two_parts : (test : ℕ → Bool) (start first rest : ℕ) → count_by test (range_with_len start (first + rest))
    ≡ count_by test (range_with_len start first) + count_by test (range_with_len (start + first) rest)
two_parts test start first rest = ap (count_by test) (range-append start first rest)
    ∙ sum_by-append (λ number. cond (test number) 1 0) (range_with_len start first) (range_with_len (start + first) rest)

-- of the numbers from a start on, as many as the sum of the shares, each place is the first above as often as its share says
pub count_of_place : (start : ℕ) (parts : List ℕ) (place : ℕ)
    → count_by (λ number. is_at place (first_above number start parts)) (range_with_len start (sum parts)) ≡ get_or parts place 0
count_of_place start [] place = refl
count_of_place start (share ∷ parts) zero =
    let test = λ (number : ℕ). is_at 0 (first_above number start (share ∷ parts)) in
    ap (λ count. count_by test (range_with_len start count)) (sum_by-cons (λ (item : ℕ). item) share parts)
    ∙ (two_parts test start share (sum parts)
    ∙ (ap (λ first. first + count_by test (range_with_len (start + share) (sum parts)))
    (count_all test true start share (λ number low high. ap (is_at 0) (early number start share parts high)))
    ∙ (ap (λ rest. share + rest) (count_all test false (start + share) (sum parts) (λ number low high. ap (is_at 0) (late number start share parts low)
    ∙ is_at-zero (first_above number (start + share) parts))) ∙ omega arith)))
count_of_place start (share ∷ parts) (suc place) =
    let test = λ (number : ℕ). is_at (suc place) (first_above number start (share ∷ parts)) in
    ap (λ count. count_by test (range_with_len start count)) (sum_by-cons (λ (item : ℕ). item) share parts)
    ∙ (two_parts test start share (sum parts)
    ∙ (ap (λ first. first + count_by test (range_with_len (start + share) (sum parts)))
    (count_all test false start share (λ number low high. ap (is_at (suc place)) (early number start share parts high) ∙ eqb-zero-suc place))
    ∙ (ap (λ rest. 0 + rest) (count_same_in test (λ number. is_at place (first_above number (start + share) parts)) (start + share) (sum parts)
    (λ number low high. ap (is_at (suc place)) (late number start share parts low) ∙ is_at-suc place (first_above number (start + share) parts)))
    ∙ (omega arith ∙ count_of_place (start + share) parts place))))

-- of the numbers below the sum of the shares, as many draw a place as its share says
pub draws_of_place : (weights : List ℕ) (waiting : List Bool) (place : ℕ)
    → count_by (draws weights waiting place) (range_with_len 0 (sum (shares weights waiting))) ≡ get_or (shares weights waiting) place 0
draws_of_place weights waiting place =
    let parts = shares weights waiting in
    count_same_in (draws weights waiting place) (λ number. is_at place (first_above number 0 parts)) 0 (sum parts)
    (λ number low high. let inside : number < sum parts = omega arith in let small : number % sum parts ≡ number = mod-eq_of_lt inside in
    ap (is_at place) (place_is_first_above (number % sum parts) 0 parts ∙ ap (λ rest. first_above rest 0 parts) small))
    ∙ count_of_place 0 parts place
