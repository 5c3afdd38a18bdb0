-- Keys that a walk in their order has passed.
use Rattle.std.proofs.Common.{◌≡◌, ◌⊎◌, inl, inr, ℕ, ◌<◌, ◌≤◌, Bool, true, false, List, Option, Some, None, refl, ap, sym, ◌∙◌, subst, arith}
use Rattle.std.specs.Prelude.{not, ◌&&◌, ◌||◌, IfSome, IfNone}
use Rattle.std.proofs.lemmas.Bool.{cases_Bool, and_parts, eqb-true, ne_eqb}
use Rattle.std.proofs.lemmas.Bool.Decides.{nat_tests}
use Rattle.ordered.specs.ByNumbers.{is_first_by}
use Rattle.ordered.specs.Orders.{AreSortedBy, differs, has_key, put_by, without, next_after}
use Rattle.ordered.proofs.Members.{one_of, itself, has_put, has_without}
use Rattle.fts_heads.specs.declared.ripe_file.RipeFile.{RipeFile}
use Rattle.fts_heads.specs.RipeFiles.{goes_by_group, by_group}
use Rattle.fts_heads.proofs.Found.{no, is_found, of_there}
use Rattle.fts_heads.proofs.Passed.{is_passed, left, no_lesser_dest, not_false, passed_before, still_passed, weaker}
use Rattle.fts_line.specs.declared.key.TheConstants.{LATER}
use Rattle.fts_line.specs.Keys.{is_later, waiter_of, AreKeyed, AreDue, IsDue}
use Rattle.fts_line.proofs.Walks.{to_there, ripe_dest, fewer_moved}

-- each key that was passed is of a file that waits for its moment, or had it
abbrev pub ArePast : List ℕ → List RipeFile → Option RipeFile → ℕ → Type 0
ArePast rests keys next now = (key : RipeFile) → has_key goes_by_group key keys ≡ true → is_later key ≡ false → is_passed next key ≡ true
    → (waiter_of rests key).not_before ≤ now

-- one step: behind a key the next
module _ (keys : List RipeFile) (sorted : AreSortedBy goes_by_group keys) (key : RipeFile) where
  -- the next is there, also after the key has gone and another has come in; and it stands with its destination
  pub next_stays : (new : RipeFile) (next : Option RipeFile) → next ≡ next_after goes_by_group key keys
      → IfSome next (λ some. has_key goes_by_group some (put_by goes_by_group new (without goes_by_group key keys)) ≡ true)
  next_stays new None is = tt
  next_stays new (Some next) is =
      let found = is_found goes_by_group by_group (goes_by_group key) keys next sorted (sym is) in
      has_put goes_by_group new next (without goes_by_group key keys)
      ∙ (ap (λ (test : Bool). not (differs goes_by_group new next) || test)
      (has_without goes_by_group by_group key next keys
      ∙ (ap (λ (test : Bool). test && differs goes_by_group key next) found.there
      ∙ ap (λ (test : Bool). test || goes_by_group next key) found.passing))
      ∙ or_true (not (differs goes_by_group new next)))
    where
      or_true : (test : Bool) → (test || true) ≡ true
      or_true true = refl
      or_true false = refl

  pub next_ripe : key.dest < LATER → (next : Option RipeFile) → next ≡ next_after goes_by_group key keys → IfSome next (λ some. is_later some ≡ false)
  next_ripe less None is = tt
  next_ripe less (Some next) is =
      let goes = (is_found goes_by_group by_group (goes_by_group key) keys next sorted (sym is)).passing in
      let least = no_lesser_dest key.dest next.dest key.queue next.queue _ goes in
      ne_eqb next.dest LATER (λ same. absurd (omega (arith, same, least, less)))

  -- the key's file had its moment: it stays where it is
  pub past_same : (rests : List ℕ) (now : ℕ) (next : Option RipeFile) → next ≡ next_after goes_by_group key keys → ArePast rests keys (Some key) now
      → (waiter_of rests key).not_before ≤ now → ArePast rests keys next now
  past_same rests now next is past own other there ripe passed = by_side (passed_before keys sorted key next is other there passed)
    where
      by_side : (goes_by_group other key ≡ true) ⊎ (other ≡ key) → (waiter_of rests other).not_before ≤ now
      by_side (inl goes) = past other there ripe goes
      by_side (inr same) = subst (λ some. (waiter_of rests some).not_before ≤ now) (sym same) own

  -- or waits for it now
  pub past_moved : (rests after : List ℕ) (now : ℕ) (next : Option RipeFile) → next ≡ next_after goes_by_group key keys → ArePast rests keys (Some key) now
      → (new : RipeFile) → is_later new ≡ true
      → ((other : RipeFile) → has_key goes_by_group other (without goes_by_group key keys) ≡ true → waiter_of after other ≡ waiter_of rests other)
      → ArePast after (put_by goes_by_group new (without goes_by_group key keys)) next now
  past_moved rests after now next is past new later same other there ripe passed = by_test (cases_Bool (not (differs goes_by_group new other)))
    where
      stays : has_key goes_by_group other (without goes_by_group key keys) ≡ true → (waiter_of after other).not_before ≤ now
      stays has = by_side (passed_before keys sorted key next is other parts.0 passed)
        where
          parts : (has_key goes_by_group other keys ≡ true) × (differs goes_by_group key other ≡ true)
          parts = and_parts (has_key goes_by_group other keys) (differs goes_by_group key other)
              (sym (has_without goes_by_group by_group key other keys) ∙ has)

          by_side : (goes_by_group other key ≡ true) ⊎ (other ≡ key) → (waiter_of after other).not_before ≤ now
          by_side (inl goes) = subst (λ waiter. waiter.not_before ≤ now) (sym (same other has)) (past other parts.0 ripe goes)
          by_side (inr one) =
              no (not_false (differs goes_by_group key key) (itself goes_by_group by_group key)
              (subst (λ some. differs goes_by_group key some ≡ true) one parts.1))

      by_test : (not (differs goes_by_group new other) ≡ true) ⊎ (not (differs goes_by_group new other) ≡ false) → (waiter_of after other).not_before ≤ now
      by_test (inl one) = no (sym later ∙ (ap is_later (one_of goes_by_group by_group new other one) ∙ ripe))
      by_test (inr differ) =
          stays (sym (has_put goes_by_group new other (without goes_by_group key keys)
          ∙ ap (λ (test : Bool). test || has_key goes_by_group other (without goes_by_group key keys)) differ) ∙ there)

  -- and fewer are left
  pub fewer_left_moved : (next : Option RipeFile) → next ≡ next_after goes_by_group key keys → has_key goes_by_group key keys ≡ true
      → (new : RipeFile) → is_passed next new ≡ true → left next (put_by goes_by_group new (without goes_by_group key keys)) < left (Some key) keys
  fewer_left_moved next is there new passed =
      fewer_moved (λ other. not (is_passed (Some key) other)) (λ other. not (is_passed next other))
      (weaker keys sorted key next is) key new (ap not (by_group.irreflexive key)) (ap not passed) keys there

-- who waits for its moment stands before each that doesn't
later_first : (dest other queue other_queue : ℕ) (rest : Bool) → other < dest → is_first_by other dest (is_first_by queue other_queue rest) ≡ true
later_first dest other queue other_queue rest less = grind (arith, nat_tests)

pub later_passed : (key : RipeFile) → key.dest < LATER → (new : RipeFile) → is_later new ≡ true → goes_by_group new key ≡ true
later_passed key less new later =
    let dest : new.dest ≡ LATER = eqb-true new.dest LATER later in
    later_first new.dest key.dest new.queue key.queue _ (omega (arith, dest, less))

-- where all are passed
pub past_end : (rests : List ℕ) (keys : List RipeFile) (now high : ℕ) → AreDue now high rests keys → ArePast rests keys None now → AreDue now now rests keys
past_end rests keys now high due past = to_there (IsDue now now rests) keys (λ key there.
    record {
      past = λ ripe. past key there ripe refl;
      later = (of_there goes_by_group by_group (IsDue now high rests) keys key due there).later;
    })

-- where none is but files that wait for their moments
pub past_start : (dests : List ℕ) (count : ℕ) (rests : List ℕ) (keys : List RipeFile) → AreKeyed dests count rests keys → (now : ℕ) (next : Option RipeFile)
    → IfSome next (λ key. (other : RipeFile) → has_key goes_by_group other keys ≡ true → goes_by_group other key ≡ true → LATER ≤ other.dest)
    → IfNone next ((other : RipeFile) → has_key goes_by_group other keys ≡ true → LATER ≤ other.dest)
    → ArePast rests keys next now
past_start dests count rests keys are now None passed none key there ripe before =
    absurd (omega (arith, none key there, ripe_dest dests count rests keys are key there ripe))
past_start dests count rests keys are now (Some next) passed none key there ripe before =
    absurd (omega (arith, passed key there before, ripe_dest dests count rests keys are key there ripe))

-- what waits for its moment is passed by each walk over the others
pub new_passed : (keys : List RipeFile) → AreSortedBy goes_by_group keys → (key : RipeFile) → key.dest < LATER → (next : Option RipeFile)
    → next ≡ next_after goes_by_group key keys → (new : RipeFile) → is_later new ≡ true → is_passed next new ≡ true
new_passed keys sorted key less None is new later = refl
new_passed keys sorted key less (Some next) is new later =
    still_passed keys sorted key (Some next) is new (later_passed key less new later)

-- a walk at a key: it is there, of a file that stands with its destination
pub record IsAt (rests : List ℕ) (keys : List RipeFile) (key : RipeFile) (now : ℕ) : Type 0 where
  pub there : has_key goes_by_group key keys ≡ true
  pub dest : key.dest < LATER
  pub past : ArePast rests keys (Some key) now

pub at_key : (dests : List ℕ) (count : ℕ) (rests : List ℕ) (keys : List RipeFile) → AreKeyed dests count rests keys → (now : ℕ) (next : Option RipeFile)
    (key : RipeFile) → next ≡ Some key → IfSome next (λ some. has_key goes_by_group some keys ≡ true) → IfSome next (λ some. is_later some ≡ false)
    → ArePast rests keys next now → IsAt rests keys key now
at_key dests count rests keys are now next key is there ripe past =
    let has : has_key goes_by_group key keys ≡ true = subst (λ some. IfSome some (λ other. has_key goes_by_group other keys ≡ true)) is there in
    record {
      there = has;
      dest = ripe_dest dests count rests keys are key has (subst (λ some. IfSome some (λ other. is_later other ≡ false)) is ripe);
      past = subst (λ some. ArePast rests keys some now) is past;
    }
