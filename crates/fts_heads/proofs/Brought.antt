-- Which file brought a destination: a walk over the files of the destination, and those that stand by theirs.
use Rattle.std.proofs.Common.{◌≡◌, ◌⊎◌, inl, inr, ℕ, suc, ◌≤◌, Bool, true, false, List, Option, Some, None, refl, ap, sym, ◌∙◌, arith}
use Rattle.std.specs.Prelude.{◌||◌, not, nat_lt, ◌==◌, IfSome}
use Rattle.std.proofs.lemmas.Bool.{and_parts, eqb-true, or_parts, or_cases}
use Rattle.std.proofs.lemmas.Bool.Decides.{nat_tests}
use Rattle.ordered.specs.ByNumbers.{is_first_by}
use Rattle.ordered.specs.Orders.{AreSortedBy, has_key, put_by, without, differs, first_from, next_after}
use Rattle.ordered.proofs.Members.{has_put, has_without, one_of}
use Rattle.fts_heads.specs.declared.ripe_file.RipeFile.{RipeFile}
use Rattle.fts_heads.specs.declared.crowd.Own.{Own}
use Rattle.fts_heads.specs.Heads.{start_at, is_one}
use Rattle.fts_heads.specs.RipeFiles.{goes_by_group, by_group, brought}
use Rattle.fts_heads.specs.Crowd.{own_at, is_own, with_own, AreFollowers}
use Rattle.fts_heads.proofs.Found.{no, is_found, none_found}
use Rattle.fts_heads.proofs.Ranges.{to_false, no_greater_dest}
use Rattle.fts_heads.proofs.Passed.{is_passed, no_lesser_dest, passed_before}
use Rattle.fts_heads.proofs.Owned.{has_own}
use Rattle.fts_heads.proofs.Leasts.{own_none}

-- no file that brought the destination was passed
abbrev pub IsAhead : ℕ → List RipeFile → Option RipeFile → Type 0
IsAhead dest keys next = (other : RipeFile) → has_key goes_by_group other keys ≡ true → brought dest other ≡ true → is_passed next other ≡ false

-- the destination of one that did
pub dest_is : (dest : ℕ) (file : RipeFile) → brought dest file ≡ true → file.dest ≡ dest
dest_is dest file is = eqb-true file.dest dest (and_parts (file.dest == dest) (file.file == suc dest) is).0

-- no file of a destination stands before the start of its files
not_before : (dest other queue rank file : ℕ) → other ≡ dest
    → not (is_first_by dest other (is_first_by queue 0 (is_first_by rank 0 (nat_lt file 0)))) ≡ true
not_before dest other queue rank file same = grind (arith, nat_tests)

-- so a walk starts ahead of them all, and not before the destination
pub start_ahead : (dest : ℕ) (keys : List RipeFile) (next : Option RipeFile) → AreSortedBy goes_by_group keys
    → next ≡ first_from goes_by_group (start_at dest 0) keys → IsAhead dest keys next
start_ahead dest keys None sorted is other there own =
    no (sym (not_before dest other.dest other.queue other.rank other.file (dest_is dest other own))
    ∙ none_found goes_by_group by_group (λ some. not (goes_by_group some (start_at dest 0))) keys (sym is) other there)
start_ahead dest keys (Some next) sorted is other there own =
    (is_found goes_by_group by_group (λ some. not (goes_by_group some (start_at dest 0))) keys next sorted (sym is)).least other there
    (not_before dest other.dest other.queue other.rank other.file (dest_is dest other own))

not_true : (test : Bool) → not test ≡ true → test ≡ false
not_true true is = cc
not_true false is = refl

pub start_dest : (dest : ℕ) (keys : List RipeFile) (next : Option RipeFile) → AreSortedBy goes_by_group keys
    → next ≡ first_from goes_by_group (start_at dest 0) keys → IfSome next (λ file. file.dest ≤ dest)
start_dest dest keys None sorted is = tt
start_dest dest keys (Some next) sorted is =
    let found = is_found goes_by_group by_group (λ some. not (goes_by_group some (start_at dest 0))) keys next sorted (sym is) in
    no_greater_dest dest 0 next.dest next.queue _ (not_true (goes_by_group next (start_at dest 0)) found.passing)

pub start_there : (dest : ℕ) (keys : List RipeFile) (next : Option RipeFile) → AreSortedBy goes_by_group keys
    → next ≡ first_from goes_by_group (start_at dest 0) keys → IfSome next (λ file. has_key goes_by_group file keys ≡ true)
start_there dest keys None sorted is = tt
start_there dest keys (Some next) sorted is =
    (is_found goes_by_group by_group (λ some. not (goes_by_group some (start_at dest 0))) keys next sorted (sym is)).there

-- a step over a file that did not bring it
pub step_ahead : (dest : ℕ) (keys : List RipeFile) (key : RipeFile) (next : Option RipeFile) → AreSortedBy goes_by_group keys
    → next ≡ next_after goes_by_group key keys → IsAhead dest keys (Some key) → brought dest key ≡ false → IsAhead dest keys next
step_ahead dest keys key next sorted is ahead not_own other there own = to_false (is_passed next other) (λ passed.
    by_side (passed_before keys sorted key next is other there passed))
  where
    by_side : (goes_by_group other key ≡ true) ⊎ (other ≡ key) → true ≡ false
    by_side (inl goes) = sym goes ∙ ahead other there own
    by_side (inr same) = sym own ∙ (ap (brought dest) same ∙ not_own)

pub step_dest : (dest : ℕ) (keys : List RipeFile) (key : RipeFile) (next : Option RipeFile) → AreSortedBy goes_by_group keys
    → next ≡ next_after goes_by_group key keys → key.dest ≤ dest → IfSome next (λ file. file.dest ≤ dest)
step_dest dest keys key None sorted is most = tt
step_dest dest keys key (Some next) sorted is most =
    let goes = (is_found goes_by_group by_group (goes_by_group key) keys next sorted (sym is)).passing in
    omega (arith, most, no_lesser_dest key.dest next.dest key.queue next.queue _ goes)

-- of all files nobody did, where none stands by the destination and none of the set did
pub none_own : (own : List Own) (files : List RipeFile) (dest : ℕ) → own_at own dest ≡ None
    → ((file : RipeFile) → has_key goes_by_group file files ≡ true → brought dest file ≡ false)
    → (file : RipeFile) → has_key goes_by_group file (with_own own files) ≡ true → brought dest file ≡ false
none_own own files dest none rest file there = to_false (brought dest file) (λ is.
    by_side is (or_cases (is_own own file) (has_key goes_by_group file files) (sym (has_own own files file) ∙ there)))
  where
    by_side : brought dest file ≡ true → (is_own own file ≡ true) ⊎ (has_key goes_by_group file files ≡ true) → true ≡ false
    by_side is (inl here) = absurd (own_none own dest none file here (dest_is dest file is))
    by_side is (inr here) = sym is ∙ rest file here

-- who did not bring its own destination brought none
pub follows : (dest : ℕ) (file : RipeFile) → brought file.dest file ≡ false → brought dest file ≡ false
follows dest file not_own = to_false (brought dest file) (λ is. sym (ap (λ n. brought n file) (dest_is dest file is) ∙ is) ∙ not_own)

-- files of which none brought its destination, with one more and one less
pub followers_put : (strays own : Bool) (file : RipeFile) (files : List RipeFile) → AreFollowers strays files → own ≡ brought file.dest file
    → AreFollowers (strays || own) (put_by goes_by_group file files)
followers_put strays own file files are same none other there =
    by_side (or_parts strays own none)
    (or_cases (is_one file other) (has_key goes_by_group other files) (sym (has_put goes_by_group file other files) ∙ there))
  where
    by_side : (strays ≡ false) × (own ≡ false) → (is_one file other ≡ true) ⊎ (has_key goes_by_group other files ≡ true) → brought other.dest other ≡ false
    by_side parts (inl one) =
        ap (λ (some : RipeFile). brought some.dest some) (sym (one_of goes_by_group by_group file other one)) ∙ (sym same ∙ parts.1)
    by_side parts (inr here) = are parts.0 other here

pub followers_without : (strays : Bool) (file : RipeFile) (files : List RipeFile) → AreFollowers strays files
    → AreFollowers strays (without goes_by_group file files)
followers_without strays file files are none other there =
    are none other (and_parts (has_key goes_by_group other files) (differs goes_by_group file other)
    (sym (has_without goes_by_group by_group file other files) ∙ there)).0
