-- Where the keys of files that stand with their destinations start.
use Rattle.std.proofs.Common.{◌≡◌, ◌⊎◌, inl, inr, ℕ, ◌<◌, ◌≤◌, ◌-◌, true, false, List, Option, Some, None, sym, ◌∙◌, arith}
use Rattle.std.specs.Prelude.{not, nat_lt, IfSome, IfNone}
use Rattle.std.proofs.lemmas.Bool.{cases_lt, ne_eqb}
use Rattle.std.proofs.lemmas.Bool.Decides.{nat_tests}
use Rattle.ordered.specs.Orders.{AreSortedBy, has_key, first_from}
use Rattle.ordered.specs.ByNumbers.{is_first_by}
use Rattle.fts_heads.specs.declared.ripe_file.RipeFile.{RipeFile}
use Rattle.fts_heads.specs.RipeFiles.{goes_by_group, by_group}
use Rattle.fts_heads.proofs.Found.{no, is_found, none_found}
use Rattle.fts_line.specs.declared.key.TheConstants.{LATER}
use Rattle.fts_line.specs.Keys.{is_later}

-- before all keys of a destination and the lesser ones
abbrev pub start : RipeFile
start = record { queue = 0; dest = LATER - 1; rank = 0; file = 0 }

-- a key that doesn't stand before it has no greater destination, and any of such a one doesn't
no_greater : (dest most queue rank file : ℕ)
    → not (is_first_by most dest (is_first_by queue 0 (is_first_by rank 0 (nat_lt file 0)))) ≡ true → dest ≤ most
no_greater dest most queue rank file is = grind (arith, nat_tests)

not_before : (dest most queue rank file : ℕ) → dest ≤ most
    → not (is_first_by most dest (is_first_by queue 0 (is_first_by rank 0 (nat_lt file 0)))) ≡ true
not_before dest most queue rank file least = grind (arith, nat_tests)

module _ (keys : List RipeFile) (sorted : AreSortedBy goes_by_group keys) where
  pub start_there : (found : Option RipeFile) → found ≡ first_from goes_by_group start keys → IfSome found (λ key. has_key goes_by_group key keys ≡ true)
  start_there None is = tt
  start_there (Some found) is = (is_found goes_by_group by_group (λ other. not (goes_by_group other start)) keys found sorted (sym is)).there

  pub start_ripe : (found : Option RipeFile) → found ≡ first_from goes_by_group start keys → IfSome found (λ key. is_later key ≡ false)
  start_ripe None is = tt
  start_ripe (Some found) is =
      let passing = (is_found goes_by_group by_group (λ other. not (goes_by_group other start)) keys found sorted (sym is)).passing in
      let most = no_greater found.dest (LATER - 1) found.queue found.rank found.file passing in
      ne_eqb found.dest LATER (λ same. absurd (omega (arith, same, most)))

  pub start_passed : (found : Option RipeFile) → found ≡ first_from goes_by_group start keys
      → IfSome found (λ key. (other : RipeFile) → has_key goes_by_group other keys ≡ true → goes_by_group other key ≡ true → LATER ≤ other.dest)
  start_passed None is = tt
  start_passed (Some found) is = λ other there goes. by_case other there goes (cases_lt other.dest LATER)
    where
      by_case : (other : RipeFile) → has_key goes_by_group other keys ≡ true → goes_by_group other found ≡ true
          → (other.dest < LATER) ⊎ (LATER ≤ other.dest) → LATER ≤ other.dest
      by_case other there goes (inl less) =
          let passes = not_before other.dest (LATER - 1) other.queue other.rank other.file (omega (arith, less)) in
          no (sym goes
          ∙ (is_found goes_by_group by_group (λ some. not (goes_by_group some start)) keys found sorted (sym is)).least other there passes)
      by_case other there goes (inr most) = most

  pub start_none : (found : Option RipeFile) → found ≡ first_from goes_by_group start keys
      → IfNone found ((other : RipeFile) → has_key goes_by_group other keys ≡ true → LATER ≤ other.dest)
  start_none (Some found) is = tt
  start_none None is = λ other there. by_case other there (cases_lt other.dest LATER)
    where
      by_case : (other : RipeFile) → has_key goes_by_group other keys ≡ true → (other.dest < LATER) ⊎ (LATER ≤ other.dest) → LATER ≤ other.dest
      by_case other there (inl less) =
          let passes = not_before other.dest (LATER - 1) other.queue other.rank other.file (omega (arith, less)) in
          no (sym passes ∙ none_found goes_by_group by_group (λ some. not (goes_by_group some start)) keys (sym is) other there)
      by_case other there (inr most) = most
