-- A value whose number no `u64` holds is in no range.
use Rattle.std.proofs.Common.{◌≡◌, ℕ, ◌<◌, Bool, true, false, if◌then◌else◌, List, Option, Some, None, refl, ◌∙◌, ap, sym, arith}
use Rattle.std.specs.Prelude.{IfSome, bytes_eq, codes, option_and_then}
use Rattle.std.proofs.lemmas.Bool.Decides.{nat_tests}
use Rattle.fts_words.specs.Words.{number_of, within, given_by, given_to_client}
use Rattle.fts_words.specs.declared.asked.Command.{Command}
use Rattle.fts_words.specs.declared.asked.Command.TheVariants.{Session, Show, Load, Serve, Submit, Query, Delete, Follow}
use Rattle.fts_words.specs.declared.options.Given.{Given}
use Rattle.fts_words.specs.declared.options.Given.TheVariants.{Port, Lanes, Connections, Number, Tries}
use Rattle.fts_words.proofs.options.of_number.Goals as goal
use Rattle.fts_tables.specs.declared.limits.TheConstants.{MAX_LANES}

above : (low high : ℕ) (given : ℕ → Given) (number : ℕ) → high < number → within low high given number ≡ None
above low high given number over = grind (arith, nat_tests)

-- both are none
either : (b : Bool) (one other : Option Given) → one ≡ None → other ≡ None → (if b then one else other) ≡ None
either true one other is also = is
either false one other is also = also

client-in-no-range : (name : List ℕ) (number : ℕ) → 18446744073709551615 < number → given_to_client name number ≡ None
client-in-no-range name number over =
    either (bytes_eq name (codes "--port")) (within 1 65535 Port number) _ (above 1 65535 Port number (omega arith))
    (either (bytes_eq name (codes "--tries")) (within 1 10 Tries number) None (above 1 10 Tries number (omega arith)) refl)

in-no-range : (command : Command) (name : List ℕ) (number : ℕ) → 18446744073709551615 < number → given_by command name number ≡ None
in-no-range Session name number over = refl
in-no-range Show name number over = refl
in-no-range Load name number over = either (bytes_eq name (codes "--number")) (within 0 18446744073709551615 Number number) None (above 0 18446744073709551615 Number number over) refl
in-no-range Serve name number over =
    either (bytes_eq name (codes "--port")) (within 1 65535 Port number) _ (above 1 65535 Port number (omega arith))
    (either (bytes_eq name (codes "--lanes")) (within 1 MAX_LANES Lanes number) _ (above 1 MAX_LANES Lanes number (omega arith))
    (either (bytes_eq name (codes "--connections")) (within 1 1000000 Connections number) None (above 1 1000000 Connections number (omega arith)) refl))
in-no-range Delete name number over = refl
in-no-range _ name number over = client-in-no-range name number over

-- a value whose number no `u64` holds gives no option
over-gives-none : (command : Command) (name : List ℕ) (number : Option ℕ) → IfSome number (λ n. 18446744073709551615 < n) → option_and_then (given_by command name) number ≡ None
over-gives-none command name None over = refl
over-gives-none command name (Some number) over = in-no-range command name number over

pub returns-in-None : goal.returns-in-None
returns-in-None c = sym (over-gives-none c.args.command c.args.name.now (number_of c.args.value.now) (c.number_of.ensures.none c.in-None.is))

pub returns-in-Some : goal.returns-in-Some
returns-in-Some c =
    c.by_name.ensures ∙ ap (λ (o : Option ℕ). option_and_then (given_by c.args.command c.args.name.now) o) (sym c.in-Some.ensures.number)
