-- A value whose number no `u64` holds is no port.
use Rattle.std.proofs.Common.{◌≡◌, ℕ, ◌<◌, Option, Some, None, refl, ◌∙◌, ap, sym, arith}
use Rattle.std.specs.Prelude.{IfSome, option_and_then}
use Rattle.std.proofs.lemmas.Bool.Decides.{nat_tests}
use Rattle.fts_words.specs.Words.{number_of}
use Rattle.fts_monitor.specs.CommandLine.{port_by}
use Rattle.fts_monitor.proofs.port_of.Goals as goal

above : (number : ℕ) → 18446744073709551615 < number → port_by number ≡ None
above number over = grind (arith, nat_tests)

over-is-none : (number : Option ℕ) → IfSome number (λ n. 18446744073709551615 < n) → option_and_then port_by number ≡ None
over-is-none None over = refl
over-is-none (Some number) over = above number over

pub returns-in-None : goal.returns-in-None
returns-in-None c = sym (over-is-none (number_of c.args.value.now) (c.number_of.ensures.none c.in-None.is))

pub returns-in-Some : goal.returns-in-Some
returns-in-Some c = c.port_by.ensures ∙ ap (λ (o : Option ℕ). option_and_then port_by o) (sym c.in-Some.ensures.number)
