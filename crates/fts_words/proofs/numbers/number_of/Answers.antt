-- Digits alone are read as their number, and only one that no `u64` holds isn't read.
use Rattle.std.proofs.Common.{◌≡◌, ℕ, ◌≤◌, ◌<◌, ◌^◌, true, List, length, Option, Some, Ok, ◌∙◌, sym, subst, rules, arith}
use Rattle.std.specs.Prelude.{IfSome}
use Rattle.std.specs.List.{list_all}
use Rattle.std.specs.Str.Parse.{digits_value}
use Rattle.std.proofs.lemmas.Bool.{eqb-false}
use Rattle.std.proofs.lemmas.Bool.Decides.{nat_tests}
use Rattle.std.proofs.lemmas.Str.Parse.{IsNumeralModel, numerals_by_value, parse_gives}
use Rattle.fts_tables.specs.Names.{is_digit}
use Rattle.fts_words.specs.Words.{number_of}
use Rattle.fts_words.proofs.numbers.number_of.Goals as goal

own : IsNumeralModel (λ (ds : List ℕ). list_all is_digit ds ≡ true) (digits_value 10)
own = numerals_by_value (λ (ds : List ℕ). list_all is_digit ds ≡ true) (search rules)

number-there : (value : List ℕ) → 1 ≤ length value → length value ≤ 20 → list_all is_digit value ≡ true → number_of value ≡ Some (digits_value 10 value)
number-there value some short digits = grind (arith, nat_tests)

pub returns-in-Err-clause-none : goal.returns-in-Err-clause-none
returns-in-Err-clause-none c = λ none.
    let some = eqb-false (length c.as_bytes-bytes.result.now) 0 (sym c.is_empty.ensures ∙ c.if-is_empty.false) in
    let same : length c.args.value.now ≡ length c.as_bytes-bytes.result.now = search rules in
    let digits : list_all is_digit c.args.value.now ≡ true = search rules in
    let read : digits_value 10 c.args.value.now < 2 ^ 64 → c.parse.result ≡ Ok (digits_value 10 c.args.value.now)
    = λ below. parse_gives own 64 c.args.value.now c.parse.result c.parse.ensures.value.0 digits (omega arith) below in
    let never : digits_value 10 c.args.value.now < 2 ^ 64 → ⊥ = λ below. let is = sym c.in-Err.is ∙ read below in cc in
    let over : 18446744073709551615 < digits_value 10 c.args.value.now = omega (arith, never) in
    subst (λ (o : Option ℕ). IfSome o (λ number. 18446744073709551615 < number))
    (sym (number-there c.args.value.now (omega arith) (omega arith) digits)) over
