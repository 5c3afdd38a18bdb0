-- Digits alone are read as their number, which is below 10 to their count.
use Rattle.std.proofs.Common.{◌≡◌, ℕ, ◌≤◌, ◌<◌, ◌^◌, true, List, length, Some, Ok, ◌∙◌, sym, rules, arith}
use Rattle.std.specs.List.{list_all}
use Rattle.std.specs.Str.Parse.{digits_value}
use Rattle.std.proofs.lemmas.Bool.{eqb-false}
use Rattle.std.proofs.lemmas.Bool.Decides.{nat_tests}
use Rattle.std.proofs.lemmas.Str.Parse.{IsNumeralModel, numerals_by_value, parse_gives, digits_value_short}
use Rattle.fts_tables.specs.Names.{is_digit}
use Rattle.fts_routes.specs.Queries.{number_in}
use Rattle.fts_routes.proofs.queries.number_in.Goals as goal

own : IsNumeralModel (λ (ds : List ℕ). list_all is_digit ds ≡ true) (digits_value 10)
own = numerals_by_value (λ (ds : List ℕ). list_all is_digit ds ≡ true) (search rules)

number-there : (most : ℕ) (text : List ℕ) → 1 ≤ length text → length text ≤ most → list_all is_digit text ≡ true → number_in most text ≡ Some (digits_value 10 text)
number-there most text some short digits = grind (arith, nat_tests)

pub returns : goal.returns
returns c =
    let some = eqb-false (length c.as_bytes-bytes.result.now) 0 (sym c.is_empty.ensures ∙ c.if-is_empty.false) in
    let same : length c.args.text.now ≡ length c.as_bytes-bytes.result.now = search rules in
    let digits : list_all is_digit c.args.text.now ≡ true = search rules in
    let below : digits_value 10 c.args.text.now < 10 ^ 19 = digits_value_short own c.args.text.now 19 digits (omega arith) in
    let read : c.parse.result ≡ Ok (digits_value 10 c.args.text.now) = parse_gives own 64 c.args.text.now c.parse.result c.parse.ensures.value.0 digits (omega arith) (omega (arith, below)) in
    rw (number-there c.args.most c.args.text.now (omega arith) (omega arith) digits) (search rules)
