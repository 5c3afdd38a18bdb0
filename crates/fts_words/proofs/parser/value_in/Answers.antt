-- An option is read from the rows of the matches.
use Rattle.std.proofs.Common.{◌∙◌, ap, sym, refl, Some, None}
use Rattle.std.specs.Prelude.{option_map}
use Rattle.clap.specs.Words.{found_of}
use Rattle.fts_words.proofs.Entered.{value_found}
use Rattle.fts_words.proofs.parser.value_in.Goals as goal

pub returns-in-Some : goal.returns-in-Some
returns-in-Some c = value_found (found_of c.args.values.now) c.args.command c.args.id.now c.args.name.now (Some c.in-Some.value.now) c.read.result
    (ap (option_map (λ s. s.now)) (sym c.in-Some.is) ∙ c.get_str.ensures) c.read.ensures

pub returns-in-None : goal.returns-in-None
returns-in-None c = value_found (found_of c.args.values.now) c.args.command c.args.id.now c.args.name.now None None
    (ap (option_map (λ s. s.now)) (sym c.in-None.is) ∙ c.get_str.ensures) refl
