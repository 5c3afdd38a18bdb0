-- `clap` refuses no list that asks for something but for want of memory, and what it entered asks for the same.
use Rattle.std.proofs.Common.{◌∙◌, map, string_bytes}
use Rattle.clap.specs.Words.{app_of, subcommand_rows_of}
use Rattle.fts_words.proofs.Entered.{taken_as, refused_as}
use Rattle.fts_words.proofs.parser.by_clap.Goals as goal

pub returns-in-Ok-try_get_matches_from : goal.returns-in-Ok-try_get_matches_from
returns-in-Ok-try_get_matches_from c = taken_as (map string_bytes c.args.words.now) c.asked_entered.result (app_of c.in-Ok.command)
    (subcommand_rows_of c.in-Ok-try_get_matches_from.matches) c.in-Ok.ensures (λ simple. (c.in-Ok-try_get_matches_from.ensures.matches simple).1) c.asked_entered.ensures

pub returns-in-Err-try_get_matches_from : goal.returns-in-Err-try_get_matches_from
returns-in-Err-try_get_matches_from c = refused_as (map string_bytes c.args.words.now) (app_of c.in-Ok.command) c.kind.result c.in-Ok.ensures
    (λ taken. c.kind.ensures ∙ c.in-Err-try_get_matches_from.ensures.passes taken)
