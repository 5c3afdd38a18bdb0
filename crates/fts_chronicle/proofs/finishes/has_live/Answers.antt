-- Behind a last file that is settled the others decide.
use Rattle.std.proofs.Common.{rules, ◌≡◌, ◌∙◌, ◌∷◌, ◌++◌, []}
use Rattle.fts_chronicle.proofs.Lives.{last_settled}
use Rattle.fts_chronicle.proofs.finishes.has_live.Goals as goal

pub returns-else-is_live : goal.returns-else-is_live
returns-else-is_live c =
    let rows = c.args.rows.now in
    let others = c.in-Some.others.now in
    let last = c.in-Some.last.now in
    let are : rows ≡ others ++ last ∷ [] = search rules in
    c.any_live.ensures ∙ last_settled rows others last are (search rules)
