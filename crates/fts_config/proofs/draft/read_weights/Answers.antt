use Rattle.toml.specs.View.{view}
use Rattle.fts_config.proofs.Drafts.{listed_weights}
use Rattle.fts_config.proofs.draft.read_weights.Goals as goal

pub returns-in-Some : goal.returns-in-Some
returns-in-Some c = listed_weights c.read_all.result c.name.result.now (view c.args.document.now) _ _ c.name.ensures c.in-Some.ensures c.tables_of.ensures
    c.read_all.ensures
