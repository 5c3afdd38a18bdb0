use Rattle.std.proofs.Common.{string_bytes, sym, ◌∙◌}
use Rattle.fts_store.specs.Folders.{is_settled}
use Rattle.fts_store.proofs.Prefixes.{found-take, none-take}
use Rattle.fts_store.proofs.folders.to_sync.Goals as goal

pub returns-in-Some : goal.returns-in-Some
returns-in-Some c = found-take string_bytes (is_settled c.args.root.now c.args.stable.now) c.args.folders.now c.in-Some.count 1 (sym c.first_settled.ensures.first ∙ c.in-Some.is)

pub returns-in-None : goal.returns-in-None
returns-in-None c = none-take string_bytes (is_settled c.args.root.now c.args.stable.now) c.args.folders.now 1 (sym c.first_settled.ensures.first ∙ c.in-None.is)
