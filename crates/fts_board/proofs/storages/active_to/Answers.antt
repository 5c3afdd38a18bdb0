-- By the endpoint's name.
use Rattle.std.proofs.Common.{◌∙◌, List, ℕ, Bor, ap, map}
use Rattle.fts_tables.specs.Limits.{into}
use Rattle.fts_tables.specs.declared.rows.FileRow.{FileRow}
use Rattle.fts_board.proofs.storages.active_to.Goals as goal

pub returns : goal.returns
returns c = c.to_endpoint.ensures ∙ ap (λ (name : List ℕ). into (map (λ (row : Bor FileRow). row.now) c.args.rows.now) name) c.as_str.ensures.text
