-- By the endpoint's name.
use Rattle.std.proofs.Common.{◌∙◌, List, ℕ, Bor, ap, map}
use Rattle.fts_tables.specs.Limits.{out_of}
use Rattle.fts_tables.specs.declared.rows.FileRow.{FileRow}
use Rattle.fts_board.proofs.storages.active_from.Goals as goal

pub returns : goal.returns
returns c = c.from_endpoint.ensures ∙ ap (λ (name : List ℕ). out_of (map (λ (row : Bor FileRow). row.now) c.args.rows.now) name) c.as_str.ensures.text
