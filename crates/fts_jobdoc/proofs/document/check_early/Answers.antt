-- The two ends of the checks before the settings.
use Rattle.std.proofs.Common.{◌≡◌, Err, map, rules}
use Rattle.serde_json.specs.View.{view}
use Rattle.fts_jobdoc.proofs.Chain.{exit_shape, behind_shape}
use Rattle.fts_jobdoc.proofs.document.check_early.Goals as goal

pub returns-in_err-check_shape : goal.returns-in_err-check_shape
returns-in_err-check_shape c =
    let is : c.from_residual.result ≡ Err c.in_err-check_shape.field-0.0 = search rules in
    rw is (exit_shape (view c.args.document.now) (map view c.args.files.now) _ c.in_err-check_shape.field-0.0 c.requires
    c.in_err-check_shape.ensures)

pub returns : goal.returns
returns c = behind_shape (view c.args.document.now) (map view c.args.files.now) c.read_all_ends.result c.requires c.in_ok-check_shape.ensures c.read_all_ends.ensures
