-- The four groups behind the URLs: the first that refuses, after those that were kept.
use Rattle.std.proofs.Common.{◌≡◌, Err, refl, map, rules}
use Rattle.serde_json.specs.View.{view}
use Rattle.fts_jobdoc.proofs.Chain.{told, kept, by_later}
use Rattle.fts_jobdoc.proofs.rules.check_later.Goals as goal

pub returns-in_err-check_ends : goal.returns-in_err-check_ends
returns-in_err-check_ends c =
    let is : c.from_residual.result ≡ Err c.in_err-check_ends.field-0.0 = search rules in
    let all = by_later (view c.args.document.now) c.args.settings.now (map view c.args.files.now) c.args.ends.now in
    rw is (rw (all, told _ c.in_err-check_ends.field-0.0 c.in_err-check_ends.ensures) refl)

pub returns-in_err-check_files : goal.returns-in_err-check_files
returns-in_err-check_files c =
    let is : c.from_residual-in_err-check_files.result ≡ Err c.in_err-check_files.field-0.0 = search rules in
    let all = by_later (view c.args.document.now) c.args.settings.now (map view c.args.files.now) c.args.ends.now in
    let refused = told _ c.in_err-check_files.field-0.0 c.in_err-check_files.ensures in
    rw is (rw (all, kept _ c.in_ok-check_ends.ensures, ← c.is_verified.ensures, refused) refl)

pub returns-in_err-check_parameters : goal.returns-in_err-check_parameters
returns-in_err-check_parameters c =
    let is : c.from_residual-in_err-check_parameters.result ≡ Err c.in_err-check_parameters.field-0.0 = search rules in
    let all = by_later (view c.args.document.now) c.args.settings.now (map view c.args.files.now) c.args.ends.now in
    let refused = told _ c.in_err-check_parameters.field-0.0 c.in_err-check_parameters.ensures in
    rw is (rw (all, kept _ c.in_ok-check_ends.ensures, ← c.is_verified.ensures, kept _ c.in_ok-check_files.ensures, refused) refl)

pub returns : goal.returns
returns c =
    let all = by_later (view c.args.document.now) c.args.settings.now (map view c.args.files.now) c.args.ends.now in
    rw (all, kept _ c.in_ok-check_ends.ensures, ← c.is_verified.ensures, kept _ c.in_ok-check_files.ensures, kept _ c.in_ok-check_parameters.ensures)
    c.check_kind.ensures
