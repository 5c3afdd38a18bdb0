use Rattle.std.proofs.Common.{◌+◌, ◌-◌, ◌≡◌, length, map, string_bytes, get_or, ap, ◌∙◌, arith, rules}
use Rattle.fts_files.specs.Script.{fails}
use Rattle.fts_files.proofs.Playing.{then_leads, failed}
use Rattle.fts_store.proofs.Metings.{down_leads, down_end, mapped}
use Rattle.std.proofs.lemmas.List.{length-map}
use Rattle.fts_store.proofs.folders.make_all.Goals as goal

pub returns : goal.returns
returns g c next = then_leads (c.folders.invariant next) (down_end (map string_bytes c.args.folders.now) _ next _ (omega arith))

pub returns-in_err-make_one : goal.returns-in_err-make_one
returns-in_err-make_one g c next =
    let same : (length c.args.folders.now - 1) - c.folders.i ≡ length c.args.folders.now - (c.folders.i + 1) = omega arith in
    let long : length (map string_bytes c.args.folders.now) ≡ length c.args.folders.now = length-map c.args.folders.now string_bytes in
    failed (λ done. next) fails c.from_residual.result
    (then_leads (c.folders.invariant next)
    (then_leads (down_leads (map string_bytes c.args.folders.now) (length c.args.folders.now - c.folders.i) (length c.args.folders.now - (c.folders.i + 1)) (string_bytes c.index-folders-count.result) next _ (omega arith) (omega (arith, long))
    (mapped string_bytes c.args.folders.now (length c.args.folders.now - (c.folders.i + 1)) c.index-folders-count.result (c.index-folders-count.is ∙ ap (λ n. get_or c.args.folders.now n c.index-folders-count.result) same) (omega arith)))
    ((rw c.as_str.ensures.value at c.in_err-make_one.ensures) _))) (search rules)

pub folders-preserved : goal.folders-preserved
folders-preserved g c next =
    let same : (length c.args.folders.now - 1) - c.folders.i ≡ length c.args.folders.now - (c.folders.i + 1) = omega arith in
    let long : length (map string_bytes c.args.folders.now) ≡ length c.args.folders.now = length-map c.args.folders.now string_bytes in
    then_leads (c.folders.invariant next)
    (then_leads (down_leads (map string_bytes c.args.folders.now) (length c.args.folders.now - c.folders.i) (length c.args.folders.now - (c.folders.i + 1)) (string_bytes c.index-folders-count.result) next _ (omega arith) (omega (arith, long))
    (mapped string_bytes c.args.folders.now (length c.args.folders.now - (c.folders.i + 1)) c.index-folders-count.result (c.index-folders-count.is ∙ ap (λ n. get_or c.args.folders.now n c.index-folders-count.result) same) (omega arith)))
    ((rw c.as_str.ensures.value at c.in_ok-make_one.ensures) _))
