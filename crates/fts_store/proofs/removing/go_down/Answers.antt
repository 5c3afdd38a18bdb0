use Rattle.std.proofs.Common.{◌+◌, ◌-◌, ◌≡◌, length, map, string_bytes, get_or, take, ap, sym, ◌∙◌, arith, rules}
use Rattle.std.proofs.lemmas.List.{length-map}
use Rattle.fts_files.specs.Script.{fails}
use Rattle.fts_files.proofs.Playing.{then_leads, same_leads, chosen, left, failed}
use Rattle.fts_store.specs.Removing.{goes_down}
use Rattle.fts_store.proofs.Metings.{mapped}
use Rattle.fts_store.proofs.Removings.{down_on, down_all}
use Rattle.fts_store.proofs.removing.go_down.Goals as goal

pub returns-in_err-is_there : goal.returns-in_err-is_there
returns-in_err-is_there g c next =
    let same : (length c.args.folders.now - 1) - c.folders.i ≡ length c.args.folders.now - (c.folders.i + 1) = omega arith in
    let long : length (map string_bytes c.args.folders.now) ≡ length c.args.folders.now = length-map c.args.folders.now string_bytes in
    failed (λ reached. next reached.folder.now reached.is_last) fails c.from_residual.result
    (then_leads (c.folders.invariant.0 next)
    (then_leads (down_on c.folders.reached.now (map string_bytes c.args.folders.now) (length c.args.folders.now - c.folders.i) (length c.args.folders.now - (c.folders.i + 1)) (string_bytes c.index-folders-count.result) next _ (omega arith) (omega (arith, long))
    (mapped string_bytes c.args.folders.now (length c.args.folders.now - (c.folders.i + 1)) c.index-folders-count.result (c.index-folders-count.is ∙ ap (λ n. get_or c.args.folders.now n c.index-folders-count.result) same) (omega arith)))
    ((rw c.as_str-folder.ensures.value at c.in_err-is_there.ensures) _))) (search rules)

pub returns-then-not-is_there : goal.returns-then-not-is_there
returns-then-not-is_there g c next =
    let same : (length c.args.folders.now - 1) - c.folders.i ≡ length c.args.folders.now - (c.folders.i + 1) = omega arith in
    let long : length (map string_bytes c.args.folders.now) ≡ length c.args.folders.now = length-map c.args.folders.now string_bytes in
    then_leads (c.folders.invariant.0 next)
    (then_leads (down_on c.folders.reached.now (map string_bytes c.args.folders.now) (length c.args.folders.now - c.folders.i) (length c.args.folders.now - (c.folders.i + 1)) (string_bytes c.index-folders-count.result) next _ (omega arith) (omega (arith, long))
    (mapped string_bytes c.args.folders.now (length c.args.folders.now - (c.folders.i + 1)) c.index-folders-count.result (c.index-folders-count.is ∙ ap (λ n. get_or c.args.folders.now n c.index-folders-count.result) same) (omega arith)))
    (then_leads ((rw c.as_str-folder.ensures.value at c.in_ok-is_there.ensures) _) (left _ _ _ _ c.if-not-is_there.true)))

pub folders-preserved : goal.folders-preserved
folders-preserved g c =
    let same : (length c.args.folders.now - 1) - c.folders.i ≡ length c.args.folders.now - (c.folders.i + 1) = omega arith in
    let long : length (map string_bytes c.args.folders.now) ≡ length c.args.folders.now = length-map c.args.folders.now string_bytes in (
      λ next. then_leads (c.folders.invariant.0 next)
          (then_leads (down_on c.folders.reached.now (map string_bytes c.args.folders.now) (length c.args.folders.now - c.folders.i) (length c.args.folders.now - (c.folders.i + 1)) (string_bytes c.index-folders-count.result) next _ (omega arith) (omega (arith, long))
          (mapped string_bytes c.args.folders.now (length c.args.folders.now - (c.folders.i + 1)) c.index-folders-count.result (c.index-folders-count.is ∙ ap (λ n. get_or c.args.folders.now n c.index-folders-count.result) same) (omega arith)))
          (then_leads ((rw c.as_str-folder.ensures.value at c.in_ok-is_there.ensures) _) (then_leads (chosen _ _ _ _ c.if-not-is_there.false)
          (same_leads _ _ _ (ap (λ f. goes_down f (take (length c.args.folders.now - (c.folders.i + 1)) (map string_bytes c.args.folders.now)) next) (sym c.as_str-folder.ensures.value)))))),
      search rules,
    )

pub returns : goal.returns
returns g c next = then_leads (c.folders.invariant.0 next) (down_all c.folders.reached.now (map string_bytes c.args.folders.now) _ next _ (omega arith))
