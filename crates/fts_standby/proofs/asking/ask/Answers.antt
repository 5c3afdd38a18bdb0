-- Memory ran out behind a try; a try that is the last one; and one try more.
use Rattle.std.proofs.Common.{◌≡◌, ℕ, List, sym, ◌∙◌, subst, rules, arith, Err, true≢false, append-nil}
use Rattle.fts_client.specs.Tries.{try_of}
use Rattle.fts_standby.specs.Hearing.{heard_data}
use Rattle.fts_standby.specs.Asking.{request_bytes, heard_by}
use Rattle.fts_standby.proofs.AskedTries.{try_more, try_last, try_cut}
use Rattle.fts_standby.proofs.asking.ask.Goals.{then-left-eq0-via-then-left-eq0, then-left-eq0-via-else-left-eq0+then-is_final}
use Rattle.fts_standby.proofs.asking.ask.Goals as goal

pub returns-in_err-heard : goal.returns-in_err-heard
returns-in_err-heard g c =
    let head : c.as_bytes.result.now ≡ request_bytes c.args.port c.args.number =
    c.as_bytes.ensures.value ∙ (c.as_str.ensures.value ∙ c.request_head-head.ensures) in
    let is : c.from_residual.result ≡ Err c.in_err-heard.field-0.0 = search rules in
    rw is
    (try_cut _ _ _ _ _ _ _ _ _ _ _ _ _ _ c.tries.invariant.so_far c.try_once-tried.ensures.tried (append-nil c.as_bytes.result.now ∙ head) c.in_err-heard.field-0.0
    c.tries.invariant.some)

pub returns-then-left-eq0 : goal.returns-then-left-eq0
returns-then-left-eq0 g c =
    let head : c.as_bytes.result.now ≡ request_bytes c.args.port c.args.number =
    c.as_bytes.ensures.value ∙ (c.as_str.ensures.value ∙ c.request_head-head.ensures) in
    let heard : heard_by c.args.number (try_of c.try_once-tried.result c.try_once-tried.new.room.body) ≡ heard_data c.in_ok-heard.heard =
    subst (λ (body : List ℕ). heard_by c.args.number (try_of c.try_once-tried.result body) ≡ heard_data c.in_ok-heard.heard) c.body.ensures (sym c.in_ok-heard.ensures) in
    try_last _ _ _ _ _ _ _ _ _ _ _ _ _ _ c.tries.invariant.so_far c.try_once-tried.ensures.tried (append-nil c.as_bytes.result.now ∙ head) c.in_ok-heard.heard heard
    c.tries.invariant.some
    (λ on. elim c.then-left-eq0.branch [
      | then-left-eq0-via-then-left-eq0 w ↦ omega (arith, w.if-left-eq0.true, c.tries.invariant.some)
      | then-left-eq0-via-else-left-eq0+then-is_final w ↦ absurd (true≢false (sym w.if-is_final.true ∙ (w.is_final.ensures ∙ on)))
    ])

pub tries-preserved : goal.tries-preserved
tries-preserved g c =
    let heard : heard_by c.args.number (try_of c.try_once-tried.result c.try_once-tried.new.room.body) ≡ heard_data c.in_ok-heard.heard =
    subst (λ (body : List ℕ). heard_by c.args.number (try_of c.try_once-tried.result body) ≡ heard_data c.in_ok-heard.heard) c.body.ensures (sym c.in_ok-heard.ensures) in
    record {
      some = omega (arith, c.if-left-eq0.false);
      so_far = try_more _ _ _ _ _ _ _ _ _ _ _ _ _ _ c.tries.invariant.so_far c.try_once-tried.ensures.tried (heard_data c.in_ok-heard.heard) heard
          (sym c.is_final.ensures ∙ c.if-is_final.false) _ (omega (arith, c.if-left-eq0.false, c.tries.invariant.some));
    }
