use Rattle.std.proofs.Common.{rules}
use Rattle.fts_files.specs.Making.{clears_plain}
use Rattle.fts_files.proofs.Playing.{then_leads, does_leads, failed}
use Rattle.fts_files.proofs.making.clear_plain.Goals as goal

pub returns-in_err-old : goal.returns-in_err-old
unfolding clears_plain
returns-in_err-old g c next ended = failed (λ done. next) ended c.from_residual.result (c.in_err-old.ensures _) (search rules)

pub returns-in_err-hold : goal.returns-in_err-hold
unfolding clears_plain
returns-in_err-hold g c next ended = failed (λ done. next) ended c.from_residual-in_err-hold.result
    (then_leads (c.in_ok-old.ensures _) (c.in_err-hold.ensures _ ended)) (search rules)

pub returns-in_err-unlink : goal.returns-in_err-unlink
unfolding clears_plain
returns-in_err-unlink g c next ended = failed (λ done. next) ended c.from_residual-in_err-unlink.result
    (then_leads (c.in_ok-old.ensures _) (then_leads (c.in_ok-hold.ensures _ ended) (does_leads _ _ _ _ _ c.in_err-unlink.ensures))) (search rules)

pub returns : goal.returns
unfolding clears_plain
returns g c next ended = then_leads (c.in_ok-old.ensures _) (then_leads (c.in_ok-hold.ensures _ ended) (does_leads _ _ _ _ _ c.in_ok-unlink.ensures))
