use Rattle.std.proofs.Common.{rules, sym, ◌∙◌}
use Rattle.fts_files.specs.Script.{fails}
use Rattle.fts_files.proofs.Playing.{then_leads, does_leads, failed}
use Rattle.fts_disk.proofs.Guardings.{zeros_lead, no_zeros_lead}
use Rattle.fts_disk.proofs.guard.make_ready.Goals as goal

pub returns-then-not-needs_zeros : goal.returns-then-not-needs_zeros
returns-then-not-needs_zeros g c next = no_zeros_lead _ c.args.ready c.args.at c.args.size next _ (sym c.needs_zeros.ensures ∙ c.if-not-needs_zeros.true)

pub returns-in_err-write_zeros : goal.returns-in_err-write_zeros
returns-in_err-write_zeros g c next = failed next fails c.from_residual.result
    (then_leads (zeros_lead _ c.args.ready c.args.at c.args.size c.ready_end-to.result next _ c.ready_end-to.ensures (sym c.needs_zeros.ensures ∙ c.if-not-needs_zeros.false)) (c.in_err-write_zeros.ensures _)) (search rules)

pub returns-in_err-sync_data : goal.returns-in_err-sync_data
returns-in_err-sync_data g c next = failed next fails c.from_residual-in_err-sync_data.result
    (then_leads (zeros_lead _ c.args.ready c.args.at c.args.size c.ready_end-to.result next _ c.ready_end-to.ensures (sym c.needs_zeros.ensures ∙ c.if-not-needs_zeros.false))
    (then_leads (c.in_ok-write_zeros.ensures _) (does_leads _ _ _ _ _ c.in_err-sync_data.ensures))) (search rules)

pub returns : goal.returns
returns g c next =
    then_leads (zeros_lead _ c.args.ready c.args.at c.args.size c.ready_end-to.result next _ c.ready_end-to.ensures (sym c.needs_zeros.ensures ∙ c.if-not-needs_zeros.false))
    (then_leads (c.in_ok-write_zeros.ensures _) (does_leads _ _ _ _ _ c.in_ok-sync_data.ensures))
