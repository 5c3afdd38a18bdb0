use Rattle.std.proofs.Common.{rules}
use Rattle.fts_files.specs.Script.{fails}
use Rattle.fts_files.proofs.Playing.{then_leads, failed}
use Rattle.fts_disk.proofs.Guardings.{confirm_leads, unconfirmed_leads}
use Rattle.fts_disk.proofs.guard.confirm.Goals as goal

pub returns-in_err-read_back-in-ReadBack : goal.returns-in_err-read_back-in-ReadBack
returns-in_err-read_back-in-ReadBack g c next = failed next fails c.from_residual.result
    (then_leads (confirm_leads _ c.args.state c.args.at c.args.bytes.now c.in-ReadBack.writes c.in-ReadBack.from next _ c.in-ReadBack.is) (c.in_err-read_back-in-ReadBack.ensures _)) (search rules)

pub returns-in_ok-read_back-in-ReadBack : goal.returns-in_ok-read_back-in-ReadBack
returns-in_ok-read_back-in-ReadBack g c next =
    rw c.after_read_back.ensures (then_leads (confirm_leads _ c.args.state c.args.at c.args.bytes.now c.in-ReadBack.writes c.in-ReadBack.from next _ c.in-ReadBack.is) (c.in_ok-read_back-in-ReadBack.ensures _))

pub returns-in-Whole : goal.returns-in-Whole
returns-in-Whole g c next = unconfirmed_leads _ c.args.state c.args.at c.args.bytes.now next _ c.in-Whole.is
