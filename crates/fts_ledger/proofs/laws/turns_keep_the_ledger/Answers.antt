-- Each clause of the law.
use Rattle.fts_ledger.proofs.Begun.{fits_none}
use Rattle.fts_ledger.proofs.Passed.{turn_keeps, turns_keep, worker_keeps}
use Rattle.fts_ledger.proofs.laws.turns_keep_the_ledger.Goals as goal

pub returns : goal.returns
returns g c =
    let machine = c.machine_laws.ensures in
    record { begins = fits_none; turn = turn_keeps g.E.Store machine; turns = turns_keep g.E.Store machine; worker = worker_keeps g.E.Store machine }
