use Rattle.fts_ledger.proofs.Stations.{undisturbed}
use Rattle.fts_ledger.proofs.laws.own_reports_disturb_nobody.Goals as goal

pub returns : goal.returns
returns c = undisturbed
