-- Each clause of the law.
use Rattle.fts_ledger.proofs.InTurns.{none_by}
use Rattle.fts_ledger.proofs.Stations.{legal_seen, own_in_all, own_none, undisturbed_seen, work_in_all}
use Rattle.fts_ledger.proofs.laws.passes_see_one_list.Goals as goal

pub returns : goal.returns
returns c = record { legal = legal_seen; before = undisturbed_seen; own = own_in_all; work = work_in_all; others = none_by; none = own_none }
