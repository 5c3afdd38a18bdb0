-- Each clause of the law.
use Rattle.fts_ledger.proofs.Claimants.{claimed_behind, none_out_restarted, out_before_others}
use Rattle.fts_ledger.proofs.Asked.{asked_reports, asked_unclaimed, no_restarts, settings_stay}
use Rattle.fts_ledger.proofs.laws.files_out_have_claimants.Goals as goal

pub returns : goal.returns
returns c = record {
  claimed = claimed_behind;
  asked = asked_unclaimed;
  before = out_before_others;
  restarted = λ entries writer now settings legal. none_out_restarted entries writer now settings;
  settings = λ entries writer now settings more none legal. settings_stay entries writer now settings more none;
  none = no_restarts;
  reports = asked_reports;
}
