-- Each of the laws, by its clause.
use Rattle.fts_serving.proofs.laws.cited_laws.Goals as goal

pub returns-clause-lists : goal.returns-clause-lists
returns-clause-lists g c = record {
  claimed = c.files_out_have_claimants.ensures.claimed;
  asked = c.files_out_have_claimants.ensures.asked;
  before = c.files_out_have_claimants.ensures.before;
  restarted = c.files_out_have_claimants.ensures.restarted;
  settings = c.files_out_have_claimants.ensures.settings;
  none = c.files_out_have_claimants.ensures.none;
  reports = c.files_out_have_claimants.ensures.reports;
  others = c.passes_see_one_list.ensures.none;
  undisturbed = c.own_reports_disturb_nobody.ensures;
  idle = c.idle_claims_find_none.ensures.none;
  earlier = c.idle_claims_find_none.ensures.earlier;
}

pub returns-clause-stores : goal.returns-clause-stores
returns-clause-stores g c = record {
  own = record {
    begins = c.turns_keep_the_ledger.ensures.begins;
    worker = c.turns_keep_the_ledger.ensures.worker;
    legal = c.passes_see_one_list.ensures.legal;
    own = c.passes_see_one_list.ensures.own;
    work = c.passes_see_one_list.ensures.work;
  };
  before = c.passes_see_one_list.ensures.before;
  follow = c.undisturbed_stores_follow.ensures.worker;
}
