-- Each clause of the law.
use Rattle.fts_workers.proofs.Requested.{over_accepted, over_same, over_started}
use Rattle.fts_workers.proofs.laws.benches_stay_over_lists.Goals as goal

pub returns-clause-started : goal.returns-clause-started
returns-clause-started g c = λ keep bench opening now settings legal folded counted none. over_started keep bench opening now settings legal folded counted none

pub returns-clause-accepted : goal.returns-clause-accepted
returns-clause-accepted g c = λ old new bench entry answer entries of done over.
    over_accepted c.tables_are_well_formed.ensures.formed c.files_out_are_the_active_rows.ensures.out g.D.Disk.state old new bench entry answer entries of done
    over

pub returns-clause-same : goal.returns-clause-same
returns-clause-same g c = λ old new bench entries keeps over. over_same g.D.Disk.state old new bench entries keeps over
