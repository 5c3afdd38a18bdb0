-- The clauses of the law, by the tries one after the other.
use Rattle.fts_client.proofs.CountedDials.{all_dials, all_back, all_at_port, all_given}
use Rattle.fts_client.proofs.tries.each_try_is_a_dial.Goals as goal

pub returns : goal.returns
returns g c = record {
  dials = λ read written port request old new faults_old faults_new tries tried. all_dials read written port request old new faults_old faults_new tries tried;
  back = λ read written port request old new faults_old faults_new tries tried. all_back read written port request old new faults_old faults_new tries tried;
  port = λ read written port request old new faults_old faults_new tries tried. all_at_port read written port request old new faults_old faults_new tries tried;
  given = λ read written port request old new faults_old faults_new tries tried. all_given read written port request old new faults_old faults_new tries tried;
}
