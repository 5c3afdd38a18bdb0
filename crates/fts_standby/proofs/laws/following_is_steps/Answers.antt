-- By what a call came to.
use Rattle.fts_standby.proofs.ReachedWorlds.{goes_on, begins}
use Rattle.fts_standby.proofs.laws.following_is_steps.Goals as goal

pub returns : goal.returns
returns g c = record {
  steps = λ port most old new link left broken failed end w followed told is come.
      goes_on g.D.Disk.state g.D.Disk.faults _ _ port most old new link left broken failed end followed told w is come;
  begins = λ old new w from goes. begins g.D.Disk.state old new w from goes;
}
