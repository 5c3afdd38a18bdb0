-- By the world of what was read, and what following came to in it.
use Rattle.fts_standby_laws.proofs.FollowedService.{walks, leaves_beginning, has_early, both_ways}
use Rattle.fts_standby_laws.proofs.serving.following_a_service_begins_its_list.Goals as goal

pub returns : goal.returns
returns g c =
    let read_back = c.what_is_spelled_is_read.ensures.read in
    let taking = c.taking_is_steps.ensures in
    let follows = c.standby_follows.ensures in
    let steps = c.following_is_steps.ensures.steps in
    let begins = c.following_is_steps.ensures.begins in
    record {
      walks = λ port most old new link left broken failed end early primary followed asks.
          walks g.D.Disk.state g.D.Disk.faults _ _ port most old new link left broken failed end early primary followed asks read_back taking
          (λ w is come. steps port most old new link left broken failed end w followed asks.told is come);
      begins = λ port most old new link left broken failed end early primary followed asks.
          leaves_beginning g.D.Disk.state g.D.Disk.faults _ _ port most old new link left broken failed end early primary followed asks read_back taking follows
          (λ w is come. steps port most old new link left broken failed end w followed asks.told is come) (begins old new);
      caught_up = λ port most old new link left broken failed count early primary followed asks.
          has_early g.D.Disk.state g.D.Disk.faults _ _ port most old new link left broken failed count early primary followed asks
          (leaves_beginning g.D.Disk.state g.D.Disk.faults _ _ port most old new link left broken failed _ early primary followed asks read_back taking follows
          (λ w is come. steps port most old new link left broken failed _ w followed asks.told is come) (begins old new)).standby.list;
      all = λ port most old new link left broken failed count primary followed asks.
          let list = (leaves_beginning g.D.Disk.state g.D.Disk.faults _ _ port most old new link left broken failed _ primary primary followed asks read_back taking follows
          (λ w is come. steps port most old new link left broken failed _ w followed asks.told is come) (begins old new)).standby.list in
          both_ways _ _ list
          (has_early g.D.Disk.state g.D.Disk.faults _ _ port most old new link left broken failed count primary primary followed asks list);
    }
