use Rattle.fts_files.specs.Calls.{saw_of}
use Rattle.fts_files.specs.Moving.{sees_mode, mode_seen}
use Rattle.fts_files.proofs.Writings.{value_leads}
use Rattle.fts_files.proofs.moving.see_mode.Goals as goal

pub returns : goal.returns
unfolding sees_mode
returns g c next = value_leads _ mode_seen next _ _ (saw_of c.look_at_name.result) c.mode_seen.result c.look_at_name.ensures c.mode_seen.ensures
