use Rattle.fts_files.specs.Calls.{saw_of}
use Rattle.fts_files.proofs.Writings.{value_leads}
use Rattle.fts_store.specs.Folders.{device_seen, sees_device}
use Rattle.fts_store.proofs.folders.see_device.Goals as goal

pub returns : goal.returns
unfolding sees_device
returns g c next = value_leads _ device_seen next _ _ (saw_of c.look.result) c.device_seen.result c.look.ensures c.device_seen.ensures
