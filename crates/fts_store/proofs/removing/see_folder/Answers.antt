use Rattle.fts_files.specs.Calls.{saw_of}
use Rattle.fts_files.proofs.Writings.{value_leads}
use Rattle.fts_store.specs.Removing.{folder_seen, sees_folder}
use Rattle.fts_store.proofs.removing.see_folder.Goals as goal

pub returns : goal.returns
unfolding sees_folder
returns g c next = value_leads _ folder_seen next _ _ (saw_of c.look_at_name.result) c.folder_seen.result c.look_at_name.ensures c.folder_seen.ensures
