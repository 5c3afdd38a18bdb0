use Rattle.std.proofs.Common.{◌∙◌, ap}
use Rattle.fts_files.specs.Calls.{saw_of}
use Rattle.fts_store.specs.Meeting.{there_of}
use Rattle.fts_store.proofs.meeting.see_folder.Goals as goal

pub returns : goal.returns
returns g c = (saw_of c.look.result, (c.look.ensures, c.there_of.ensures ∙ ap there_of c.device_seen.ensures))
