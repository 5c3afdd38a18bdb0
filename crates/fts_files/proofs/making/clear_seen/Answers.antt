use Rattle.fts_files.proofs.Playing.{then_leads}
use Rattle.fts_files.proofs.Makings.{plain_leads, other_leads}
use Rattle.fts_files.proofs.making.clear_seen.Goals as goal

pub returns-in-File : goal.returns-in-File
returns-in-File g c next ended = then_leads (plain_leads _ _ _ _ c.in-File.is) (c.clear_plain.ensures next ended)

pub returns-in-Folder : goal.returns-in-Folder
returns-in-Folder g c next ended = other_leads _ _ _ _ c.in-Folder.is
