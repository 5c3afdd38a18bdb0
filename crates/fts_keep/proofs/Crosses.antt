-- A keep may go to another thread, where its disk may.
use denote.RattleType.{RattleType}
use denote.Param.Send.{IsSend, sendable}
use Rattle.std.proofs.Crossing.{crosses}
use Rattle.fts_disk.specs.declared.disk.Disk as disk
use Rattle.fts_journal.proofs.journal.Journal.TheSendSync as journal
use Rattle.fts_desk.proofs.Crosses.{desk-send}
use Rattle.fts_keep.proofs.list.EntryList.TheSendSync as list
use Rattle.fts_keep.specs.contracts.keep.Keep as Keep

pub keep-send : (T : RattleType) (ghosts : disk.Ghosts T.Denot) → IsSend T → IsSend (Keep.the_row T ghosts)
keep-send T ghosts disk-send = search (crosses, desk-send, journal.the_send, list.the_send, sendable) depth 60 fits 20000
