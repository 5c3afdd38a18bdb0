use denote.Param.Send.{sendable}
use Rattle.std.proofs.Crossing.{crosses}
use Rattle.fts_tables.proofs.clock.ListClock.TheSendSync as clock
use Rattle.fts_tables.proofs.words.ListWords.TheSendSync as words
use Rattle.fts_disk.proofs.memory.MemoryDisk.TheSendSync as disk
use Rattle.fts_turnstile.proofs.turnstile.Turnstile.TheSendSync as turnstile
use Rattle.fts_shop.proofs.Crosses.{shop-send, station-send}
use Rattle.fts_workers_trial.proofs.threads.holding.HeldStore.TheSendSync as held
use Rattle.fts_workers_trial.proofs.threads.tests.work_and_cancel.Goals as goal

pub join_mut-requires-send-F : goal.join_mut-requires-send-F
join_mut-requires-send-F g c κs within = search (
  crosses,
  station-send,
  shop-send,
  turnstile.the_sync,
  disk.the_send,
  clock.the_send,
  words.the_send,
  held.the_send,
  sendable,
) depth 60 fits 20000
