-- A desk may go to another thread.
use denote.Param.Send.{IsSend, sendable}
use Rattle.std.proofs.Crossing.{crosses}
use Rattle.fts_claims.proofs.Crosses.{parts-send, parts-field-send}
use Rattle.fts_index.proofs.job_ids.JobIds.TheSendSync as ids
use Rattle.fts_index.proofs.loads.Loads.TheSendSync as loads
use Rattle.fts_tables.proofs.rows.FileRow.TheSendSync as file_row
use Rattle.fts_tables.proofs.rows.JobRow.TheSendSync as job_row
use Rattle.fts_tables.proofs.settings.Settings.TheSendSync as settings
use Rattle.fts_tables.proofs.commands.Command.TheSendSync as command
use Rattle.fts_tables.proofs.places.Place.TheSendSync as place
use Rattle.fts_desk.specs.contracts.kept.Kept as Kept
use Rattle.fts_desk.specs.contracts.kept.Beside as Beside
use Rattle.fts_desk.specs.contracts.commands.Decided as Decided
use Rattle.fts_desk.specs.contracts.desk.Desk as Desk

beside-send : IsSend Beside.the_row
beside-send = search (crosses, parts-send, parts-field-send, loads.the_send, sendable) depth 60 fits 20000

beside-field-send : IsSend (Beside.the_field).row
beside-field-send = search (crosses, parts-send, parts-field-send, loads.the_send, sendable) depth 60 fits 20000

kept-field-send : IsSend (Kept.the_field).row
kept-field-send = search (
  crosses,
  beside-send,
  beside-field-send,
  ids.the_send,
  file_row.the_send,
  file_row.the_field_send,
  job_row.the_send,
  job_row.the_field_send,
  settings.the_send,
  sendable,
) depth 60 fits 20000

decided-send : IsSend Decided.the_row
decided-send = search (crosses, parts-send, parts-field-send, place.the_send, place.the_field_send, sendable) depth 60 fits 20000

decided-field-send : IsSend (Decided.the_field).row
decided-field-send = search (crosses, parts-send, parts-field-send, place.the_send, place.the_field_send, sendable) depth 60 fits 20000

pub desk-send : IsSend Desk.the_row
desk-send = search (crosses, kept-field-send, decided-send, decided-field-send, command.the_send, command.the_field_send, sendable) depth 60 fits 20000
