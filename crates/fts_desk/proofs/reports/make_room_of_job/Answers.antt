-- Room for the job's rows is room at their places.
use Rattle.std.proofs.lemmas.Result.{on_ok_weaker}
use Rattle.fts_desk.proofs.RowsBeside.{room_of_job}
use Rattle.fts_desk.proofs.reports.make_room_of_job.Goals as goal

pub returns-in-Replica : goal.returns-in-Replica
returns-in-Replica c = record {
  room = on_ok_weaker c.make_room_of_rows.result
      (λ room differs. room_of_job c.args.rows.now c.rows_of_job.result.now c.args.job.now c.make_room_of_rows.new.parts c.requires.together
      c.rows_of_job.ensures.rows room)
      c.make_room_of_rows.ensures.room;
  risen = c.make_room_of_rows.ensures.risen;
}
