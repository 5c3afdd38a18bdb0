-- The job's rows have room still once the row at the place has it.
use Rattle.std.proofs.lemmas.Result.{on_ok_weaker}
use Rattle.fts_desk.proofs.RowsBeside.{room_to_report}
use Rattle.fts_desk.proofs.reports.make_room_at.Goals as goal

pub returns-clause-room : goal.returns-clause-room
returns-clause-room c =
    on_ok_weaker c.make_room_to_wait.result
    (λ own. room_to_report c.args.job.now c.args.place c.args.rows.now c.index-rows-place.result c.make_room_of_job.new.parts c.make_room_to_wait.new.parts
    c.make_room_to_wait.ensures.risen c.in_ok-make_room_of_job.ensures.room c.index-rows-place.is own)
    c.make_room_to_wait.ensures.room
