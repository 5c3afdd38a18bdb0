-- What is counted stays where room is made, and what is tied to rows and jobs stays so.
use Rattle.std.proofs.Common.{List, sym, subst, ◌∙◌}
use Rattle.fts_tables.specs.declared.rows.FileRow.{FileRow}
use Rattle.fts_tables.specs.declared.rows.JobRow.{JobRow}
use Rattle.fts_desk.specs.Parts.{IsBeside}
use Rattle.fts_desk.specs.declared.kept.Beside.{Beside}
use Rattle.fts_desk.proofs.InLineParts.{line_risen}
use Rattle.fts_desk.proofs.RowsBeside.{risen_tied, risen_limits}
use Rattle.fts_desk.proofs.submit.make_room_for.Goals as goal

pub invariant_of-kept-then-is_err-4-clause-beside_rows : goal.invariant_of-kept-then-is_err-4-clause-beside_rows
invariant_of-kept-then-is_err-4-clause-beside_rows c =
    let kept = c.args.kept.now in
    let beside : Beside = record { counts = c.count_later.new.counts; parts = kept.beside.parts } in
    subst (λ (rows : List FileRow). IsBeside c.reserve.new.self.items rows beside) (sym c.reserve-else-is_err.ensures.items)
    (subst (λ (jobs : List JobRow). IsBeside jobs kept.rows.items beside) (sym c.reserve.ensures.items)
    (record { counts = c.count_later.ensures.counts kept.jobs.items kept.rows.items kept.beside_rows.counts; parts = kept.beside_rows.parts; line = kept.beside_rows.line }))

pub invariant_of-kept-2-clause-beside_rows : goal.invariant_of-kept-2-clause-beside_rows
invariant_of-kept-2-clause-beside_rows c =
    let kept = c.args.kept.now in
    let beside : Beside = record { counts = c.count_later.new.counts; parts = c.make_room_for_files.new.parts } in
    subst (λ (rows : List FileRow). IsBeside c.reserve.new.self.items rows beside) (sym c.reserve-else-is_err.ensures.items)
    (subst (λ (jobs : List JobRow). IsBeside jobs kept.rows.items beside) (sym c.reserve.ensures.items)
    (record {
      counts = c.count_later.ensures.counts kept.jobs.items kept.rows.items kept.beside_rows.counts;
      parts = risen_tied kept.jobs.items kept.rows.items kept.beside.parts c.make_room_for_files.new.parts c.make_room_for_files.ensures.risen
          kept.beside_rows.parts;
      line = line_risen kept.rows.items kept.beside.parts c.make_room_for_files.new.parts c.make_room_for_files.ensures.risen kept.beside_rows.line;
    }))

pub invariant_of-kept-2-clause-of_settings : goal.invariant_of-kept-2-clause-of_settings
invariant_of-kept-2-clause-of_settings c =
    risen_limits c.args.kept.now.beside.parts c.make_room_for_files.new.parts c.make_room_for_files.ensures.risen ∙ c.args.kept.now.of_settings
