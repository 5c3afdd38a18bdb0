-- The list holds what is shown so far.
use Rattle.std.proofs.Common.{◌+◌, take}
use Rattle.std.specs.List.{slice_range}
use Rattle.serde_json.specs.View.{view}
use Rattle.fts_routes.proofs.Listed.{ShownSoFar}
use Rattle.fts_pages.specs.Pages.{question_of, is_asked, in_order, job_shown}
use Rattle.fts_pages.proofs.walk.list_matching.Given as goal

abbrev pub invariant-loop-turn : goal.invariant-loop-turn
invariant-loop-turn l = ShownSoFar view (job_shown l.desk.tables l.chronicle.told.finishes) (is_asked l.desk.tables (question_of l.asked)) (l.asked.limit + 1)
    (take l.most (in_order l.asked.newest (slice_range l.desk.tables.jobs l.places.first l.places.last))) l.turn l.list.items
