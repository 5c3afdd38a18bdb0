-- The list holds what the rows so far show.
use Rattle.std.proofs.Common.{◌≡◌, map, take}
use Rattle.serde_json.specs.View.{view}
use Rattle.fts_pages.specs.Pages.{file_shown}
use Rattle.fts_pages.proofs.objects.rows_value.Given as goal

abbrev pub invariant-loop-row : goal.invariant-loop-row
invariant-loop-row l = map view l.list.items ≡ map (file_shown l.reports l.job l.events) (take l.row-index l.rows)
