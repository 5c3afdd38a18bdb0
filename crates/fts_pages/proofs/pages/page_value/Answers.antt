-- The page by its parts, over the jobs behind the one that is asked for.
use Rattle.std.specs.Prelude.{filter}
use Rattle.std.specs.List.{slice_range}
use Rattle.fts_pages.specs.Pages.{question_of, is_behind}
use Rattle.fts_pages.proofs.Parts.{page-told}
use Rattle.fts_pages.proofs.pages.page_value.Goals as goal

pub returns : goal.returns
returns c = page-told c.args.most c.args.desk.now.tables c.args.chronicle.now.told.finishes (question_of c.args.asked.now)
    (slice_range c.args.desk.now.tables.jobs c.places_behind-places.result.first c.places_behind-places.result.last)
    (filter (is_behind c.args.asked.now.newest c.args.asked.now.after) c.args.desk.now.tables.jobs)
    c.in_ok-list.list.items c.truncate.new.self.items c.as_slice.result.now c.in_ok-next.next c.value_of_page.result
    c.places_behind-places.ensures.jobs c.in_ok-list.ensures c.truncate.ensures.items c.as_slice.ensures.value c.in_ok-next.ensures c.value_of_page.ensures
