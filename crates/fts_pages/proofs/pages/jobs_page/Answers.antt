-- A page has no float.
use Rattle.fts_pages.specs.Pages.{question_of, jobs_behind}
use Rattle.fts_pages.specs.declared.pages.TheConstants.{MAX_LOOKED_AT}
use Rattle.fts_pages.proofs.Floats.{page-no_float}
use Rattle.fts_pages.proofs.pages.jobs_page.Goals as goal

pub text_of-requires : goal.text_of-requires
text_of-requires c = rw c.in_ok-value.ensures (page-no_float MAX_LOOKED_AT c.args.desk.now.tables c.args.chronicle.now.told.finishes
    (question_of c.args.asked.now) (jobs_behind c.args.desk.now.tables (question_of c.args.asked.now)))
