-- A job has no float.
use Rattle.fts_pages.proofs.Floats.{job-no_float}
use Rattle.fts_pages.proofs.pages.job_page.Goals as goal

pub text_of-requires : goal.text_of-requires
text_of-requires c = rw c.in_ok-value-in-Some.ensures (job-no_float c.args.desk.now.tables c.args.chronicle.now.told c.in-Some.job)
