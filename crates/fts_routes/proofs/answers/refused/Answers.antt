-- The id of the job that has it.
use Rattle.std.proofs.Common.{◌≡◌, ℕ, ap, ◌∙◌, Ok, Err, Result}
use Rattle.std.specs.Prelude.{IfOk}
use Rattle.fts_tables.specs.declared.names.Memory.{Memory}
use Rattle.fts_tables.specs.declared.commands.Refusal.TheVariants.{Duplicate}
use Rattle.serde_json.specs.Data.{Data}
use Rattle.fts_tables.specs.Tables.{Tables}
use Rattle.fts_wire.specs.declared.response.Reply.{Reply}
use Rattle.fts_routes.specs.Refusals.{duplicate}
use Rattle.fts_routes.specs.Replies.{reply_to_refusal, id_of_job}
use Rattle.fts_routes.specs.Planned.{ShowsUnchanged}
use Rattle.fts_routes.proofs.answers.refused.Goals as goal

with-id : (tables : Tables) (unchanged : Reply) (job id : ℕ) (made : Result Reply Memory) → IfOk made (λ reply. reply ≡ duplicate id) → id ≡ id_of_job tables job
    → IfOk made (λ reply. (shown : Tables → Data) → ShowsUnchanged shown tables unchanged (Duplicate job) → reply ≡ reply_to_refusal tables shown (Duplicate job))
with-id tables unchanged job id (Ok reply) is same = λ shown unsaid. is ∙ ap duplicate same
with-id tables unchanged job id (Err e) is same = tt

pub returns-in-Duplicate : goal.returns-in-Duplicate
returns-in-Duplicate c = rw c.in-Duplicate.is (with-id c.args.desk.now.tables c.args.unchanged c.in-Duplicate.job c.id_of_job.result c.duplicate.result c.duplicate.ensures c.id_of_job.ensures)
