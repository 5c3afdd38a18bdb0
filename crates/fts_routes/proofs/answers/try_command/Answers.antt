-- What each outcome of the command comes to.
use Rattle.std.proofs.Common.{◌≡◌, ap, subst, ◌∙◌}
use Rattle.std.specs.Prelude.{IfOk}
use Rattle.serde_json.specs.Data.{Data}
use Rattle.fts_tables.specs.Tables.{Tables}
use Rattle.fts_tables.specs.Step.{step}
use Rattle.fts_keep.specs.Keeps.{KeepData}
use Rattle.fts_keep.specs.Applied.{entry_by}
use Rattle.fts_routes.specs.Replies.{reply_to_refusal}
use Rattle.fts_routes.specs.Planned.{ShowsUnchanged}
use Rattle.fts_routes.proofs.Asked.{asked-refusals}
use Rattle.fts_routes.proofs.Coming.{refused-step, comes-refused, comes-full, comes-without_disk, comes-without_memory}
use Rattle.fts_routes.proofs.answers.try_command.Goals as goal

pub refused-requires : goal.refused-requires
refused-requires g c =
    asked-refusals c.args.keep.now.tables c.args.command c.in-Err-Rule.refusal c.requires.asked
    (refused-step c.args.keep.now.used (entry_by c.args.writer c.args.command) (step c.args.keep.now.tables c.args.command) c.in-Err-Rule.refusal
    (rw c.in-Err-Rule.field-0-is at c.in-Err-Rule.ensures.applied).0)

pub returns-in-Err-Rule-clause-comes : goal.returns-in-Err-Rule-clause-comes
returns-in-Err-Rule-clause-comes g c =
    let applied = rw c.in-Err-Rule.field-0-is at c.in-Err-Rule.ensures.applied in
    comes-refused g.D.Disk.state g.D.Disk.faults c.args.keep.now c.apply.new.self c.args.writer c.args.command c.args.reply
    c.or_no_memory.result c.in-Err-Rule.refusal c.refused.result applied.0 applied.1
    (subst (λ (tables : Tables). IfOk c.refused.result (λ reply. (shown : Tables → Data) → ShowsUnchanged shown tables c.args.reply c.in-Err-Rule.refusal
    → reply ≡ reply_to_refusal tables shown c.in-Err-Rule.refusal)) (c.desk.ensures.tables ∙ ap (λ (keep : KeepData g.row.D.Denot). keep.tables) applied.1) c.refused.ensures)
    c.or_no_memory.ensures.ok c.or_no_memory.ensures.err

pub returns-in-Err-DiskFailed-clause-comes : goal.returns-in-Err-DiskFailed-clause-comes
returns-in-Err-DiskFailed-clause-comes g c = λ shown outcome.
    comes-without_disk g.D.Disk.state g.D.Disk.faults c.args.keep.now c.apply.new.self c.args.writer c.args.command
    c.or_no_memory-in-Err-DiskFailed.result c.disk_failed.result (rw c.in-Err-DiskFailed.field-0-is at c.in-Err-DiskFailed.ensures.applied) c.disk_failed.ensures
    c.or_no_memory-in-Err-DiskFailed.ensures.ok c.or_no_memory-in-Err-DiskFailed.ensures.err shown

pub returns-in-Err-JournalFull-clause-comes : goal.returns-in-Err-JournalFull-clause-comes
returns-in-Err-JournalFull-clause-comes g c = λ shown outcome.
    let applied = rw c.in-Err-JournalFull.field-0-is at c.in-Err-JournalFull.ensures.applied in
    comes-full g.D.Disk.state g.D.Disk.faults c.args.keep.now c.apply.new.self c.args.writer c.args.command
    c.or_no_memory-in-Err-JournalFull.result c.in-Err-JournalFull.field-0-0 c.journal_full.result applied.0 applied.1
    c.journal_full.ensures c.or_no_memory-in-Err-JournalFull.ensures.ok c.or_no_memory-in-Err-JournalFull.ensures.err shown

pub returns-in-Err-Memory-clause-comes : goal.returns-in-Err-Memory-clause-comes
returns-in-Err-Memory-clause-comes g c = λ shown outcome.
    comes-without_memory g.D.Disk.state g.D.Disk.faults c.args.keep.now c.apply.new.self c.args.writer c.args.command
    c.no_memory.result (rw c.in-Err-Memory.field-0-is at c.in-Err-Memory.ensures.applied) c.no_memory.ensures shown
