use Rattle.std.proofs.Common.{◌≤◌, List, length, map, ap, sym, ◌∙◌, subst}
use Rattle.std.specs.Prelude.{max}
use Rattle.std.specs.Vec.{with_items}
use Rattle.std.proofs.lemmas.List.{with_items_is}
use Rattle.fts_tables.specs.Tables.{job_at}
use Rattle.fts_tables.specs.declared.commands.Answer.TheVariants.{PrioritySet}
use Rattle.fts_tables.specs.declared.rows.FileRow.{FileRow}
use Rattle.fts_tables.specs.declared.rows.JobRow.{JobRow}
use Rattle.fts_desk.specs.Kept.{tables_kept}
use Rattle.fts_desk.specs.Counted.{AreCountsOf}
use Rattle.fts_desk.specs.Parts.{AreTiedParts, AreInLineParts}
use Rattle.fts_desk.specs.Standing.{prioritized}
use Rattle.fts_desk.proofs.Counted.{counts_prioritized}
use Rattle.fts_desk.proofs.JobIds.{ids-prioritized}
use Rattle.fts_desk.proofs.Found.{priority_set, jobs_done, job_inside}
use Rattle.fts_desk.proofs.Numbered.{number_at}
use Rattle.fts_desk.proofs.LentTables.{job_there, together_there}
use Rattle.fts_desk.proofs.priority.set_priority.Goals as goal

pub returns : goal.returns
returns c =
    let tables = tables_kept c.args.kept.now in
    let now = max c.args.now c.args.kept.now.moment in
    let change = prioritized c.args.job c.args.priority in
    let jobs = ap (map change) (sym c.deref_mut.ensures.value) ∙ sym c.prioritize.ensures.jobs
    ∙ sym (with_items_is c.args.kept.now.jobs c.prioritize.new.jobs (c.prioritize.auto.jobs ∙ c.deref_mut.ensures.len)) in
    record {
      step = priority_set tables now c.args.job c.args.priority c.requires.accepted
          ∙ jobs_done tables (PrioritySet c.args.job) now c.max-kept.result (map change tables.jobs)
          (with_items c.args.kept.now.jobs c.prioritize.new.jobs).items (sym c.max-kept.ensures) jobs;
    }

pub prioritize-requires-clause-first : goal.prioritize-requires-clause-first
prioritize-requires-clause-first c =
    (job_inside (tables_kept c.args.kept.now) (max c.args.now c.args.kept.now.moment) c.args.job c.args.priority c.requires.formed.jobs c.requires.accepted).0

pub prioritize-requires-clause-last : goal.prioritize-requires-clause-last
prioritize-requires-clause-last c = subst (λ (jobs : List JobRow). c.args.job ≤ length jobs) (sym c.deref_mut.ensures.value)
    (job_inside (tables_kept c.args.kept.now) (max c.args.now c.args.kept.now.moment) c.args.job c.args.priority c.requires.formed.jobs c.requires.accepted).1

pub prioritize_waiting-requires-clause-job : goal.prioritize_waiting-requires-clause-job
prioritize_waiting-requires-clause-job c =
    let job = c.index.result.now in
    let found = job_there c.requires.formed c.args.job c.in-Some.place job c.deref.ensures.value c.in-Some.ensures.job c.in-Some.ensures.inside.0
    c.index.ensures in
    ap (λ (jobs : List JobRow). job_at jobs job.number) c.deref-in-Some.ensures.value
    ∙ ap (job_at c.args.kept.now.jobs.items) (number_at c.args.kept.now.jobs.items c.args.job job found) ∙ found

pub prioritize_waiting-requires-clause-together : goal.prioritize_waiting-requires-clause-together
prioritize_waiting-requires-clause-together c =
    together_there c.requires.formed c.args.job c.in-Some.place c.index.result.now c.deref.ensures.value c.in-Some.ensures.job c.in-Some.ensures.inside.0
    c.index.ensures c.deref-in-Some-2.ensures.value

pub invariant_of-kept : goal.invariant_of-kept
invariant_of-kept c =
    let jobs = c.args.kept.now.jobs.items in
    let job = c.index.result.now in
    let found = job_there c.requires.formed c.args.job c.in-Some.place job c.deref.ensures.value c.in-Some.ensures.job c.in-Some.ensures.inside.0
    c.index.ensures in
    let change = prioritized c.args.job c.args.priority in
    let changed = ap (map change) (sym c.deref_mut.ensures.value) ∙ sym c.prioritize.ensures.jobs
    ∙ sym (with_items_is c.args.kept.now.jobs c.prioritize.new.jobs (c.prioritize.auto.jobs ∙ c.deref_mut.ensures.len)) in
    record {
      beside_rows = record {
        counts = subst (λ (jobs : List JobRow). AreCountsOf jobs c.args.kept.now.rows.items c.args.kept.now.beside.counts) changed
            (counts_prioritized c.dues_of_other_jobs.ensures.alike c.args.job c.args.priority jobs c.args.kept.now.rows.items c.args.kept.now.beside.counts
            c.args.kept.now.beside_rows.counts);
        parts = subst (λ (jobs : List JobRow). AreTiedParts jobs c.args.kept.now.rows.items c.prioritize_waiting.new.parts)
            (ap (map (prioritized job.number c.args.priority)) c.deref-in-Some.ensures.value
            ∙ ap (λ number. map (prioritized number c.args.priority) jobs) (number_at jobs c.args.job job found) ∙ changed)
            (subst (λ (rows : List FileRow). AreTiedParts (map (prioritized job.number c.args.priority) c.deref-in-Some.result.now) rows
            c.prioritize_waiting.new.parts) c.deref-in-Some-2.ensures.value c.prioritize_waiting.ensures.tied);
        line = subst (λ (rows : List FileRow). AreInLineParts rows c.prioritize_waiting.new.parts) c.deref-in-Some-2.ensures.value
            c.prioritize_waiting.ensures.line;
      };
      of_settings = c.prioritize_waiting.ensures.limits ∙ c.args.kept.now.of_settings;
      of_bans = c.args.kept.now.of_bans;
      ids_of_jobs = c.args.kept.now.ids_of_jobs ∙ sym (ids-prioritized c.args.job c.args.priority jobs) ∙ ap (map (λ (job : JobRow). job.id)) changed;
    }
