-- One state more is looked up where it is asked for.
use Rattle.std.proofs.Common.{drop, ap, sym, ◌∙◌, arith}
use Rattle.std.specs.Prelude.{nat_lt}
use Rattle.std.specs.List.{position_from}
use Rattle.ordered.specs.Orders.{first_from}
use Rattle.fts_desk.specs.JobLists.{JobList, is_at, least_of}
use Rattle.fts_desk.proofs.JobPlaces.{is_asked_before, first_place, asked_first, asked_here, not_asked}
use Rattle.fts_desk.proofs.job_states.JobStates.next.Goals.{then-asked-at, else-asked-at}
use Rattle.fts_desk.proofs.job_states.JobStates.next.Goals as goal

pub loop-at-init : goal.loop-at-init
loop-at-init c = sym (asked_first c.args.asked.now c.args.from c.args.self.now.jobs)

pub loop-at-preserved : goal.loop-at-preserved
loop-at-preserved c =
    let at = c.loop-at.at in
    let from = c.args.from in
    let asked = c.args.asked.now in
    let jobs = c.args.self.now.jobs in
    elim c.if-asked-at.branch [
      | then-asked-at w ↦ w.found-is ∙ (w.sooner-found.ensures.least
          ∙ (ap (λ found. least_of found w.first_at.result) c.loop-at.invariant
          ∙ (ap (least_of (position_from (is_asked_before asked at) from (drop from jobs)))
          (w.first_at.ensures.place
          ∙ (ap (first_from nat_lt from) (c.self.invariant.places at c.loop-at-test.true)
          ∙ (first_place at c.self.inside.jobs.items 0 from from (omega arith)
          ∙ ap (λ (list : JobList). position_from (is_at at) from (drop from list.jobs)) c.self.view_is)))
          ∙ asked_here asked from jobs at (sym w.if-asked-at.true))))
      | else-asked-at w ↦ w.found-is ∙ (c.loop-at.invariant ∙ not_asked asked from jobs at (sym w.if-asked-at.false))
    ]
