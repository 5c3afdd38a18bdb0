-- The walk over the jobs, up to one more than may be shown.
use Rattle.std.proofs.Common.{◌+◌, ◌-◌, length, take, drop, ap, arith}
use Rattle.std.specs.Prelude.{filter}
use Rattle.std.specs.List.{slice_range}
use Rattle.std.proofs.lemmas.List.{length-take}
use Rattle.serde_json.specs.View.{view}
use Rattle.fts_tables.specs.declared.rows.JobRow.{JobRow}
use Rattle.fts_routes.proofs.Listed.{all-shown, nothing-over}
use Rattle.fts_routes.proofs.Numbered.{own-number}
use Rattle.fts_pages.specs.Pages.{question_of, is_asked, in_order, job_shown}
use Rattle.fts_pages.proofs.Listed.{so-far-next, nothing-past}
use Rattle.fts_pages.proofs.Order.{order-length}
use Rattle.fts_pages.proofs.Turns.{turn-shown}
use Rattle.fts_pages.proofs.walk.list_matching.Goals.{else-loop-turn-test, then-loop-turn-test+then-as_slice-asked}
use Rattle.fts_pages.proofs.walk.list_matching.Goals as goal

pub value_if_asked-requires : goal.value_if_asked-requires
value_if_asked-requires c = rw c.jobs-jobs.ensures.jobs (own-number (λ (job : JobRow). job.number) c.args.desk.now.tables.jobs c.place_at-place.result _
    c.standing.ensures.standing.formed.jobs (omega (arith, c.place_at-place.ensures.inside, c.requires.inside)))

pub loop-turn-preserved : goal.loop-turn-preserved
loop-turn-preserved c =
    let tables = c.args.desk.now.tables in
    let finishes = c.args.chronicle.now.told.finishes in
    let asked = question_of c.args.asked.now in
    let behind = in_order asked.newest (slice_range tables.jobs c.args.places.first c.args.places.last) in
    let long = order-length tables.jobs c.args.places c.requires.inside c.requires.order asked.newest in
    rw c.in_ok-add.ensures (so-far-next view (job_shown tables finishes) (is_asked tables asked) (asked.limit + 1) (take c.args.most behind)
    c.loop-turn.turn c.loop-turn.list.items _ c.in_ok-value.value
    (omega (arith, length-take c.args.most behind, long, c.loop-turn-test.true, c.min-count.ensures))
    (turn-shown tables.jobs c.args.places c.requires.inside c.requires.order tables finishes asked c.args.most c.loop-turn.turn c.place_at-place.result _
    c.jobs-jobs.result.now c.in_ok-value.value c.jobs-jobs.ensures.jobs c.place_at-place.ensures.place
    (omega (arith, c.loop-turn-test.true, c.min-count.ensures)) (omega (arith, c.loop-turn-test.true, c.min-count.ensures)) c.in_ok-value.ensures)
    (omega (arith, c.if-as_slice-asked.false, ap length c.as_slice.ensures.value)) c.loop-turn.invariant)

pub returns : goal.returns
returns c =
    let tables = c.args.desk.now.tables in
    let finishes = c.args.chronicle.now.told.finishes in
    let asked = question_of c.args.asked.now in
    let behind = in_order asked.newest (slice_range tables.jobs c.args.places.first c.args.places.last) in
    let long = order-length tables.jobs c.args.places c.requires.inside c.requires.order asked.newest in
    all-shown view (job_shown tables finishes) (is_asked tables asked) (asked.limit + 1) (take c.args.most behind) c.loop-turn.turn c.loop-turn.list.items
    (elim c.loop-turn-test.branch [
      | else-loop-turn-test w ↦ nothing-past (is_asked tables asked) (asked.limit + 1 - length c.loop-turn.list.items) (take c.args.most behind) c.loop-turn.turn
          (omega (arith, w.loop-turn-test.false, length-take c.args.most behind, long, c.min-count.ensures))
      | then-loop-turn-test+then-as_slice-asked w ↦ nothing-over (asked.limit + 1) (length c.loop-turn.list.items)
          (filter (is_asked tables asked) (drop c.loop-turn.turn (take c.args.most behind)))
          (omega (arith, w.if-as_slice-asked.true, ap length w.as_slice.ensures.value))
    ])
    c.loop-turn.invariant
