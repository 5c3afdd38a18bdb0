-- From one job asked for to the next, up to the limit.
use Rattle.std.proofs.Common.{◌-◌, ◌<◌, ◌≡◌, List, [], ◌∷◌, length, length-append, take, drop, ap, sym, subst, ◌∙◌, arith}
use Rattle.std.specs.Prelude.{filter, find, option_map}
use Rattle.std.specs.Cow.{cow_str_bytes}
use Rattle.serde_json.specs.Data.{Data, array}
use Rattle.serde_json.specs.View.{view, items_of}
use Rattle.serde_json.proofs.Views.{view-Array}
use Rattle.fts_tables.specs.declared.rows.JobRow.{JobRow}
use Rattle.fts_desk.specs.JobLists.{is_among}
use Rattle.fts_routes.specs.Json.{array_of}
use Rattle.fts_routes.specs.Objects.{job_object, job_state_text, state_in}
use Rattle.fts_routes.specs.Queries.{is_one_of}
use Rattle.fts_routes.specs.Found.{states_asked}
use Rattle.fts_routes.proofs.Listed.{all-shown}
use Rattle.fts_routes.proofs.Sought.{found_below, none_left, found-next, sought-own, same_pass}
use Rattle.fts_routes.proofs.looks.value_of_jobs.Goals as goal

pub value_of_job-requires-clause-number : goal.value_of_job-requires-clause-number
value_of_job-requires-clause-number c =
    let tables = c.args.desk.now.tables in
    let asked = c.asked_states-asked.result in
    let test = λ (job : JobRow). is_among asked (state_in tables job) in
    let found = found_below (length c.as_slice.result.now) c.args.limit (find test (drop c.loop-job.behind tables.jobs)) c.in-Some.job.now
    c.in-Some.ensures.job in
    sought-own (λ (job : JobRow). job.number) test c.loop-job.behind tables.jobs c.in-Some.job.now c.standing.ensures.standing.formed.jobs found.there

pub loop-job-preserved : goal.loop-job-preserved
loop-job-preserved c =
    let tables = c.args.desk.now.tables in
    let asked = c.asked_states-asked.result in
    let test = λ (job : JobRow). is_among asked (state_in tables job) in
    let found = found_below (length c.as_slice.result.now) c.args.limit (find test (drop c.loop-job.behind tables.jobs)) c.in-Some.job.now
    c.in-Some.ensures.job in
    rw c.in_ok-add.ensures (found-next (λ (job : JobRow). job.number) view (job_object tables) test c.args.limit tables.jobs c.loop-job.behind
    c.loop-job.list.items c.in-Some.job.now c.in_ok-value.value c.standing.ensures.standing.formed.jobs found.there c.in_ok-value.ensures
    (omega (arith, found.below, ap length c.as_slice.ensures.value)) c.loop-job.invariant)

pub loop-job-smaller : goal.loop-job-smaller
loop-job-smaller c =
    let tables = c.args.desk.now.tables in
    let asked = c.asked_states-asked.result in
    let test = λ (job : JobRow). is_among asked (state_in tables job) in
    let found = found_below (length c.as_slice.result.now) c.args.limit (find test (drop c.loop-job.behind tables.jobs)) c.in-Some.job.now
    c.in-Some.ensures.job in
    let fewer : c.args.limit - length c.add.new.list.items < c.args.limit - length c.loop-job.list.items =
    omega (
      arith,
      found.below,
      ap length c.as_slice.ensures.value,
      ap length c.in_ok-add.ensures,
      length-append c.loop-job.list.items (c.in_ok-value.value ∷ []),
    ) in
    fewer

pub returns : goal.returns
returns c =
    let tables = c.args.desk.now.tables in
    let asked = c.asked_states-asked.result in
    let test = λ (job : JobRow). is_among asked (state_in tables job) in
    view-Array c.loop-job.list
    ∙ (ap (λ (values : List Data). array (items_of values))
    (all-shown view (job_object tables) test c.args.limit tables.jobs c.loop-job.behind c.loop-job.list.items
    (ap (λ (shown : List _). take (c.args.limit - length shown) (filter test (drop c.loop-job.behind tables.jobs))) (sym c.as_slice.ensures.value)
    ∙ none_left test (length c.as_slice.result.now) c.args.limit (drop c.loop-job.behind tables.jobs) c.in_default.ensures.job)
    c.loop-job.invariant)
    ∙ ap (λ (jobs : List JobRow). array_of (job_object tables) (take c.args.limit jobs))
    (same_pass test (λ (job : JobRow). is_one_of (states_asked (option_map cow_str_bytes c.args.states.now)) (job_state_text (state_in tables job)))
    (λ job. c.asked_states-asked.ensures (state_in tables job)) tables.jobs))
