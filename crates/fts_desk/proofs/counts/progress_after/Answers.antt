-- The rows that are live and those that have begun are counted on from those before the change.
use Rattle.std.proofs.Common.{◌≡◌, ◌≤◌, ℕ, Bool, true, false, cond, length, refl, ap, arith}
use Rattle.std.specs.Prelude.{count_by}
use Rattle.std.proofs.lemmas.Option.{slice_get_read}
use Rattle.std.proofs.lemmas.List.Sums.{count_by-le-length}
use Rattle.fts_tables.specs.Tables.{is_live}
use Rattle.fts_desk.specs.Counted.{has_begun, is_of, progress_of}
use Rattle.fts_desk.proofs.JobProgress.{as_they_are}
use Rattle.fts_desk.proofs.counts.progress_after.Goals as goal
use Rattle.fts_desk.proofs.counts.progress_after.Goals.{After-count_after-begun}

one_or_none : (answer : Bool) → ◌≤◌ (cond answer 1 0) 1
one_or_none true = omega arith
one_or_none false = omega arith

-- a row that counts, or doesn't
as_it_counts : (counts is : Bool) → counts ≡ is → ◌≡◌ {A = ℕ} (cond counts 1 0) (cond is 1 0)
as_it_counts counts is same = ap (λ answer. cond answer 1 0) same

pub count_after-live-requires : goal.count_after-live-requires
count_after-live-requires c =
    let rows = c.args.rows.now in
    let row = c.index-rows-place.result in
    let at = slice_get_read rows (length rows) c.args.place row refl c.requires.inside c.index-rows-place.is in
    let few = count_by-le-length (is_of c.args.job.now.number is_live) rows in
    record {
      few = omega (arith, c.requires.live row at, few, c.requires.few, one_or_none c.args.was.live);
      some = omega (arith, as_it_counts c.is_live.result (is_live row.state) c.is_live.ensures, c.requires.live row at);
    }

pub count_after-begun-requires : goal.count_after-begun-requires
count_after-begun-requires c =
    let rows = c.args.rows.now in
    let row = c.index-rows-place.result in
    let at = slice_get_read rows (length rows) c.args.place row refl c.requires.inside c.index-rows-place.is in
    let few = count_by-le-length (is_of c.args.job.now.number has_begun) rows in
    record {
      few = omega (arith, c.requires.begun row at, few, c.requires.few, one_or_none c.args.was.begun);
      some = omega (arith, as_it_counts c.has_begun.result (has_begun row.state) c.has_begun.ensures.answer, c.requires.begun row at);
    }

-- so they are those of the job
live_is : (c : After-count_after-begun) → c.count_after-live.result ≡ count_by (is_of c.args.job.now.number is_live) c.args.rows.now
live_is c =
    let rows = c.args.rows.now in
    let row = c.index-rows-place.result in
    let at = slice_get_read rows (length rows) c.args.place row refl c.requires.inside c.index-rows-place.is in
    omega (arith, as_it_counts c.is_live.result (is_live row.state) c.is_live.ensures, c.requires.live row at, c.count_after-live.ensures.count)

begun_is : (c : After-count_after-begun) → c.count_after-begun.result ≡ count_by (is_of c.args.job.now.number has_begun) c.args.rows.now
begun_is c =
    let rows = c.args.rows.now in
    let row = c.index-rows-place.result in
    let at = slice_get_read rows (length rows) c.args.place row refl c.requires.inside c.index-rows-place.is in
    omega (arith, as_it_counts c.has_begun.result (has_begun row.state) c.has_begun.ensures.answer, c.requires.begun row at, c.count_after-begun.ensures.count)

pub state_after-requires-clause-live : goal.state_after-requires-clause-live
state_after-requires-clause-live c = live_is (goal.at.state_after-requires-clause-live c).After-count_after-begun

pub state_after-requires-clause-begun : goal.state_after-requires-clause-begun
state_after-requires-clause-begun c = begun_is (goal.at.state_after-requires-clause-begun c).After-count_after-begun

pub returns : goal.returns
returns c =
    record {
      progress = as_they_are _ (progress_of c.args.rows.now c.args.job.now) c.state_after.ensures.state
          (live_is (goal.at.returns c).After-count_after-begun) (begun_is (goal.at.returns c).After-count_after-begun);
    }
