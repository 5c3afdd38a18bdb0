-- The places in a state are as many as its jobs.
use Rattle.std.proofs.Common.{length, ap, sym, ◌∙◌, arith}
use Rattle.std.specs.Prelude.{ℕ, count_by}
use Rattle.std.proofs.lemmas.List.{get_or_read}
use Rattle.ordered.specs.Orders.{KeySet}
use Rattle.fts_desk.specs.JobLists.{JobList, rank, is_at, no_places}
use Rattle.fts_desk.proofs.JobPlaces.{places_counted}
use Rattle.fts_desk.proofs.job_states.JobStates.count.Goals as goal

pub returns : goal.returns
returns c =
    let here = get_or_read c.self.inside.by_rank c.rank.result c.index-self-rank.result (omega (arith, c.self.told, c.rank.ensures.inside))
    c.index-self-rank.is no_places in
    record {
      count = c.len.ensures.len
          ∙ (ap (λ (set : KeySet ℕ). length set.keys) (sym c.index-self-rank.is ∙ here)
          ∙ (ap length (c.self.invariant.places c.rank.result c.rank.ensures.inside)
          ∙ (places_counted c.rank.result c.self.inside.jobs.items 0
          ∙ (ap (λ at. count_by (is_at at) c.self.inside.jobs.items) c.rank.ensures.rank
          ∙ ap (λ (list : JobList). count_by (is_at (rank c.args.state)) list.jobs) c.self.view_is))));
    }
