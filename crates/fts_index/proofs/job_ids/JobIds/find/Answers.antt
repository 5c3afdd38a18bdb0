use Rattle.std.proofs.Common.{arith}
use Rattle.fts_index.proofs.Ordered.{place_fits}
use Rattle.fts_index.proofs.job_ids.JobIds.find.Goals as goal

pub overflow_add-result : goal.overflow_add-result
overflow_add-result c = omega (arith, place_fits c.self.inside c.self.invariant c.args.id c.in-Ok.place c.in-Ok.ensures.found)
