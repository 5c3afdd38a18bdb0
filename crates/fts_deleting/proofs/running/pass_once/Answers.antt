use Rattle.fts_delete.specs.Passed.{places_of, with_last}
use Rattle.fts_deleting.proofs.running.pass_once.Goals as goal

pub returns : goal.returns
returns g c = record {
  kept = c.standing.ensures;
  passed = c.pass.ensures.passed;
  leaves = λ told. c.a_pass_leaves_files.ensures (places_of c.args.deletes.now.rows) (with_last c.pass.ensures.passed.done c.pass.ensures.passed.last) _ _ told c.pass.ensures.passed.by.visited;
}
