-- The query's first values, and what is answered by them.
use Rattle.fts_routes.proofs.looks.look_at_jobs.Goals as goal

pub returns : goal.returns
returns c = rw (c.in_ok-states.ensures, c.in_ok-limit.ensures, c.bytes_of-query.ensures) at c.look_at_states.ensures
