-- What the pairs that are left give is what all of them give.
use Rattle.std.proofs.Common.{◌≡◌}
use Rattle.form_urlencoded.specs.Form.{raw_pairs}
use Rattle.form_urlencoded.specs.Parse.{pairs_left}
use Rattle.fts_routes.specs.Queries.{first_named}
use Rattle.fts_routes.proofs.queries.first_value.Given as goal

abbrev pub invariant-loop-pair : goal.invariant-loop-pair
invariant-loop-pair l =
    (goal.iterator-loop-pair).can_next l.pair-iterator ×
    (goal.iterator-loop-pair).is_finite l.pair-iterator ×
    (first_named l.name (raw_pairs l.query) ≡ first_named l.name (pairs_left l.pair-iterator))
