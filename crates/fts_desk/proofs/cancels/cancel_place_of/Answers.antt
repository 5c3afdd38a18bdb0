-- Where the row is of the job it is cancelled, and else it stays.
use Rattle.std.proofs.Common.{◌≡◌, cond, true, false, get_or, ap, sym, ◌∙◌}
use Rattle.std.specs.Prelude.{◌==◌}
use Rattle.std.proofs.lemmas.Bool.{eq-eqb, ne_eqb}
use Rattle.std.proofs.lemmas.Option.{slice_get-get_or}
use Rattle.fts_tables.specs.Moves.{cancelled_for}
use Rattle.fts_desk.specs.Cancels.{cancelled_of}
use Rattle.fts_desk.proofs.CancelledParts.{change_at-alike, change_at-same}
use Rattle.fts_desk.proofs.cancels.cancel_place_of.Goals as goal

pub returns-then-rows-place-clause-rows : goal.returns-then-rows-place-clause-rows
returns-then-rows-place-clause-rows c =
    let rows = c.args.rows.now in
    let row = get_or rows c.args.place c.index-rows-place.result in
    let same : (row.job == c.args.job) ≡ true = eq-eqb row.job c.args.job c.if-rows-place.true in
    c.cancel_place.ensures.rows ∙ change_at-alike rows c.args.place (cancelled_for c.args.reason) (cancelled_of c.args.reason c.args.job) row
    (slice_get-get_or rows c.args.place c.index-rows-place.result c.requires.inside)
    (sym (ap (λ answer. cond answer (cancelled_for c.args.reason row) row) same))

pub returns-else-rows-place-clause-rows : goal.returns-else-rows-place-clause-rows
returns-else-rows-place-clause-rows c =
    let rows = c.args.rows.now in
    let row = get_or rows c.args.place c.index-rows-place.result in
    let other : (row.job == c.args.job) ≡ false = ne_eqb row.job c.args.job c.if-rows-place.false in
    change_at-same rows c.args.place (cancelled_of c.args.reason c.args.job) row
    (slice_get-get_or rows c.args.place c.index-rows-place.result c.requires.inside)
    (ap (λ answer. cond answer (cancelled_for c.args.reason row) row) other)
