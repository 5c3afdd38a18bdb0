-- Whether the row of an id waits, by its place.
use Rattle.std.proofs.Common.{◌≡◌, sym, rules, arith, ◌-◌, length}
use Rattle.std.proofs.lemmas.Bool.{ltb-true, ltb-false}
use Rattle.fts_delete.specs.Rows.{gone_row, missed_row}
use Rattle.fts_delete.proofs.Taken.{waits_never, waits_there, waits_nowhere}
use Rattle.fts_delete.proofs.taking.waits.Goals as goal

pub returns-then-id-eq0-clause-gone : goal.returns-then-id-eq0-clause-gone
returns-then-id-eq0-clause-gone c = let zero : c.args.id ≡ 0 = search rules in rw zero (sym (waits_never gone_row c.args.rows.now c.requires.numbered))

pub returns-then-id-eq0-clause-missed : goal.returns-then-id-eq0-clause-missed
returns-then-id-eq0-clause-missed c = let zero : c.args.id ≡ 0 = search rules in rw zero (sym (waits_never missed_row c.args.rows.now c.requires.numbered))

pub returns-in-Some-clause-gone : goal.returns-in-Some-clause-gone
returns-in-Some-clause-gone c = waits_there c.args.id gone_row c.args.rows.now c.requires.numbered (omega (arith, c.if-id-eq0.false)) c.in-Some.row.now c.is_waiting.result
    (ltb-true (c.args.id - 1) (length c.args.rows.now) (sym c.in-Some.ensures.lookup.0)) c.in-Some.ensures.lookup.1 c.is_waiting.ensures

pub returns-in-Some-clause-missed : goal.returns-in-Some-clause-missed
returns-in-Some-clause-missed c = waits_there c.args.id missed_row c.args.rows.now c.requires.numbered (omega (arith, c.if-id-eq0.false)) c.in-Some.row.now c.is_waiting.result
    (ltb-true (c.args.id - 1) (length c.args.rows.now) (sym c.in-Some.ensures.lookup.0)) c.in-Some.ensures.lookup.1 c.is_waiting.ensures

pub returns-in-None-clause-gone : goal.returns-in-None-clause-gone
returns-in-None-clause-gone c = waits_nowhere c.args.id gone_row c.args.rows.now c.requires.numbered (omega (arith, c.if-id-eq0.false))
    (ltb-false (c.args.id - 1) (length c.args.rows.now) (sym c.in-None.ensures.lookup.0))

pub returns-in-None-clause-missed : goal.returns-in-None-clause-missed
returns-in-None-clause-missed c = waits_nowhere c.args.id missed_row c.args.rows.now c.requires.numbered (omega (arith, c.if-id-eq0.false))
    (ltb-false (c.args.id - 1) (length c.args.rows.now) (sym c.in-None.ensures.lookup.0))
