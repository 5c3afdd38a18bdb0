-- A going counts by its pair, and by no other.
use Rattle.std.proofs.Common.{◌∙◌, ap, sym, arith, refl, zero-add, Vec, Global}
use Rattle.fts_board.specs.Tallied.{goes_by, row_tally_of, row_tally_with}
use Rattle.fts_board.specs.declared.tallies.RowTally.{RowTally}
use Rattle.fts_board.proofs.Summed.{tallies_none, tallies_same, tallies_more}
use Rattle.fts_board.proofs.Tallied.{below, row_tally_more, goes_by_one}
use Rattle.fts_board.proofs.tallies.row_tallies.Goals as goal
use Rattle.fts_board.proofs.tallies.row_tallies.Goals.{in-Some, in_default}

pub loop-going-init : goal.loop-going-init
loop-going-init c = c.in_ok-tallies.ensures.items_if_clones_equal (λ y same. same) ∙ tallies_none goes_by row_tally_of _ refl 0 c.args.count

pub with-requires : goal.with-requires
with-requires c = below c.args.goings.now c.args.count c.loop-going.going-index c.in-Some.pair c.index.result.now c.loop-going.tallies.items
    c.loop-going-test.true c.loop-going.invariant c.in-Some.ensures.within c.index.ensures 18446744073709551615 (omega arith)

pub loop-going-preserved : goal.loop-going-preserved
loop-going-preserved c = elim c.match-pair_within.branch [
  | in-Some w ↦ ap (λ (v : Vec RowTally Global). v.items) w.tallies-is
      ∙ tallies_more goes_by row_tally_of c.args.goings.now c.loop-going.going-index _ c.loop-going-test.true
      (λ tally going. row_tally_with tally going.state) (λ before. row_tally_more before _)
      0 c.args.count w.in-Some.pair w.in-Some.pair w.in-Some.ensures.within (sym (zero-add w.in-Some.pair)) w.in-Some.ensures.there
      goes_by_one w.index.result.now c.loop-going.tallies.items c.loop-going.invariant w.index.ensures w.with.result w.with.ensures
  | in_default w ↦ ap (λ (v : Vec RowTally Global). v.items) w.tallies-is
      ∙ tallies_same goes_by row_tally_of c.args.goings.now c.loop-going.going-index _ c.loop-going-test.true
      0 c.args.count (λ pair low high. w.in_default.ensures.nowhere refl pair (omega arith)) c.loop-going.tallies.items c.loop-going.invariant
]
