use Rattle.std.proofs.Common.{◌≡◌, ℕ, ◌<◌, ◌≤◌, false, sym, subst, arith}
use Rattle.std.proofs.lemmas.List.{length-map}
use Rattle.fts_tables.specs.Places.{is_same_place}
use Rattle.fts_tables.specs.declared.rows.FileRow.{FileRow}
use Rattle.ordered.specs.Orders.{has_key}
use Rattle.fts_heads.specs.Digests.{is_digested_before}
use Rattle.fts_heads.specs.Dests.{dests_of}
use Rattle.fts_heads.proofs.Numbers.{numbered, passes_at, goes_elsewhere, none_further, this_one, none_left, none_there}
use Rattle.fts_heads.proofs.dests.number_of.Goals as goal

pub returns-then-goes_to : goal.returns-then-goes_to
returns-then-goes_to c =
    let places = dests_of c.args.rows.now in
    record {
      number = this_one places _ c.args.place.now c.loop-number.from c.in-Some.number c.requires.numbers
          c.loop-number.invariant
          (subst (λ digest. (other : ℕ) → c.loop-number.from ≤ other → other < c.in-Some.number
          → has_key is_digested_before (numbered digest other) c.args.keys.now.keys ≡ false)
          c.requires.digest c.in-Some.ensures.least)
          (sym c.if-goes_to.ensures.answer);
    }

pub returns-then-number : goal.returns-then-number
returns-then-number c =
    let places = dests_of c.args.rows.now in
    let same = length-map c.args.rows.now (λ (row : FileRow). row.dest) in
    record {
      number = none_left places _ c.args.place.now c.loop-number.from c.in-Some.number c.requires.numbers
          c.loop-number.invariant
          (subst (λ digest. (other : ℕ) → c.loop-number.from ≤ other → other < c.in-Some.number
          → has_key is_digested_before (numbered digest other) c.args.keys.now.keys ≡ false)
          c.requires.digest c.in-Some.ensures.least)
          (sym c.if-goes_to.ensures.answer) (omega (arith, same, c.requires.few, c.if-number.true));
    }

pub loop-number-preserved : goal.loop-number-preserved
loop-number-preserved c =
    let places = dests_of c.args.rows.now in
    none_further (passes_at (λ other. is_same_place other c.args.place.now) places) c.loop-number.from c.in-Some.number c.loop-number.invariant
    (λ other later sooner. goes_elsewhere places _ c.args.place.now other c.requires.numbers
    (subst (λ digest. (other : ℕ) → c.loop-number.from ≤ other → other < c.in-Some.number
    → has_key is_digested_before (numbered digest other) c.args.keys.now.keys ≡ false)
    c.requires.digest c.in-Some.ensures.least other later sooner))
    (sym c.if-goes_to.ensures.answer)

pub returns : goal.returns
returns c =
    let places = dests_of c.args.rows.now in
    record {
      number = none_there places _ c.args.place.now c.loop-number.from c.requires.numbers
          c.loop-number.invariant
          (subst (λ digest. (other : ℕ) → c.loop-number.from ≤ other → has_key is_digested_before (numbered digest other) c.args.keys.now.keys ≡ false)
          c.requires.digest c.in_default.ensures.none);
    }
