-- A claimed file is copied by the order that came with it, and its report is that of what the bench then holds.
use Rattle.std.proofs.Common.{◌≡◌, refl, sym, ap, ◌∙◌, subst, ◌<◌, length, List, [], ◌∷◌, ◌++◌, arith}
use Rattle.fts_workers.specs.Benches.{BenchData}
use Rattle.fts_workers.specs.declared.held.Held.{Held}
use Rattle.fts_shop.specs.Turns.{ReportsHeld, held_with}
use Rattle.fts_shop.proofs.Copied.{copies_of, reported_as}
use Rattle.fts_shop.proofs.turning.work_on.Goals as goal

pub hold-requires : goal.hold-requires
hold-requires g c =
    let bench = c.args.bench.now in
    let some = c.held-none.ensures.some in
    record {
      free = subst (λ (b : BenchData). length b.held < b.places) (sym c.copy_order-outcome.ensures.bench)
          (subst (λ (hs : List Held). length hs < bench.places) (sym c.requires.empty) (omega arith));
    }

pub returns-clause-works : goal.returns-clause-works
returns-clause-works g c =
    let outcome = c.copy_order-outcome.result in
    let held = held_with c.args.claimed.file c.args.claimed.attempt outcome in
    let is : c.hold.new.self.held ≡ held ∷ [] =
    ap (λ (b : BenchData). b.held) c.hold.ensures.held
    ∙ ap (λ (hs : List Held). hs ++ held ∷ []) (ap (λ (b : BenchData). b.held) c.copy_order-outcome.ensures.bench ∙ c.requires.empty) in
    let reports = subst (λ (hs : List Held). ReportsHeld c.copy_order-outcome.new.pass c.report.new.pass (g.C.Clock.moments c.args.hand.now.clock)
    (g.C.Clock.moments c.report.new.clock) hs c.report.result c.report.new.bench.held) is c.report.ensures.reports in
    record {
      outcome = outcome;
      between = c.copy_order-outcome.new.pass;
      copied = copies_of g.E.Store c.args.pass.now c.copy_order-outcome.new.pass c.args.hand.now.store
          c.copy_order-outcome.new.store c.args.claimed.file c.args.claimed.order outcome c.copy_order-outcome.ensures.copies c.size_fits.ensures
          c.requires.order;
      words = refl;
      reported = reported_as c.copy_order-outcome.new.pass c.report.new.pass (g.C.Clock.moments c.args.hand.now.clock)
          (g.C.Clock.moments c.report.new.clock) c.args.claimed.file c.args.claimed.attempt outcome c.report.result c.report.new.bench.held reports;
    }
