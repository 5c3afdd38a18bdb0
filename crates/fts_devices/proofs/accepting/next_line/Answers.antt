-- Each answer is one more of those that are taken.
use Rattle.std.proofs.Common.{subst, ℕ, suc, Option, Some, None, List, Result, ◌+◌, ◌-◌, arith}
use Rattle.fts_devices.specs.Accepting.{GivesLine}
use Rattle.fts_devices.specs.declared.steps.Untaken.TheVariants.{Gone, NotYet}
use Rattle.fts_devices.proofs.Answering.{by_line, by_end, by_refusal}
use Rattle.fts_devices.proofs.accepting.next_line.Goals.{in-Gone, in-NotYet}
use Rattle.fts_devices.proofs.accepting.next_line.Goals as goal

pub returns-in-Ok : goal.returns-in-Ok
returns-in-Ok g c = record {
  line = c.loop.invariant.line (g.L.Listens.answers c.take.new.self) (Some c.in-Ok.line)
      (subst (λ (n : ℕ). GivesLine n (g.L.Listens.answers c.loop.listener) (g.L.Listens.answers c.take.new.self) (Some c.in-Ok.line)) {x = suc (18446744073709551615 - (c.loop.counter + 1))} (omega (arith, c.loop-test.true))
      (by_line (18446744073709551615 - (c.loop.counter + 1)) (g.L.Listens.answers c.loop.listener) (g.L.Listens.answers c.take.new.self) c.in-Ok.line c.in-Ok.ensures.answer));
}

pub returns-in-NoListener : goal.returns-in-NoListener
returns-in-NoListener g c = record {
  line = c.loop.invariant.line (g.L.Listens.answers c.take.new.self) None
      (subst (λ (n : ℕ). GivesLine n (g.L.Listens.answers c.loop.listener) (g.L.Listens.answers c.take.new.self) None) {x = suc (18446744073709551615 - (c.loop.counter + 1))} (omega (arith, c.loop-test.true))
      (by_end (18446744073709551615 - (c.loop.counter + 1)) (g.L.Listens.answers c.loop.listener) (g.L.Listens.answers c.take.new.self) c.in-Err.errno
      c.in-NoListener.ensures c.in-Err.ensures.answer));
}

pub loop-preserved : goal.loop-preserved
loop-preserved g c = record {
  line = λ left line then. c.loop.invariant.line left line
      (subst (λ (n : ℕ). GivesLine n (g.L.Listens.answers c.loop.listener) left line) {x = suc (18446744073709551615 - (c.loop.counter + 1))} (omega (arith, c.loop-test.true)) (elim c.match-untaken_by.branch [
        | in-Gone w ↦ by_refusal (18446744073709551615 - (c.loop.counter + 1)) (g.L.Listens.answers c.loop.listener) (g.L.Listens.answers c.take.new.self) left line
            c.in-Err.errno Gone (λ end next p. p) w.in-Gone.ensures c.in-Err.ensures.answer
            (subst (λ (l : g.row.L.Denot). GivesLine (18446744073709551615 - (c.loop.counter + 1)) (g.L.Listens.answers l) left line) w.listener-is then)
        | in-NotYet w ↦ by_refusal (18446744073709551615 - (c.loop.counter + 1)) (g.L.Listens.answers c.loop.listener) (g.L.Listens.answers c.take.new.self) left line
            c.in-Err.errno NotYet (λ end next p. p) w.in-NotYet.ensures c.in-Err.ensures.answer
            (subst (λ (b : Option (List (Result g.row.L-Line.Denot ℕ))). GivesLine (18446744073709551615 - (c.loop.counter + 1)) b left line) w.rest.ensures.same
            (subst (λ (l : g.row.L.Denot). GivesLine (18446744073709551615 - (c.loop.counter + 1)) (g.L.Listens.answers l) left line) w.listener-is then))
      ]));
}
