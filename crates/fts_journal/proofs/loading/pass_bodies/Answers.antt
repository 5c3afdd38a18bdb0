use Rattle.std.proofs.Common.{◌+◌, List, ℕ, arith, subst, ◌∙◌, drop}
use Rattle.fts_disk.specs.Disk.{IsTold}
use Rattle.fts_journal.specs.Loading.{IsPiece, IsGate, IsPassed, IsOpen}
use Rattle.fts_journal.specs.Journal.{spans_between}
use Rattle.fts_journal.proofs.Spans.{one_span_more, bounded_more}
use Rattle.fts_journal.proofs.Quiet.{quiet_quiet, passes}
use Rattle.fts_journal.proofs.loading.pass_bodies.Goals as goal

pub gates-preserved : goal.gates-preserved
gates-preserved g c =
    let old = g.D.Disk.state c.args.disk.now in
    let mid = g.D.Disk.state c.gates.disk in
    let new = g.D.Disk.state c.next_gate.new.disk in
    let used = c.gates.used in
    let invariant = c.gates.invariant in
    let ensures = c.in_ok-next_gate.ensures in
    let bounds = subst (IsPassed used) c.in-Open.is ensures.passed in
    let opened : IsTold old → IsOpen used c.in-Open.size (drop used old.seen) = λ told.
    subst (λ (l : List ℕ). IsOpen used c.in-Open.size (drop used l)) (invariant.quiet told).seen
    (subst (IsGate used (drop used mid.seen)) c.in-Open.is (ensures.gate (invariant.told ∙ told))) in
    let spans = spans_between c.gates.gates.items used in
    let longer = spans_between c.push.new.self.items (used + (5 + c.in-Open.size)) in
    let pushed = one_span_more c.gates.gates.items c.push.new.self.items used c.in-Open.size c.in_ok-push-in-Open.ensures.items in
    record {
      told = c.next_gate.ensures.told ∙ invariant.told;
      quiet = λ told. quiet_quiet old mid new (invariant.quiet told) (c.next_gate.ensures.quiet (invariant.told ∙ told));
      counts = omega (arith, c.next_gate.ensures.counts, invariant.counts);
      end = invariant.end;
      piece = λ told. subst (λ (l : List ℕ). IsPiece l c.next_gate.new.piece.start c.next_gate.new.piece.bytes.items) (invariant.quiet told).seen
          (ensures.piece (invariant.told ∙ told));
      from = omega (arith, ensures.from);
      bounds = bounded_more spans longer used c.in-Open.size pushed bounds.0 (omega (arith, bounds.1)) invariant.bounds;
      read = λ told. passes old.seen used spans (invariant.read told) c.in-Open.size longer (opened told) pushed;
    }
