-- Behind a gate that isn't open there is no body more.
use Rattle.std.proofs.Common.{sym, ◌∙◌, List, ℕ, drop, subst}
use Rattle.fts_journal.specs.Loading.{IsShut}
use Rattle.fts_tail.proofs.Passed.{ends_here}
use Rattle.fts_tail.proofs.tail.Tail.look.Goals as goal

pub returns-then-not-branch-clause-end : goal.returns-then-not-branch-clause-end
returns-then-not-branch-clause-end g c = λ bodies passed told.
    let was = sym c.gate_is_open.ensures.told ∙ told in
    ends_here (g.D.Disk.state c.gate_is_open.new.disk) c.self.inside.used bodies passed told
    (subst (λ (l : List ℕ). IsShut (drop c.self.inside.used l)) (sym (c.gate_is_open.ensures.quiet was).seen)
    (c.in_ok-gate_is_open.ensures.shut was c.if-not-branch.true))
