-- A tail behind the header.
use Rattle.std.proofs.Common.{ap, sym, ◌∙◌, List, ℕ, take, length, ◌≤◌, subst}
use Rattle.fts_tail.proofs.Passed.{tail_begun}
use Rattle.fts_tail.proofs.tail.Tail.begin.Goals as goal

pub invariant_of-result : goal.invariant_of-result
invariant_of-result g c =
    let new = g.D.Disk.state c.read_header.new.disk in
    tail_begun new c.read_header.new.known c.read_header.new.last.items c.new.result.items
    (λ told. subst (λ (l : List ℕ). 9 ≤ length l) (sym (c.read_header.ensures.quiet (sym c.read_header.ensures.told ∙ told)).seen)
    (c.in-Ok.ensures.long (sym c.read_header.ensures.told ∙ told)))
    (λ told. subst (λ (l : List ℕ). c.read_header.new.known ≤ length l) (sym (c.read_header.ensures.quiet (sym c.read_header.ensures.told ∙ told)).seen)
    (c.read_header.ensures.known (sym c.read_header.ensures.told ∙ told)))
    c.in-Ok.ensures.header
    (λ told. ap (λ (l : List ℕ). take 8 l) (c.read_header.ensures.quiet (sym c.read_header.ensures.told ∙ told)).seen
    ∙ c.in-Ok.ensures.stands (sym c.read_header.ensures.told ∙ told))
