-- The body that was found is passed.
use Rattle.std.proofs.Common.{◌≡◌, ap, sym, List, ℕ, ◌+◌, Option, length, subst, IsSome, false, rules}
use Rattle.fts_tail.specs.Tail.{HasPassed, IsTail, TailData, bodies_with, next_in}
use Rattle.fts_tail.proofs.Passed.{ready_of, tail_passed, passed_with}
use Rattle.fts_tail.proofs.tail.Tail.pass.Goals as goal

pub invariant_of-self : goal.invariant_of-self
invariant_of-self g c =
    let tail = c.self.inside in
    let next : next_in tail.ready tail.bytes.items ≡ c.args.self.now.next = ap (λ (t : TailData g.row.D.Denot). t.next) c.self.view_is in
    let ready = ready_of tail.ready tail.bytes.items (subst (λ (o : Option (List ℕ)). IsSome o) (sym next) c.requires) in
    let len : length tail.bytes.items ≡ c.len.result = search (rules, sym c.len.ensures) in
    let same : c.swap.new.x.items ≡ tail.bytes.items = ap (λ v. v.items) c.swap.ensures.x_after in
    subst (λ (n : ℕ). IsTail (g.D.Disk.state tail.disk) (tail.used + n) tail.known c.swap.new.x.items c.swap.new.y.items false) len
    (tail_passed (g.D.Disk.state tail.disk) tail.used tail.known tail.last.items tail.bytes.items c.swap.new.x.items c.swap.new.y.items tail.ready
    c.self.invariant ready same)

pub returns-clause-passed : goal.returns-clause-passed
returns-clause-passed g c = λ bodies passed.
    let tail = c.self.inside in
    let next : next_in tail.ready tail.bytes.items ≡ c.args.self.now.next = ap (λ (t : TailData g.row.D.Denot). t.next) c.self.view_is in
    let ready = ready_of tail.ready tail.bytes.items (subst (λ (o : Option (List ℕ)). IsSome o) (sym next) c.requires) in
    let len : length tail.bytes.items ≡ c.len.result = search (rules, sym c.len.ensures) in
    let was : HasPassed (g.D.Disk.state tail.disk) tail.used bodies = subst (λ (t : TailData g.row.D.Denot). HasPassed (g.D.Disk.state t.disk) t.used bodies)
    (sym c.self.view_is) passed in
    subst (λ (n : ℕ). HasPassed (g.D.Disk.state tail.disk) (tail.used + n) (bodies_with bodies c.args.self.now.next)) len
    (subst (λ (o : Option (List ℕ)). HasPassed (g.D.Disk.state tail.disk) (tail.used + length tail.bytes.items) (bodies_with bodies o)) next
    (passed_with (g.D.Disk.state tail.disk) tail.used tail.bytes.items tail.ready bodies ready (c.self.invariant.long ready) c.self.invariant.next was))
