use Rattle.std.proofs.Common.{◌≡◌, ◌-◌, sym, ap, ◌∙◌, subst, arith}
use Rattle.std.proofs.Math.ListN.{set}
use Rattle.fts_index.specs.Links.{LinkLists, HasOneMore, count_of, link_between}
use Rattle.fts_index.specs.Loads.{links_counted}
use Rattle.fts_index.proofs.Counted.{not_counted, less_at}
use Rattle.fts_index.proofs.ReadEntries.{IsRead, with_count, found_entry, read_of}
use Rattle.fts_index.proofs.loads.Loads.take.Goals as goal
use Rattle.fts_index.proofs.loads.Loads.take.Goals.{After-index_mut}

pub index_mut-requires : goal.index_mut-requires
index_mut-requires c =
    omega (arith, (found_entry c.self.inside c.args.self.now _ _ c.self.view_is c.in-Some.ensures.place).inside, c.self.inside.known.ok.0)

-- the entry that was found, as it was read
the_entry : (c : After-index_mut) → IsRead c.self.inside c.args.self.now (link_between c.args.source.now c.args.dest.now) c.in-Some.place c.index_mut.result.now
the_entry c = read_of c.self.inside c.args.self.now _ _ c.self.view_is c.in-Some.ensures.place c.index_mut.result.now c.self.invariant c.index_mut.ensures.value

pub overflow_sub-index_mut : goal.overflow_sub-index_mut
overflow_sub-index_mut c = omega (arith, c.requires.there, (the_entry (goal.at.overflow_sub-index_mut c).After-index_mut).counts)

pub invariant_of-self : goal.invariant_of-self
invariant_of-self c = record { order = (the_entry (goal.at.invariant_of-self c).After-index_mut).order (c.index_mut.result.now.count - 1) }

pub returns-in-Some-clause-less : goal.returns-in-Some-clause-less
returns-in-Some-clause-less c =
    let read = the_entry (goal.at.returns-in-Some-clause-less c).After-index_mut in
    let link = link_between c.args.source.now c.args.dest.now in
    let new = with_count c.index_mut.result.now (c.index_mut.result.now.count - 1) in
    subst (λ links. HasOneMore link (links_counted (set c.self.inside.known.items c.in-Some.place new)) links)
    (ap (λ (lists : LinkLists). lists.links) c.self.view_is)
    (less_at c.self.inside.known.items link c.in-Some.place new read.entry read.named (omega (arith, read.count, read.counts, c.requires.there)))

pub returns-in-Some-clause-known : goal.returns-in-Some-clause-known
returns-in-Some-clause-known c = (the_entry (goal.at.returns-in-Some-clause-known c).After-index_mut).known (c.index_mut.result.now.count - 1)

pub returns-in_default-clause-less : goal.returns-in_default-clause-less
returns-in_default-clause-less c =
    let link = link_between c.args.source.now c.args.dest.now in
    let none = not_counted c.self.inside.known.items c.args.self.now.known link (ap (λ (lists : LinkLists). lists.known) c.self.view_is)
    (sym c.in_default.is ∙ c.place.ensures.place) in
    let counts_seen : count_of c.args.self.now.links link ≡ 0 = ap (λ (lists : LinkLists). count_of lists.links link) (sym c.self.view_is) ∙ none in
    absurd (omega (arith, c.requires.there, counts_seen))
