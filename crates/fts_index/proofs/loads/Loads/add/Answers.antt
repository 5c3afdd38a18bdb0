use Rattle.std.proofs.Common.{◌+◌, sym, ap, ◌∙◌, subst, arith}
use Rattle.std.proofs.Math.ListN.{set}
use Rattle.fts_index.specs.Links.{LinkLists, HasOneMore, is_link, link_between}
use Rattle.fts_index.specs.Loads.{links_counted}
use Rattle.fts_index.proofs.Found.{some_from}
use Rattle.fts_index.proofs.Counted.{more_at}
use Rattle.fts_index.proofs.ReadEntries.{IsRead, with_count, found_entry, read_of}
use Rattle.fts_index.proofs.loads.Loads.add.Goals as goal
use Rattle.fts_index.proofs.loads.Loads.add.Goals.{After-index_mut}

pub index_mut-requires : goal.index_mut-requires
index_mut-requires c =
    omega (arith, (found_entry c.self.inside c.args.self.now _ _ c.self.view_is c.in-Some.ensures.place).inside, c.self.inside.known.ok.0)

-- the entry that was found, as it was read
the_entry : (c : After-index_mut) → IsRead c.self.inside c.args.self.now (link_between c.args.source.now c.args.dest.now) c.in-Some.place c.index_mut.result.now
the_entry c = read_of c.self.inside c.args.self.now _ _ c.self.view_is c.in-Some.ensures.place c.index_mut.result.now c.self.invariant c.index_mut.ensures.value

pub overflow_add-index_mut : goal.overflow_add-index_mut
overflow_add-index_mut c = omega (arith, c.requires.fewer, (the_entry (goal.at.overflow_add-index_mut c).After-index_mut).counts)

pub invariant_of-self : goal.invariant_of-self
invariant_of-self c = record { order = (the_entry (goal.at.invariant_of-self c).After-index_mut).order (c.index_mut.result.now.count + 1) }

pub returns-in-Some-clause-more : goal.returns-in-Some-clause-more
returns-in-Some-clause-more c =
    let read = the_entry (goal.at.returns-in-Some-clause-more c).After-index_mut in
    let link = link_between c.args.source.now c.args.dest.now in
    let new = with_count c.index_mut.result.now (c.index_mut.result.now.count + 1) in
    subst (λ links. HasOneMore link links (links_counted (set c.self.inside.known.items c.in-Some.place new)))
    (ap (λ (lists : LinkLists). lists.links) c.self.view_is)
    (more_at c.self.inside.known.items link c.in-Some.place new read.entry read.named (omega (arith, read.count)))

pub returns-in-Some-clause-known : goal.returns-in-Some-clause-known
returns-in-Some-clause-known c = (the_entry (goal.at.returns-in-Some-clause-known c).After-index_mut).known (c.index_mut.result.now.count + 1)

pub returns-in_default-clause-more : goal.returns-in_default-clause-more
returns-in_default-clause-more c =
    absurd (some_from (is_link (link_between c.args.source.now c.args.dest.now)) 0 c.args.self.now.known c.requires.known
    (sym c.in_default.is ∙ c.place.ensures.place))
