use Rattle.std.proofs.Common.{sym, ap, ◌∙◌, arith}
use Rattle.std.specs.Prelude.{map}
use Rattle.fts_index.specs.Links.{LinkLists, count_of, link_between}
use Rattle.fts_index.specs.Loads.{link_of_known}
use Rattle.fts_index.specs.declared.loads.Known.{Known}
use Rattle.fts_index.proofs.Found.{get_or-at}
use Rattle.fts_index.proofs.Counted.{entry_of, counted, not_counted}
use Rattle.fts_index.proofs.LinksInOrder.{apart_of}
use Rattle.fts_index.proofs.loads.Loads.count.Goals as goal

pub index-requires : goal.index-requires
index-requires c =
    let entry = (entry_of c.self.inside.known.items c.args.self.now.known (link_between c.args.source.now c.args.dest.now) c.in-Some.place
    (ap (λ (lists : LinkLists). lists.known) c.self.view_is) c.in-Some.ensures.place) in omega (arith, entry.inside, c.self.inside.known.ok.0)

pub returns-in-Some : goal.returns-in-Some
returns-in-Some c =
    let link = link_between c.args.source.now c.args.dest.now in
    let entry = entry_of c.self.inside.known.items c.args.self.now.known link c.in-Some.place (ap (λ (lists : LinkLists). lists.known) c.self.view_is)
    c.in-Some.ensures.place in
    record {
      count = ap (λ (known : Known). known.count) (c.index.ensures ∙ get_or-at c.self.inside.known.items c.in-Some.place entry.known c.index.result.now entry.at)
          ∙ (sym (counted c.self.inside.known.items link c.in-Some.place (apart_of (map link_of_known c.self.inside.known.items) c.self.invariant.order) entry)
          ∙ ap (λ (lists : LinkLists). count_of lists.links link) c.self.view_is);
    }

pub returns-in-None : goal.returns-in-None
returns-in-None c =
    let link = link_between c.args.source.now c.args.dest.now in
    record {
      count = sym (not_counted c.self.inside.known.items c.args.self.now.known link (ap (λ (lists : LinkLists). lists.known) c.self.view_is)
          c.in-None.ensures.place)
          ∙ ap (λ (lists : LinkLists). count_of lists.links link) c.self.view_is;
    }
