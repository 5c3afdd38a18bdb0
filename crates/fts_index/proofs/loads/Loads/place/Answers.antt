use Rattle.std.proofs.Common.{◌≡◌, cond, Some, None, ap, sym, ◌∙◌}
use Rattle.std.specs.List.{position_from}
use Rattle.fts_index.specs.Links.{LinkLists, is_link, link_between}
use Rattle.fts_index.proofs.LinksInOrder.{found_here}
use Rattle.fts_index.proofs.loads.Loads.place.Goals as goal
use Rattle.fts_index.proofs.loads.Loads.place.Goals.{After-is_at}

-- the link is found behind those that go before it, or nowhere
place_found : (c : After-is_at)
    → cond c.is_at.result (Some c.count_before-place.result) None
    ≡ position_from (is_link (link_between c.args.source.now c.args.dest.now)) 0 c.args.self.now.known
place_found c =
    found_here c.self.inside.known.items c.as_slice-known.result.now c.args.self.now.known (link_between c.args.source.now c.args.dest.now)
    c.count_before-place.result c.is_at.result (ap (λ (lists : LinkLists). lists.known) c.self.view_is) c.as_slice-known.ensures.value
    c.count_before-place.ensures.count c.is_at.ensures.answer c.self.invariant.order

pub returns-then-is_at : goal.returns-then-is_at
returns-then-is_at c = record {
  place = ap (λ answer. cond answer (Some c.count_before-place.result) None) (sym c.if-is_at.true)
      ∙ place_found (goal.at.returns-then-is_at c).After-is_at;
}

pub returns-else-is_at : goal.returns-else-is_at
returns-else-is_at c = record {
  place = ap (λ answer. cond answer (Some c.count_before-place.result) None) (sym c.if-is_at.false)
      ∙ place_found (goal.at.returns-else-is_at c).After-is_at;
}
