use Rattle.std.proofs.Common.{◌≡◌, ◌<◌, ℕ, cond, Bool, None, refl, sym, ap, ◌∙◌, subst, arith}
use Rattle.std.specs.Prelude.{map, insert, vec_len, vec_capacity}
use Rattle.std.specs.List.{position_from, prefix_len}
use Rattle.fts_index.specs.Links.{LinkLists, is_link, is_link_before, link_between, AreInOrder}
use Rattle.fts_index.specs.Loads.{link_of_known, links_counted}
use Rattle.fts_index.specs.declared.loads.Known.{Known}
use Rattle.fts_index.proofs.Found.{any_from, none_from}
use Rattle.fts_index.proofs.Counted.{new_entry}
use Rattle.fts_index.proofs.LinksInOrder.{order_put}
use Rattle.fts_index.proofs.loads.Loads.make_room.Goals as goal

pub returns-in-Some-clause-ok : goal.returns-in-Some-clause-ok
returns-in-Some-clause-ok c =
    let link = link_between c.args.source.now c.args.dest.now in
    let known = c.args.self.now.known in
    ap (λ answer. record {
      links = c.args.self.now.links;
      known = cond answer known (insert known (prefix_len (λ other. is_link_before other link) known) link);
    })
    (sym (any_from (is_link link) 0 c.in-Some.field-0 known (sym c.in-Some.is ∙ c.place.ensures.place)))

pub count_before-place-requires : goal.count_before-place-requires
count_before-place-requires c = record {
  order = subst (λ items. AreInOrder (map link_of_known items)) (sym (c.as_slice.ensures.value ∙ c.reserve.ensures.items)) c.self.invariant.order;
}

-- the entry that is put in among those before, and where
record IsAdded (c : goal.Joined-insert) : Type 0 where
  entry : Known
  counts : entry.count ≡ 0
  named : link_of_known entry ≡ link_between c.args.source.now c.args.dest.now
  number : ℕ
  at : number ≡ prefix_len (λ other. is_link_before other (link_between c.args.source.now c.args.dest.now)) c.args.self.now.known
  items : c.insert.new.self.items ≡ insert c.self.inside.known.items number entry
  none : None ≡ position_from (is_link (link_between c.args.source.now c.args.dest.now)) 0 c.args.self.now.known

added : (c : goal.Joined-insert) → IsAdded c
added c =
    let entry : Known = record { source = c.in_ok-copy.field-0; dest = c.in_ok-copy-2.field-0; count = 0 } in
    let link = link_between c.args.source.now c.args.dest.now in
    let number = c.count_before-place.result in
    let room : vec_len c.reserve.new.self < vec_capacity c.reserve.new.self = omega (arith, c.in_ok-reserve.ensures.ok) in
    record {
      entry = entry;
      counts = refl;
      named = ap (λ source. record { source = source; dest = c.in_ok-copy-2.field-0 }) c.in_ok-copy.ensures
          ∙ ap (λ dest. record { source = c.args.source.now; dest = dest }) c.in_ok-copy-2.ensures;
      number = number;
      at = c.count_before-place.ensures.count
          ∙ (ap (λ items. prefix_len (λ other. is_link_before other link) (map link_of_known items)) (c.as_slice.ensures.value ∙ c.reserve.ensures.items)
          ∙ ap (λ (lists : LinkLists). prefix_len (λ other. is_link_before other link) lists.known) c.self.view_is);
      items = c.insert.ensures.items
          ∙ (ap (λ (test : Bool). cond test (insert c.reserve.new.self.items number entry) c.reserve.new.self.items) (c.insert.ensures.succeeds room)
          ∙ ap (λ items. insert items number entry) c.reserve.ensures.items);
      none = sym c.in_default.is ∙ c.place.ensures.place;
    }

pub invariant_of-self-2 : goal.invariant_of-self-2
invariant_of-self-2 c =
    let new = added c in
    let link = link_between c.args.source.now c.args.dest.now in
    let entries = c.self.inside.known.items in
    let known = ap (λ (lists : LinkLists). lists.known) c.self.view_is in
    let is : map link_of_known c.insert.new.self.items ≡ insert (map link_of_known entries) new.number link =
    ap (map link_of_known) new.items
    ∙ ((new_entry entries new.number new.entry new.counts).known
    ∙ ap (insert (map link_of_known entries) new.number) new.named) in
    record {
      order = order_put entries c.insert.new.self.items c.args.self.now.known link new.number known is new.at c.self.invariant.order
          (none_from (is_link link) 0 c.args.self.now.known (sym new.none));
    }

pub returns-clause-ok : goal.returns-clause-ok
returns-clause-ok c =
    let new = added c in
    let link = link_between c.args.source.now c.args.dest.now in
    let entries = c.self.inside.known.items in
    let before = c.args.self.now in
    let behind = new_entry entries new.number new.entry new.counts in
    let put = λ (number : ℕ). insert before.known number link in
    let links : links_counted c.insert.new.self.items ≡ before.links =
    ap links_counted new.items ∙ (behind.links ∙ ap (λ (lists : LinkLists). lists.links) c.self.view_is) in
    let known : map link_of_known c.insert.new.self.items ≡ put (prefix_len (λ other. is_link_before other link) before.known) =
    ap (map link_of_known) new.items
    ∙ (behind.known
    ∙ (ap (insert (map link_of_known entries) new.number) new.named
    ∙ (ap (λ (lists : LinkLists). insert lists.known new.number link) c.self.view_is ∙ ap put new.at))) in
    ap (λ some. record { links = some; known = map link_of_known c.insert.new.self.items }) links
    ∙ (ap (λ some. record { links = before.links; known = some }) known
    ∙ ap (λ answer. record { links = before.links; known = cond answer before.known (put (prefix_len (λ other. is_link_before other link) before.known)) })
    (sym (none_from (is_link link) 0 before.known (sym new.none))))
