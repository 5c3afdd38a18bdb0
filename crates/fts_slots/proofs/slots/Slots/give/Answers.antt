use Rattle.std.proofs.Common.{◌+◌, ◌<◌, cond, length, Some, subst, sym, ap, ◌∙◌, arith}
use Rattle.std.specs.Prelude.{count_by, position}
use Rattle.fts_slots.specs.SlotsData.{SlotsData, AreWithin, is_same_link, held_of}
use Rattle.fts_slots.specs.Tallies.{AreTallied}
use Rattle.fts_slots.proofs.LinkCounts.{within_after_give, position-found, position-none, count_by-remove, same_link, inside_of_held, places_inside}
use Rattle.fts_slots.proofs.slots.Slots.give.Goals as goal

pub invariant_of-self : goal.invariant_of-self
invariant_of-self c =
    let slots : SlotsData = record { settings = c.self.inside.settings; links = c.self.inside.links.items } in
    let found = position-found (is_same_link c.args.link) c.self.inside.links.items c.in-Some.place
    (ap (λ links. position (is_same_link c.args.link) links) (sym c.as_slice.ensures.value) ∙ sym c.in-Some.ensures.place) in
    record {
      settings = c.self.invariant.settings;
      within = subst (λ links. AreWithin (record { settings = c.self.inside.settings; links = links })) (sym c.remove.ensures.items)
          (within_after_give slots c.in-Some.place found.item found.at c.self.invariant.within);
      tallied = subst (λ links. AreTallied (length c.self.inside.settings.endpoints) links c.lower.new.self) (sym c.remove.ensures.items)
          (c.lower.ensures.tallied (length c.self.inside.settings.endpoints) c.self.inside.links.items c.in-Some.place
          (found.at ∙ ap (λ link. Some link) (sym (same_link c.args.link found.item found.passes))) c.self.invariant.tallied);
      limits = c.self.invariant.limits;
      ranks = c.self.invariant.ranks;
      room = omega (arith, c.self.invariant.room, c.remove.ensures.capacity);
    }

pub returns-in-Some-clause-counts : goal.returns-in-Some-clause-counts
returns-in-Some-clause-counts c = λ test.
    let found = position-found (is_same_link c.args.link) c.self.inside.links.items c.in-Some.place
    (ap (λ links. position (is_same_link c.args.link) links) (sym c.as_slice.ensures.value) ∙ sym c.in-Some.ensures.place) in
    ap (λ (slots : SlotsData). count_by test slots.links) (sym c.self.view_is)
    ∙ (count_by-remove test c.self.inside.links.items c.in-Some.place found.item found.at
    ∙ (ap (λ links. count_by test links + cond (test found.item) 1 0) (sym c.remove.ensures.items)
    ∙ ap (λ link. count_by test c.remove.new.self.items + cond (test link) 1 0) (sym (same_link c.args.link found.item found.passes))))

pub returns-in_default-clause-counts : goal.returns-in_default-clause-counts
returns-in_default-clause-counts c = λ test.
    let none = position-none (is_same_link c.args.link) c.self.inside.links.items
    (ap (λ links. position (is_same_link c.args.link) links) (sym c.as_slice.ensures.value) ∙ (sym c.place_of_link.ensures.place ∙ c.in_default.is)) in
    let held = subst (λ (slots : SlotsData). 0 < held_of slots.links c.args.link) (sym c.self.view_is) c.requires.held in
    absurd (omega (arith, held, none.1))

pub lower-requires : goal.lower-requires
lower-requires c =
    let slots : SlotsData = record { settings = c.self.inside.settings; links = c.self.inside.links.items } in
    let held = subst (λ (some : SlotsData). 0 < held_of some.links c.args.link) (sym c.self.view_is) c.requires.held in
    record {
      places = places_inside c.self.inside.settings c.args.link c.self.inside.links.items c.self.inside.counts c.self.invariant.settings
          (inside_of_held slots c.args.link c.self.invariant.within held) c.self.invariant.tallied;
    }
