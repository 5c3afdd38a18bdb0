use Rattle.std.proofs.Common.{◌≡◌, ◌++◌, ◌∷◌, [], length, subst, sym, arith}
use Rattle.std.proofs.lemmas.List.{length_push}
use Rattle.std.specs.Prelude.{true}
use Rattle.fts_slots.specs.SlotsData.{SlotsData, IsInside, AreWithin, is_free}
use Rattle.fts_slots.specs.Tallies.{AreTallied}
use Rattle.fts_slots.proofs.LinkCounts.{within_after_take, room_for, few_links, places_inside}
use Rattle.fts_slots.proofs.slots.Slots.take.Goals as goal

pub push_reserved-requires : goal.push_reserved-requires
push_reserved-requires c =
    let slots : SlotsData = record { settings = c.self.inside.settings; links = c.self.inside.links.items } in
    let after : SlotsData = record { settings = c.self.inside.settings; links = c.self.inside.links.items ++ c.args.link ∷ [] } in
    let free = subst (λ (held : SlotsData). is_free held c.args.link ≡ true) (sym c.self.view_is) c.requires.free in
    omega (
      arith,
      room_for after (within_after_take slots c.args.link c.self.invariant.within free),
      length_push c.self.inside.links.items c.args.link,
      c.self.invariant.room,
    )

pub invariant_of-self : goal.invariant_of-self
invariant_of-self c =
    let slots : SlotsData = record { settings = c.self.inside.settings; links = c.self.inside.links.items } in
    let free = subst (λ (held : SlotsData). is_free held c.args.link ≡ true) (sym c.self.view_is) c.requires.free in
    record {
      settings = c.self.invariant.settings;
      within = subst (λ links. AreWithin (record { settings = c.self.inside.settings; links = links })) (sym c.push_reserved.ensures.items)
          (within_after_take slots c.args.link c.self.invariant.within free);
      tallied = subst (λ links. AreTallied (length c.self.inside.settings.endpoints) links c.raise.new.self) (sym c.push_reserved.ensures.items)
          (c.raise.ensures.tallied (length c.self.inside.settings.endpoints) c.self.inside.links.items
          (omega (arith, few_links slots c.self.invariant.settings c.self.invariant.within)) c.self.invariant.tallied);
      limits = c.self.invariant.limits;
      ranks = c.self.invariant.ranks;
      room = omega (arith, c.self.invariant.room, c.push_reserved.ensures.capacity);
    }

pub raise-requires : goal.raise-requires
raise-requires c =
    let inside = subst (λ (slots : SlotsData). IsInside slots.settings c.args.link) (sym c.self.view_is) c.requires.inside in
    record {
      places = places_inside c.self.inside.settings c.args.link c.self.inside.links.items c.self.inside.counts c.self.invariant.settings inside c.self.invariant.tallied;
    }
