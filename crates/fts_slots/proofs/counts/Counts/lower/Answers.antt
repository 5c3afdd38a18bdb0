use Rattle.std.proofs.Common.{◌≡◌, ◌∙◌, ◌-◌}
use Rattle.std.specs.Prelude.{slice_index, slice_set}
use Rattle.std.specs.Vec.{with_items}
use Rattle.std.proofs.lemmas.List.{with_items_is}
use Rattle.fts_slots.specs.declared.counts.Counts.{Counts}
use Rattle.fts_slots.specs.SlotsData.{index_of}
use Rattle.fts_slots.proofs.Tallied.{tallied-less}
use Rattle.fts_slots.proofs.counts.Counts.lower.Goals as goal

pub returns : goal.returns
returns c =
    let link = c.args.link in
    let before = c.args.self.now in
    let links : (with_items before.links c.lower_at.new.counts).items
    ≡ slice_set before.links.items (index_of link) (slice_index before.links.items (index_of link) - 1) =
    with_items_is before.links c.lower_at.new.counts (c.lower_at.auto.counts ∙ c.deref_mut.ensures.len) ∙ (cc) in
    let outbound : (with_items before.outbound c.lower_at-2.new.counts).items
    ≡ slice_set before.outbound.items link.source (slice_index before.outbound.items link.source - 1) =
    with_items_is before.outbound c.lower_at-2.new.counts (c.lower_at-2.auto.counts ∙ c.deref_mut-2.ensures.len) ∙ (cc) in
    let inbound : (with_items before.inbound c.lower_at-3.new.counts).items
    ≡ slice_set before.inbound.items link.dest (slice_index before.inbound.items link.dest - 1) =
    with_items_is before.inbound c.lower_at-3.new.counts (c.lower_at-3.auto.counts ∙ c.deref_mut-3.ensures.len) ∙ (cc) in
    let after : Counts = record {
      links = with_items before.links c.lower_at.new.counts;
      outbound = with_items before.outbound c.lower_at-2.new.counts;
      inbound = with_items before.inbound c.lower_at-3.new.counts;
    } in
    record {
      tallied = λ endpoints taken place stands tallied.
          tallied-less endpoints taken place link before after c.requires.places stands links outbound inbound tallied;
    }
