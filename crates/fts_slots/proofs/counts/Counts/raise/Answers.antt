use Rattle.std.proofs.Common.{◌≡◌, ◌∙◌, ◌+◌, ◌<◌, arith}
use Rattle.std.specs.Prelude.{◌==◌, slice_index, slice_set}
use Rattle.std.proofs.lemmas.List.Sums.{count_by-le-length}
use Rattle.std.specs.Vec.{with_items}
use Rattle.std.proofs.lemmas.List.{with_items_is}
use Rattle.fts_slots.specs.declared.counts.Counts.{Counts}
use Rattle.fts_slots.specs.SlotsData.{index_of, is_same_link}
use Rattle.fts_slots.proofs.Tallied.{tallied-more}
use Rattle.fts_slots.proofs.counts.Counts.raise.Goals as goal

pub returns : goal.returns
returns c =
    let link = c.args.link in
    let before = c.args.self.now in
    let after : Counts = record {
      links = with_items before.links c.raise_at.new.counts;
      outbound = with_items before.outbound c.raise_at-2.new.counts;
      inbound = with_items before.inbound c.raise_at-3.new.counts;
    } in
    record {
      tallied = λ endpoints taken few tallied.
          let source : link.source < endpoints = omega (arith, c.requires.places.source, tallied.outbound_places) in
          let dest : link.dest < endpoints = omega (arith, c.requires.places.dest, tallied.inbound_places) in
          let links_at : c.deref_mut.result.now ≡ before.links.items = cc in
          let outbound_at : c.deref_mut-2.result.now ≡ before.outbound.items = cc in
          let inbound_at : c.deref_mut-3.result.now ≡ before.inbound.items = cc in
          let source_at : c.from.result ≡ link.source = cc in
          let dest_at : c.from-2.result ≡ link.dest = cc in
          let few_links : slice_index c.deref_mut.result.now c.index_of.result < 4294967295 =
          rw (links_at, c.index_of.ensures.index) (omega (arith, tallied.links link source c.requires.places.low, count_by-le-length (is_same_link link) taken)) in
          let few_outbound : slice_index c.deref_mut-2.result.now c.from.result < 4294967295 =
          rw (outbound_at, source_at) (omega (arith, tallied.outbound link.source source, count_by-le-length (λ other. other.source == link.source) taken)) in
          let few_inbound : slice_index c.deref_mut-3.result.now c.from-2.result < 4294967295 =
          rw (inbound_at, dest_at) (omega (arith, tallied.inbound link.dest dest, count_by-le-length (λ other. other.dest == link.dest) taken)) in
          let links_is = c.raise_at.ensures.counts few_links in
          let outbound_is = c.raise_at-2.ensures.counts few_outbound in
          let inbound_is = c.raise_at-3.ensures.counts few_inbound in
          let links : (with_items before.links c.raise_at.new.counts).items
          ≡ slice_set before.links.items (index_of link) (slice_index before.links.items (index_of link) + 1) =
          with_items_is before.links c.raise_at.new.counts (c.raise_at.auto.counts ∙ c.deref_mut.ensures.len) ∙ (cc) in
          let outbound : (with_items before.outbound c.raise_at-2.new.counts).items
          ≡ slice_set before.outbound.items link.source (slice_index before.outbound.items link.source + 1) =
          with_items_is before.outbound c.raise_at-2.new.counts (c.raise_at-2.auto.counts ∙ c.deref_mut-2.ensures.len) ∙ (cc) in
          let inbound : (with_items before.inbound c.raise_at-3.new.counts).items
          ≡ slice_set before.inbound.items link.dest (slice_index before.inbound.items link.dest + 1) =
          with_items_is before.inbound c.raise_at-3.new.counts (c.raise_at-3.auto.counts ∙ c.deref_mut-3.ensures.len) ∙ (cc) in
          tallied-more endpoints taken link before after c.requires.places links outbound inbound tallied;
    }
