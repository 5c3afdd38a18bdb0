-- Counters after one link more and one link less.
use Rattle.std.proofs.Common.{◌≡◌, ◌≢◌, ℕ, ◌+◌, ◌-◌, ◌<◌, Bool, true, false, cond, List, [], ◌∷◌, ◌++◌, length, Some, refl, ap, sym, ◌∙◌, arith}
use Rattle.std.specs.Prelude.{◌&&◌, ◌==◌, slice_get, slice_index, slice_set, remove}
use Rattle.std.proofs.lemmas.List.{get_or-set_other, length-set}
use Rattle.std.proofs.lemmas.Grind.{get_or-set_at}
use Rattle.std.proofs.lemmas.Bool.{eqb-true, eqb-false, eq-eqb}
use Rattle.fts_tables.specs.declared.settings.LinkAt.{LinkAt}
use Rattle.fts_slots.specs.SlotsData.{index_of, is_same_link, held_of, outbound_of, inbound_of}
use Rattle.fts_slots.specs.Tallies.{AreTallied, HasPlaces}
use Rattle.fts_slots.specs.declared.counts.Counts.{Counts}
use Rattle.fts_slots.proofs.LinkCounts.{count_by-push, count_by-remove, same_link}

-- one more at a place: a counter there rises, and every other stays
raised : (counters : List ℕ) (here there count : ℕ) (is : Bool) → here < length counters → slice_index counters there ≡ count
    → (is ≡ true → there ≡ here) → (is ≡ false → there ≢ here)
    → slice_index (slice_set counters here (slice_index counters here + 1)) there ≡ count + cond is 1 0
raised counters here there count true inside was same other =
    let at : there ≡ here = same refl in
    get_or-set_at counters here there (slice_index counters here + 1) 0 at inside
    ∙ ap (λ number. number + 1) (ap (λ place. slice_index counters place) (sym at) ∙ was)
raised counters here there count false inside was same other =
    get_or-set_other counters here there (slice_index counters here + 1) 0 (other refl) ∙ (was ∙ omega arith)

-- one less at a place: a counter there falls, and every other stays
lowered : (counters : List ℕ) (here there count : ℕ) (is : Bool) → here < length counters → slice_index counters there ≡ count + cond is 1 0
    → (is ≡ true → there ≡ here) → (is ≡ false → there ≢ here)
    → slice_index (slice_set counters here (slice_index counters here - 1)) there ≡ count
lowered counters here there count true inside was same other =
    let at : there ≡ here = same refl in
    let one : slice_index counters here ≡ count + 1 = ap (λ place. slice_index counters place) (sym at) ∙ was in
    get_or-set_at counters here there (slice_index counters here - 1) 0 at inside ∙ omega arith
lowered counters here there count false inside was same other =
    get_or-set_other counters here there (slice_index counters here - 1) 0 (other refl) ∙ (was ∙ omega arith)

-- links that are one by the test have one index
index-same : (one other : LinkAt) → is_same_link one other ≡ true → index_of one ≡ index_of other
index-same one other is = ap index_of (same_link one other is)

-- links with low destinations that have one index are one
pub index-apart : (one other : LinkAt) → one.dest < 256 → other.dest < 256 → is_same_link one other ≡ false → index_of one ≢ index_of other
index-apart one other low low_other is same =
    let source : one.source ≡ other.source = omega arith in
    let dest : one.dest ≡ other.dest = omega arith in
    let yes : is_same_link one other ≡ true =
    ap (λ answer. answer && (other.dest == one.dest)) (eq-eqb other.source one.source (sym source)) ∙ eq-eqb other.dest one.dest (sym dest) in
    let clash : true ≡ false = sym yes ∙ is in
    cc

-- the counters of one link more
pub tallied-more : (endpoints : ℕ) (taken : List LinkAt) (link : LinkAt) (before after : Counts) → HasPlaces before link
    → after.links.items ≡ slice_set before.links.items (index_of link) (slice_index before.links.items (index_of link) + 1)
    → after.outbound.items ≡ slice_set before.outbound.items link.source (slice_index before.outbound.items link.source + 1)
    → after.inbound.items ≡ slice_set before.inbound.items link.dest (slice_index before.inbound.items link.dest + 1)
    → AreTallied endpoints taken before → AreTallied endpoints (taken ++ link ∷ []) after
tallied-more endpoints taken link before after places links outbound inbound tallied = record {
  link_places = ap length links ∙ (length-set before.links.items (index_of link) _ ∙ tallied.link_places);
  outbound_places = ap length outbound ∙ (length-set before.outbound.items link.source _ ∙ tallied.outbound_places);
  inbound_places = ap length inbound ∙ (length-set before.inbound.items link.dest _ ∙ tallied.inbound_places);
  links = λ other source low. ap (λ counters. slice_index counters (index_of other)) links
      ∙ (raised before.links.items (index_of link) (index_of other) (held_of taken other) (is_same_link other link) places.link (tallied.links other source low)
      (index-same other link) (index-apart other link low places.low) ∙ sym (count_by-push (is_same_link other) taken link));
  outbound = λ place inside. ap (λ counters. slice_index counters place) outbound
      ∙ (raised before.outbound.items link.source place (outbound_of taken place) (link.source == place) places.source (tallied.outbound place inside)
      (λ same. sym (eqb-true link.source place same)) (λ apart same. eqb-false link.source place apart (sym same))
      ∙ sym (count_by-push (λ other. other.source == place) taken link));
  inbound = λ place inside. ap (λ counters. slice_index counters place) inbound
      ∙ (raised before.inbound.items link.dest place (inbound_of taken place) (link.dest == place) places.dest (tallied.inbound place inside)
      (λ same. sym (eqb-true link.dest place same)) (λ apart same. eqb-false link.dest place apart (sym same))
      ∙ sym (count_by-push (λ other. other.dest == place) taken link));
}

-- the counters of one link less
pub tallied-less : (endpoints : ℕ) (taken : List LinkAt) (at : ℕ) (link : LinkAt) (before after : Counts) → HasPlaces before link → slice_get taken at ≡ Some link
    → after.links.items ≡ slice_set before.links.items (index_of link) (slice_index before.links.items (index_of link) - 1)
    → after.outbound.items ≡ slice_set before.outbound.items link.source (slice_index before.outbound.items link.source - 1)
    → after.inbound.items ≡ slice_set before.inbound.items link.dest (slice_index before.inbound.items link.dest - 1)
    → AreTallied endpoints taken before → AreTallied endpoints (remove taken at) after
tallied-less endpoints taken at link before after places stands links outbound inbound tallied = record {
  link_places = ap length links ∙ (length-set before.links.items (index_of link) _ ∙ tallied.link_places);
  outbound_places = ap length outbound ∙ (length-set before.outbound.items link.source _ ∙ tallied.outbound_places);
  inbound_places = ap length inbound ∙ (length-set before.inbound.items link.dest _ ∙ tallied.inbound_places);
  links = λ other source low. ap (λ counters. slice_index counters (index_of other)) links
      ∙ lowered before.links.items (index_of link) (index_of other) (held_of (remove taken at) other) (is_same_link other link) places.link
      (tallied.links other source low ∙ count_by-remove (is_same_link other) taken at link stands)
      (index-same other link) (index-apart other link low places.low);
  outbound = λ place inside. ap (λ counters. slice_index counters place) outbound
      ∙ lowered before.outbound.items link.source place (outbound_of (remove taken at) place) (link.source == place) places.source
      (tallied.outbound place inside ∙ count_by-remove (λ other. other.source == place) taken at link stands)
      (λ same. sym (eqb-true link.source place same)) (λ apart same. eqb-false link.source place apart (sym same));
  inbound = λ place inside. ap (λ counters. slice_index counters place) inbound
      ∙ lowered before.inbound.items link.dest place (inbound_of (remove taken at) place) (link.dest == place) places.dest
      (tallied.inbound place inside ∙ count_by-remove (λ other. other.dest == place) taken at link stands)
      (λ same. sym (eqb-true link.dest place same)) (λ apart same. eqb-false link.dest place apart (sym same));
}
