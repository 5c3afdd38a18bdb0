-- An entry that was found and read, and the entries with another count in its place.
use Rattle.std.proofs.Common.{◌≡◌, ℕ, Some, get_or, sym, ap, ◌∙◌, subst}
use Rattle.std.proofs.Math.ListN.{set}
use Rattle.std.specs.Prelude.{map}
use Rattle.std.specs.List.{position_from}
use Rattle.fts_index.specs.Links.{Link, LinkLists, is_link, count_of, AreInOrder}
use Rattle.fts_index.specs.Loads.{link_of_known, link_lists, AreLoads}
use Rattle.fts_index.specs.declared.loads.Known.{Known}
use Rattle.fts_index.specs.declared.loads.Loads.TheInside.{Inside}
use Rattle.fts_index.proofs.Counted.{IsEntryOf, entry_of, entry_is, counted, known_at}
use Rattle.fts_index.proofs.LinksInOrder.{apart_of}

-- the entry with another count
abbrev pub with_count : Known → ℕ → Known
with_count known count = record { source = known.source; dest = known.dest; count = count }

-- an entry as it was read, how often its link is counted, and what stays at any count
pub record IsRead (loads : Inside) (lists : LinkLists) (link : Link) (place : ℕ) (read : Known) : Type 0 where
  pub entry : IsEntryOf loads.known.items link place
  pub named : link_of_known read ≡ link
  pub count : read.count ≡ entry.known.count
  pub counts : count_of lists.links link ≡ read.count
  pub known : (count : ℕ) → map link_of_known (set loads.known.items place (with_count read count)) ≡ lists.known
  pub order : (count : ℕ) → AreInOrder (map link_of_known (set loads.known.items place (with_count read count)))

module _ (loads : Inside) (lists : LinkLists) (link : Link) (place : ℕ) (same : link_lists loads ≡ lists)
    (found : Some place ≡ position_from (is_link link) 0 lists.known) where
  -- the place that was found has an entry
  pub found_entry : IsEntryOf loads.known.items link place
  found_entry = entry_of loads.known.items lists.known link place (ap (λ (some : LinkLists). some.known) same) found

  pub read_of : (read : Known) → AreLoads loads → read ≡ get_or loads.known.items place read → IsRead loads lists link place read
  read_of read kept is =
      let is_entry = entry_is loads.known.items link place read found_entry is in
      let named : link_of_known read ≡ link = ap link_of_known is_entry ∙ found_entry.named in
      let count : read.count ≡ found_entry.known.count = ap (λ (some : Known). some.count) is_entry in
      let stay = λ (other : ℕ). known_at loads.known.items link place (with_count read other) found_entry named in
      record {
        entry = found_entry;
        named = named;
        count = count;
        counts = ap (λ (some : LinkLists). count_of some.links link) (sym same)
            ∙ (counted loads.known.items link place (apart_of (map link_of_known loads.known.items) kept.order) found_entry ∙ sym count);
        known = λ other. stay other ∙ ap (λ (some : LinkLists). some.known) same;
        order = λ other. subst AreInOrder (sym (stay other)) kept.order;
      }
