-- The least of a list by a total order, and the link that a claim takes: by the links in order of names it is the same as by the rows.
use Rattle.std.proofs.Common.{◌≡◌, ℕ, Bool, true, false, cond, List, [], ◌∷◌, length, map, Option, Some, None, refl, ap, sym, ◌∙◌, subst}
use Rattle.std.specs.Prelude.{◌&&◌, ◌||◌, ◌==◌, nat_lt, bytes_eq, filter, fold, slice_get, option_map, option_and_then, if◌then◌else◌}
use Rattle.std.specs.List.{list_any, AllByRecursion}
use Rattle.std.specs.Option.{option_map_or}
use Rattle.std.specs.declared.cmp.Ordering.{Ordering}
use Rattle.std.specs.declared.cmp.Ordering.TheVariants.{Less, Equal, Greater}
use Rattle.std.specs.Ordering.{nat_cmp, is_lt, is_eq, ordering_then, ordering_reverse}
use Rattle.std.specs.Cmp.{IsTotalOrder, on_total, then_total}
use Rattle.std.specs.Cmp.Lexicographic.{slice_cmp, on_texts}
use Rattle.std.proofs.lemmas.Cmp.{nat_cmp_total}
use Rattle.std.proofs.lemmas.Map.Text.{is_eq-slice_cmp}
use Rattle.std.proofs.lemmas.Bool.{and_parts}
use Rattle.std.proofs.lemmas.Option.{same_Some, slice_get-map}
use Rattle.std.proofs.lemmas.Slice.Eq.{bytes_eq-Decides}
use Rattle.fts_tables.specs.Tables.{Tables}
use Rattle.fts_tables.specs.Limits.{is_on_link, held, eligible_rows}
use Rattle.fts_tables.specs.Choice.{least, is_link_before}
use Rattle.fts_tables.specs.declared.rows.FileRow.{FileRow}
use Rattle.fts_choice.specs.declared.links.LinkChance.{LinkChance}
use Rattle.fts_choice.specs.LeastPlaces.{least_place, is_eligible_at, held_of}
use Rattle.fts_choice.specs.LinkOrder.{LinkNames, link_of, name_cmp, AreInOrder, chance_of, AreAllLinks}
use Rattle.fts_tables.proofs.EachRow.{each_weaker, each_of_all, each_filter, each_least}
use Rattle.fts_choice.proofs.PlacedItems.{placed_least}

-- what passes the test of less is less
less_from_test : (order : Ordering) → is_lt order ≡ true → order ≡ Less
less_from_test Less is = refl
less_from_test Equal is = cc
less_from_test Greater is = cc

-- a total order of the keys of items
module _ {Item Key : Type 0} (key : Item → Key) (cmp : Key → Key → Ordering) (total : IsTotalOrder cmp) where
  -- an item goes before another
  abbrev goes_before : Item → Item → Bool
  goes_before one other = is_lt (cmp (key one) (key other))

  -- nothing goes before itself
  not_itself : (item : Key) → is_lt (cmp item item) ≡ false
  not_itself item = by_order (cmp item item) (total.antisymm item item)
    where
      by_order : (order : Ordering) → order ≡ ordering_reverse order → is_lt order ≡ false
      by_order Less is = cc
      by_order Equal is = refl
      by_order Greater is = refl

  -- what a lesser one doesn't go before, the greater one doesn't
  not_through_less : (low middle high : Key) → is_lt (cmp low middle) ≡ true → is_lt (cmp low high) ≡ false → is_lt (cmp middle high) ≡ false
  not_through_less low middle high less not_less = by_order (cmp middle high) refl
    where
      by_order : (order : Ordering) → cmp middle high ≡ order → is_lt order ≡ false
      by_order Less is =
          let clash : true ≡ false = sym (ap is_lt (total.trans low middle high (less_from_test (cmp low middle) less) is)) ∙ not_less in
          cc
      by_order Equal is = refl
      by_order Greater is = refl

  -- nor one that doesn't go before the one that doesn't
  not_through_not : (one best last : Key) → is_lt (cmp one best) ≡ false → is_lt (cmp best last) ≡ false → is_lt (cmp one last) ≡ false
  not_through_not one best last first second = by_order (cmp one last) refl
    where
      by_best : cmp one last ≡ Less → (order : Ordering) → cmp best last ≡ order → is_lt order ≡ false → is_lt (cmp one best) ≡ true
      by_best less Less is not_less = cc
      by_best less Equal is not_less =
          let above : cmp best one ≡ Greater = total.congr best last one is ∙ (total.antisymm last one ∙ ap ordering_reverse less) in
          ap is_lt (total.antisymm one best ∙ ap ordering_reverse above)
      by_best less Greater is not_less =
          let under : cmp last best ≡ Less = total.antisymm last best ∙ ap ordering_reverse is in
          ap is_lt (total.trans one last best less under)

      by_order : (order : Ordering) → cmp one last ≡ order → is_lt order ≡ false
      by_order Less is =
          let clash : true ≡ false = sym (by_best is (cmp best last) refl second) ∙ first in
          cc
      by_order Equal is = refl
      by_order Greater is = refl

  -- the best of some items, from a first one on
  abbrev best_from : Item → List Item → Item
  best_from best items = fold (λ best item. if goes_before item best then item else best) best items

  -- neither the first one nor any of the items goes before the best
  fold_least : (best : Item) (items : List Item) → (goes_before best (best_from best items) ≡ false)
      × AllByRecursion (λ item. goes_before item (best_from best items) ≡ false) items
  fold_least best [] = (not_itself (key best), tt)
  fold_least best (item ∷ items) = by_test (goes_before item best) refl (fold_least (if goes_before item best then item else best) items)
    where
      by_test : (answer : Bool) → goes_before item best ≡ answer
          → (goes_before (cond answer item best) (best_from (cond answer item best) items) ≡ false)
          × AllByRecursion (λ other. goes_before other (best_from (cond answer item best) items) ≡ false) items
          → (goes_before best (best_from (cond answer item best) items) ≡ false)
          × ((goes_before item (best_from (cond answer item best) items) ≡ false)
          × AllByRecursion (λ other. goes_before other (best_from (cond answer item best) items) ≡ false) items)
      by_test true less behind = (not_through_less (key item) (key best) (key (best_from item items)) less behind.0, (behind.0, behind.1))
      by_test false not_less behind = (behind.0, (not_through_not (key item) (key best) (key (best_from best items)) not_less behind.0, behind.1))

  -- no item goes before the least
  pub least_below : (items : List Item) (best : Item) → least goes_before items ≡ Some best → AllByRecursion (λ item. goes_before item best ≡ false) items
  least_below [] best is = cc
  least_below (item ∷ items) best is =
      subst (λ found. AllByRecursion (λ other. goes_before other found ≡ false) (item ∷ items)) (same_Some (best_from item items) best is)
      (fold_least item items)

-- two keys of which neither goes before the other are level
level : {Key : Type 0} (cmp : Key → Key → Ordering) → IsTotalOrder cmp → (one other : Key) → is_lt (cmp one other) ≡ false → is_lt (cmp other one) ≡ false
    → cmp one other ≡ Equal
level cmp total one other first second = by_order (cmp one other) refl first
  where
    by_order : (order : Ordering) → cmp one other ≡ order → is_lt order ≡ false → cmp one other ≡ Equal
    by_order Less is not_less = cc
    by_order Equal is not_less = is
    by_order Greater is not_less =
        let clash : true ≡ false = sym (ap is_lt (total.antisymm other one ∙ ap ordering_reverse is)) ∙ second in
        cc

-- what holds of each item that passes, where one passes
any_all : {Item : Type 0} (Holds : Item → Type 0) (Goal : Type 0) (test : Item → Bool) (items : List Item) → list_any test items ≡ true
    → AllByRecursion Holds items
    → ((item : Item) → test item ≡ true → Holds item → Goal) → Goal
any_all Holds Goal test [] any all use_one = cc
any_all Holds Goal test (item ∷ items) any all use_one = by_head (λ behind. any_all Holds Goal test items behind all.1 use_one) (test item) refl any
  where
    by_head : (list_any test items ≡ true → Goal) → (answer : Bool) → test item ≡ answer → (answer || list_any test items) ≡ true → Goal
    by_head behind true is any = use_one item is all.0
    by_head behind false is any = behind any

-- what holds of all that a filter kept holds of each that passes
unfiltered : {Item : Type 0} (Holds : Item → Type 0) (test : Item → Bool) (items : List Item) → AllByRecursion Holds (filter test items)
    → AllByRecursion (λ item. test item ≡ true → Holds item) items
unfiltered Holds test [] all = tt
unfiltered Holds test (item ∷ items) all = by_head (unfiltered Holds test items) (test item) refl all
  where
    by_head : (AllByRecursion Holds (filter test items) → AllByRecursion (λ other. test other ≡ true → Holds other) items) → (answer : Bool)
        → test item ≡ answer
        → AllByRecursion Holds (cond answer (item ∷ filter test items) (filter test items))
        → (test item ≡ true → Holds item) × AllByRecursion (λ other. test other ≡ true → Holds other) items
    by_head behind true is kept = (λ passes. kept.0, behind kept.1)
    by_head behind false is kept =
        (λ passes. let clash : true ≡ false = sym passes ∙ is in cc, behind kept)

-- each item passes its own test in the list
found_by_itself : {Item : Type 0} (test : Item → Item → Bool) → ((item : Item) → test item item ≡ true) → (items : List Item)
    → AllByRecursion (λ item. list_any (test item) items ≡ true) items
found_by_itself test same [] = tt
found_by_itself test same (item ∷ items) = (
  ap (λ answer. answer || list_any (test item) items) (same item),
  each_weaker (λ other. list_any (test other) items ≡ true) (λ other. list_any (test other) (item ∷ items) ≡ true)
      (λ other found. ap (λ answer. test other item || answer) found ∙ or_true (test other item)) items (found_by_itself test same items),
)
  where
    or_true : (answer : Bool) → (answer || true) ≡ true
    or_true true = refl
    or_true false = refl

-- links in order, a part of them
filter_in_order : (test : LinkNames → Bool) (links : List LinkNames) → AreInOrder links → AreInOrder (filter test links)
filter_in_order test [] sorted = tt
filter_in_order test (link ∷ links) sorted = by_head (test link) (filter_in_order test links sorted.1)
  where
    by_head : (answer : Bool) → AreInOrder (filter test links) → AreInOrder (cond answer (link ∷ filter test links) (filter test links))
    by_head true behind = (
      each_weaker (λ later. (test later ≡ true) × (name_cmp link later ≡ Less)) (λ later. name_cmp link later ≡ Less) (λ later both. both.1) (filter test links)
          (each_filter (λ later. name_cmp link later ≡ Less) test links sorted.0),
      behind,
    )
    by_head false behind = behind

-- the order of names is total
names_total : IsTotalOrder name_cmp
names_total = then_total (on_texts (λ (link : LinkNames). link.source)) (on_texts (λ (link : LinkNames). link.dest))

-- level names are equal
level_names : (one other : LinkNames) → name_cmp one other ≡ Equal → one ≡ other
level_names one other is =
    let both = parts (slice_cmp nat_cmp one.source other.source) (slice_cmp nat_cmp one.dest other.dest) is in
    ap (λ source. record { source = source; dest = one.dest })
    ((bytes_eq-Decides one.source other.source).0 (sym (is_eq-slice_cmp one.source other.source) ∙ ap is_eq both.0))
    ∙ ap (λ dest. record { source = other.source; dest = dest })
    ((bytes_eq-Decides one.dest other.dest).0 (sym (is_eq-slice_cmp one.dest other.dest) ∙ ap is_eq both.1))
  where
    parts : (first second : Ordering) → ordering_then first second ≡ Equal → (first ≡ Equal) × (second ≡ Equal)
    parts Less second is = cc
    parts Equal second is = (refl, is)
    parts Greater second is = cc

-- level by two orders is level by the second
level_rest : (first rest : Ordering) → ordering_then first rest ≡ Equal → rest ≡ Equal
level_rest Less rest is = cc
level_rest Equal rest is = is
level_rest Greater rest is = cc

-- a row on a link has its names
on_link_same : (link : LinkNames) (row : FileRow) → is_on_link link.source link.dest row ≡ true → link_of row ≡ link
on_link_same link row is =
    let both = and_parts (bytes_eq row.source.endpoint link.source) (bytes_eq row.dest.endpoint link.dest) is in
    ap (λ source. record { source = source; dest = row.dest.endpoint }) ((bytes_eq-Decides row.source.endpoint link.source).0 both.0)
    ∙ ap (λ dest. record { source = link.source; dest = dest }) ((bytes_eq-Decides row.dest.endpoint link.dest).0 both.1)

-- a row is on its own link
on_own_link : (row : FileRow) → is_on_link row.source.endpoint row.dest.endpoint row ≡ true
on_own_link row = ap (λ answer. answer && bytes_eq row.dest.endpoint row.dest.endpoint) ((bytes_eq-Decides row.source.endpoint row.source.endpoint).1 refl)
    ∙ (bytes_eq-Decides row.dest.endpoint row.dest.endpoint).1 refl

-- links by what they hold, then by name
module _ (tables : Tables) (now : ℕ) where
  -- what a link holds
  abbrev holds : LinkNames → ℕ
  holds link = held tables.rows link.source link.dest

  -- the order of a claim's links
  abbrev claim_cmp : LinkNames → LinkNames → Ordering
  claim_cmp one other = ordering_then (nat_cmp (holds one) (holds other)) (name_cmp one other)

  -- it is total
  claim_total : IsTotalOrder claim_cmp
  claim_total = then_total (on_total holds nat_cmp_total) names_total

  -- a link with a row that may be claimed
  abbrev has_row : LinkNames → Bool
  has_row link = list_any (is_on_link link.source link.dest) (eligible_rows tables now)

  -- a later name goes before an earlier one exactly where its link holds less
  later_less : (one other : LinkNames) → name_cmp other one ≡ Less → is_lt (claim_cmp one other) ≡ nat_lt (holds one) (holds other)
  later_less one other earlier =
      ap (λ order. is_lt (ordering_then (nat_cmp (holds one) (holds other)) order)) (names_total.antisymm one other ∙ ap ordering_reverse earlier)
      ∙ by_held (nat_lt (holds one) (holds other)) (holds one == holds other)
    where
      by_held : (less same : Bool) → is_lt (ordering_then (cond less Less (cond same Equal Greater)) Greater) ≡ less
      by_held true same = refl
      by_held false true = refl
      by_held false false = refl

  -- of links in order of names, the first that holds the least is the least of the claim's order
  fold_in_order : (best : LinkNames) (links : List LinkNames) → AllByRecursion (λ later. name_cmp best later ≡ Less) links → AreInOrder links
      → fold (λ best link. if nat_lt (holds link) (holds best) then link else best) best links
      ≡ fold (λ best link. if is_lt (claim_cmp link best) then link else best) best links
  fold_in_order best [] after sorted = refl
  fold_in_order best (link ∷ links) after sorted =
      by_test (nat_lt (holds link) (holds best)) refl
      (fold_in_order (if nat_lt (holds link) (holds best) then link else best) links (chosen_before (nat_lt (holds link) (holds best))) sorted.1)
    where
      chosen_before : (answer : Bool) → AllByRecursion (λ later. name_cmp (cond answer link best) later ≡ Less) links
      chosen_before true = sorted.0
      chosen_before false = after.1

      by_test : (answer : Bool) → nat_lt (holds link) (holds best) ≡ answer
          → fold (λ best link. if nat_lt (holds link) (holds best) then link else best) (cond answer link best) links
          ≡ fold (λ best link. if is_lt (claim_cmp link best) then link else best) (cond answer link best) links
          → fold (λ best link. if nat_lt (holds link) (holds best) then link else best) (cond answer link best) links
          ≡ fold (λ best link. if is_lt (claim_cmp link best) then link else best) (cond (is_lt (claim_cmp link best)) link best) links
      by_test answer is behind =
          behind ∙ ap (λ chosen. fold (λ best link. if is_lt (claim_cmp link best) then link else best) (cond chosen link best) links)
          (sym (later_less link best after.0 ∙ is))

  -- the same of whole lists
  least_in_order : (links : List LinkNames) → AreInOrder links → least (λ one other. nat_lt (holds one) (holds other)) links
      ≡ least (λ one other. is_lt (claim_cmp one other)) links
  least_in_order [] sorted = refl
  least_in_order (link ∷ links) sorted = ap (λ found. Some found) (fold_in_order link links sorted.0 sorted.1)

  -- the link at the picked place is the least in the claim's order of those with a row
  place_is_least : (links : List LinkNames) → AreInOrder links
      → option_and_then (slice_get links)
      (least_place (is_eligible_at (map (chance_of tables now) links)) (held_of (map (chance_of tables now) links)) (length links))
      ≡ least (λ one other. is_lt (claim_cmp one other)) (filter has_row links)
  place_is_least links sorted =
      placed_least links has_row holds (is_eligible_at (map (chance_of tables now) links)) (held_of (map (chance_of tables now) links))
      (λ place link at. ap (λ found. option_map_or (λ (chance : LinkChance). chance.eligible) found false) (slice_get-map (chance_of tables now) links place
      ∙ ap (option_map (chance_of tables now)) at))
      (λ place link at. ap (λ found. option_map_or (λ (chance : LinkChance). chance.held) found 0) (slice_get-map (chance_of tables now) links place
      ∙ ap (option_map (chance_of tables now)) at))
      ∙ least_in_order (filter has_row links) (filter_in_order has_row links sorted)

  -- a link of which a row may be claimed stands among the links with one
  link_of_row : (links : List LinkNames) (row : FileRow) → list_any (λ (link : LinkNames). is_on_link link.source link.dest row) links ≡ true
      → has_row (link_of row) ≡ true
      → (Holds : LinkNames → Type 0) → AllByRecursion Holds (filter has_row links) → Holds (link_of row)
  link_of_row links row listed waits Holds all =
      any_all (λ link. has_row link ≡ true → Holds link) (Holds (link_of row)) (λ (link : LinkNames). is_on_link link.source link.dest row) links listed
      (unfiltered Holds has_row links all)
      (λ link on holds_if. subst Holds (sym (on_link_same link row on)) (holds_if (subst (λ other. has_row other ≡ true) (on_link_same link row on) waits)))

  -- the least row's link is the least link
  rows_alike : (links : List LinkNames) → AreAllLinks tables now links → (first : Option FileRow) (best : Option LinkNames)
      → least (is_link_before tables.rows) (eligible_rows tables now) ≡ first → least (λ one other. is_lt (claim_cmp one other)) (filter has_row links) ≡ best
      → best ≡ option_map link_of first
  rows_alike links listed None None first_is best_is = refl
  rows_alike links listed None (Some best) first_is best_is =
      -- no row may be claimed, so no link has one
      absurd (none_has (eligible_rows tables now) first_is
      (each_least (λ link. has_row link ≡ true) (λ one other. is_lt (claim_cmp one other)) (filter has_row links) best
      (each_weaker (λ link. (has_row link ≡ true) × Unit {0}) (λ link. has_row link ≡ true) (λ link both. both.0) (filter has_row links)
      (each_filter (λ link. Unit {0}) has_row links (each_of_all (λ link. Unit {0}) (λ link. tt) links))) best_is))
    where
      none_has : (rows : List FileRow) → least (is_link_before tables.rows) rows ≡ None → list_any (is_on_link best.source best.dest) rows ≡ true → ⊥
      none_has [] none any = cc
      none_has (row ∷ rows) none any = cc
  rows_alike links listed (Some row) None first_is best_is =
      absurd (link_of_row links row (each_least (λ other. list_any (λ (link : LinkNames). is_on_link link.source link.dest other) links ≡ true)
      (is_link_before tables.rows) (eligible_rows tables now) row listed first_is)
      (row_waits row first_is) (λ link. ⊥) (none_kept (filter has_row links) best_is))
    where
      none_kept : (some : List LinkNames) → least (λ one other. is_lt (claim_cmp one other)) some ≡ None → AllByRecursion (λ link. ⊥) some
      none_kept [] none = tt
      none_kept (link ∷ some) none = cc

      row_waits : (row : FileRow) → least (is_link_before tables.rows) (eligible_rows tables now) ≡ Some row → has_row (link_of row) ≡ true
      row_waits row is = each_least (λ other. has_row (link_of other) ≡ true) (is_link_before tables.rows) (eligible_rows tables now) row
          (found_by_itself (λ one other. is_on_link one.source.endpoint one.dest.endpoint other) on_own_link (eligible_rows tables now)) is
  rows_alike links listed (Some row) (Some best) first_is best_is =
      ap (λ link. Some link) (level_names best (link_of row)
      (level_rest (nat_cmp (holds best) (holds (link_of row))) (name_cmp best (link_of row))
      (level claim_cmp claim_total best (link_of row) not_before not_after)))
    where
      row_waits : has_row (link_of row) ≡ true
      row_waits = each_least (λ other. has_row (link_of other) ≡ true) (is_link_before tables.rows) (eligible_rows tables now) row
          (found_by_itself (λ one other. is_on_link one.source.endpoint one.dest.endpoint other) on_own_link (eligible_rows tables now)) first_is

      best_has : has_row best ≡ true
      best_has = each_least (λ link. has_row link ≡ true) (λ one other. is_lt (claim_cmp one other)) (filter has_row links) best
          (each_weaker (λ link. (has_row link ≡ true) × Unit {0}) (λ link. has_row link ≡ true) (λ link both. both.0) (filter has_row links)
          (each_filter (λ link. Unit {0}) has_row links (each_of_all (λ link. Unit {0}) (λ link. tt) links))) best_is

      -- a row on the best link doesn't go before the first row
      not_before : is_lt (claim_cmp best (link_of row)) ≡ false
      not_before = any_all (λ other. is_lt (claim_cmp (link_of other) (link_of row)) ≡ false) (is_lt (claim_cmp best (link_of row)) ≡ false)
          (is_on_link best.source best.dest) (eligible_rows tables now) best_has
          (least_below link_of claim_cmp claim_total (eligible_rows tables now) row first_is)
          (λ other on not_less. subst (λ link. is_lt (claim_cmp link (link_of row)) ≡ false) (on_link_same best other on) not_less)

      -- the first row's link doesn't go before the best
      not_after : is_lt (claim_cmp (link_of row) best) ≡ false
      not_after = link_of_row links row
          (each_least (λ other. list_any (λ (link : LinkNames). is_on_link link.source link.dest other) links ≡ true) (is_link_before tables.rows)
          (eligible_rows tables now) row listed first_is)
          row_waits (λ link. is_lt (claim_cmp link best) ≡ false) (least_below (λ link. link) claim_cmp claim_total (filter has_row links) best best_is)

  -- the link at the picked place is that of the claim's row
  pub picked_link : (links : List LinkNames) → AreInOrder links → AreAllLinks tables now links
      → option_and_then (slice_get links)
      (least_place (is_eligible_at (map (chance_of tables now) links)) (held_of (map (chance_of tables now) links)) (length links))
      ≡ option_map link_of (least (is_link_before tables.rows) (eligible_rows tables now))
  picked_link links sorted listed = place_is_least links sorted ∙ rows_alike links listed (least (is_link_before tables.rows) (eligible_rows tables now))
      (least (λ one other. is_lt (claim_cmp one other)) (filter has_row links)) refl refl
