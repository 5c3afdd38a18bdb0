-- Links in their order: where one is found, and that one more leaves the order.
use Rattle.std.proofs.Common.{◌≡◌, ℕ, zero, suc, ◌+◌, ◌<◌, ◌≤◌, Bool, true, false, cond, List, [], ◌∷◌, length, get_or, Some, None, refl, ap, sym, ◌∙◌, arith, subst}
use Rattle.std.specs.Prelude.{◌&&◌, bytes_eq, slice_get, insert, map}
use Rattle.std.specs.List.{list_any, position_from, prefix_len, AllByRecursion}
use Rattle.std.specs.List.Sorted.{IsPartitionPoint}
use Rattle.std.specs.Option.{option_map_or}
use Rattle.std.specs.declared.cmp.Ordering.{Ordering}
use Rattle.std.specs.declared.cmp.Ordering.TheVariants.{Less, Equal, Greater}
use Rattle.std.specs.Ordering.{nat_cmp, ordering_then, ordering_reverse, is_lt, is_eq}
use Rattle.std.specs.Cmp.{IsTotalOrder, then_total}
use Rattle.std.specs.Cmp.Lexicographic.{slice_cmp, on_texts}
use Rattle.std.proofs.lemmas.Bool.{or_parts, or_from}
use Rattle.std.proofs.lemmas.Map.Text.{is_eq-slice_cmp}
use Rattle.std.proofs.lemmas.List.Sums.{prefix_len_is}
use Rattle.fts_index.specs.Links.{Link, link_cmp, is_link, is_link_before, is_among, AreInOrder}
use Rattle.fts_index.specs.Loads.{link_of_known}
use Rattle.fts_index.specs.declared.loads.Known.{Known}
use Rattle.fts_index.proofs.Counted.{AreApart, same_link, is_link-refl, is_link-sym}

-- the order of links is total
links_total : IsTotalOrder link_cmp
links_total = then_total (on_texts (λ (link : Link). link.source)) (on_texts (λ (link : Link). link.dest))

-- two links are one where they are level
same_is : (one other : Link) → is_link one other ≡ is_eq (link_cmp one other)
same_is one other =
    ap (λ answer. answer && bytes_eq one.dest other.dest) (sym (is_eq-slice_cmp one.source other.source))
    ∙ (ap (λ answer. is_eq (slice_cmp nat_cmp one.source other.source) && answer) (sym (is_eq-slice_cmp one.dest other.dest))
    ∙ both_level (slice_cmp nat_cmp one.source other.source) (slice_cmp nat_cmp one.dest other.dest))
  where
    both_level : (first rest : Ordering) → (is_eq first && is_eq rest) ≡ is_eq (ordering_then first rest)
    both_level Less rest = refl
    both_level Equal rest = refl
    both_level Greater rest = refl

-- what passes the test of less is less
less_is : (order : Ordering) → is_lt order ≡ true → order ≡ Less
less_is Less is = refl
less_is Equal is = cc
less_is Greater is = cc

-- the order passes on
pub passes_on : (one other third : Link) → is_link_before one other ≡ true → is_link_before other third ≡ true → is_link_before one third ≡ true
passes_on one other third first second =
    ap is_lt (links_total.trans one other third (less_is (link_cmp one other) first) (less_is (link_cmp other third) second))

-- a link that goes before another is not that
not_same : (one other : Link) → is_link_before one other ≡ true → is_link other one ≡ false
not_same one other goes = by_test (is_link other one) refl
  where
    by_test : (answer : Bool) → is_link other one ≡ answer → answer ≡ false
    by_test true is =
        let clash : true ≡ false = sym (is_link-sym other one is) ∙ (same_is one other ∙ ap is_eq (less_is (link_cmp one other) goes)) in
        cc
    by_test false is = refl

-- no link goes before itself
not_itself : (link : Link) → is_link_before link link ≡ false
not_itself link = by_test (is_link_before link link) refl
  where
    by_test : (answer : Bool) → is_link_before link link ≡ answer → answer ≡ false
    by_test true goes = let clash : true ≡ false = sym (is_link-refl link) ∙ not_same link link goes in cc
    by_test false goes = refl

-- of two links that are not one, one goes before the other
other_first : (one other : Link) → is_link_before one other ≡ false → is_link other one ≡ false → is_link_before other one ≡ true
other_first one other not_before apart = by_order (link_cmp one other) refl not_before
  where
    by_order : (order : Ordering) → link_cmp one other ≡ order → is_lt order ≡ false → is_link_before other one ≡ true
    by_order Less is not_less = cc
    by_order Equal is not_less =
        let clash : true ≡ false = sym (is_link-sym one other (same_is one other ∙ ap is_eq is)) ∙ apart in
        cc
    by_order Greater is not_less = ap is_lt (links_total.antisymm other one ∙ ap ordering_reverse is)

-- a link that the first doesn't go before is none of those behind it
none_behind : (first link : Link) (rest : List Link) → AllByRecursion (λ later. is_link_before first later ≡ true) rest
    → is_link_before first link ≡ false → is_among rest link ≡ false
none_behind first link [] all not_before = refl
none_behind first link (next ∷ rest) all not_before =
    or_from (is_link link next) (is_among rest link) (by_test (is_link link next) refl) (none_behind first link rest all.1 not_before)
  where
    by_test : (answer : Bool) → is_link link next ≡ answer → answer ≡ false
    by_test true is =
        let clash : true ≡ false = sym (subst (λ some. is_link_before first some ≡ true) (sym (same_link link next is)) all.0) ∙ not_before in
        cc
    by_test false is = refl

-- links in their order stand there once each
pub apart_of : (links : List Link) → AreInOrder links → AreApart links
apart_of [] order = tt
apart_of (first ∷ rest) order = (none_behind first first rest order.0 (not_itself first), apart_of rest order.1)

-- where no item passes, no place does
no_place : {Item : Type 0} (test : Item → Bool) (start : ℕ) (items : List Item) → list_any test items ≡ false → position_from test start items ≡ None
no_place test start [] none = refl
no_place test start (item ∷ items) none =
    let parts = or_parts (test item) (list_any test items) none in
    ap (λ answer. cond answer (Some start) (position_from test (start + 1) items)) parts.0 ∙ no_place test (start + 1) items parts.1

-- how many links go before one
abbrev count_first : Link → List Link → ℕ
count_first link links = prefix_len (λ other. is_link_before other link) links

-- a link is found behind those that go before it, or nowhere
pub found_at : (start : ℕ) (links : List Link) (link : Link) → AreInOrder links
    → position_from (is_link link) start links
    ≡ cond (option_map_or (is_link link) (slice_get links (count_first link links)) false) (Some (start + count_first link links)) None
found_at start [] link order = refl
found_at start (first ∷ rest) link order = by_test (is_link_before first link) refl (found_at (start + 1) rest link order.1)
  where
    by_head : (answer : Bool) → is_link_before first link ≡ false
        → cond answer (Some start) (position_from (is_link link) (start + 1) rest) ≡ cond answer (Some (start + 0)) None
    by_head true not_before = ap (λ place. Some place) {x = start} {y = start + 0} (omega arith)
    by_head false not_before = no_place (is_link link) (start + 1) rest (none_behind first link rest order.0 not_before)

    by_test : (answer : Bool) → is_link_before first link ≡ answer
        → position_from (is_link link) (start + 1) rest
        ≡ cond (option_map_or (is_link link) (slice_get rest (count_first link rest)) false) (Some (start + 1 + count_first link rest)) None
        → cond (is_link link first) (Some start) (position_from (is_link link) (start + 1) rest)
        ≡ cond (option_map_or (is_link link) (slice_get (first ∷ rest) (cond answer (1 + count_first link rest) 0)) false)
        (Some (start + cond answer (1 + count_first link rest) 0)) None
    by_test true goes behind =
        let next : suc (count_first link rest) ≡ 1 + count_first link rest = omega arith in
        ap (λ answer. cond answer (Some start) (position_from (is_link link) (start + 1) rest)) (not_same first link goes)
        ∙ (behind
        ∙ (ap (λ place. cond (option_map_or (is_link link) (slice_get rest (count_first link rest)) false) (Some place) None)
        {x = start + 1 + count_first link rest} {y = start + (1 + count_first link rest)} (omega arith)
        ∙ ap (λ number. cond (option_map_or (is_link link) (slice_get (first ∷ rest) number) false) (Some (start + (1 + count_first link rest))) None) next))
    by_test false goes behind = by_head (is_link link first) goes

-- what holds of each holds at each place
at_place : (Holds : Link → Type 0) (entries : List Known) (number : ℕ) (other : Known) → AllByRecursion Holds (map link_of_known entries)
    → number < length entries → Holds (link_of_known (get_or entries number other))
at_place Holds [] number other all less = absurd (omega arith)
at_place Holds (first ∷ rest) zero other all less = all.0
at_place Holds (first ∷ rest) (suc number) other all less = at_place Holds rest number other all.1 (omega arith)

-- a link parts the entries in their order
pub parted : (link : Link) (entries : List Known) → AreInOrder (map link_of_known entries) → (i j : ℕ) (d : Known) → i ≤ j → j < length entries
    → is_link_before (link_of_known (get_or entries j d)) link ≡ true → is_link_before (link_of_known (get_or entries i d)) link ≡ true
parted link [] order i j d le less is = absurd (omega arith)
parted link (first ∷ rest) order zero zero d le less is = is
parted link (first ∷ rest) order zero (suc j) d le less is =
    let at : j < length rest = omega arith in
    passes_on (link_of_known first) (link_of_known (get_or rest j d)) link
    (at_place (λ later. is_link_before (link_of_known first) later ≡ true) rest j d order.0 at) is
parted link (first ∷ rest) order (suc i) zero d le less is = absurd (omega arith)
parted link (first ∷ rest) order (suc i) (suc j) d le less is = parted link rest order.1 i j d (omega arith) (omega arith) is

-- how many entries pass from the front is how many of their links do
count_of_links : (link : Link) (entries : List Known)
    → prefix_len (λ entry. is_link_before (link_of_known entry) link) entries ≡ count_first link (map link_of_known entries)
count_of_links link [] = refl
count_of_links link (first ∷ rest) = ap (λ count. cond (is_link_before (link_of_known first) link) (1 + count) 0) (count_of_links link rest)

-- where the entries are parted is how many links go before
pub parted_at : (link : Link) (entries : List Known) (number : ℕ) (d : Known) → number ≤ length entries
    → IsPartitionPoint (λ entry. is_link_before (link_of_known entry) link ≡ true) (λ entry. is_link_before (link_of_known entry) link ≡ false) entries number
    → number ≡ count_first link (map link_of_known entries)
parted_at link entries number d inside point =
    sym (prefix_len_is (λ entry. is_link_before (link_of_known entry) link) entries number d inside
    (λ k less. point.0 k d (omega arith) less) (λ less. point.1 number d (omega arith) less))
    ∙ count_of_links link entries

-- what holds of each and of one more
all_insert : (Holds : Link → Type 0) (links : List Link) (number : ℕ) (link : Link) → AllByRecursion Holds links → Holds link
    → AllByRecursion Holds (insert links number link)
all_insert Holds [] zero link all here = (here, tt)
all_insert Holds [] (suc number) link all here = (here, tt)
all_insert Holds (first ∷ rest) zero link all here = (here, all)
all_insert Holds (first ∷ rest) (suc number) link all here = (all.0, all_insert Holds rest number link all.1 here)

-- a link more leaves the order
pub order_insert : (links : List Link) (link : Link) → AreInOrder links → is_among links link ≡ false → AreInOrder (insert links (count_first link links) link)
order_insert [] link order fresh = (tt, tt)
order_insert (first ∷ rest) link order fresh =
    let parts = or_parts (is_link link first) (is_among rest link) fresh in
    by_test parts.0 (is_link_before first link) refl (order_insert rest link order.1 parts.1)
  where
    -- what the first of a list goes after, all go after
    all_after : (rest : List Link) → is_link_before link first ≡ true → AllByRecursion (λ later. is_link_before first later ≡ true) rest
        → AllByRecursion (λ later. is_link_before link later ≡ true) rest
    all_after [] goes all = tt
    all_after (next ∷ rest) goes all = (passes_on link first next goes all.0, all_after rest goes all.1)

    by_test : is_link link first ≡ false → (answer : Bool) → is_link_before first link ≡ answer
        → AreInOrder (insert rest (count_first link rest) link) → AreInOrder (insert (first ∷ rest) (cond answer (1 + count_first link rest) 0) link)
    by_test apart true goes behind =
        let next : suc (count_first link rest) ≡ 1 + count_first link rest = omega arith in
        subst (λ number. AreInOrder (insert (first ∷ rest) number link)) next
        (all_insert (λ later. is_link_before first later ≡ true) rest (count_first link rest) link order.0 goes, behind)
    by_test apart false goes behind =
        let before : is_link_before link first ≡ true = other_first first link goes apart in
        ((before, all_after rest before order.0), order)

-- the same, of entries that are known by equations
pub found_here : (entries seen : List Known) (links : List Link) (link : Link) (place : ℕ) (answer : Bool) → map link_of_known entries ≡ links
    → seen ≡ entries → place ≡ count_first link (map link_of_known seen)
    → answer ≡ option_map_or (is_link link) (slice_get (map link_of_known seen) place) false → AreInOrder (map link_of_known entries)
    → cond answer (Some place) None ≡ position_from (is_link link) 0 links
found_here entries seen links link place answer known same at is order =
    let here : place ≡ count_first link (map link_of_known entries) = at ∙ ap (λ some. count_first link (map link_of_known some)) same in
    let there = is ∙ ap (λ some. option_map_or (is_link link) (slice_get (map link_of_known some) place) false) same in
    ap (λ found. cond found (Some place) None) there
    ∙ (ap (λ number. cond (option_map_or (is_link link) (slice_get (map link_of_known entries) number) false) (Some number) None) here
    ∙ (ap (λ number. cond (option_map_or (is_link link) (slice_get (map link_of_known entries) (count_first link (map link_of_known entries))) false) (Some number) None)
    {x = count_first link (map link_of_known entries)} {y = 0 + count_first link (map link_of_known entries)} (omega arith)
    ∙ (sym (found_at 0 (map link_of_known entries) link order) ∙ ap (position_from (is_link link) 0) known)))

-- a link more leaves the order, put in at a number that is known by an equation
pub order_put : (entries items : List Known) (links : List Link) (link : Link) (number : ℕ) → map link_of_known entries ≡ links
    → map link_of_known items ≡ insert (map link_of_known entries) number link → number ≡ count_first link links
    → AreInOrder (map link_of_known entries) → is_among links link ≡ false → AreInOrder (map link_of_known items)
order_put entries items links link number known is at order fresh =
    subst AreInOrder (sym (is
    ∙ (ap (λ some. insert some number link) known ∙ ap (λ some. insert links some link) at)))
    (order_insert links link (subst AreInOrder known order) fresh)
