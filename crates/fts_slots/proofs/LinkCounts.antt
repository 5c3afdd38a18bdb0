-- Counts of a list of links: one more, one less, and how many links limits on their sources allow.
use Rattle.std.proofs.Common.{◌≡◌, ℕ, zero, suc, ◌+◌, ◌-◌, ◌*◌, ◌<◌, ◌≤◌, Bool, true, false, cond, List, [], ◌∷◌, ◌++◌, length, Option, Some, None, refl, ap, sym, ◌∙◌, arith, subst, inl, inr}
use Rattle.std.specs.Prelude.{not, ◌&&◌, ◌||◌, ◌==◌, nat_lt, nat_le, count_by, sum_by, position, option_map, slice_get, remove}
use Rattle.std.specs.List.{list_any, list_all, position_or_len}
use Rattle.std.specs.Option.{option_map_or}
use Rattle.std.proofs.lemmas.Bool.{and_parts, eqb-true, eq-eqb, ltb-true, ltb-false, lt-ltb, le-ltb, leb-true}
use Rattle.std.proofs.lemmas.List.Sums.{sum_by-cons, sum_by-append, count_by-le-length}
use Rattle.std.proofs.lemmas.Option.{slice_get_cases}
use Rattle.fts_tables.specs.SettingsData.{SettingsData, IsSettings, is_active_limit}
use Rattle.fts_tables.specs.declared.settings.Endpoint.{Endpoint}
use Rattle.fts_tables.specs.declared.settings.LinkAt.{LinkAt}
use Rattle.fts_slots.specs.declared.counts.Counts.{Counts}
use Rattle.fts_slots.specs.Tallies.{AreTallied, HasPlaces}
use Rattle.fts_slots.specs.SlotsData.{SlotsData, IsInside, outbound_limit_at, inbound_limit_at, link_limit_at, is_same_link, held_of, outbound_of, inbound_of, is_free, AreWithin}

-- the first item and the others
count_by-cons : {Item : Type 0} (test : Item → Bool) (item : Item) (items : List Item)
    → count_by test (item ∷ items) ≡ cond (test item) 1 0 + count_by test items
count_by-cons test item items = sum_by-cons (λ other. cond (test other) 1 0) item items

-- one item more
pub count_by-push : {Item : Type 0} (test : Item → Bool) (items : List Item) (item : Item)
    → count_by test (items ++ item ∷ []) ≡ count_by test items + cond (test item) 1 0
count_by-push test items item = sum_by-append (λ other. cond (test other) 1 0) items (item ∷ [])
    ∙ ap (λ count. count_by test items + count) (count_by-cons test item [] ∙ omega arith)

-- one item less: any count is one less where it counted this one
pub count_by-remove : {Item : Type 0} (test : Item → Bool) (items : List Item) (place : ℕ) (item : Item) → slice_get items place ≡ Some item
    → count_by test items ≡ count_by test (remove items place) + cond (test item) 1 0
count_by-remove test [] place item at = cc
count_by-remove test (first ∷ items) zero item at =
    let same : first ≡ item = cc in
    count_by-cons test first items ∙ (ap (λ other. cond (test other) 1 0 + count_by test items) same ∙ omega arith)
count_by-remove test (first ∷ items) (suc place) item at =
    omega (arith, count_by-cons test first items, count_by-cons test first (remove items place), count_by-remove test items place item at)

-- the first place of a list is its head's, or one behind it
pub position-cons : {Item : Type 0} (test : Item → Bool) (item : Item) (items : List Item)
    → position test (item ∷ items) ≡ cond (test item) (Some 0) (option_map suc (position test items))
position-cons test item items = by_test (test item)
  where
    shifted : (place count : ℕ) (answer : Bool) → nat_lt place count ≡ answer → cond (nat_lt (1 + place) (suc count)) (Some (1 + place)) None
        ≡ option_map suc (cond answer (Some place) None)
    shifted place count true is = rw (lt-ltb (1 + place) (suc count) (omega (arith, ltb-true place count is))) (ap (λ found. Some found) (omega arith))
    shifted place count false is = rw (le-ltb (1 + place) (suc count) (omega (arith, ltb-false place count is))) refl

    by_test : (answer : Bool) → cond (nat_lt (cond (not answer) (1 + position_or_len test items) 0) (suc (length items)))
        (Some (cond (not answer) (1 + position_or_len test items) 0)) None
        ≡ cond answer (Some 0) (option_map suc (position test items))
    by_test true = rw (lt-ltb 0 (suc (length items)) (omega arith)) refl
    by_test false = shifted (position_or_len test items) (length items) (nat_lt (position_or_len test items) (length items)) refl

-- a place that was found has an item that passes
pub record IsFound {Item : Type 0} (test : Item → Bool) (items : List Item) (place : ℕ) : Type 0 where
  pub item : Item
  pub at : slice_get items place ≡ Some item
  pub passes : test item ≡ true

-- what stands at the first place that passes
pub position-found : {Item : Type 0} (test : Item → Bool) (items : List Item) (place : ℕ) → position test items ≡ Some place → IsFound test items place
position-found test [] place is = cc
position-found test (item ∷ items) place is =
    by_head (λ behind at. position-found test items behind at) (test item) refl (sym (position-cons test item items) ∙ is)
  where
    behind_head : (found : Option ℕ) → ((behind : ℕ) → found ≡ Some behind → IsFound test items behind) → option_map suc found ≡ Some place
        → IsFound test (item ∷ items) place
    behind_head None at is = cc
    behind_head (Some behind) at is =
        let next : suc behind ≡ place = cc in
        let found = at behind refl in
        subst (λ number. IsFound test (item ∷ items) number) next (record { item = found.item; at = found.at; passes = found.passes })

    by_head : ((behind : ℕ) → position test items ≡ Some behind → IsFound test items behind) → (answer : Bool) → test item ≡ answer
        → cond answer (Some 0) (option_map suc (position test items)) ≡ Some place → IsFound test (item ∷ items) place
    by_head at true passes is =
        let here : 0 ≡ place = cc in
        subst (λ number. IsFound test (item ∷ items) number) here (record { item = item; at = refl; passes = passes })
    by_head at false fails is = behind_head (position test items) at is

-- where no place passes, none is counted
pub position-none : {Item : Type 0} (test : Item → Bool) (items : List Item) → position test items ≡ None
    → (list_any test items ≡ false) × (count_by test items ≡ 0)
position-none test [] none = (refl, refl)
position-none test (item ∷ items) none =
    by_head (λ behind. position-none test items behind) (test item) (count_by-cons test item items) (sym (position-cons test item items) ∙ none)
  where
    unmapped : (found : Option ℕ) → option_map suc found ≡ None → found ≡ None
    unmapped None is = refl
    unmapped (Some place) is = cc

    by_head : (position test items ≡ None → (list_any test items ≡ false) × (count_by test items ≡ 0)) → (answer : Bool)
        → count_by test (item ∷ items) ≡ cond answer 1 0 + count_by test items
        → cond answer (Some 0) (option_map suc (position test items)) ≡ None → ((answer || list_any test items) ≡ false) × (count_by test (item ∷ items) ≡ 0)
    by_head behind true split none_is = cc
    by_head behind false split none_is =
        let both = behind (unmapped (position test items) none_is) in
        (both.0, omega (arith, split, both.1))

-- where none passes, no place does
pub none-position : {Item : Type 0} (test : Item → Bool) (items : List Item) → list_any test items ≡ false → position test items ≡ None
none-position test [] none = refl
none-position test (item ∷ items) none = position-cons test item items ∙ by_head (λ behind. none-position test items behind) (test item) none
  where
    by_head : (list_any test items ≡ false → position test items ≡ None) → (answer : Bool) → (answer || list_any test items) ≡ false
        → cond answer (Some 0) (option_map suc (position test items)) ≡ None
    by_head behind true none_is = cc
    by_head behind false none_is = ap (option_map suc) (behind none_is)

-- links that are one by the test are equal
pub same_link : (one other : LinkAt) → is_same_link one other ≡ true → one ≡ other
same_link one other is =
    let both = and_parts (other.source == one.source) (other.dest == one.dest) is in
    ap (λ source. record { source = source; dest = one.dest }) (sym (eqb-true other.source one.source both.0))
    ∙ ap (λ dest. record { source = other.source; dest = dest }) (sym (eqb-true other.dest one.dest both.1))

-- one more stays within a limit that it was below
one_more : (here : Bool) (before after limit : ℕ) → after ≡ before + cond here 1 0 → before ≤ limit → (here ≡ true → before < limit) → after ≤ limit
one_more true before after limit is at_most below = let less : before < limit = below refl in omega arith
one_more false before after limit is at_most below = omega arith

-- a free link more stays within all limits
pub within_after_take : (slots : SlotsData) (link : LinkAt) → AreWithin slots → is_free slots link ≡ true
    → AreWithin (record slots { links = slots.links ++ link ∷ [] })
within_after_take slots link within free =
    let inbound = and_parts _ _ free in
    let outbound = and_parts _ _ inbound.0 in
    record {
      links = λ other. one_more (is_same_link other link) (held_of slots.links other) (held_of (slots.links ++ link ∷ []) other)
          (link_limit_at slots.settings other)
          (count_by-push (is_same_link other) slots.links link) (within.links other)
          (λ same. subst (λ some. held_of slots.links some < link_limit_at slots.settings some) (sym (same_link other link same)) (ltb-true _ _ outbound.0));
      outbound = λ place. one_more (link.source == place) (outbound_of slots.links place) (outbound_of (slots.links ++ link ∷ []) place)
          (outbound_limit_at slots.settings place)
          (count_by-push (λ some. some.source == place) slots.links link) (within.outbound place)
          (λ same. subst (λ some. outbound_of slots.links some < outbound_limit_at slots.settings some) (eqb-true link.source place same)
          (ltb-true _ _ outbound.1));
      inbound = λ place. one_more (link.dest == place) (inbound_of slots.links place) (inbound_of (slots.links ++ link ∷ []) place)
          (inbound_limit_at slots.settings place)
          (count_by-push (λ some. some.dest == place) slots.links link) (within.inbound place)
          (λ same. subst (λ some. inbound_of slots.links some < inbound_limit_at slots.settings some) (eqb-true link.dest place same) (ltb-true _ _ inbound.1));
    }

-- a link less stays within all limits
pub within_after_give : (slots : SlotsData) (place : ℕ) (link : LinkAt) → slice_get slots.links place ≡ Some link → AreWithin slots
    → AreWithin (record slots { links = remove slots.links place })
within_after_give slots place link at within = record {
  links = λ other. omega (arith, within.links other, count_by-remove (is_same_link other) slots.links place link at);
  outbound = λ end. omega (arith, within.outbound end, count_by-remove (λ some. some.source == end) slots.links place link at);
  inbound = λ end. omega (arith, within.inbound end, count_by-remove (λ some. some.dest == end) slots.links place link at);
}

-- links of which none comes from a place, or from one behind it
none_from : (links : List LinkAt) (start : ℕ) → ((place : ℕ) → count_by (λ (link : LinkAt). link.source == start + place) links ≤ 0)
    → count_by (λ (link : LinkAt). nat_le start link.source) links ≤ 0
none_from [] start none = omega arith
none_from (link ∷ links) start none =
    by_head (none_from links start (λ place. omega (arith, none place, count_by-cons (λ (other : LinkAt). other.source == start + place) link links)))
    (nat_le start link.source) refl
  where
    by_head : count_by (λ (other : LinkAt). nat_le start other.source) links ≤ 0 → (answer : Bool) → nat_le start link.source ≡ answer
        → count_by (λ (other : LinkAt). nat_le start other.source) (link ∷ links) ≤ 0
    by_head behind false is =
        let none_here : ◌≡◌ {A = ℕ} (cond (nat_le start link.source) 1 0) 0 = ap (λ answer. cond answer 1 0) is in
        omega (arith, count_by-cons (λ (other : LinkAt). nat_le start other.source) link links, none_here, behind)
    by_head behind true is =
        let above : start ≤ link.source = leb-true start link.source is in
        let whole : link.source ≡ start + (link.source - start) = omega arith in
        let one_here : ◌≡◌ {A = ℕ} (cond (link.source == start + (link.source - start)) 1 0) 1 =
        ap (λ answer. cond answer 1 0) (eq-eqb link.source (start + (link.source - start)) whole) in
        absurd (omega (
          arith,
          none (link.source - start),
          count_by-cons (λ (other : LinkAt). other.source == start + (link.source - start)) link links,
          one_here,
        ))

-- the test of at most is right
le_test : (low high : ℕ) → low ≤ high → nat_le low high ≡ true
le_test low high less = search arith

-- a link from a place on comes from that place, or from the next one on
from_or_behind : (source start : ℕ) → cond (nat_le start source) 1 0 ≡ cond (source == start) 1 0 + cond (nat_le (start + 1) source) 1 0
from_or_behind source start = by_tests (nat_le start source) (source == start) (nat_le (start + 1) source) refl refl refl
  where
    by_tests : (from here behind : Bool) → nat_le start source ≡ from → (source == start) ≡ here → nat_le (start + 1) source ≡ behind
        → cond from 1 0 ≡ cond here 1 0 + cond behind 1 0
    by_tests from here behind a b c = grind arith

-- as many come from a place on as from that place and from the next one on
count_from_on : (links : List LinkAt) (start : ℕ) → count_by (λ (link : LinkAt). nat_le start link.source) links
    ≡ count_by (λ (link : LinkAt). link.source == start) links + count_by (λ (link : LinkAt). nat_le (start + 1) link.source) links
count_from_on [] start = refl
count_from_on (link ∷ links) start = omega (
  arith,
  count_by-cons (λ (other : LinkAt). nat_le start other.source) link links,
  count_by-cons (λ (other : LinkAt). other.source == start) link links,
  count_by-cons (λ (other : LinkAt). nat_le (start + 1) other.source) link links,
  from_or_behind link.source start,
  count_from_on links start,
)

-- links within the limits of their sources are no more than these limits together
room_from : (endpoints : List Endpoint) (links : List LinkAt) (start : ℕ)
    → ((place : ℕ) → count_by (λ (link : LinkAt). link.source == start + place) links ≤ option_map_or (λ (endpoint : Endpoint). endpoint.outbound)
    (slice_get endpoints place) 0)
    → count_by (λ (link : LinkAt). nat_le start link.source) links ≤ sum_by (λ (endpoint : Endpoint). endpoint.outbound) endpoints
room_from [] links start within = none_from links start within
room_from (endpoint ∷ endpoints) links start within =
    let here : count_by (λ (link : LinkAt). link.source == start) links ≤ endpoint.outbound =
    subst (λ number. count_by (λ (link : LinkAt). link.source == number) links ≤ endpoint.outbound) (omega arith) (within 0) in
    let behind = room_from endpoints links (start + 1)
    (λ place. subst (λ number. count_by (λ (link : LinkAt). link.source == number) links ≤ option_map_or (λ (other : Endpoint). other.outbound)
    (slice_get endpoints place) 0) (next start place) (within (suc place))) in
    omega (arith, sum_by-cons (λ (other : Endpoint). other.outbound) endpoint endpoints, count_from_on links start, here, behind)
  where
    next : (start place : ℕ) → start + suc place ≡ (start + 1) + place
    next start place = omega arith

-- all links come from place 0 on
all_from : (links : List LinkAt) → count_by (λ (link : LinkAt). nat_le 0 link.source) links ≡ length links
all_from [] = refl
all_from (link ∷ links) =
    let here : ◌≡◌ {A = ℕ} (cond (nat_le 0 link.source) 1 0) 1 = ap (λ answer. cond answer 1 0) (le_test 0 link.source (omega arith)) in
    omega (arith, here, count_by-cons (λ (other : LinkAt). nat_le 0 other.source) link links, all_from links)

-- links within the limits are no more than the outbound limits together
pub room_for : (slots : SlotsData) → AreWithin slots → length slots.links ≤ sum_by (λ (endpoint : Endpoint). endpoint.outbound) slots.settings.endpoints
room_for slots within =
    let from = room_from slots.settings.endpoints slots.links 0
    (λ place. subst (λ number. count_by (λ (link : LinkAt). link.source == number) slots.links ≤ outbound_limit_at slots.settings place) (zero_first place)
    (within.outbound place)) in
    omega (arith, from, all_from slots.links)
  where
    zero_first : (place : ℕ) → place ≡ 0 + place
    zero_first place = omega arith

-- the outbound limits together, each in its range
sum_in_range : (endpoints : List Endpoint) → list_all (λ (endpoint : Endpoint). is_active_limit endpoint.inbound && is_active_limit endpoint.outbound) endpoints
    ≡ true
    → sum_by (λ (endpoint : Endpoint). endpoint.outbound) endpoints ≤ length endpoints * 1000
sum_in_range [] ranges = omega arith
sum_in_range (endpoint ∷ endpoints) ranges =
    let both = and_parts (is_active_limit endpoint.inbound && is_active_limit endpoint.outbound)
    (list_all (λ (other : Endpoint). is_active_limit other.inbound && is_active_limit other.outbound) endpoints) ranges in
    let limits = and_parts (is_active_limit endpoint.inbound) (is_active_limit endpoint.outbound) both.0 in
    let outbound = and_parts (nat_le 1 endpoint.outbound) (nat_le endpoint.outbound 1000) limits.1 in
    let high : endpoint.outbound ≤ 1000 = leb-true endpoint.outbound 1000 outbound.1 in
    omega (arith, sum_by-cons (λ (other : Endpoint). other.outbound) endpoint endpoints, high, sum_in_range endpoints both.1)

-- links within the limits are at most 256,000
pub few_links : (slots : SlotsData) → IsSettings slots.settings → AreWithin slots → length slots.links ≤ 256000
few_links slots settings within =
    let endpoints = and_parts (nat_le 1 (length slots.settings.endpoints)) (nat_le (length slots.settings.endpoints) 256) settings.endpoint_count in
    let few : length slots.settings.endpoints ≤ 256 = leb-true (length slots.settings.endpoints) 256 endpoints.1 in
    omega (arith, room_for slots within, sum_in_range slots.settings.endpoints settings.endpoint_limits, few)

-- a count of links within the limits
pub few_counted : (slots : SlotsData) (test : LinkAt → Bool) → IsSettings slots.settings → AreWithin slots → count_by test slots.links ≤ 256000
few_counted slots test settings within = omega (arith, count_by-le-length test slots.links, few_links slots settings within)

-- links that are one come from one place and go to one place
link_ends : (link other : LinkAt) → (cond (is_same_link link other) 1 0 ≤ cond (other.source == link.source) 1 0)
    × (cond (is_same_link link other) 1 0 ≤ cond (other.dest == link.dest) 1 0)
link_ends link other = by_tests (other.source == link.source) (other.dest == link.dest)
  where
    by_tests : (source dest : Bool) → (cond (source && dest) 1 0 ≤ cond source 1 0) × (cond (source && dest) 1 0 ≤ cond dest 1 0)
    by_tests true true = (omega arith, omega arith)
    by_tests true false = (omega arith, omega arith)
    by_tests false true = (omega arith, omega arith)
    by_tests false false = (omega arith, omega arith)

-- what a link holds, each of its ends holds
held_at_ends : (links : List LinkAt) (link : LinkAt) → (held_of links link ≤ outbound_of links link.source) × (held_of links link ≤ inbound_of links link.dest)
held_at_ends [] link = (omega arith, omega arith)
held_at_ends (other ∷ links) link =
    let behind = held_at_ends links link in
    let ends = link_ends link other in
    let held = count_by-cons (is_same_link link) other links in (
      omega (arith, behind.0, ends.0, held, count_by-cons (λ (some : LinkAt). some.source == link.source) other links),
      omega (arith, behind.1, ends.1, held, count_by-cons (λ (some : LinkAt). some.dest == link.dest) other links),
    )

-- a limit above 0 is that of an endpoint inside the settings
inside_of_limit : (limit_of : Endpoint → ℕ) (endpoints : List Endpoint) (place : ℕ) → 0 < option_map_or limit_of (slice_get endpoints place) 0
    → place < length endpoints
inside_of_limit limit_of endpoints place above = elim (slice_get_cases endpoints place).1 [
  | inl found ↦ found.1
  | inr past ↦ absurd (
      let none : ◌≡◌ {A = ℕ} (option_map_or limit_of (slice_get endpoints place) 0) 0 = ap (λ at. option_map_or limit_of at 0) past.1 in omega arith)
]

-- a link that is held is inside the settings
pub inside_of_held : (slots : SlotsData) (link : LinkAt) → AreWithin slots → 0 < held_of slots.links link → IsInside slots.settings link
inside_of_held slots link within held =
    let ends = held_at_ends slots.links link in
    record {
      source = inside_of_limit (λ endpoint. endpoint.outbound) slots.settings.endpoints link.source (omega (arith, ends.0, held, within.outbound link.source));
      dest = inside_of_limit (λ endpoint. endpoint.inbound) slots.settings.endpoints link.dest (omega (arith, ends.1, held, within.inbound link.dest));
    }

-- the settings list at most 256 endpoints
pub few_endpoints : (settings : SettingsData) → IsSettings settings → length settings.endpoints ≤ 256
few_endpoints settings kept =
    let endpoints = and_parts (nat_le 1 (length settings.endpoints)) (nat_le (length settings.endpoints) 256) kept.endpoint_count in
    leb-true (length settings.endpoints) 256 endpoints.1

-- there are counters for a link inside the settings
pub places_inside : (settings : SettingsData) (link : LinkAt) (taken : List LinkAt) (counts : Counts) → IsSettings settings → IsInside settings link
    → AreTallied (length settings.endpoints) taken counts → HasPlaces counts link
places_inside settings link taken counts kept inside tallied =
    let few = few_endpoints settings kept in
    record {
      link = omega (arith, few, inside.source, inside.dest, tallied.link_places);
      source = omega (arith, inside.source, tallied.outbound_places);
      dest = omega (arith, inside.dest, tallied.inbound_places);
      low = omega (arith, few, inside.dest);
    }
