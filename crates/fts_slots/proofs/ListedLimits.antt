-- The limits of one listed link more, in an array of limits.
use Rattle.std.proofs.Common.{◌≡◌, ℕ, zero, suc, ◌+◌, ◌*◌, ◌<◌, ◌≤◌, Bool, true, false, cond, List, [], ◌∷◌, length, Option, Some, None, refl, ap, sym, ◌∙◌, arith, inl, inr}
use Rattle.std.specs.Prelude.{not, ◌&&◌, ◌==◌, bytes_eq, find, position, option_map, slice_get, slice_index, slice_set}
use Rattle.std.specs.List.{list_any}
use Rattle.std.specs.Option.{option_map_or}
use Rattle.std.proofs.lemmas.Bool.{and_parts, eqb-true, eq-eqb}
use Rattle.std.proofs.lemmas.Option.{slice_get_cases}
use Rattle.std.proofs.lemmas.Slice.Eq.{bytes_eq-Decides}
use Rattle.std.proofs.lemmas.List.{get_or-set_other, length-set}
use Rattle.std.proofs.lemmas.Grind.{get_or-set_at}
use Rattle.fts_tables.specs.SettingsData.{SettingsData, are_apart, is_same_endpoint}
use Rattle.fts_tables.specs.declared.settings.Endpoint.{Endpoint}
use Rattle.fts_tables.specs.declared.settings.LinkRule.{LinkRule}
use Rattle.fts_tables.specs.declared.settings.LinkAt.{LinkAt}
use Rattle.fts_slots.specs.SlotsData.{index_of, is_same_link, link_limit_at}
use Rattle.fts_slots.specs.LinkLimits.{AreLimits}
use Rattle.fts_slots.proofs.LinkCounts.{position-cons, same_link}
use Rattle.fts_slots.proofs.NamedPlaces.{any_at}
use Rattle.fts_slots.proofs.Tallied.{index-apart}

-- tests that hold of each other are one
same_test : (one other : Bool) → (one ≡ true → other ≡ true) → (other ≡ true → one ≡ true) → one ≡ other
same_test true other there back = sym (there refl)
same_test false true there back = back refl
same_test false false there back = refl

-- whether a found place is this one
abbrev pub is_at : ℕ → Option ℕ → Bool
is_at place found = option_map_or (λ other. other == place) found false

-- the name of the endpoint at a place
abbrev name_of : List Endpoint → ℕ → List ℕ
name_of endpoints place = option_map_or (λ endpoint. endpoint.name) (slice_get endpoints place) []

-- the first place of a name
abbrev pub place_of : List ℕ → List Endpoint → Option ℕ
place_of name endpoints = position (λ endpoint. bytes_eq endpoint.name name) endpoints

-- a text is the other's equal where the other is its
bytes_eq-sym : (one other : List ℕ) → bytes_eq one other ≡ bytes_eq other one
bytes_eq-sym one other = same_test (bytes_eq one other) (bytes_eq other one)
    (λ is. (bytes_eq-Decides other one).1 (sym ((bytes_eq-Decides one other).0 is)))
    (λ is. (bytes_eq-Decides one other).1 (sym ((bytes_eq-Decides other one).0 is)))

-- a place behind the head is found at the head nowhere, and behind it one further
at_head : (found : Option ℕ) → is_at zero (option_map suc found) ≡ false
at_head None = refl
at_head (Some place) = same_test (suc place == 0) false (λ is. absurd (omega (arith, eqb-true (suc place) 0 is))) (λ no. cc)

behind_head : (found : Option ℕ) (place : ℕ) → is_at (suc place) (option_map suc found) ≡ is_at place found
behind_head None place = refl
behind_head (Some other) place = same_test (suc other == suc place) (other == place)
    (λ is. eq-eqb other place (omega (arith, eqb-true (suc other) (suc place) is)))
    (λ is. eq-eqb (suc other) (suc place) (omega (arith, eqb-true other place is)))

-- of endpoints that are apart, a name is that of the endpoint at a place exactly where it is found there
pub named_at : (endpoints : List Endpoint) (place : ℕ) (name : List ℕ) → are_apart is_same_endpoint endpoints ≡ true → place < length endpoints
    → bytes_eq name (name_of endpoints place) ≡ is_at place (place_of name endpoints)
named_at [] place name apart inside = absurd (omega (arith, inside))
named_at (first ∷ endpoints) zero name apart inside =
    bytes_eq-sym name first.name
    ∙ (by_test (bytes_eq first.name name)
    ∙ ap (is_at zero) (sym (position-cons (λ (endpoint : Endpoint). bytes_eq endpoint.name name) first endpoints)))
  where
    by_test : (answer : Bool) → answer ≡ is_at zero (cond answer (Some 0) (option_map suc (place_of name endpoints)))
    by_test true = refl
    by_test false = sym (at_head (place_of name endpoints))
named_at (first ∷ endpoints) (suc place) name apart inside =
    let both = and_parts _ _ apart in
    by_test (bytes_eq first.name name) refl both.0 (named_at endpoints place name both.1 (omega (arith, inside)))
    ∙ ap (is_at (suc place)) (sym (position-cons (λ (endpoint : Endpoint). bytes_eq endpoint.name name) first endpoints))
  where
    clashes : bytes_eq first.name name ≡ true → not (list_any (is_same_endpoint first) endpoints) ≡ true
        → bytes_eq name (name_of endpoints place) ≡ true → false ≡ true
    clashes is distinct same = elim (slice_get_cases endpoints place).1 [
      | inl found ↦
          let named : name_of endpoints place ≡ found.0.name =
          ap (λ at. option_map_or (λ (endpoint : Endpoint). endpoint.name) at []) found.2 in
          let alike : bytes_eq first.name found.0.name ≡ true = (bytes_eq-Decides first.name found.0.name).1
          ((bytes_eq-Decides first.name name).0 is ∙ ((bytes_eq-Decides name (name_of endpoints place)).0 same ∙ named)) in
          sym (sym distinct ∙ ap not (any_at (is_same_endpoint first) endpoints place found.0 found.2 alike))
      | inr past ↦ absurd (omega (arith, past.0, inside))
    ]

    false_is : false ≡ true → ⊥
    false_is is = cc

    by_test : (answer : Bool) → bytes_eq first.name name ≡ answer → not (list_any (is_same_endpoint first) endpoints) ≡ true
        → bytes_eq name (name_of endpoints place) ≡ is_at place (place_of name endpoints)
        → bytes_eq name (name_of endpoints place) ≡ is_at (suc place) (cond answer (Some 0) (option_map suc (place_of name endpoints)))
    by_test true is distinct behind = same_test (bytes_eq name (name_of endpoints place)) (0 == suc place)
        (λ same. absurd (false_is (clashes is distinct same))) (λ no. absurd (omega (arith, eqb-true 0 (suc place) no)))
    by_test false is distinct behind = behind ∙ sym (behind_head (place_of name endpoints) place)

-- whether a listed link, whose ends are found at these places, is the link at these
abbrev is_rule_at : List Endpoint → LinkRule → LinkAt → Bool
is_rule_at endpoints rule link = is_at link.source (place_of rule.source endpoints) && is_at link.dest (place_of rule.dest endpoints)

-- a listed link more gives its limit to the link at its places, and no other
limit_more : (settings : SettingsData) (rule : LinkRule) (link : LinkAt) → are_apart is_same_endpoint settings.endpoints ≡ true
    → link.source < length settings.endpoints → link.dest < length settings.endpoints
    → link_limit_at (record settings { links = rule ∷ settings.links }) link
    ≡ cond (is_rule_at settings.endpoints rule link) rule.max_active (link_limit_at settings link)
limit_more settings rule link apart source dest =
    by_test (bytes_eq rule.source (name_of settings.endpoints link.source) && bytes_eq rule.dest (name_of settings.endpoints link.dest))
    ∙ ap (λ answer. cond answer rule.max_active (link_limit_at settings link))
    (ap (λ answer. answer && bytes_eq rule.dest (name_of settings.endpoints link.dest)) (named_at settings.endpoints link.source rule.source apart source)
    ∙ ap (λ answer. is_at link.source (place_of rule.source settings.endpoints) && answer) (named_at settings.endpoints link.dest rule.dest apart dest))
  where
    by_test : (answer : Bool) → option_map_or (λ (other : LinkRule). other.max_active) (cond answer (Some rule)
        (find (λ (other : LinkRule). bytes_eq other.source (name_of settings.endpoints link.source)
        && bytes_eq other.dest (name_of settings.endpoints link.dest)) settings.links)) settings.default_max_active
        ≡ cond answer rule.max_active (link_limit_at settings link)
    by_test true = refl
    by_test false = refl

-- the place of a link between listed endpoints is in the array
index_inside : (count source dest : ℕ) → source < count → dest < count → count ≤ 256 → source * 256 + dest < count * 256
index_inside count source dest from to few = omega arith

-- a listed link whose ends are found: its limit stands at its place
pub limits_with : (settings : SettingsData) (rule : LinkRule) (limits : List ℕ) (other : LinkAt) → are_apart is_same_endpoint settings.endpoints ≡ true
    → length settings.endpoints ≤ 256 → place_of rule.source settings.endpoints ≡ Some other.source → place_of rule.dest settings.endpoints ≡ Some other.dest
    → other.source < length settings.endpoints → other.dest < length settings.endpoints → AreLimits settings limits
    → AreLimits (record settings { links = rule ∷ settings.links }) (slice_set limits (index_of other) rule.max_active)
limits_with settings rule limits other apart few source_at dest_at source dest before = record {
  places = length-set limits (index_of other) rule.max_active ∙ before.places;
  links = λ link from to.
      let at : is_rule_at settings.endpoints rule link ≡ is_same_link link other =
      ap (λ found. is_at link.source found && is_at link.dest (place_of rule.dest settings.endpoints)) source_at
      ∙ ap (λ found. is_at link.source (Some other.source) && is_at link.dest found) dest_at in
      by_test link from to (is_same_link link other) refl
      ∙ sym (limit_more settings rule link apart from to ∙ ap (λ answer. cond answer rule.max_active (link_limit_at settings link)) at);
}
  where
    by_test : (link : LinkAt) → link.source < length settings.endpoints → link.dest < length settings.endpoints → (answer : Bool)
        → is_same_link link other ≡ answer
        → slice_index (slice_set limits (index_of other) rule.max_active) (index_of link) ≡ cond answer rule.max_active (link_limit_at settings link)
    by_test link from to true is =
        get_or-set_at limits (index_of other) (index_of link) rule.max_active 0 (ap index_of (same_link link other is))
        (omega (arith, index_inside (length settings.endpoints) other.source other.dest source dest few, before.places))
    by_test link from to false is =
        get_or-set_other limits (index_of other) (index_of link) rule.max_active 0
        (index-apart link other (omega (arith, to, few)) (omega (arith, dest, few)) is)
        ∙ before.links link from to

-- a listed link of which an end is found nowhere changes no limit
pub limits_without : (settings : SettingsData) (rule : LinkRule) (limits : List ℕ) → are_apart is_same_endpoint settings.endpoints ≡ true
    → ((link : LinkAt) → is_rule_at settings.endpoints rule link ≡ false) → AreLimits settings limits
    → AreLimits (record settings { links = rule ∷ settings.links }) limits
limits_without settings rule limits apart nowhere before = record {
  places = before.places;
  links = λ link from to. before.links link from to
      ∙ sym (limit_more settings rule link apart from to ∙ ap (λ answer. cond answer rule.max_active (link_limit_at settings link)) (nowhere link));
}

-- no source, and no destination
pub no_source : (endpoints : List Endpoint) (rule : LinkRule) (link : LinkAt) → place_of rule.source endpoints ≡ None → is_rule_at endpoints rule link ≡ false
no_source endpoints rule link none = ap (λ found. is_at link.source found && is_at link.dest (place_of rule.dest endpoints)) none

pub no_dest : (endpoints : List Endpoint) (rule : LinkRule) (link : LinkAt) → place_of rule.dest endpoints ≡ None → is_rule_at endpoints rule link ≡ false
no_dest endpoints rule link none = ap (λ found. is_at link.source (place_of rule.source endpoints) && is_at link.dest found) none
    ∙ and_false (is_at link.source (place_of rule.source endpoints))
  where
    and_false : (answer : Bool) → (answer && false) ≡ false
    and_false true = refl
    and_false false = refl
