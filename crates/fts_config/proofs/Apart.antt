-- Items that are apart, by the keys of a list that were put into a set.
use Rattle.std.proofs.Common.{◌≡◌, ℕ, Bool, true, false, not, ◌&&◌, ◌||◌, List, [], ◌∷◌, ◌++◌, take, drop, refl, sym, ap, ◌∙◌, Option, Some, None, is_some, String, Global}
use Rattle.std.proofs.lemmas.Bool.{and_parts}
use Rattle.std.proofs.lemmas.List.{take-append-drop}
use Rattle.std.proofs.lemmas.List.Folds.{list_any-append}
use Rattle.std.specs.List.{list_all, list_any}
use Rattle.fts_tables.specs.Names.{is_endpoint_name}
use Rattle.std.specs.BTreeSet.{BTreeSet}
use Rattle.fts_tables.specs.SettingsData.{SettingsData, are_apart, is_same_endpoint, is_same_pair, has_distinct_endpoints, has_distinct_links}
use Rattle.fts_tables.specs.declared.settings.Endpoint.{Endpoint}
use Rattle.fts_tables.specs.declared.settings.LinkRule.{LinkRule}
use Rattle.fts_config.specs.Distinct.{endpoint_key, pair_key, is_same_key, HoldsKeys}
use Rattle.fts_config.proofs.PairKeys.{same_pair_by_key}

not_apart : (found more rest all : Bool) → (not found && rest) ≡ false → (rest ≡ false → all ≡ false) → (not (found || more) && all) ≡ false
not_apart true more rest all twice further = refl
not_apart false true rest all twice further = refl
not_apart false false rest all twice further = further twice

-- a list stays so with more behind it, where two of its items are the same
apart-append_false : {T : Type 0} (same : T → T → Bool) (items more : List T) → are_apart same items ≡ false → are_apart same (items ++ more) ≡ false
apart-append_false same [] more twice = cc
apart-append_false same (item ∷ items) more twice =
    ap (λ found. not found && are_apart same (items ++ more)) (list_any-append (same item) items more)
    ∙ not_apart (list_any (same item) items) (list_any (same item) more) (are_apart same items) (are_apart same (items ++ more)) twice
    (apart-append_false same items more)

-- where two of the first items are the same, two of all are
pub twice_of_first : {T : Type 0} (same : T → T → Bool) (items : List T) (count : ℕ) → are_apart same (take count items) ≡ false → are_apart same items ≡ false
twice_of_first same items count twice = ap (are_apart same) (sym (take-append-drop count items))
    ∙ apart-append_false same (take count items) (drop count items) twice

any_by_key : (link : LinkRule) (links : List LinkRule) → is_endpoint_name link.source ≡ true → list_all (λ other. is_endpoint_name other.source) links ≡ true
    → list_any (is_same_pair link) links ≡ list_any (is_same_key pair_key link) links
any_by_key link [] named all = refl
any_by_key link (other ∷ links) named all =
    let parts = and_parts (is_endpoint_name other.source) (list_all (λ one. is_endpoint_name one.source) links) all in
    ap (λ found. found || list_any (is_same_pair link) links) (same_pair_by_key link other named parts.0)
    ∙ ap (λ rest. is_same_key pair_key link other || rest) (any_by_key link links named parts.1)

-- links are apart exactly where their keys are
pub links_by_key : (links : List LinkRule) → list_all (λ link. is_endpoint_name link.source) links ≡ true → are_apart is_same_pair links
    ≡ are_apart (is_same_key pair_key) links
links_by_key [] all = refl
links_by_key (link ∷ links) all =
    let parts = and_parts (is_endpoint_name link.source) (list_all (λ one. is_endpoint_name one.source) links) all in
    ap (λ found. not found && are_apart is_same_pair links) (any_by_key link links parts.0 parts.1)
    ∙ ap (λ rest. not (list_any (is_same_key pair_key link) links) && rest) (links_by_key links parts.1)

-- storages are apart exactly where there is a set of their keys
pub endpoints_decided : (s : SettingsData) (items : List Endpoint) (held : Option (BTreeSet (String Global))) → items ≡ s.endpoints
    → HoldsKeys endpoint_key (λ (endpoint : Endpoint). true) items held → has_distinct_endpoints s ≡ is_some held
endpoints_decided s items None same holds = ap (are_apart is_same_endpoint) (sym same) ∙ twice_of_first is_same_endpoint items holds.count holds.twice
endpoints_decided s items (Some keys) same holds = ap (are_apart is_same_endpoint) (sym same) ∙ holds.apart

-- links are apart exactly where there is a set of their keys
pub links_decided : (s : SettingsData) (items : List LinkRule) (held : Option (BTreeSet (String Global))) → items ≡ s.links
    → HoldsKeys pair_key (λ (link : LinkRule). is_endpoint_name link.source) items held → has_distinct_links s ≡ is_some held
links_decided s items None same holds = ap (are_apart is_same_pair) (sym same)
    ∙ twice_of_first is_same_pair items holds.count (links_by_key (take holds.count items) holds.all_proper ∙ holds.twice)
links_decided s items (Some keys) same holds = ap (are_apart is_same_pair) (sym same) ∙ links_by_key items holds.all_proper ∙ holds.apart
