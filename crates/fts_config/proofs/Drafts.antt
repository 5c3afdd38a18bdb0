-- The draft that a document gives, from its lists as they are read.
use Rattle.std.proofs.Common.{◌≡◌, ℕ, List, [], ◌∷◌, map, Option, Some, None, Result, Ok, refl, ap, ◌∙◌, subst}
use Rattle.std.specs.List.{flat_map}
use Rattle.toml.specs.Data.{Data, get}
use Rattle.fts_tables.specs.SettingsData.{SettingsData}
use Rattle.fts_tables.specs.declared.settings.Endpoint.{Endpoint}
use Rattle.fts_tables.specs.declared.settings.LinkRule.{LinkRule}
use Rattle.fts_tables.specs.declared.settings.Weight.{Weight}
use Rattle.fts_config.specs.declared.keys.SettingKey.TheVariants.{Vo, Workers, DefaultMaxActive, Storage, Link, Activity}
use Rattle.fts_config.specs.declared.fault.SettingsFault.{SettingsFault}
use Rattle.fts_tables.specs.FirstFault.{unless}
use Rattle.fts_config.specs.Faults.{Gives}
use Rattle.fts_config.specs.Keys.{name_of}
use Rattle.fts_config.specs.Tables.{tables_of}
use Rattle.fts_config.specs.Reading.{first_bad, storage_urls, link_urls, bad_url, text_or, number_or, endpoint_in, link_in, weight_in, weights_in, settings_in}
use Rattle.fts_config.proofs.BadUrls.{first_bad-append_good, first_bad-append_bad}

-- what has no URLs has no bad one
no_urls : (tables : List Data) → first_bad (flat_map (λ (entry : Data). []) tables) ≡ None
no_urls [] = refl
no_urls (entry ∷ tables) = no_urls tables

-- the activities of a document that lists them
pub listed_weights : (result : Result (List Weight) SettingsFault) (name : List ℕ) (document found : Data) (tables : List Data)
    → name ≡ name_of Activity → Some found ≡ get name document → tables ≡ tables_of Activity document
    → Gives result (unless (first_bad (flat_map (λ (entry : Data). []) tables)) (map weight_in tables))
    → Gives result (Ok (weights_in (get (name_of Activity) document) document))
listed_weights result name document found tables named there same gives =
    let is : map weight_in tables ≡ weights_in (get (name_of Activity) document) document = ap (map weight_in) same
    ∙ ap (λ (o : Option Data). weights_in o document) (rw named at there) in
    subst (λ (weights : List Weight). Gives result (Ok weights)) is (rw (no_urls tables) at gives)

-- a storage's bad URL is the document's
pub bad_storage : (document : Data) (storages : List Data) (fault : SettingsFault)
    → storages ≡ tables_of Storage document → first_bad (flat_map storage_urls storages) ≡ Some fault → bad_url document ≡ Some fault
unfolding bad_url
bad_storage document storages fault same bad = rw (← same) (first_bad-append_bad (flat_map storage_urls storages) _ fault bad)

-- behind good storages the links decide
pub behind_storages : (document : Data) (storages links : List Data) (found : Option SettingsFault)
    → storages ≡ tables_of Storage document → links ≡ tables_of Link document
    → first_bad (flat_map storage_urls storages) ≡ None → first_bad (flat_map link_urls links) ≡ found → bad_url document ≡ found
unfolding bad_url
behind_storages document storages links found same same_links good decides =
    rw (← same, ← same_links) (first_bad-append_good (flat_map storage_urls storages) (flat_map link_urls links) good ∙ decides)

-- the values of a draft, one by one
pub draft_is : (document : Data) (vo : List ℕ) (workers limit : ℕ) (storages lists : List Data) (endpoints : List Endpoint) (links : List LinkRule)
    (weights : List Weight)
    → vo ≡ text_or [] Vo document → workers ≡ number_or 4 Workers document → limit ≡ number_or 2 DefaultMaxActive document
    → storages ≡ tables_of Storage document → lists ≡ tables_of Link document
    → endpoints ≡ map endpoint_in storages → links ≡ map link_in lists → weights ≡ weights_in (get (name_of Activity) document) document
    → ◌≡◌ {A = SettingsData} (record { vo = vo; workers = workers; default_max_active = limit; endpoints = endpoints; links = links; weights = weights })
    (settings_in document)
unfolding settings_in
draft_is document vo workers limit storages lists endpoints links weights e1 e2 e3 e4 e5 e6 e7 e8 = rw (e1, e2, e3, e6, e7, e8, e4, e5) refl
