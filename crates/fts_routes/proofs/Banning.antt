-- How many files a ban cancels, by whether the settings list its storage.
use Rattle.std.proofs.Common.{◌≡◌, ℕ, Bool, true, false, cond, List, [], ◌∷◌, Option, Some, None, Err, refl, max}
use Rattle.std.specs.Prelude.{if◌then◌else◌, ◌&&◌, ◌||◌, bytes_eq, is_some, find, unwrap_or}
use Rattle.fts_tables.specs.SettingsData.{SettingsData, is_listed}
use Rattle.fts_tables.specs.Tables.{Tables}
use Rattle.fts_tables.specs.Limits.{endpoint_at}
use Rattle.fts_tables.specs.Waits.{waits_at, count_cancelled}
use Rattle.fts_tables.specs.Step.{step, ban_only, ban_and_cancel}
use Rattle.fts_tables.specs.declared.settings.Endpoint.{Endpoint}
use Rattle.fts_tables.specs.declared.commands.Command.TheVariants.{Ban}
use Rattle.fts_tables.specs.declared.commands.Refusal.TheVariants.{NoStorage}
use Rattle.fts_routes.specs.Objects.{settings_in, no_settings}
use Rattle.fts_routes.specs.Replies.{cancelled_in}

-- a storage is found where it is listed
found-listed : (endpoints : List Endpoint) (name : List ℕ) → is_some (find (λ (endpoint : Endpoint). bytes_eq endpoint.name name) endpoints) ≡ is_listed endpoints name
found-listed [] name = refl
found-listed (endpoint ∷ endpoints) name = by_head (found-listed endpoints name) (bytes_eq endpoint.name name)
  where
    by_head : is_some (find (λ (other : Endpoint). bytes_eq other.name name) endpoints) ≡ is_listed endpoints name → (here : Bool)
        → is_some (cond here (Some endpoint) (find (λ (other : Endpoint). bytes_eq other.name name) endpoints)) ≡ (here || is_listed endpoints name)
    by_head behind true = refl
    by_head behind false = behind

-- by the settings in force
listed-in : (settings : Option SettingsData) (name : List ℕ) → is_some (endpoint_at settings name) ≡ is_listed (unwrap_or settings no_settings).endpoints name
listed-in None name = refl
listed-in (Some settings) name = found-listed settings.endpoints name

-- a ban cancels files where that is asked for, and the settings list its storage
pub cancelled-by_ban : (tables : Tables) (now : ℕ) (storage : List ℕ) (cancel : Bool) → cancelled_in (step tables (Ban now storage cancel))
    ≡ (if cancel && is_listed (settings_in tables).endpoints storage then count_cancelled tables.jobs (waits_at storage) tables.rows else 0)
cancelled-by_ban tables now storage cancel =
    by_tests (is_some (endpoint_at tables.settings storage)) (is_listed (settings_in tables).endpoints storage) cancel (listed-in tables.settings storage)
  where
    by_tests : (found listed cancel : Bool) → found ≡ listed
        → cancelled_in (if found then (if cancel then ban_and_cancel tables (max now tables.moment) storage else ban_only tables (max now tables.moment) storage)
        else Err NoStorage)
        ≡ (if cancel && listed then count_cancelled tables.jobs (waits_at storage) tables.rows else 0)
    by_tests true true true same = refl
    by_tests true true false same = refl
    by_tests false false true same = refl
    by_tests false false false same = refl
    by_tests true false cancel same = absurd (cc)
    by_tests false true cancel same = absurd (cc)
