-- The laws of `fts_ledger` and of `fts_laws` that the laws over runs cite.
use Rattle.std.specs.Prelude.{◌≡◌, ◌≢◌, ◌⊎◌, ℕ, ◌≤◌, Bool, List, [], ◌∷◌, ◌++◌, max, Some, Err}
use Rattle.fts_tables.specs.SettingsData.{SettingsData, IsSettings}
use Rattle.fts_tables.specs.Tables.{Tables}
use Rattle.fts_tables.specs.Limits.{eligible_rows}
use Rattle.fts_tables.specs.Step.{step}
use Rattle.fts_tables.specs.History.{IsLegal, out_of_list, tables_of}
use Rattle.fts_tables.specs.declared.commands.Entry.{Entry}
use Rattle.fts_tables.specs.declared.commands.Command.TheVariants.{Claim, Restart}
use Rattle.fts_tables.specs.declared.commands.Refusal.TheVariants.{Idle}
use Rattle.fts_turnstile.specs.declared.turn.LoggedTurn.{LoggedTurn}
use Rattle.fts_turnstile.specs.History.{items_of}
use Rattle.fts_turnstile.specs.Passes.{PassView, seen_list}
use Rattle.fts_keep.specs.Applied.{entry_by}
use Rattle.fts_workers.specs.declared.held.Held.{Held}
use Rattle.fts_shop.specs.Looking.{NoneOf}
use Rattle.fts_shop.specs.Workers.{StationData, WorkerDone}
use Rattle.fts_shop.specs.declared.ends.Turn.TheVariants.{Stale}
use Rattle.fts_ledger.specs.Claims.{IsOut, IsOwn, last_claim}
use Rattle.fts_ledger.specs.Fitting.{FitsPass}
use Rattle.fts_ledger.specs.Ledger.{AreFresh, FollowsOwn, KeepsItsFiles, KeepsLedger, MayKeep}
use Rattle.fts_ledger.specs.Reports.{AddsAsked, AddsWork, HasNoRestart, IsUndisturbed, ReportsOwn}
use Rattle.fts_store.specs.declared.store.Store as store

-- the laws of lists
pub record ListLaws : Type 0 where
  pub claimed : (opening entries : List Entry) (file : ℕ) → out_of_list opening ≡ [] → IsOut file (opening ++ entries)
      → (writer : ℕ) × IsOwn writer (last_claim file opening entries)
  pub asked : (writer file : ℕ) (opening entries : List Entry) → AddsAsked writer entries → IsOwn writer (last_claim file opening entries) → ⊥
  pub before : (writer file : ℕ) (opening entries later : List Entry) → NoneOf writer later → IsOut file (opening ++ (entries ++ later))
      → IsOwn writer (last_claim file opening (entries ++ later)) → IsOut file (opening ++ entries) × IsOwn writer (last_claim file opening entries)
  pub restarted : (entries : List Entry) (writer now : ℕ) (settings : SettingsData) → IsLegal (entries ++ entry_by writer (Restart now settings) ∷ [])
      → out_of_list (entries ++ entry_by writer (Restart now settings) ∷ []) ≡ []
  pub settings : (entries : List Entry) (writer now : ℕ) (settings : SettingsData) (more : List Entry) → HasNoRestart more
      → IsLegal ((entries ++ entry_by writer (Restart now settings) ∷ []) ++ more)
      → (tables_of ((entries ++ entry_by writer (Restart now settings) ∷ []) ++ more)).settings ≡ Some settings
  pub none : (entries : List Entry) → ((writer : ℕ) → AddsWork writer entries ⊎ AddsAsked writer entries) → HasNoRestart entries
  pub reports : (writer : ℕ) (opening entries : List Entry) → AddsAsked writer entries → ReportsOwn writer opening [] entries
  pub others : (writer : ℕ) (opening before entries : List Entry) → NoneOf writer entries → ReportsOwn writer opening before entries
  pub undisturbed : (opening entries : List Entry) → HasNoRestart entries → ((writer : ℕ) → ReportsOwn writer opening [] entries)
      → (writer : ℕ) → IsUndisturbed writer opening entries
  pub idle : (tables : Tables) (settings : SettingsData) (now word : ℕ) → tables.settings ≡ Some settings → IsSettings settings
      → step tables (Claim now word) ≡ Err Idle → eligible_rows tables (max now tables.moment) ≡ []
  pub earlier : (tables : Tables) (now later : ℕ) → now ≤ later → eligible_rows tables later ≡ [] → eligible_rows tables now ≡ []

-- the laws of what one station keeps
pub record Laws {E : Type 0} (stores : store.Ghosts E) : Type 0 where
  pub begins : (pass : PassView Entry) → NoneOf pass.number (items_of pass.seen) → FitsPass pass []
  pub worker : (closes : Bool) (old new : StationData E) → WorkerDone stores closes old new → MayKeep old.pass new.pass old.held
      → KeepsLedger old.pass new.pass new.held
  pub legal : (pass : PassView Entry) (later : List (LoggedTurn Entry)) → IsLegal (pass.opening ++ items_of (pass.seen ++ later)) → IsLegal (seen_list pass)
  pub own : (old new : PassView Entry) (held : List Held) (later : List (LoggedTurn Entry)) → KeepsLedger old new held
      → NoneOf old.number (items_of old.seen) → NoneOf old.number (items_of later)
      → ReportsOwn old.number old.opening [] (items_of (new.seen ++ later))
  pub work : (old new : PassView Entry) (held : List Held) (later : List (LoggedTurn Entry)) → KeepsLedger old new held
      → NoneOf old.number (items_of old.seen) → NoneOf old.number (items_of later) → AddsWork old.number (items_of (new.seen ++ later))

-- the laws of stations
pub record StoreLaws {E : Type 0} (stores : store.Ghosts E) : Type 0 where
  pub own : Laws stores
  pub before : (pass : PassView Entry) (later : List (LoggedTurn Entry)) → IsUndisturbed pass.number pass.opening (items_of (pass.seen ++ later))
      → KeepsItsFiles pass
  pub follow : (closes : Bool) (old new : StationData E) (done : WorkerDone stores closes old new) → MayKeep old.pass new.pass old.held
      → KeepsItsFiles new.pass
      → FollowsOwn stores old new × AreFresh stores done.more old done.between × ((file : ℕ) → done.last ≢ Stale file)
