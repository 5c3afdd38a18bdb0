-- How the settings of a source's text follow from the bytes that were read of it.
use Rattle.std.proofs.Common.{◌≡◌, ◌≢◌, ◌⊎◌, inl, inr, ℕ, ◌<◌, List, length, Option, Some, None, Result, Ok, Err, refl, sym, subst}
use Rattle.std.specs.Prelude.{IfSome}
use Rattle.std.proofs.lemmas.Bool.{lt-ltb}
use Rattle.fts_tables.specs.SettingsData.{SettingsData}
use Rattle.fts_tables.specs.declared.limits.TheConstants.{MAX_SETTINGS_BYTES}
use Rattle.fts_wire.specs.ReadAll.{IsAll, IsRefused}
use Rattle.fts_wire.specs.declared.whole_input.ReadAllFault.TheVariants.{TooLong as TooManyBytes}
use Rattle.fts_config.specs.Settings.{settings_of}
use Rattle.fts_config.specs.declared.fault.SettingsFault.{SettingsFault}
use Rattle.fts_config.specs.declared.fault.SettingsFault.TheVariants.{TooLong, Memory}
use Rattle.fts_top.specs.Runs.{AreRead, IsBroken, HasNoSettings, EndsBy}
use Rattle.fts_top.specs.declared.ends.RunEnd.{RunEnd}
use Rattle.fts_top.specs.declared.ends.RunEnd.TheVariants.{NoMemory, SettingsUnread, SettingsRule}

-- a text that is too long
too_long : (text : List ℕ) → MAX_SETTINGS_BYTES < length text → settings_of text ≡ Err TooLong
unfolding settings_of
too_long text many = rw (lt-ltb MAX_SETTINGS_BYTES (length text) many) refl

-- the same of a source that may tell it
too_long_left : (left after : Option (List ℕ)) → IsRefused MAX_SETTINGS_BYTES left after TooManyBytes → IfSome left (λ text. settings_of text ≡ Err TooLong)
too_long_left None after h = tt
too_long_left (Some text) None h = absurd h
too_long_left (Some text) (Some rest) h = too_long text h.0

-- a fault that the text has stops the run
pub stops_by : (text : Option (List ℕ)) (fault : SettingsFault) (end : RunEnd) → (fault ≢ Memory → IfSome text (λ bytes. settings_of bytes ≡ Err fault)) → EndsBy fault end → HasNoSettings text end
stops_by text fault end told (inl h) = subst (HasNoSettings text) (sym h.1) tt
stops_by text fault end told (inr h) = subst (HasNoSettings text) (sym h.1) (record { fault = fault; real = h.0; number = refl; told = told h.0 })

-- too many bytes stop the run
pub stops_too_long : (left after : Option (List ℕ)) (end : RunEnd) → IsRefused MAX_SETTINGS_BYTES left after TooManyBytes → EndsBy TooLong end → HasNoSettings left end
stops_too_long left after end h by = stops_by left TooLong end (λ other. too_long_left left after h) by

-- what was read is what the text gives, or memory was wanting
read_or_not : (text : List ℕ) (settings : SettingsData) → (◌≡◌ {A = Result SettingsData SettingsFault} (Ok settings) (settings_of text)) ⊎ (◌≡◌ {A = Result SettingsData SettingsFault} (Ok settings) (Err Memory)) → settings_of text ≡ Ok settings
read_or_not text settings (inl e) = sym e
read_or_not text settings (inr e) = cc

-- the settings of the bytes that were read are those of the source's text
pub read_left : (left after : Option (List ℕ)) (bytes : List ℕ) (settings : SettingsData) → IsAll MAX_SETTINGS_BYTES left after bytes → AreRead (Some bytes) settings → AreRead left settings
read_left None after bytes settings all e = tt
read_left (Some text) None bytes settings all e = absurd all
read_left (Some text) (Some rest) bytes settings all e = subst (λ (xs : List ℕ). settings_of xs ≡ Ok settings) all.0 e

-- and so is a rule that they break
broken_left : (left after : Option (List ℕ)) (bytes : List ℕ) (rule : ℕ) → IsAll MAX_SETTINGS_BYTES left after bytes → IsBroken (Some bytes) rule → IsBroken left rule
broken_left None after bytes rule all h = record { fault = h.fault; real = h.real; number = h.number; told = tt }
broken_left (Some text) None bytes rule all h = absurd all
broken_left (Some text) (Some rest) bytes rule all h = record { fault = h.fault; real = h.real; number = h.number; told = subst (λ (xs : List ℕ). settings_of xs ≡ Err h.fault) all.0 h.told }

-- the end that the bytes make is one that the text makes
pub stop_left : (left after : Option (List ℕ)) (bytes : List ℕ) (end : RunEnd) → IsAll MAX_SETTINGS_BYTES left after bytes → HasNoSettings (Some bytes) end → HasNoSettings left end
stop_left left after bytes NoMemory all h = tt
stop_left left after bytes SettingsUnread all h = tt
stop_left left after bytes (SettingsRule rule) all h = broken_left left after bytes rule all h
stop_left left after bytes _ all h = absurd h
