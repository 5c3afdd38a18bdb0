-- What a settings' text means: the settings that it gives, or the fault of the first rule that it breaks.
use Rattle.std.specs.Prelude.{ℕ, nat_lt, List, ◌∷◌, length, Option, Some, None, Result, Err, if◌then◌else◌}
use Rattle.toml.specs.Data.{Data}
use Rattle.fts_tables.specs.FirstFault.{first_fault, unless}
use Rattle.fts_tables.specs.SettingsData.{SettingsData}
use Rattle.fts_tables.specs.declared.limits.TheConstants.{MAX_SETTINGS_BYTES}
use Rattle.fts_config.specs.declared.fault.SettingsFault.{SettingsFault}
use Rattle.fts_config.specs.declared.fault.SettingsFault.TheVariants.{NotToml, TooLong}
use Rattle.fts_config.specs.Document.{document_of}
use Rattle.fts_config.specs.Reading.{settings_in, bad_url}
use Rattle.fts_config.specs.Rules.{faults_of}
use Rattle.fts_config.specs.Types.{wrong_type, missing}

-- the rules of a document in the order in which they are answered, each with its fault where it is broken
abbrev pub faults_in : Data → List (Option SettingsFault)
faults_in document = wrong_type document ∷ missing document ∷ bad_url document ∷ faults_of (settings_in document)

-- the settings of a document, unless it breaks a rule; what is no document breaks rule 1
abbrev pub settings_from : Option Data → Result SettingsData SettingsFault
settings_from None = Err NotToml
settings_from (Some document) = unless (first_fault (faults_in document)) (settings_in document)

-- the settings of a text; rule 13, that it isn't too long, comes before all others
unfoldable pub settings_of : List ℕ → Result SettingsData SettingsFault
settings_of text = if nat_lt MAX_SETTINGS_BYTES (length text) then Err TooLong else settings_from (document_of text)
