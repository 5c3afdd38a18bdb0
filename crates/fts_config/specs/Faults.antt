-- The numbers of the rules of a settings' text, and the form in which checks answer.
use Rattle.std.specs.Prelude.{◌≡◌, ◌⊎◌, ℕ, Result, Err}
use Rattle.fts_config.specs.declared.fault.SettingsFault.{SettingsFault}
use Rattle.fts_config.specs.declared.fault.SettingsFault.TheVariants.{NotToml, WrongType, Missing, BadUrl, TwiceEndpoint, TwiceLink, UnknownEndpoint, LimitRange, WeightRange, NoDefaultWeight, WorkerRange, TooMany, TooLong, BadLabel, TwiceWeight, Memory}

-- the number of a fault's rule; 0 for want of memory, which is no rule
abbrev pub rule_of : SettingsFault → ℕ
rule_of NotToml = 1
rule_of (WrongType key) = 2
rule_of (Missing key) = 3
rule_of (BadUrl fault) = 4
rule_of TwiceEndpoint = 5
rule_of TwiceLink = 6
rule_of UnknownEndpoint = 7
rule_of LimitRange = 8
rule_of WeightRange = 9
rule_of NoDefaultWeight = 10
rule_of WorkerRange = 11
rule_of TooMany = 12
rule_of TooLong = 13
rule_of BadLabel = 14
rule_of TwiceWeight = 15
rule_of Memory = 0

-- the result is the expected one, or memory ran out
abbrev pub Gives : {A : Type 0} → Result A SettingsFault → Result A SettingsFault → Type 0
Gives result expected = (result ≡ expected) ⊎ (result ≡ Err Memory)
