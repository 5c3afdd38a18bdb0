-- What preparing a command answers, against the machine's step.
use Rattle.std.specs.Prelude.{◌≡◌, Result, Ok, Err}
use Rattle.fts_tables.specs.Step.{Outcomes}
use Rattle.fts_tables.specs.declared.commands.Refusal.{Refusal}
use Rattle.fts_desk.specs.declared.desk.DeskFault.{DeskFault}
use Rattle.fts_desk.specs.declared.desk.DeskFault.TheVariants.{Rule, Memory}

-- prepared where the machine accepts, unless memory is short; its refusal exactly where it refuses, however much memory there is
abbrev pub IsPrepared : {T : Type 0} → Outcomes → Result T DeskFault → Type 0
IsPrepared (Ok done) (Ok made) = Unit {0}
IsPrepared (Ok done) (Err Memory) = Unit {0}
IsPrepared (Ok done) (Err (Rule rule)) = ⊥
IsPrepared (Err refusal) (Err (Rule rule)) = rule ≡ refusal
IsPrepared (Err refusal) (Err Memory) = ⊥
IsPrepared (Err refusal) (Ok made) = ⊥

-- the same for what takes no memory: taken exactly where the machine accepts, its refusal exactly where it refuses
abbrev pub IsChecked : {T : Type 0} → Outcomes → Result T Refusal → Type 0
IsChecked (Ok done) (Ok made) = Unit {0}
IsChecked (Err refusal) (Err rule) = rule ≡ refusal
IsChecked (Err refusal) (Ok made) = ⊥
IsChecked (Ok done) (Err rule) = ⊥
