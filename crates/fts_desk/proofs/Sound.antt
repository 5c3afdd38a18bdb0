-- What a desk keeps over a command that was committed.
use Rattle.std.proofs.Common.{◌≡◌, ℕ, ◌+◌, ◌<◌, Bool, List, length, Option, Some, Ok, Err, sym, subst}
use Rattle.std.specs.Prelude.{max, slice_get, Result, IfOk}
use Rattle.fts_tables.specs.Tables.{Tables}
use Rattle.fts_tables.specs.Step.{Outcomes, step}
use Rattle.fts_tables.specs.History.{IsAccepted, tables_after}
use Rattle.fts_tables.specs.declared.limits.TheConstants.{MAX_COMMANDS}
use Rattle.fts_desk.specs.Prepared.{IsPrepared}
use Rattle.fts_desk.specs.declared.desk.DeskFault.{DeskFault}
use Rattle.fts_tables.specs.Choice.{pick}
use Rattle.fts_tables.specs.Laws.{IsStanding}
use Rattle.fts_tables.specs.declared.places.Place.{Place}
use Rattle.fts_tables.specs.declared.rows.FileRow.{FileRow}
use Rattle.fts_tables.specs.SettingsData.{SettingsData}
use Rattle.fts_tables.specs.declared.rows.Outcome.{Outcome}
use Rattle.fts_tables.specs.declared.commands.Command.{Command}
use Rattle.fts_tables.specs.declared.commands.Command.TheVariants.{Restart, Report, Ban}
use Rattle.fts_tables.specs.declared.commands.Answer.{Answer}
use Rattle.fts_desk.specs.Bounds.{AreBounded, BringsFiles}
use Rattle.fts_desk.specs.Kept.{tables_kept, HasRoom}
use Rattle.fts_desk.specs.Desk.{IsSound, IsReady, IsReadyFor, IsPlanned, IsDecided, IsClaimAt, IsPickedAt}
use Rattle.fts_desk.specs.declared.kept.Kept.{Kept}
use Rattle.fts_desk.specs.declared.commands.Decided.{Decided}

-- what is there for the command that was prepared
pub ready_for : (kept : Kept) (commands : ℕ) (decided : Decided) (planned : Option Command) (command : Command) → IsReady kept commands decided planned → planned ≡ Some command
    → IsReadyFor kept commands decided command
ready_for kept commands decided planned command ready is = subst (IsReady kept commands decided) is ready

-- what was decided for a command, by the forms of both
pub decided_as : (kept : Kept) (command other : Command) (decided choice : Decided) → IsPlanned kept command decided → command ≡ other → decided ≡ choice
    → IsDecided kept other choice
decided_as kept command other decided choice planned is chosen =
    subst (IsDecided kept other) chosen (subst (λ command. IsDecided kept command decided) is planned.decided)

-- the room that was made for a command, by its form
pub room_as : (kept : Kept) (command other : Command) (decided : Decided) → IsPlanned kept command decided → command ≡ other → HasRoom kept other
room_as kept command other decided planned is = subst (HasRoom kept) is planned.room

-- a claim that was decided holds over the tables that stay so
pub claim_stays : (kept : Kept) (tables : Tables) (now word place : ℕ) (dest : Place) → tables_kept kept ≡ tables → place < length tables.rows
    → pick tables (max now tables.moment) word ≡ slice_get tables.rows place
    → ((row : FileRow) → slice_get tables.rows place ≡ Some row → row.dest ≡ dest) → IsClaimAt kept now word place dest
claim_stays kept tables now word place dest same inside picked dests = record {
  at = subst (λ tables. IsPickedAt tables now word place) (sym same) (record { inside = inside; picked = picked });
  dest = subst (λ (tables : Tables). (row : FileRow) → slice_get tables.rows place ≡ Some row → row.dest ≡ dest) (sym same) dests;
}

-- prepared is prepared, whatever was made
pub made_as : (T U : Type 0) (outcome : Outcomes) (made : T) (other : U) → IsPrepared {T = T} outcome (Ok made) → IsPrepared {T = U} outcome (Ok other)
made_as T U (Ok done) made other prepared = tt
made_as T U (Err refusal) made other prepared = absurd prepared

-- what answers a command answers the one that it is
pub answered_as : (tables : Tables) (command : Command) {other : Command} (result : Result Decided DeskFault) → command ≡ other
    → IsPrepared {T = Decided} (step tables other) result → IsPrepared {T = Decided} (step tables command) result
answered_as tables command result is prepared = subst (λ command. IsPrepared {T = Decided} (step tables command) result) (sym is) prepared

-- what was prepared is accepted
accepted_of : (outcome : Outcomes) (decided : Decided) → IsPrepared {T = Decided} outcome (Ok decided) → IsAccepted outcome
accepted_of (Ok done) decided prepared = tt
accepted_of (Err refusal) decided prepared = absurd prepared

-- all that a restart needs, where it was decided
pub planned_restart : (kept : Kept) (now : ℕ) (settings : SettingsData) (command : Command) (result : Result Decided DeskFault)
    → command ≡ Restart now settings → IfOk result (λ decided. (now : ℕ) → IsDecided kept (Restart now settings) decided)
    → IfOk result (IsPlanned kept command)
planned_restart kept now settings command (Ok decided) is given =
    subst (λ command. IsPlanned kept command decided) (sym is) (record { room = tt; files = tt; decided = given now })
planned_restart kept now settings command (Err fault) is given = tt

-- what was decided for a restart under any settings in force was decided for these
pub resumed : (kept new : Kept) (settings : SettingsData) (result : Result Decided DeskFault) → kept.settings ≡ Some settings
    → IfOk result (λ decided. (now : ℕ) (settings : SettingsData) → kept.settings ≡ Some settings → IsDecided new (Restart now settings) decided)
    → IfOk result (λ decided. (now : ℕ) → IsDecided new (Restart now settings) decided)
resumed kept new settings (Ok decided) same given = λ now. given now settings same
resumed kept new settings (Err fault) same given = tt

-- all that a report needs
pub planned_report : (kept : Kept) (now file attempt : ℕ) (outcome : Outcome) (command : Command) (result : Result Decided DeskFault)
    → command ≡ Report now file attempt outcome
    → IfOk result (λ decided. (now : ℕ) (outcome : Outcome) → HasRoom kept (Report now file attempt outcome)) → IfOk result (IsPlanned kept command)
planned_report kept now file attempt outcome command (Ok decided) is given =
    subst (λ command. IsPlanned kept command decided) (sym is) (record { room = given now outcome; files = tt; decided = tt })
planned_report kept now file attempt outcome command (Err fault) is given = tt

-- all that a ban needs
pub planned_ban : (kept : Kept) (now : ℕ) (storage : List ℕ) (cancel : Bool) (command : Command) (result : Result Decided DeskFault)
    → command ≡ Ban now storage cancel → IfOk result (λ decided. (now : ℕ) (cancel : Bool) → HasRoom kept (Ban now storage cancel))
    → IfOk result (IsPlanned kept command)
planned_ban kept now storage cancel command (Ok decided) is given =
    subst (λ command. IsPlanned kept command decided) (sym is) (record { room = given now cancel; files = tt; decided = tt })
planned_ban kept now storage cancel command (Err fault) is given = tt

-- a copy of the command that was prepared is ready
pub ready_after : (kept : Kept) (tables : Tables) (commands : ℕ) (decided : Decided) (command copy : Command) → commands < MAX_COMMANDS
    → tables_kept kept ≡ tables → IsPrepared {T = Decided} (step tables command) (Ok decided) → IsPlanned kept command decided → copy ≡ command
    → IsReadyFor kept commands decided copy
ready_after kept tables commands decided command copy few same prepared planned is =
    subst (IsReadyFor kept commands decided) (sym is) (record {
      few = few;
      accepted = subst (λ tables. IsAccepted (step tables command)) (sym same) (accepted_of (step tables command) decided prepared);
      planned = planned;
    })

-- the tables that the machine's step leaves are sound
pub sound_after : (tables after : Tables) (commands : ℕ) (command : Command) (answer : Answer) → IsSound tables commands → BringsFiles command
    → step tables command ≡ Ok (after, answer)
    → IsStanding (tables_after tables (step tables command))
    → AreBounded (commands + 1) (tables_after tables (step tables command)).jobs (tables_after tables (step tables command)).rows
    → IsSound after (commands + 1)
sound_after tables after commands command answer sound files is standing bounds = record {
  standing = subst (λ (outcome : Outcomes). IsStanding (tables_after tables outcome)) is standing;
  bounds = subst (λ (outcome : Outcomes). AreBounded (commands + 1) (tables_after tables outcome).jobs (tables_after tables outcome).rows) is bounds;
}
