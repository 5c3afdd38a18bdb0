-- Lists of entries: as many attempts more as they have claims.
use Rattle.std.proofs.Common.{◌≡◌, ◌+◌, ◌≤◌, List, [], ◌∷◌, ◌++◌, length, ◌∙◌, arith}
use Rattle.std.specs.Prelude.{if◌then◌else◌}
use Rattle.std.proofs.lemmas.List.Sums.{count_by-le-length, sum_by-cons}
use Rattle.fts_tables.specs.Tables.{Tables, empty_tables}
use Rattle.fts_tables.specs.Step.{step}
use Rattle.fts_tables.specs.History.{IsAccepted, IsLegal, IsLegalFrom, tables_after, tables_from, tables_of}
use Rattle.fts_tables.specs.Laws.{IsStanding}
use Rattle.fts_tables.specs.declared.commands.Command.{Command}
use Rattle.fts_tables.specs.declared.commands.Entry.{Entry}
use Rattle.fts_laws.specs.Attempts.{attempts_in, claims_in, is_claim}
use Rattle.fts_laws.proofs.Steps.{PicksStand, step_adds}

-- an accepted step leaves tables that stand
abbrev pub StepsStand : Type 0
StepsStand = (tables : Tables) (command : Command) → IsStanding tables → IsAccepted (step tables command)
    → IsStanding (tables_after tables (step tables command))

-- the first entry and the others
claims_in-cons : (entry : Entry) (entries : List Entry) → claims_in (entry ∷ entries) ≡ (if is_claim entry.command then 1 else 0) + claims_in entries
claims_in-cons entry entries = sum_by-cons (λ (other : Entry). if is_claim other.command then 1 else 0) entry entries

module _ (picks_stand : PicksStand) (steps_stand : StepsStand) where
  -- a list from tables that stand
  pub list_adds : (tables : Tables) (entries : List Entry) → IsStanding tables → IsLegalFrom tables entries
      → attempts_in (tables_from tables entries).rows ≡ attempts_in tables.rows + claims_in entries
  list_adds tables [] stands legal = omega arith
  list_adds tables (entry ∷ entries) stands legal =
      list_adds (tables_after tables (step tables entry.command)) entries (steps_stand tables entry.command stands legal.0) legal.1
      ∙ omega (arith, step_adds tables picks_stand stands.formed entry.command legal.0, claims_in-cons entry entries)

  -- a list in two parts
  parts_add : (tables : Tables) (entries more : List Entry) → IsStanding tables → IsLegalFrom tables (entries ++ more)
      → attempts_in (tables_from tables (entries ++ more)).rows ≡ attempts_in (tables_from tables entries).rows + claims_in more
  parts_add tables [] more stands legal = list_adds tables more stands legal
  parts_add tables (entry ∷ entries) more stands legal =
      parts_add (tables_after tables (step tables entry.command)) entries more (steps_stand tables entry.command stands legal.0) legal.1

  -- a legal list and what follows it: the empty tables stand
  pub legal_adds : IsStanding empty_tables → (entries more : List Entry) → IsLegal (entries ++ more)
      → attempts_in (tables_of (entries ++ more)).rows ≡ attempts_in (tables_of entries).rows + claims_in more
  legal_adds stands entries more legal = parts_add empty_tables entries more stands legal

  -- no more attempts than entries
  pub few_attempts : IsStanding empty_tables → (entries : List Entry) → IsLegal entries → attempts_in (tables_of entries).rows ≤ length entries
  few_attempts stands entries legal =
      omega (arith, list_adds empty_tables entries stands legal, count_by-le-length (λ (entry : Entry). is_claim entry.command) entries)
