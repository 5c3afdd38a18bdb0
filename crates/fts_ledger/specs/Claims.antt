-- The last claim of each file among entries behind an opening list, and the files that are out.
use Rattle.std.specs.Prelude.{◌≡◌, ℕ, ◌==◌, if◌then◌else◌, List, [], ◌∷◌, Option, Some, None, Ok, Err}
use Rattle.fts_tables.specs.Tables.{Tables}
use Rattle.fts_tables.specs.Step.{Outcomes, step}
use Rattle.fts_tables.specs.History.{tables_after, tables_of, out_of_list}
use Rattle.fts_tables.specs.declared.commands.Entry.{Entry}
use Rattle.fts_tables.specs.declared.commands.Answer.{Answer}
use Rattle.fts_tables.specs.declared.commands.Answer.TheVariants.{Restarted, Submitted, Cancelled, PrioritySet, Claimed, Reported, Banned, Unbanned, Expired}
use Rattle.fts_turnstile.specs.History.{Among}

-- a claim that was accepted: who made it, and the attempt that it began
pub record Claimant : Type 0 where
  pub writer : ℕ
  pub attempt : ℕ

-- the last claim of a file after an answer to a writer: this one where it claims the file, and else the one before it
abbrev pub claim_after : ℕ → Option Claimant → ℕ → Answer → Option Claimant
claim_after file last writer (Claimed claimed attempt) = if claimed == file then Some (record { writer = writer; attempt = attempt }) else last
claim_after file last writer _ = last

-- the same after a step: a refusal changes nothing
abbrev pub claim_step : ℕ → Option Claimant → ℕ → Outcomes → Option Claimant
claim_step file last writer (Ok done) = claim_after file last writer done.1
claim_step file last writer (Err refusal) = last

-- the same after entries, from some tables on
abbrev pub last_claim_from : ℕ → Tables → Option Claimant → List Entry → Option Claimant
last_claim_from file tables last [] = last
last_claim_from file tables last (entry ∷ entries) =
    last_claim_from file (tables_after tables (step tables entry.command)) (claim_step file last entry.writer (step tables entry.command)) entries

-- the last claim of a file among the entries behind an opening list, where there is one
abbrev pub last_claim : ℕ → List Entry → List Entry → Option Claimant
last_claim file opening entries = last_claim_from file (tables_of opening) None entries

-- there is a last claim, and it is this writer's
abbrev pub IsOwn : ℕ → Option Claimant → Type 0
IsOwn writer None = ⊥
IsOwn writer (Some claim) = claim.writer ≡ writer

-- the file is out: claimed, and since then neither reported nor released by a restart
abbrev pub IsOut : ℕ → List Entry → Type 0
IsOut file entries = Among file (out_of_list entries)
