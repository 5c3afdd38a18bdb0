-- One entry more behind a list: what it makes of the files that are out, of the last claims, and of attempts.
use Rattle.std.proofs.Common.{◌≡◌, refl, sym, ap, ◌∙◌, subst, ℕ, Bool, true, false, cond, List, [], ◌∷◌, ◌++◌, Option, Some, None, IsSome, Ok, Err, append_assoc}
use Rattle.std.specs.Prelude.{◌==◌}
use Rattle.fts_tables.specs.Tables.{Tables, empty_tables, row_at}
use Rattle.fts_tables.specs.Step.{Outcomes, step}
use Rattle.fts_tables.specs.History.{IsAccepted, IsLegal, out_after, out_of_list, out_step, tables_after, tables_from, tables_of}
use Rattle.fts_tables.specs.Laws.{FileOfRow, RowsStay}
use Rattle.fts_tables.specs.declared.rows.FileRow.{FileRow}
use Rattle.fts_tables.specs.declared.commands.Entry.{Entry}
use Rattle.fts_tables.specs.declared.commands.Answer.{Answer}
use Rattle.fts_workers.proofs.Accepted.{legal_front}
use Rattle.fts_workers.proofs.Copied.{tables_from-append}
use Rattle.fts_workers.proofs.OutFiles.{out_of_list-last}
use Rattle.fts_ledger.specs.Machine.{Machine}
use Rattle.fts_ledger.specs.Claims.{Claimant, claim_after, claim_step, last_claim, last_claim_from}
use Rattle.fts_ledger.proofs.Lists.{accepted_last}
use Rattle.fts_ledger.proofs.Sound.{Behaves, step_behaves}

-- what was accepted made something
pub accepted_done : (came : Outcomes) → IsAccepted came → (done : Tables × Answer) × (came ≡ Ok done)
accepted_done (Ok done) accepted = (done, refl)
accepted_done (Err refusal) accepted = absurd accepted

-- the last claim behind one entry more
last_from : (file : ℕ) (tables : Tables) (last : Option Claimant) (entries : List Entry) (entry : Entry)
    → last_claim_from file tables last (entries ++ entry ∷ [])
    ≡ claim_step file (last_claim_from file tables last entries) entry.writer (step (tables_from tables entries) entry.command)
last_from file tables last [] entry = refl
last_from file tables last (first ∷ entries) entry =
    last_from file (tables_after tables (step tables first.command)) (claim_step file last first.writer (step tables first.command)) entries entry

pub last_more : (file : ℕ) (opening entries : List Entry) (entry : Entry) → last_claim file opening (entries ++ entry ∷ [])
    ≡ claim_step file (last_claim file opening entries) entry.writer (step (tables_of (opening ++ entries)) entry.command)
last_more file opening entries entry =
    last_from file (tables_of opening) None entries entry
    ∙ ap (λ t. claim_step file (last_claim file opening entries) entry.writer (step t entry.command)) (sym (tables_from-append empty_tables opening entries))

-- one entry more behind a list
pub record Moves (opening entries : List Entry) (entry : Entry) : Type 0 where
  pub done : Tables × Answer
  pub came : step (tables_of (opening ++ entries)) entry.command ≡ Ok done
  pub out : out_of_list (opening ++ (entries ++ entry ∷ [])) ≡ out_after (out_of_list (opening ++ entries)) done.1
  pub last : (file : ℕ) → last_claim file opening (entries ++ entry ∷ []) ≡ claim_after file (last_claim file opening entries) entry.writer done.1
  pub tables : tables_of (opening ++ (entries ++ entry ∷ [])) ≡ done.0
  pub behaves : Behaves (tables_of (opening ++ entries)) entry.command done.0 done.1

-- rows that stay are found as before
stays_found : (rows after : List FileRow) (file : ℕ) → RowsStay rows after → IsSome (row_at rows file) → IsSome (row_at after file)
stays_found [] after file stay there = absurd cc
stays_found (row ∷ rows) [] file stay there = absurd stay
stays_found (row ∷ rows) (kept ∷ after) file stay there =
    let id : kept.id ≡ row.id = ap (λ (f : FileOfRow). f.id) stay.0.file in
    subst (λ n. IsSome (cond (n == file) (Some kept) (row_at after file))) (sym id)
    (by_head (stays_found rows after file stay.1) (row.id == file) there)
  where
    by_head : (IsSome (row_at rows file) → IsSome (row_at after file)) → (same : Bool) → IsSome (cond same (Some row) (row_at rows file))
        → IsSome (cond same (Some kept) (row_at after file))
    by_head behind true found = refl
    by_head behind false found = behind found

module _ (machine : Machine) (opening entries : List Entry) (entry : Entry) (legal : IsLegal (opening ++ (entries ++ entry ∷ []))) where
  -- the same list, cut before the entry
  pub legal_cut : IsLegal ((opening ++ entries) ++ entry ∷ [])
  legal_cut = subst IsLegal (sym (append_assoc opening entries (entry ∷ []))) legal

  -- what is before it is legal
  pub legal_before : IsLegal (opening ++ entries)
  legal_before = legal_front empty_tables (opening ++ entries) (entry ∷ []) legal_cut

  pub moves : Moves opening entries entry
  moves =
      let found = accepted_done (step (tables_of (opening ++ entries)) entry.command) (accepted_last (opening ++ entries) entry legal_cut) in
      let cut = append_assoc opening entries (entry ∷ []) in
      record {
        done = found.0;
        came = found.1;
        out = ap out_of_list (sym cut) ∙ out_of_list-last (opening ++ entries) entry ∙ ap (out_step (out_of_list (opening ++ entries))) found.1;
        last = λ file. last_more file opening entries entry ∙ ap (claim_step file (last_claim file opening entries) entry.writer) found.1;
        tables = ap tables_of (sym cut) ∙ tables_from-append empty_tables (opening ++ entries) (entry ∷ [])
            ∙ ap (tables_after (tables_of (opening ++ entries))) found.1;
        behaves = step_behaves machine.picks (tables_of (opening ++ entries)) (machine.formed (opening ++ entries) legal_before) entry.command found.0 found.1;
      }

  -- a file that is there stays there
  pub still_there : (file : ℕ) → IsSome (row_at (tables_of (opening ++ entries)).rows file)
      → IsSome (row_at (tables_of (opening ++ (entries ++ entry ∷ []))).rows file)
  still_there file there =
      stays_found (tables_of (opening ++ entries)).rows (tables_of (opening ++ (entries ++ entry ∷ []))).rows file
      (subst (λ list. RowsStay (tables_of (opening ++ entries)).rows (tables_of list).rows) (append_assoc opening entries (entry ∷ []))
      (machine.stay (opening ++ entries) (entry ∷ []) legal_cut)) there
