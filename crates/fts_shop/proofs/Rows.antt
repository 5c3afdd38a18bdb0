-- Rows by their ids, and entries by their writers.
use Rattle.std.proofs.Common.{◌≡◌, refl, ap, ◌∙◌, ℕ, zero, suc, ◌==◌, Bool, true, false, cond, List, [], ◌∷◌, Some, All, eqb-true, arith}
use Rattle.fts_tables.specs.Tables.{row_at}
use Rattle.fts_tables.specs.declared.rows.FileRow.{FileRow}
use Rattle.fts_tables.specs.declared.commands.Entry.{Entry}
use Rattle.fts_turnstile.specs.History.{AllName}
use Rattle.fts_shop.specs.Shops.{writer_of}

-- what is found by an id has it
pub row_at-id : (rows : List FileRow) (id : ℕ) (row : FileRow) → row_at rows id ≡ Some row → row.id ≡ id
row_at-id [] id row at = absurd cc
row_at-id (first ∷ rows) id row at = by_head (row_at-id rows id row) (first.id == id) refl at
  where
    by_head : (row_at rows id ≡ Some row → row.id ≡ id) → (answer : Bool) → (first.id == id) ≡ answer
        → cond answer (Some first) (row_at rows id) ≡ Some row → row.id ≡ id
    by_head behind true is at_head =
        let here : row ≡ first = cc in
        ap (λ (other : FileRow). other.id) here ∙ eqb-true first.id id is
    by_head behind false is at_behind = behind at_behind

-- entries that are all of one writer
pub all_name : (writer : ℕ) (entries : List Entry) → All (λ (entry : Entry). entry.writer ≡ writer) entries → AllName writer_of writer entries
all_name writer [] all = tt
all_name writer (entry ∷ entries) all = (all zero entry (omega arith), all_name writer entries (λ k d h. all (suc k) d (omega arith)))
