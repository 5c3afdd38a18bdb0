-- Whether a file of a list is live, by its last and the others.
use Rattle.std.proofs.Common.{◌≡◌, ◌∙◌, refl, sym, ap, Bool, true, false, List, [], ◌∷◌, ◌++◌}
use Rattle.std.specs.Prelude.{◌||◌}
use Rattle.std.specs.List.{list_any}
use Rattle.std.proofs.lemmas.List.Folds.{list_any-append}
use Rattle.fts_tables.specs.Tables.{is_live}
use Rattle.fts_tables.specs.declared.rows.FileRow.{FileRow}

-- whether a row's file waits or runs
abbrev pub live : FileRow → Bool
live row = is_live row.state

-- a test, and one that fails
or_false : (one other : Bool) → other ≡ false → (one || (other || false)) ≡ one
or_false true other settled = refl
or_false false true settled = settled
or_false false false settled = refl

-- where the last is settled, one of all is live exactly where one of the others is
pub last_settled : (rows others : List FileRow) (last : FileRow) → rows ≡ others ++ last ∷ [] → is_live last.state ≡ false → list_any live others ≡ list_any live rows
last_settled rows others last are settled =
    sym (ap (list_any live) are ∙ (list_any-append live others (last ∷ []) ∙ or_false (list_any live others) (is_live last.state) settled))
