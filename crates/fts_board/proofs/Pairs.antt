-- The numbers of pairs: they tell two listed names from all others.
use Rattle.std.proofs.Common.{◌≡◌, ℕ, ◌+◌, ◌<◌, List, length, true, ◌∙◌, arith}
use Rattle.std.specs.Prelude.{◌&&◌, ◌==◌, bytes_eq}
use Rattle.std.proofs.lemmas.Nat.{mul-add-lt}
use Rattle.fts_tables.specs.SettingsData.{is_listed}
use Rattle.fts_tables.specs.Limits.{is_on_link}
use Rattle.fts_tables.specs.declared.rows.FileRow.{FileRow}
use Rattle.fts_tables.specs.declared.settings.Endpoint.{Endpoint}
use Rattle.fts_counts.specs.Listed.{place_among}
use Rattle.fts_counts.proofs.Places.{place_within, same_place, same_number}
use Rattle.fts_board.specs.Tallied.{pair_of, pairs_of, pair_of_row}

-- the pair of a row is that of two listed names exactly where it goes from the one to the other
pub same_pair : (endpoints : List Endpoint) (source dest : List ℕ) → is_listed endpoints source ≡ true → is_listed endpoints dest ≡ true
    → (row : FileRow) → (pair_of_row endpoints row == pair_of endpoints source dest) ≡ is_on_link source dest row
same_pair endpoints source dest from to row =
    same_number (place_among endpoints row.source.endpoint) (place_among endpoints row.dest.endpoint) (place_among endpoints source) (place_among endpoints dest) (length endpoints + 1)
    (omega (arith, place_within (λ (endpoint : Endpoint). bytes_eq endpoint.name row.dest.endpoint) endpoints))
    (omega (arith, place_within (λ (endpoint : Endpoint). bytes_eq endpoint.name dest) endpoints))
    ∙ (λ i. same_place endpoints row.source.endpoint source from i && same_place endpoints row.dest.endpoint dest to i)

-- each pair has a number in the table
pub pair_within : (endpoints : List Endpoint) (source dest : List ℕ) → pair_of endpoints source dest < pairs_of endpoints
pair_within endpoints source dest =
    mul-add-lt (place_among endpoints source) (length endpoints + 1) (place_among endpoints dest) (length endpoints + 1)
    (omega (arith, place_within (λ (endpoint : Endpoint). bytes_eq endpoint.name source) endpoints))
    (omega (arith, place_within (λ (endpoint : Endpoint). bytes_eq endpoint.name dest) endpoints))
