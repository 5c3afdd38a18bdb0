-- The states of a link's rows by the places of its ends.
use Rattle.std.proofs.Common.{◌≡◌, ℕ, Bool, true, false, cond, List, [], ◌∷◌, length, refl, ap, sym, ◌∙◌, arith}
use Rattle.std.specs.Prelude.{not, ◌&&◌, ◌||◌, ◌==◌, bytes_eq, map, filter, count_by}
use Rattle.std.specs.List.{list_any}
use Rattle.std.proofs.lemmas.Bool.{ne_eqb}
use Rattle.fts_tables.specs.SettingsData.{is_listed}
use Rattle.fts_tables.specs.Limits.{is_on_link}
use Rattle.fts_tables.specs.declared.rows.FileRow.{FileRow}
use Rattle.fts_tables.specs.declared.rows.FileState.{FileState}
use Rattle.fts_tables.specs.declared.settings.Endpoint.{Endpoint}
use Rattle.fts_counts.specs.Listed.{place_among}
use Rattle.fts_counts.proofs.Counting.{count_read_among}
use Rattle.fts_counts.proofs.Places.{same_place}
use Rattle.fts_metrics.specs.Metrics.{rows_in}
use Rattle.fts_metrics.specs.Goings.{going_of, goings_from, states_to, states_on}
use Rattle.fts_metrics.specs.declared.goings.Going.{Going}

-- the states by places are those of the link's rows
pub states_between : (endpoints : List Endpoint) (source dest : List ℕ) → is_listed endpoints source ≡ true → is_listed endpoints dest ≡ true
    → (rows : List FileRow) → states_to (place_among endpoints dest) (goings_from endpoints source rows) ≡ states_on source dest rows
states_between endpoints source dest from to [] = refl
states_between endpoints source dest from to (row ∷ rows) =
    ap (λ answer. states_to there (cond answer (going ∷ away) away)) (same_place endpoints row.source.endpoint source from)
    ∙ by_tests (bytes_eq row.source.endpoint source) (bytes_eq row.dest.endpoint dest) (same_place endpoints row.dest.endpoint dest to)
    (states_between endpoints source dest from to rows)
  where
    there : ℕ
    there = place_among endpoints dest

    going : Going
    going = going_of endpoints row

    away : List Going
    away = goings_from endpoints source rows

    goes_there : Going → Bool
    goes_there going = going.dest == there

    state_of : Going → FileState
    state_of going = going.state

    by_tests : (comes goes : Bool) → (going.dest == there) ≡ goes → states_to there away ≡ states_on source dest rows
        → states_to there (cond comes (going ∷ away) away)
        ≡ map (λ (row : FileRow). row.state) (cond (comes && goes) (row ∷ filter (is_on_link source dest) rows) (filter (is_on_link source dest) rows))
    by_tests true true is behind =
        ap (λ answer. map state_of (cond answer (going ∷ filter goes_there away) (filter goes_there away))) is ∙ ap (λ states. row.state ∷ states) behind
    by_tests true false is behind = ap (λ answer. map state_of (cond answer (going ∷ filter goes_there away) (filter goes_there away))) is ∙ behind
    by_tests false goes is behind = behind

-- the rows of a link in a state, counted by their states alone
pub counted_on : (is_state : FileState → Bool) (source dest : List ℕ) (rows : List FileRow)
    → count_by is_state (states_on source dest rows) ≡ rows_in is_state rows source dest
counted_on is_state source dest rows = count_read_among (λ (row : FileRow). row.state) is_state (is_on_link source dest) rows

-- a link has a row where it has a state
pub any_on : (source dest : List ℕ) (rows : List FileRow) → list_any (is_on_link source dest) rows ≡ not (length (states_on source dest rows) == 0)
any_on source dest [] = refl
any_on source dest (row ∷ rows) = by_test (is_on_link source dest row) (any_on source dest rows)
  where
    by_test : (on : Bool) → list_any (is_on_link source dest) rows ≡ not (length (states_on source dest rows) == 0)
        → (on || list_any (is_on_link source dest) rows)
        ≡ not (length (map (λ (row : FileRow). row.state) (cond on (row ∷ filter (is_on_link source dest) rows) (filter (is_on_link source dest) rows))) == 0)
    by_test true behind = sym (ap not (ne_eqb (length (row.state ∷ states_on source dest rows)) 0 (λ same. omega arith)))
    by_test false behind = behind
