-- Places in lists: the first of the places that are open than which none counts less, and what is open and counted among rows and among links.
use Rattle.std.specs.Prelude.{ℕ, ◌+◌, Bool, true, false, nat_lt, if◌then◌else◌, List, length, filter, position, slice_get, Option, Some, None, unwrap_or}
use Rattle.std.specs.List.{range_with_len}
use Rattle.std.specs.Option.{option_map_or}
use Rattle.fts_tables.specs.Tables.{is_not_used}
use Rattle.fts_tables.specs.Choice.{least}
use Rattle.fts_tables.specs.declared.rows.FileRow.{FileRow}
use Rattle.fts_tables.specs.declared.rows.Strategy.{Strategy}
use Rattle.fts_tables.specs.declared.rows.Strategy.TheVariants.{Auto, Orderly}
use Rattle.fts_choice.specs.declared.links.LinkChance.{LinkChance}

-- whether a place counts less than another
abbrev pub is_lighter : (ℕ → ℕ) → ℕ → ℕ → Bool
is_lighter count place other = nat_lt (count place) (count other)

-- of the first so many places, the first open one than which no open one counts less
abbrev pub least_place : (ℕ → Bool) → (ℕ → ℕ) → ℕ → Option ℕ
least_place is_open count number = least (is_lighter count) (filter is_open (range_with_len 0 number))

-- whether an item goes before the best so far
abbrev pub is_better : {Item : Type 0} → (Item → Item → Bool) → Option Item → Item → Bool
is_better is_less None item = true
is_better is_less (Some best) item = is_less item best

-- whether the row at a place is NOT_USED
abbrev pub is_not_used_at : List FileRow → ℕ → Bool
is_not_used_at rows place = option_map_or (λ row. is_not_used row.state) (slice_get rows place) false

-- the load at a place
abbrev pub load_of : List ℕ → ℕ → ℕ
load_of loads place = unwrap_or (slice_get loads place) 0

-- the place of the next alternative: the first row that is NOT_USED, or of these the one of the least load
abbrev pub alternative_place : Strategy → List FileRow → List ℕ → Option ℕ
alternative_place Orderly rows loads = position (λ row. is_not_used row.state) rows
alternative_place Auto rows loads = least_place (is_not_used_at rows) (load_of loads) (length rows)

-- the place behind a hop, where the row there is NOT_USED
abbrev pub hop_after : List FileRow → ℕ → Option ℕ
hop_after rows finished = if is_not_used_at rows (finished + 1) then Some (finished + 1) else None

-- whether a file of the link at a place may be claimed
abbrev pub is_eligible_at : List LinkChance → ℕ → Bool
is_eligible_at links place = option_map_or (λ link. link.eligible) (slice_get links place) false

-- what the link at a place holds
abbrev pub held_of : List LinkChance → ℕ → ℕ
held_of links place = option_map_or (λ link. link.held) (slice_get links place) 0
