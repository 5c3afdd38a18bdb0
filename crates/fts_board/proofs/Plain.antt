-- Values that are shown have no float, and what is shown of what was read of a list is shown of the list.
use Rattle.std.proofs.Common.{◌≡◌, ◌∙◌, ℕ, ◌+◌, ◌*◌, false, List, [], ◌∷◌, ap, refl, map, codes}
use Rattle.serde_json.specs.Data.{Data, array}
use Rattle.serde_json.specs.View.{items_of}
use Rattle.serde_json.specs.Written.{has_float, items_have_float}
use Rattle.fts_tables.specs.declared.rows.FileRow.{FileRow}
use Rattle.fts_chronicle.specs.declared.chronicle.CopyReport.{CopyReport}
use Rattle.fts_board.specs.Json.{array_of, object_of, whole_number}
use Rattle.fts_board.specs.History.{HistoryQuestion, first_step, earlier_steps, steps_shown, seconds_of, ended_in, history_data}
use Rattle.fts_board.specs.Steps.{steps_of, ended_of, ended_from, steps_object}
use Rattle.fts_board.specs.declared.steps.Ended.{Ended}
use Rattle.fts_board.specs.declared.steps.Steps.{Steps}

-- a list of values without floats has none
pub array_plain : {A : Type 0} (shown : A → Data) → ((x : A) → has_float (shown x) ≡ false) → (items : List A) → items_have_float (items_of (map shown items)) ≡ false
array_plain shown plain [] = refl
array_plain shown plain (item ∷ items) = rw (plain item) (array_plain shown plain items)

-- what is read of what is read
pub read_twice : {A B C : Type 0} (first : A → B) (second : B → C) (items : List A) → map second (map first items) ≡ map (λ item. second (first item)) items
read_twice first second [] = refl
read_twice first second (item ∷ items) = ap (λ (l : List _). second (first item) ∷ l) (read_twice first second items)

-- a history has no float
pub history_plain : (steps : Steps) (ended : List Ended) → has_float (steps_object steps ended) ≡ false
history_plain steps ended =
    rw (array_plain whole_number (λ _. refl) (map (λ (e : Ended). e.bytes) ended))
    (rw (array_plain whole_number (λ _. refl) (map (λ (e : Ended). e.failed) ended))
    (rw (array_plain whole_number (λ _. refl) (map (λ (e : Ended). e.finished) ended)) refl))

-- the object of the steps that are asked for is the history
pub history_same : (rows : List FileRow) (reports : List CopyReport) (asked : HistoryQuestion) (now : ℕ)
    → steps_object (steps_of asked now) (ended_from rows reports asked (first_step asked now) (earlier_steps asked now + 1)) ≡ history_data rows reports asked now
history_same rows reports asked now = λ i. object_of (
    (codes "bytes", column (λ ended. ended.bytes) i)
    ∷ (codes "failed", column (λ ended. ended.failed) i)
    ∷ (codes "finished", column (λ ended. ended.finished) i)
    ∷ (codes "from", whole_number (first_step asked now * seconds_of asked.step))
    ∷ (codes "step", whole_number (seconds_of asked.step))
    ∷ [])
  where
    column : (read : Ended → ℕ)
        → array_of whole_number (map read (map (λ step. ended_of (ended_in rows reports asked step)) (steps_shown asked now)))
        ≡ array_of (λ step. whole_number (read (ended_of (ended_in rows reports asked step)))) (steps_shown asked now)
    column read =
        ap (λ (l : List ℕ). array_of whole_number l) (read_twice (λ step. ended_of (ended_in rows reports asked step)) read (steps_shown asked now))
        ∙ shown (steps_shown asked now)
      where
        shown : (steps : List ℕ) → array_of whole_number (map (λ step. read (ended_of (ended_in rows reports asked step))) steps)
            ≡ array_of (λ step. whole_number (read (ended_of (ended_in rows reports asked step)))) steps
        shown steps = ap (λ (l : List Data). array (items_of l)) (read_twice (λ step. read (ended_of (ended_in rows reports asked step))) whole_number steps)
