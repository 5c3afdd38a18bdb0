-- A page by one job more than it shows.
use Rattle.std.proofs.Common.{◌≡◌, ℕ, zero, suc, ◌+◌, min, Bool, true, false, List, [], ◌∷◌, length, map, take, Result, refl, sym, ap, ◌∙◌, subst, arith}
use Rattle.std.specs.Prelude.{nat_lt, IfOk}
use Rattle.std.proofs.lemmas.Bool.{lt-ltb, le-ltb, ltb-true, ltb-false}
use Rattle.std.proofs.lemmas.List.{take-map, length-map, length-take}
use Rattle.serde_json.specs.Data.{Data, array}
use Rattle.serde_json.specs.View.{view, items_of, items_view}
use Rattle.serde_json.specs.declared.value.Value.{Value}
use Rattle.fts_tables.specs.Tables.{Tables}
use Rattle.fts_tables.specs.declared.names.Memory.{Memory}
use Rattle.fts_tables.specs.declared.rows.JobRow.{JobRow}
use Rattle.fts_routes.specs.Json.{array_of}
use Rattle.fts_pages.specs.Pages.{JobsQuestion, in_order, matching, has_more, goes_on, job_shown, id_of, page_by, page_of}

-- the first of more are the first
take-more : {A : Type 0} (count : ℕ) (items : List A) → take count (take (suc count) items) ≡ take count items
take-more zero items = refl
take-more (suc count) [] = refl
take-more {A} (suc count) (item ∷ items) = ap (λ (rest : List A). item ∷ rest) (take-more count items)

-- whether there are more than so many is told by one more than so many
more-still : (count all : ℕ) (answer : Bool) → nat_lt count all ≡ answer → nat_lt count (min (count + 1) all) ≡ answer
more-still count all true less = lt-ltb count (min (count + 1) all) (omega (arith, ltb-true count all less))
more-still count all false other = le-ltb count (min (count + 1) all) (omega (arith, ltb-false count all other))

-- an answer that shows the same
shows-same : (result : Result Value Memory) (one other : Data) → one ≡ other → IfOk result (λ value. view value ≡ one) → IfOk result (λ value. view value ≡ other)
shows-same result one other same shown = subst (λ (told : Data). IfOk result (λ value. view value ≡ told)) same shown

module _ (most : ℕ) (tables : Tables) (finishes : List ℕ) (asked : JobsQuestion) (jobs : List JobRow) (list : List Value)
    (all : map view list ≡ map (job_shown tables finishes) (take (asked.limit + 1) (matching most tables asked jobs))) where
  -- as many as may be shown
  jobs-shown : items_view (take asked.limit list) ≡ items_of (map (job_shown tables finishes) (take asked.limit (matching most tables asked jobs)))
  jobs-shown =
      let one : asked.limit + 1 ≡ suc asked.limit = omega arith in
      ap items_of (sym (take-map view asked.limit list) ∙ ap (take asked.limit) all
      ∙ take-map (job_shown tables finishes) asked.limit (take (asked.limit + 1) (matching most tables asked jobs))
      ∙ ap (map (job_shown tables finishes)) (ap (λ (count : ℕ). take asked.limit (take count (matching most tables asked jobs))) one
      ∙ take-more asked.limit (matching most tables asked jobs)))

  -- and whether there are more
  more-shown : nat_lt asked.limit (length list) ≡ has_more most tables asked jobs
  more-shown = ap (nat_lt asked.limit) (sym (length-map list view) ∙ ap length all
      ∙ length-map (take (asked.limit + 1) (matching most tables asked jobs)) (job_shown tables finishes) ∙ length-take (asked.limit + 1) (matching most tables asked jobs))
      ∙ more-still asked.limit (length (matching most tables asked jobs)) _ refl

  -- the page
  page-by : (cut found : List Value) (next : Value) (result : Result Value Memory) → cut ≡ take asked.limit list → found ≡ list
      → view next ≡ id_of (goes_on most (nat_lt asked.limit (length found)) jobs)
      → IfOk result (λ value. view value ≡ page_by (array (items_view cut)) (nat_lt asked.limit (length found)) (view next))
      → IfOk result (λ value. view value ≡ page_of most tables finishes asked jobs)
  page-by cut found next result few same told shown =
      let more : nat_lt asked.limit (length found) ≡ has_more most tables asked jobs = ap (λ (items : List Value). nat_lt asked.limit (length items)) same ∙ more-shown in
      let listed : array (items_view cut) ≡ array_of (job_shown tables finishes) (take asked.limit (matching most tables asked jobs)) =
      ap (λ (items : List Value). array (items_view items)) few ∙ ap array jobs-shown in
      let after : view next ≡ id_of (goes_on most (has_more most tables asked jobs) jobs) = told ∙ ap (λ (answer : Bool). id_of (goes_on most answer jobs)) more in
      shows-same result _ _ (ap (λ (items : Data). page_by items (nat_lt asked.limit (length found)) (view next)) listed
      ∙ ap (λ (answer : Bool). page_by (array_of (job_shown tables finishes) (take asked.limit (matching most tables asked jobs))) answer (view next)) more
      ∙ ap (page_by (array_of (job_shown tables finishes) (take asked.limit (matching most tables asked jobs))) (has_more most tables asked jobs)) after) shown

-- the page over the jobs of a range, which are those behind the one that is asked for
pub page-told : (most : ℕ) (tables : Tables) (finishes : List ℕ) (asked : JobsQuestion) (range behind : List JobRow) (list cut found : List Value) (next : Value) (result : Result Value Memory)
    → range ≡ behind → map view list ≡ map (job_shown tables finishes) (take (asked.limit + 1) (matching most tables asked (in_order asked.newest range)))
    → cut ≡ take asked.limit list → found ≡ list
    → view next ≡ id_of (goes_on most (nat_lt asked.limit (length found)) (in_order asked.newest range))
    → IfOk result (λ value. view value ≡ page_by (array (items_view cut)) (nat_lt asked.limit (length found)) (view next))
    → IfOk result (λ value. view value ≡ page_of most tables finishes asked (in_order asked.newest behind))
page-told most tables finishes asked range behind list cut found next result same all few equal told shown =
    subst (λ (jobs : List JobRow). IfOk result (λ value. view value ≡ page_of most tables finishes asked (in_order asked.newest jobs))) same
    (page-by most tables finishes asked (in_order asked.newest range) list all cut found next result few equal told shown)
