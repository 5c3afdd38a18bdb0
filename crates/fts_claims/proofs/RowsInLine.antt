-- A file that waits under a row's number is that row's: it waits, on the link between its ends.
use Rattle.std.proofs.Common.{◌≡◌, ℕ, suc, zero, ◌+◌, ◌<◌, Bool, true, false, cond, List, [], ◌∷◌, length, get_or, map, Some, refl, ap, sym, ◌∙◌, subst, arith}
use Rattle.std.specs.Prelude.{◌&&◌, ◌||◌, ◌==◌, bytes_eq, filter, is_some, unwrap_or}
use Rattle.std.specs.List.{list_any}
use Rattle.std.specs.Option.{option_map_or}
use Rattle.std.proofs.lemmas.Bool.{and_parts, or_parts, eqb-true, eq-eqb, ne_eqb}
use Rattle.fts_tables.specs.SettingsData.{SettingsData}
use Rattle.fts_tables.specs.Tables.{AreNumberedFrom, is_submitted}
use Rattle.fts_tables.specs.Limits.{endpoint_at, has_known_ends}
use Rattle.fts_tables.specs.declared.rows.FileRow.{FileRow}
use Rattle.fts_tables.specs.declared.rows.JobRow.{JobRow}
use Rattle.fts_tables.specs.declared.settings.Endpoint.{Endpoint}
use Rattle.fts_tables.specs.declared.settings.LinkAt.{LinkAt}
use Rattle.fts_slots.specs.SlotsData.{name_at}
use Rattle.fts_queue.specs.declared.waiter.Waiter.{Waiter}
use Rattle.fts_queue.specs.WaitingData.{in_order, is_waiting}
use Rattle.fts_line.specs.LineData.{is_on}
use Rattle.fts_claims.specs.Ties.{endpoint_place, link_of, waiter_of, is_waiter, waiters_of}
use Rattle.fts_claims.specs.Changes.{AreTiedTo, IsBetween}
use Rattle.fts_claims.specs.declared.parts.ClaimParts.{ClaimParts}
use Rattle.fts_claims.proofs.TiedRows.{found_any}
use Rattle.fts_claims.proofs.NamedPlaces.{place_of_listed}
use Rattle.fts_claims.proofs.OpenWaiters.{not_among}
use Rattle.fts_claims.proofs.OneMore.{id_at}

-- where no file waits under a number, none that passes does
none_passes : (passes : Waiter → Bool) (file : ℕ) (waiters : List Waiter) → is_waiting file waiters ≡ false
    → list_any (λ waiter. (waiter.file == file) && passes waiter) waiters ≡ false
none_passes passes file [] none = refl
none_passes passes file (first ∷ rest) none =
    let parts = or_parts (first.file == file) (is_waiting file rest) none in
    ap (λ (test : Bool). (test && passes first) || list_any (λ waiter. (waiter.file == file) && passes waiter) rest) parts.0
    ∙ none_passes passes file rest parts.1

-- under the number of a row only its own file waits
own_waits : (settings : SettingsData) (jobs : List JobRow) (passes : Waiter → Bool) (first : ℕ) (rows : List FileRow) (place : ℕ) (row : FileRow)
    → AreNumberedFrom (λ (other : FileRow). other.id) first rows → place < length rows → get_or rows place row ≡ row
    → list_any (λ waiter. (waiter.file == first + place) && passes waiter) (waiters_of settings jobs rows)
    ≡ (is_waiter settings row && passes (waiter_of settings jobs row))
own_waits settings jobs passes first [] place row numbered inside is = absurd (omega arith)
own_waits settings jobs passes first (head ∷ rest) zero row numbered inside is =
    by_head (is_waiter settings head)
    (none_passes passes (first + 0) (waiters_of settings jobs rest) (not_among settings jobs (first + 0) (suc first) rest numbered.1 (omega arith)))
    ∙ ap (λ (other : FileRow). is_waiter settings other && passes (waiter_of settings jobs other)) is
  where
    or_false : (test : Bool) → (test || false) ≡ test
    or_false true = refl
    or_false false = refl

    by_head : (answer : Bool) → list_any (λ waiter. (waiter.file == first + 0) && passes waiter) (waiters_of settings jobs rest) ≡ false
        → list_any (λ waiter. (waiter.file == first + 0) && passes waiter)
        (map (waiter_of settings jobs) (cond answer (head ∷ filter (is_waiter settings) rest) (filter (is_waiter settings) rest)))
        ≡ (answer && passes (waiter_of settings jobs head))
    by_head true none =
        ap (λ (test : Bool). (test && passes (waiter_of settings jobs head))
        || list_any (λ waiter. (waiter.file == first + 0) && passes waiter) (waiters_of settings jobs rest))
        (eq-eqb head.id (first + 0) (omega (arith, numbered.0)))
        ∙ (ap (λ (test : Bool). passes (waiter_of settings jobs head) || test) none ∙ or_false (passes (waiter_of settings jobs head)))
    by_head false none = none
own_waits settings jobs passes first (head ∷ rest) (suc place) row numbered inside is =
    by_head (is_waiter settings head)
    ∙ subst (λ n. list_any (λ waiter. (waiter.file == n) && passes waiter) (waiters_of settings jobs rest)
    ≡ (is_waiter settings row && passes (waiter_of settings jobs row))) (omega arith)
    (own_waits settings jobs passes (suc first) rest place row numbered.1 (omega arith) is)
  where
    by_head : (answer : Bool) → list_any (λ waiter. (waiter.file == first + suc place) && passes waiter)
        (map (waiter_of settings jobs) (cond answer (head ∷ filter (is_waiter settings) rest) (filter (is_waiter settings) rest)))
        ≡ list_any (λ waiter. (waiter.file == first + suc place) && passes waiter) (waiters_of settings jobs rest)
    by_head true =
        ap (λ (test : Bool). (test && passes (waiter_of settings jobs head))
        || list_any (λ waiter. (waiter.file == first + suc place) && passes waiter) (waiters_of settings jobs rest))
        (ne_eqb head.id (first + suc place) (λ same. omega (arith, numbered.0, same)))
    by_head false = refl

-- an endpoint that is listed stands at its place
known_name : (settings : SettingsData) (name : List ℕ) → is_some (endpoint_at (Some settings) name) ≡ true
    → name_at settings (endpoint_place settings name) ≡ name
known_name settings name known =
    let found = place_of_listed (λ (endpoint : Endpoint). endpoint.name) settings.endpoints name
    (sym (found_any (λ (endpoint : Endpoint). bytes_eq endpoint.name name) settings.endpoints) ∙ known) in
    ap (λ place. name_at settings (unwrap_or place 0)) found.2
    ∙ (ap (λ endpoint. option_map_or (λ (some : Endpoint). some.name) endpoint []) found.3 ∙ found.4)

module _ (jobs : List JobRow) (rows : List FileRow) (place : ℕ) (row : FileRow) (inside : place < length rows) (is : get_or rows place row ≡ row)
    (any : (test : Waiter → Bool) (waiters : List Waiter) → list_any test (in_order waiters) ≡ list_any test waiters)
    (numbered : AreNumberedFrom (λ (other : FileRow). other.id) 1 rows) (parts : ClaimParts) (tied : AreTiedTo jobs rows parts) where
  passing : (passes : Waiter → Bool) → list_any (λ waiter. (waiter.file == row.id) && passes waiter) parts.line.waiting.waiters
      ≡ (is_waiter parts.slots.settings row && passes (waiter_of parts.slots.settings jobs row))
  passing passes =
      let id : 1 + place ≡ row.id = sym (id_at 1 rows place row numbered inside) ∙ ap (λ (other : FileRow). other.id) is in
      ap (list_any (λ waiter. (waiter.file == row.id) && passes waiter)) tied.waiting
      ∙ (any (λ waiter. (waiter.file == row.id) && passes waiter) (waiters_of parts.slots.settings jobs rows)
      ∙ subst (λ n. list_any (λ waiter. (waiter.file == n) && passes waiter) (waiters_of parts.slots.settings jobs rows)
      ≡ (is_waiter parts.slots.settings row && passes (waiter_of parts.slots.settings jobs row))) id
      (own_waits parts.slots.settings jobs passes 1 rows place row numbered inside is))

  -- a row whose file is among those that wait is one that waits
  pub waiter_there : is_waiting row.id parts.line.waiting.waiters ≡ true → is_waiter parts.slots.settings row ≡ true
  waiter_there waits =
      (and_parts (is_waiter parts.slots.settings row) true
      (sym (passing (λ waiter. true))
      ∙ (all_pass parts.line.waiting.waiters ∙ waits))).0
    where
      and_true : (test : Bool) → (test && true) ≡ test
      and_true true = refl
      and_true false = refl

      all_pass : (waiters : List Waiter) → list_any (λ waiter. (waiter.file == row.id) && true) waiters ≡ is_waiting row.id waiters
      all_pass [] = refl
      all_pass (first ∷ rest) =
          ap (λ (test : Bool). test || list_any (λ waiter. (waiter.file == row.id) && true) rest) (and_true (first.file == row.id))
          ∙ ap (λ (test : Bool). (first.file == row.id) || test) (all_pass rest)

  -- and the link on which it does so is between its ends
  pub between_there : (link : LinkAt) → list_any (λ waiter. (waiter.file == row.id) && is_on link waiter) parts.line.waiting.waiters ≡ true
      → IsBetween parts.slots.settings link row
  between_there link waits =
      let settings = parts.slots.settings in
      let both = and_parts (is_waiter settings row) (is_on link (waiter_of settings jobs row)) (sym (passing (is_on link)) ∙ waits) in
      let known = (and_parts (is_submitted row.state) (has_known_ends (Some settings) row) both.0).1 in
      let ends = and_parts (is_some (endpoint_at (Some settings) row.source.endpoint)) (is_some (endpoint_at (Some settings) row.dest.endpoint)) known in
      let places = and_parts ((link_of settings row).source == link.source) ((link_of settings row).dest == link.dest) both.1 in
      record {
        source = ap (name_at settings) (sym (eqb-true (link_of settings row).source link.source places.0)) ∙ known_name settings row.source.endpoint ends.0;
        dest = ap (name_at settings) (sym (eqb-true (link_of settings row).dest link.dest places.1)) ∙ known_name settings row.dest.endpoint ends.1;
      }
