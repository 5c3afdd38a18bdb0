-- Counts of the links of live rows, where a row changes and where rows are added.
use Rattle.std.proofs.Common.{◌≡◌, ℕ, zero, suc, ◌+◌, ◌<◌, ◌≤◌, Bool, true, false, cond, List, [], ◌∷◌, ◌++◌, length, map, take, set, Some, refl, ap, sym, ◌∙◌, subst, arith, length-take-le}
use Rattle.std.specs.Prelude.{◌&&◌, bytes_eq, count_by, filter, slice_get}
use Rattle.std.specs.List.{list_all}
use Rattle.std.proofs.lemmas.Bool.{and_parts, eq-eqb}
use Rattle.std.proofs.lemmas.List.{length-set, length-map}
use Rattle.std.proofs.lemmas.List.Sums.{sum_by-cons}
use Rattle.std.proofs.lemmas.Option.{same_Some, slice_get_within}
use Rattle.fts_tables.specs.Tables.{is_live}
use Rattle.fts_tables.specs.declared.rows.FileRow.{FileRow}
use Rattle.fts_index.specs.Links.{Link, LinkLists, is_link, is_among}
use Rattle.fts_index.specs.LiveLinks.{link_of_row, live_links}
use Rattle.fts_desk.specs.Loaded.{added_by, AreLoadsOf, MayRecount, MayCount}

-- the first item and the others
count_by-cons : {Item : Type 0} (test : Item → Bool) (item : Item) (items : List Item)
    → count_by test (item ∷ items) ≡ cond (test item) 1 0 + count_by test items
count_by-cons test item items = sum_by-cons (λ other. cond (test other) 1 0) item items

-- a row before others adds what it adds
pub live-cons : (test : Link → Bool) (row : FileRow) (rows : List FileRow)
    → count_by test (live_links (row ∷ rows)) ≡ added_by test row + count_by test (live_links rows)
live-cons test row rows = by_live (is_live row.state)
  where
    by_live : (answer : Bool)
        → count_by test (map link_of_row (cond answer (row ∷ filter (λ (other : FileRow). is_live other.state) rows)
        (filter (λ (other : FileRow). is_live other.state) rows)))
        ≡ cond (answer && test (link_of_row row)) 1 0 + count_by test (live_links rows)
    by_live true = count_by-cons test (link_of_row row) (live_links rows)
    by_live false = omega arith

-- a row adds at most one
added_few : (test : Link → Bool) (row : FileRow) → added_by test row ≤ 1
added_few test row = by_answer (is_live row.state && test (link_of_row row))
  where
    by_answer : (answer : Bool) → cond answer 1 0 ≤ 1
    by_answer true = omega arith
    by_answer false = omega arith

-- no more links than rows
pub live-few : (test : Link → Bool) (rows : List FileRow) → count_by test (live_links rows) ≤ length rows
live-few test [] = omega arith
live-few test (row ∷ rows) = omega (arith, live-cons test row rows, added_few test row, live-few test rows)

-- a row that changes counts what it adds then, in place of what it added before
live-set : (test : Link → Bool) (rows : List FileRow) (place : ℕ) (before after : FileRow) → slice_get rows place ≡ Some before
    → count_by test (live_links (set rows place after)) + added_by test before ≡ count_by test (live_links rows) + added_by test after
live-set test [] place before after at = cc
live-set test (row ∷ rows) zero before after at =
    let same : added_by test row ≡ added_by test before = ap (added_by test) (same_Some row before at) in
    omega (arith, live-cons test row rows, live-cons test after rows, same)
live-set test (row ∷ rows) (suc place) before after at =
    omega (arith, live-cons test row rows, live-cons test row (set rows place after), live-set test rows place before after at)

-- rows behind others count with them
pub live-append : (test : Link → Bool) (rows more : List FileRow)
    → count_by test (live_links (rows ++ more)) ≡ count_by test (live_links rows) + count_by test (live_links more)
live-append test [] more = omega arith
live-append test (row ∷ rows) more = omega (arith, live-cons test row rows, live-cons test row (rows ++ more), live-append test rows more)

-- a text is equal to itself
bytes_eq-refl : (text : List ℕ) → bytes_eq text text ≡ true
bytes_eq-refl [] = refl
bytes_eq-refl (byte ∷ text) = ap (λ answer. answer && bytes_eq text text) (eq-eqb byte byte refl) ∙ bytes_eq-refl text

-- a link is itself
pub is_link-refl : (link : Link) → is_link link link ≡ true
is_link-refl link = ap (λ answer. answer && bytes_eq link.dest link.dest) (bytes_eq-refl link.source) ∙ bytes_eq-refl link.dest

-- a live row's link is counted
live-there : (rows : List FileRow) (place : ℕ) (row : FileRow) → slice_get rows place ≡ Some row → is_live row.state ≡ true
    → 0 < count_by (is_link (link_of_row row)) (live_links rows)
live-there [] place row at live = cc
live-there (first ∷ rows) zero row at live =
    let same : added_by (is_link (link_of_row row)) first ≡ added_by (is_link (link_of_row row)) row =
    ap (added_by (is_link (link_of_row row))) (same_Some first row at) in
    let one : added_by (is_link (link_of_row row)) row ≡ 1 =
    ap (λ answer. cond (answer && is_link (link_of_row row) (link_of_row row)) 1 0) live ∙ ap (λ answer. cond answer 1 0) (is_link-refl (link_of_row row)) in
    omega (arith, live-cons (is_link (link_of_row row)) first rows, same, one)
live-there (first ∷ rows) (suc place) row at live =
    omega (arith, live-cons (is_link (link_of_row row)) first rows, live-there rows place row at live)

-- what all links pass, that of the row at a place passes
all_at : (test : Link → Bool) (rows : List FileRow) (place : ℕ) (row : FileRow) → list_all test (map link_of_row rows) ≡ true → slice_get rows place ≡ Some row
    → test (link_of_row row) ≡ true
all_at test [] place row all at = cc
all_at test (first ∷ rows) zero row all at = ap (λ (other : FileRow). test (link_of_row other)) (sym (same_Some first row at)) ∙ (and_parts _ _ all).0
all_at test (first ∷ rows) (suc place) row all at = all_at test rows place row (and_parts _ _ all).1 at

-- a row that keeps its link leaves the list of links
links-set : (rows : List FileRow) (place : ℕ) (before after : FileRow) → slice_get rows place ≡ Some before → link_of_row after ≡ link_of_row before
    → map link_of_row (set rows place after) ≡ map link_of_row rows
links-set [] place before after at same = refl
links-set (row ∷ rows) zero before after at same = ap (λ link. link ∷ map link_of_row rows) (same ∙ ap link_of_row (sym (same_Some row before at)))
links-set (row ∷ rows) (suc place) before after at same = ap (λ links. link_of_row row ∷ links) (links-set rows place before after at same)

-- a row that stands among those that are counted may count anew
pub may_recount : (rows : List FileRow) (place : ℕ) (before after : FileRow) (was_live : Bool) (lists : LinkLists) → AreLoadsOf rows lists
    → slice_get rows place ≡ Some before → was_live ≡ is_live before.state → link_of_row after ≡ link_of_row before
    → MayRecount was_live (link_of_row after) lists
may_recount rows place before after was_live lists loaded at was same =
    subst (λ link. MayRecount was_live link lists) (sym same) (record {
      there = λ live. subst (λ count. 0 < count) (sym (loaded.counts (is_link (link_of_row before)))) (live-there rows place before at (sym was ∙ live));
      one_known = all_at (is_among lists.known) rows place before loaded.all_known at;
      fewer = omega (arith, loaded.counts (is_link (link_of_row before)), live-few (is_link (link_of_row before)) rows, loaded.few);
    })

-- the loads after a row counted anew
pub recounted : (rows : List FileRow) (place : ℕ) (before after : FileRow) (was_live : Bool) (old new : LinkLists) → AreLoadsOf rows old
    → slice_get rows place ≡ Some before → was_live ≡ is_live before.state → link_of_row after ≡ link_of_row before
    → ((test : Link → Bool) → count_by test new.links + cond (was_live && test (link_of_row after)) 1 0 ≡ count_by test old.links + added_by test after)
    → new.known ≡ old.known → AreLoadsOf (set rows place after) new
recounted rows place before after was_live old new loaded at was same counts known = record {
  counts = λ test.
      let added : cond (was_live && test (link_of_row after)) 1 0 ≡ added_by test before =
      ap (λ live. cond (live && test (link_of_row after)) 1 0) was ∙ ap (λ link. cond (is_live before.state && test link) 1 0) same in
      omega (arith, counts test, loaded.counts test, live-set test rows place before after at, added);
  all_known = ap (list_all (is_among new.known)) (links-set rows place before after at same)
      ∙ (ap (λ links. list_all (is_among links) (map link_of_row rows)) known ∙ loaded.all_known);
  few = subst (λ count. count ≤ 400000) (sym (length-set rows place after)) loaded.few;
}

-- one row more in the front of a list
live-take : (test : Link → Bool) (rows : List FileRow) (place : ℕ) (row : FileRow) → slice_get rows place ≡ Some row
    → count_by test (live_links (take (suc place) rows)) ≡ count_by test (live_links (take place rows)) + added_by test row
live-take test [] place row at = cc
live-take test (first ∷ rows) zero row at =
    let same : added_by test first ≡ added_by test row = ap (added_by test) (same_Some first row at) in
    omega (arith, live-cons test first [], same)
live-take test (first ∷ rows) (suc place) row at =
    omega (arith, live-cons test first (take place rows), live-cons test first (take (suc place) rows), live-take test rows place row at)

-- new rows, of which the first so many are counted, and the lists of links then
module _ (rows : List FileRow) (place : ℕ) (row : FileRow) (old lists : LinkLists) (at : slice_get rows place ≡ Some row)
    (counts : (test : Link → Bool) → count_by test lists.links ≡ count_by test old.links + count_by test (live_links (take place rows)))
    (known : lists.known ≡ old.known) where
  -- the next one may count
  pub may_count_next : MayCount (map link_of_row rows) old → MayRecount false (link_of_row row) lists
  may_count_next may = record {
    there = λ live. cc;
    one_known = ap (λ links. is_among links (link_of_row row)) known ∙ all_at (is_among old.known) rows place row may.all_known at;
    fewer = omega (
      arith,
      counts (is_link (link_of_row row)),
      may.fewer (is_link (link_of_row row)),
      length-map rows link_of_row,
      live-few (is_link (link_of_row row)) (take place rows),
      length-take-le place rows (omega (arith, slice_get_within rows place row at)),
      slice_get_within rows place row at,
    );
  }

  -- and counts
  pub counts_next : (new : LinkLists)
      → ((test : Link → Bool) → count_by test new.links + cond (false && test (link_of_row row)) 1 0 ≡ count_by test lists.links + added_by test row)
      → (test : Link → Bool) → count_by test new.links ≡ count_by test old.links + count_by test (live_links (take (place + 1) rows))
  counts_next new more test =
      let next : place + 1 ≡ suc place = omega arith in
      let here : count_by test (live_links (take (place + 1) rows)) ≡ count_by test (live_links (take (suc place) rows)) =
      ap (λ count. count_by test (live_links (take count rows))) next in
      omega (arith, here, more test, counts test, live-take test rows place row at)
