-- Links that there is room for: one more, and the loads of rows where others are known too.
use Rattle.std.proofs.Common.{◌≡◌, ℕ, zero, suc, ◌+◌, ◌-◌, ◌≤◌, Bool, true, false, cond, List, [], ◌∷◌, ◌++◌, length, map, take, drop, Some, refl, ap, sym, ◌∙◌, subst, arith, length-append}
use Rattle.std.specs.Prelude.{◌&&◌, ◌||◌, count_by, slice_get, insert}
use Rattle.std.specs.List.{list_all, prefix_len}
use Rattle.std.proofs.lemmas.Bool.{and_parts}
use Rattle.std.proofs.lemmas.List.{length-map, map-append}
use Rattle.std.proofs.lemmas.List.Folds.{list_all-append}
use Rattle.std.proofs.lemmas.Option.{same_Some}
use Rattle.fts_tables.specs.Choice.{load}
use Rattle.fts_tables.specs.declared.rows.NewFile.{NewFile}
use Rattle.fts_tables.specs.declared.rows.FileRow.{FileRow}
use Rattle.fts_index.specs.Links.{Link, LinkLists, is_link, is_link_before, count_of, is_among, with_link}
use Rattle.fts_index.specs.LiveLinks.{link_of_row, live_links}
use Rattle.fts_desk.specs.Loaded.{link_of_file, load_in, are_known, AreLoadsOf, MayCount}
use Rattle.fts_desk.proofs.AddedRows.{rows_behind}
use Rattle.fts_desk.proofs.Loaded.{is_link-refl, live-few, live-append}

-- either of two answers
or_left : (one other : Bool) → one ≡ true → (one || other) ≡ true
or_left one other is = ap (λ answer. answer || other) is

or_right : (one other : Bool) → other ≡ true → (one || other) ≡ true
or_right true other is = refl
or_right false other is = is

-- both answers
both : (one other : Bool) → one ≡ true → other ≡ true → (one && other) ≡ true
both one other is_one is_other = ap (λ answer. answer && other) is_one ∙ is_other

-- a link that is put in somewhere leaves the others there, and is there itself
any_insert : (links : List Link) (number : ℕ) (more link : Link) → is_among links link ≡ true → is_among (insert links number more) link ≡ true
any_insert [] number more link is = cc
any_insert (first ∷ rest) zero more link is = or_right (is_link link more) (is_link link first || is_among rest link) is
any_insert (first ∷ rest) (suc number) more link is = by_head (any_insert rest number more link) (is_link link first) is
  where
    by_head : (is_among rest link ≡ true → is_among (insert rest number more) link ≡ true) → (answer : Bool)
        → (answer || is_among rest link) ≡ true → (answer || is_among (insert rest number more) link) ≡ true
    by_head behind true is = refl
    by_head behind false is = behind is

itself_inserted : (links : List Link) (number : ℕ) (more : Link) → is_among (insert links number more) more ≡ true
itself_inserted [] zero more = or_left (is_link more more) false (is_link-refl more)
itself_inserted [] (suc number) more = or_left (is_link more more) false (is_link-refl more)
itself_inserted (first ∷ rest) zero more = or_left (is_link more more) (is_among (first ∷ rest) more) (is_link-refl more)
itself_inserted (first ∷ rest) (suc number) more =
    or_right (is_link more first) (is_among (insert rest number more) more) (itself_inserted rest number more)

-- what was known stays known with one link more
known-more : (known : List Link) (more link : Link) → is_among known link ≡ true → is_among (with_link known more) link ≡ true
known-more known more link is = by_test (is_among known more)
  where
    number : ℕ
    number = prefix_len (λ other. is_link_before other more) known

    by_test : (answer : Bool) → is_among (cond answer known (insert known number more)) link ≡ true
    by_test true = is
    by_test false = any_insert known number more link is

-- the link itself is known then
known-itself : (known : List Link) (more : Link) → is_among (with_link known more) more ≡ true
known-itself known more = by_test (is_among known more) refl
  where
    number : ℕ
    number = prefix_len (λ other. is_link_before other more) known

    by_test : (answer : Bool) → is_among known more ≡ answer → is_among (cond answer known (insert known number more)) more ≡ true
    by_test true is = is
    by_test false is = itself_inserted known number more

-- so all that were known stay known
pub all_known-more : (known : List Link) (more : Link) (links : List Link) → list_all (is_among known) links ≡ true
    → list_all (is_among (with_link known more)) links ≡ true
all_known-more known more [] all = refl
all_known-more known more (link ∷ links) all =
    let parts = and_parts (is_among known link) (list_all (is_among known) links) all in
    both (is_among (with_link known more) link) (list_all (is_among (with_link known more)) links) (known-more known more link parts.0)
    (all_known-more known more links parts.1)

-- the links of one file more in the front of a list
front_known : (known : List Link) (files : List NewFile) (place : ℕ) (file : NewFile) → slice_get files place ≡ Some file
    → list_all (is_among known) (map link_of_file (take place files)) ≡ true → is_among known (link_of_file file) ≡ true
    → list_all (is_among known) (map link_of_file (take (suc place) files)) ≡ true
front_known known [] place file at all one = cc
front_known known (first ∷ files) zero file at all one =
    both (is_among known (link_of_file first)) true (ap (λ (other : NewFile). is_among known (link_of_file other)) (same_Some first file at) ∙ one) refl
front_known known (first ∷ files) (suc place) file at all one =
    let parts = and_parts (is_among known (link_of_file first)) (list_all (is_among known) (map link_of_file (take place files))) all in
    both (is_among known (link_of_file first)) (list_all (is_among known) (map link_of_file (take (suc place) files))) parts.0
    (front_known known files place file at parts.1 one)

-- a turn of the loop that makes room for the links of files
pub next_known : (known : List Link) (files : List NewFile) (place : ℕ) (file : NewFile) → slice_get files place ≡ Some file
    → list_all (is_among known) (map link_of_file (take place files)) ≡ true
    → list_all (is_among (with_link known (link_of_file file))) (map link_of_file (take (place + 1) files)) ≡ true
next_known known files place file at all =
    let next : place + 1 ≡ suc place = omega arith in
    ap (λ count. list_all (is_among (with_link known (link_of_file file))) (map link_of_file (take count files))) next
    ∙ front_known (with_link known (link_of_file file)) files place file at
    (all_known-more known (link_of_file file) (map link_of_file (take place files)) all) (known-itself known (link_of_file file))

-- the loads of the rows, where more links may be known
pub loads_known : (rows : List FileRow) (old new : LinkLists) → AreLoadsOf rows old → new.links ≡ old.links
    → ((links : List Link) → are_known old links ≡ true → are_known new links ≡ true) → AreLoadsOf rows new
loads_known rows old new loaded links stay = record {
  counts = λ test. ap (count_by test) links ∙ loaded.counts test;
  all_known = stay (map link_of_row rows) loaded.all_known;
  few = loaded.few;
}

-- new rows of known links may count
pub may_count_new : (rows added : List FileRow) (lists : LinkLists) → AreLoadsOf rows lists → length added ≤ 400000
    → are_known lists (map link_of_row added) ≡ true → MayCount (map link_of_row added) lists
may_count_new rows added lists loaded few known = record {
  fewer = λ test. omega (arith, loaded.counts test, live-few test rows, loaded.few, length-map added link_of_row, few);
  all_known = known;
}

-- the loads after new rows counted
pub loads_added : (rows added : List FileRow) (old new : LinkLists) → AreLoadsOf rows old
    → ((test : Link → Bool) → count_by test new.links ≡ count_by test old.links + count_by test (live_links added)) → new.known ≡ old.known
    → are_known old (map link_of_row added) ≡ true → length rows + length added ≤ 400000 → AreLoadsOf (rows ++ added) new
loads_added rows added old new loaded counts known all few = record {
  counts = λ test. omega (arith, counts test, loaded.counts test, live-append test rows added);
  all_known = ap (λ links. list_all (is_among links) (map link_of_row (rows ++ added))) known
      ∙ (ap (list_all (is_among old.known)) (map-append link_of_row rows added)
      ∙ (list_all-append (is_among old.known) (map link_of_row rows) (map link_of_row added)
      ∙ both (list_all (is_among old.known) (map link_of_row rows)) (list_all (is_among old.known) (map link_of_row added)) loaded.all_known all));
  few = omega (arith, length-append rows added, few);
}

-- loads looked up are the machine's
pub loads_are : (rows of_job : List FileRow) (lists : LinkLists) → AreLoadsOf rows lists
    → ((all : List FileRow) (row : FileRow) → count_of (live_links all) (link_of_row row) ≡ load all row)
    → map (load_in lists) of_job ≡ map (load rows) of_job
loads_are rows [] lists loaded law = refl
loads_are rows (row ∷ of_job) lists loaded law =
    ap (λ count. count ∷ map (load_in lists) of_job) (loaded.counts (is_link (link_of_row row)) ∙ law rows row)
    ∙ ap (λ counts. load rows row ∷ counts) (loads_are rows of_job lists loaded law)

-- new rows behind others, read as the rest of all
module _ (before added all : List FileRow) (first : ℕ) (lists : LinkLists) (is : all ≡ before ++ added) (at : first ≡ length before)
    (loaded : AreLoadsOf before lists) (known : are_known lists (map link_of_row added) ≡ true) (few : length all ≤ 400000) where
  -- as many as are behind
  few_added : length before + length added ≤ 400000
  few_added = omega (arith, few, ap length is, length-append before added)

  -- they may count
  pub rest_may_count : MayCount (map link_of_row (take (length all - first) (drop first all))) lists
  rest_may_count = subst (λ (rows : List FileRow). MayCount (map link_of_row rows) lists) (sym (rows_behind before added all first is at))
      (may_count_new before added lists loaded (omega (arith, few_added)) known)

  -- and once they have, the loads are those of all
  pub rest_counted : (new : LinkLists)
      → ((test : Link → Bool) → count_by test new.links ≡ count_by test lists.links + count_by test (live_links (take (length all - first) (drop first all))))
      → new.known ≡ lists.known → AreLoadsOf all new
  rest_counted new counts same = subst (λ (rows : List FileRow). AreLoadsOf rows new) (sym is)
      (loads_added before added lists new loaded
      (subst (λ (rows : List FileRow). (test : Link → Bool) → count_by test new.links ≡ count_by test lists.links + count_by test (live_links rows))
      (rows_behind before added all first is at) counts) same known few_added)
