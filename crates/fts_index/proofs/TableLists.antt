-- The lists of ids and of live links against the machine's tables.
use Rattle.std.proofs.Common.{◌≡◌, ℕ, suc, ◌+◌, Bool, true, false, cond, List, [], ◌∷◌, ◌++◌, Some, refl, ap, sym, ◌∙◌, arith, subst}
use Rattle.std.specs.Prelude.{◌&&◌, ◌==◌, map, filter, find, count_by, option_map}
use Rattle.std.specs.List.{position_from}
use Rattle.std.proofs.lemmas.List.Sums.{sum_by-cons, sum_by-append}
use Rattle.fts_tables.specs.Tables.{AreNumberedFrom, is_live, is_same_link}
use Rattle.fts_tables.specs.Choice.{load}
use Rattle.fts_tables.specs.declared.rows.FileRow.{FileRow}
use Rattle.fts_tables.specs.declared.rows.JobRow.{JobRow}
use Rattle.fts_index.specs.Links.{Link, HasOneMore, is_link, count_of}
use Rattle.fts_index.specs.LiveLinks.{link_of_row, live_links}

-- the first item and the others
pub count_by-cons : {Item : Type 0} (test : Item → Bool) (item : Item) (items : List Item)
    → count_by test (item ∷ items) ≡ cond (test item) 1 0 + count_by test items
count_by-cons test item items = sum_by-cons (λ other. cond (test other) 1 0) item items

-- two lists joined
pub count_by-append : {Item : Type 0} (test : Item → Bool) (front back : List Item)
    → count_by test (front ++ back) ≡ count_by test front + count_by test back
count_by-append test front back = sum_by-append (λ other. cond (test other) 1 0) front back

-- one item more, at some place
pub count_by-more : (test : Link → Bool) (link : Link) (before after : List Link)
    → count_by test (before ++ link ∷ after) ≡ count_by test (before ++ after) + cond (test link) 1 0
count_by-more test link before after =
    omega (arith, count_by-append test before (link ∷ after), count_by-append test before after, count_by-cons test link after)

-- a list with one link more counts one more
pub count_by-one_more : (link : Link) (old new : List Link) → HasOneMore link old new → (test : Link → Bool)
    → count_by test new ≡ count_by test old + cond (test link) 1 0
count_by-one_more link old new more test =
    ap (count_by test) more.is
    ∙ (count_by-more test link more.before more.after ∙ ap (λ links. count_by test links + cond (test link) 1 0) (sym more.was))

-- of jobs numbered in order, the place of an id is the number of the first job that has it
pub numbered_ids : (jobs : List JobRow) (id start : ℕ) → AreNumberedFrom (λ (job : JobRow). job.number) start jobs
    → position_from (λ other. other == id) start (map (λ (job : JobRow). job.id) jobs)
    ≡ option_map (λ (job : JobRow). job.number) (find (λ (job : JobRow). job.id == id) jobs)
numbered_ids [] id start numbered = refl
numbered_ids (job ∷ jobs) id start numbered =
    by_head (subst (λ next. position_from (λ other. other == id) next (map (λ (some : JobRow). some.id) jobs)
    ≡ option_map (λ (some : JobRow). some.number) (find (λ (some : JobRow). some.id == id) jobs)) (omega arith) (numbered_ids jobs id (suc start) numbered.1))
    (job.id == id)
  where
    by_head : position_from (λ other. other == id) (start + 1) (map (λ (some : JobRow). some.id) jobs)
        ≡ option_map (λ (some : JobRow). some.number) (find (λ (some : JobRow). some.id == id) jobs) → (answer : Bool)
        → cond answer (Some start) (position_from (λ other. other == id) (start + 1) (map (λ (some : JobRow). some.id) jobs))
        ≡ option_map (λ (some : JobRow). some.number) (cond answer (Some job) (find (λ (some : JobRow). some.id == id) jobs))
    by_head behind true = ap (λ number. Some number) (sym numbered.0)
    by_head behind false = behind

-- how often a row's link stands among the live links is its load
pub live_counts : (rows : List FileRow) (row : FileRow) → count_of (live_links rows) (link_of_row row) ≡ load rows row
live_counts [] row = refl
live_counts (other ∷ rows) row =
    by_state (is_live other.state)
    ∙ (ap (λ count. cond (is_live other.state && is_same_link row other) 1 0 + count) (live_counts rows row)
    ∙ sym (count_by-cons (λ (some : FileRow). is_live some.state && is_same_link row some) other rows))
  where
    by_state : (answer : Bool) → count_by (is_link (link_of_row row)) (map link_of_row (cond answer (other ∷ filter (λ (some : FileRow). is_live some.state) rows)
        (filter (λ (some : FileRow). is_live some.state) rows)))
        ≡ cond (answer && is_same_link row other) 1 0 + count_of (live_links rows) (link_of_row row)
    by_state true = count_by-cons (is_link (link_of_row row)) (link_of_row other) (live_links rows)
    by_state false = omega arith
