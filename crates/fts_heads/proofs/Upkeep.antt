-- The line has the heads, and no others, after each call.
use Rattle.std.proofs.Common.{◌≡◌, ℕ, ◌<◌, ◌≤◌, ◌+◌, ◌⊎◌, inl, inr, Bool, true, false, List, length, refl, ap, sym, ◌∙◌, subst, arith}
use Rattle.std.specs.Prelude.{not, nat_lt, ◌==◌, ◌||◌, ◌&&◌, slice_set, slice_index_or}
use Rattle.std.specs.List.{list_any}
use Rattle.std.proofs.lemmas.Bool.{and_parts, cases_eq}
use Rattle.std.proofs.lemmas.List.{get_or-set_same, get_or-set_other}
use Rattle.std.proofs.lemmas.Bool.Decides.{nat_tests}
use Rattle.ordered.specs.Orders.{KeySet, has_key, put_by, without, differs}
use Rattle.ordered.proofs.Members.{any_put, any_filter, any_same, has_put, has_without, one_of}
use Rattle.fts_heads.proofs.Tests.{same_answer}
use Rattle.fts_heads.specs.declared.ripe_file.RipeFile.{RipeFile}
use Rattle.fts_heads.specs.declared.ripe_file.Lined.{Lined}
use Rattle.fts_heads.specs.RipeFiles.{goes_by_group, by_group}
use Rattle.fts_heads.specs.Heads.{is_one, goes_ahead, leads, is_lined, is_within, is_open, AreHeads, AreKept}
use Rattle.fts_heads.proofs.Found.{any_there, no}
use Rattle.fts_heads.proofs.Ranges.{within, to_within, leader, ahead, to_false, both_same}

-- the range of one queue
pub own_range : (dest queue : ℕ) → ((dest == dest) && (not (nat_lt queue queue) && nat_lt queue (queue + 1))) ≡ true
own_range dest queue = to_within dest queue (queue + 1) dest queue refl (omega arith) (omega arith)

-- a file of another queue or destination is another, and none goes ahead of it
pub other_file : (file waiter : RipeFile) → is_within file.dest file.queue (file.queue + 1) waiter ≡ false → is_one file waiter ≡ false
other_file file waiter apart = to_false (is_one file waiter) (λ one.
    sym (subst (λ some. is_within file.dest file.queue (file.queue + 1) some ≡ true) (one_of goes_by_group by_group file waiter one)
    (own_range file.dest file.queue))
    ∙ apart)

not_ahead : (file waiter : RipeFile) → is_within file.dest file.queue (file.queue + 1) waiter ≡ false → goes_ahead file waiter ≡ false
not_ahead file waiter apart = to_false (goes_ahead file waiter) (λ goes.
    let is = ahead file waiter goes in
    sym (to_within file.dest file.queue (file.queue + 1) waiter.dest waiter.queue (sym is.dest) (omega (arith, is.queue)) (omega (arith, is.queue)))
    ∙ apart)

-- so one file more, or one less, changes nothing in other groups
pub leads_put : (file : RipeFile) (files : List RipeFile) (waiter : RipeFile) → is_within file.dest file.queue (file.queue + 1) waiter ≡ false
    → leads (put_by goes_by_group file files) waiter ≡ leads files waiter
leads_put file files waiter apart =
    ap (λ (test : Bool). test && not (list_any (λ other. goes_ahead other waiter) (put_by goes_by_group file files)))
    (has_put goes_by_group file waiter files ∙ ap (λ (test : Bool). test || has_key goes_by_group waiter files) (other_file file waiter apart))
    ∙ ap (λ (test : Bool). has_key goes_by_group waiter files && not test)
    (any_put goes_by_group (λ other. goes_ahead other waiter) file files
    ∙ ap (λ (test : Bool). test || list_any (λ other. goes_ahead other waiter) files) (not_ahead file waiter apart))

and_true : (test other : Bool) → not other ≡ false → (test && other) ≡ test
and_true test other is = grind (arith, nat_tests)

pub leads_without : (file : RipeFile) (files : List RipeFile) (waiter : RipeFile) → is_within file.dest file.queue (file.queue + 1) waiter ≡ false
    → leads (without goes_by_group file files) waiter ≡ leads files waiter
leads_without file files waiter apart =
    ap (λ (test : Bool). test && not (list_any (λ other. goes_ahead other waiter) (without goes_by_group file files)))
    (has_without goes_by_group by_group file waiter files
    ∙ and_true (has_key goes_by_group waiter files) (differs goes_by_group file waiter) (other_file file waiter apart))
    ∙ ap (λ (test : Bool). has_key goes_by_group waiter files && not test)
    (any_filter (λ other. goes_ahead other waiter) (λ other. differs goes_by_group other file) files
    ∙ any_same (λ other. differs goes_by_group other file && goes_ahead other waiter) (λ other. goes_ahead other waiter) files same)
  where
    same : (other : RipeFile) → (differs goes_by_group other file && goes_ahead other waiter) ≡ goes_ahead other waiter
    same other = by_test (differs goes_by_group other file) refl
      where
        by_test : (answer : Bool) → differs goes_by_group other file ≡ answer → (answer && goes_ahead other waiter) ≡ goes_ahead other waiter
        by_test true is = refl
        by_test false is =
            sym (ap (λ some. goes_ahead some waiter) (one_of goes_by_group by_group other file (ap not is)) ∙ not_ahead file waiter apart)

-- one more behind one that waits changes nothing at all
pub passes_on : (one other third : RipeFile) → goes_ahead one other ≡ true → goes_ahead other third ≡ true → goes_ahead one third ≡ true
passes_on one other third first second =
    let in_front = ahead one other first in
    let behind = ahead other third second in
    both_same one.dest third.dest one.queue third.queue (goes_by_group one third) (in_front.dest ∙ behind.dest) (in_front.queue ∙ behind.queue)
    (by_group.transitive one other third in_front.goes behind.goes)

pub leads_behind : (head file : RipeFile) (files : List RipeFile) → has_key goes_by_group head files ≡ true → goes_ahead head file ≡ true → (waiter : RipeFile)
    → leads (put_by goes_by_group file files) waiter ≡ leads files waiter
leads_behind head file files there goes waiter =
    ap (λ (test : Bool). test && not (list_any (λ other. goes_ahead other waiter) (put_by goes_by_group file files))) (has_put goes_by_group file waiter files)
    ∙ (ap (λ (test : Bool). (is_one file waiter || has_key goes_by_group waiter files) && not test)
    (any_put goes_by_group (λ other. goes_ahead other waiter) file files)
    ∙ by_tests (is_one file waiter) (goes_ahead file waiter) refl refl)
  where
    blocked : (one is : Bool) → (have any : Bool) → any ≡ true → ((one || have) && not (is || any)) ≡ (have && not any)
    blocked one true true true is = cases one
      where
        cases : (one : Bool) → ((one || true) && false) ≡ false
        cases true = refl
        cases false = refl
    blocked one true false true is = cases one
      where
        cases : (one : Bool) → ((one || false) && false) ≡ false
        cases true = refl
        cases false = refl
    blocked one false true true is = cases one
      where
        cases : (one : Bool) → ((one || true) && false) ≡ false
        cases true = refl
        cases false = refl
    blocked one false false true is = cases one
      where
        cases : (one : Bool) → ((one || false) && false) ≡ false
        cases true = refl
        cases false = refl
    blocked one other have false is = cc

    by_tests : (one is : Bool) → is_one file waiter ≡ one → goes_ahead file waiter ≡ is
        → ((is_one file waiter || has_key goes_by_group waiter files) && not (goes_ahead file waiter || list_any (λ other. goes_ahead other waiter) files))
        ≡ leads files waiter
    by_tests true is is1 is2 =
        blocked (is_one file waiter) (goes_ahead file waiter) (has_key goes_by_group waiter files) (list_any (λ other. goes_ahead other waiter) files)
        (any_there goes_by_group by_group (λ other. goes_ahead other waiter) head files there
        (subst (λ some. goes_ahead head some ≡ true) (one_of goes_by_group by_group file waiter is1) goes))
    by_tests false true is1 is2 =
        blocked (is_one file waiter) (goes_ahead file waiter) (has_key goes_by_group waiter files) (list_any (λ other. goes_ahead other waiter) files)
        (any_there goes_by_group by_group (λ other. goes_ahead other waiter) head files there (passes_on head file waiter goes is2))
    by_tests false false is1 is2 =
        ap
        (λ (test : Bool). (test || has_key goes_by_group waiter files) && not (goes_ahead file waiter || list_any (λ other. goes_ahead other waiter) files)) is1
        ∙ ap (λ (test : Bool). has_key goes_by_group waiter files && not (test || list_any (λ other. goes_ahead other waiter) files)) is2

-- bits
drop_all : (free lead other : Bool) → free ≡ true → (((free && lead) && not (true && lead)) || (true && other)) ≡ (free && other)
drop_all free lead other is = grind (arith, nat_tests)

keep_all : (free lead other : Bool) → other ≡ lead → (((free && lead) && not (false && lead)) || (false && other)) ≡ (free && other)
keep_all free lead other is = cases free lead ∙ ap (λ (test : Bool). free && test) (sym is)
  where
    cases : (free lead : Bool) → (((free && lead) && true) || false) ≡ (free && lead)
    cases free lead = grind (arith, nat_tests)

and_not_true : (have other : Bool) → other ≡ true → (have && not other) ≡ false
and_not_true have other is = grind (arith, nat_tests)

or_false : (test : Bool) → (test || false) ≡ test
or_false true = refl
or_false false = refl

and_not_false : (test : Bool) → (test && true) ≡ test
and_not_false true = refl
and_not_false false = refl

module _ (busy : List Bool) (files : List RipeFile) (line : List Lined) (heads : AreHeads busy files line) where
  -- all in line wait
  pub lined_waits : (waiter : RipeFile) → is_lined line waiter ≡ true → has_key goes_by_group waiter files ≡ true
  lined_waits waiter lined =
      (leader files waiter (and_parts (is_open busy waiter.dest) (leads files waiter) (sym (heads.lined waiter) ∙ lined)).1).there

  module _ (dest from to : ℕ) where
    -- for an open destination all who lead stand in line
    pub open_stand : is_open busy dest ≡ true → (waiter : RipeFile) → (is_within dest from to waiter && leads files waiter) ≡ true → is_lined line waiter ≡ true
    open_stand opens waiter is =
        let parts = and_parts (is_within dest from to waiter) (leads files waiter) is in
        let range = within dest from to waiter.dest waiter.queue parts.0 in
        heads.lined waiter
        ∙ (ap (λ (test : Bool). test && leads files waiter) (ap (is_open busy) range.same ∙ opens)
        ∙ parts.1)

    -- for any other none does
    pub shut_apart : is_open busy dest ≡ false → (waiter : RipeFile) → (is_within dest from to waiter && leads files waiter) ≡ true
        → is_lined line waiter ≡ false
    shut_apart not_open waiter is =
        let parts = and_parts (is_within dest from to waiter) (leads files waiter) is in
        let range = within dest from to waiter.dest waiter.queue parts.0 in
        heads.lined waiter ∙ ap (λ (test : Bool). test && leads files waiter) (ap (is_open busy) range.same ∙ not_open)

  module _ (dest bound most : ℕ) (known : dest < length busy) (few : length busy ≤ most)
      (below : (waiter : RipeFile) → has_key goes_by_group waiter files ≡ true → waiter.dest < most → waiter.queue < bound) where
    all_within : (waiter : RipeFile) → waiter.dest ≡ dest → leads files waiter ≡ true → is_within dest 0 bound waiter ≡ true
    all_within waiter same leading =
        to_within dest 0 bound waiter.dest waiter.queue same (omega arith)
        (below waiter (leader files waiter leading).there (omega (arith, same, known, few)))

    not_within : (waiter : RipeFile) → (waiter.dest ≡ dest → ⊥) → is_within dest 0 bound waiter ≡ false
    not_within waiter other = to_false (is_within dest 0 bound waiter) (λ is. absurd (other (within dest 0 bound waiter.dest waiter.queue is).same))

    -- a destination that gets busy: its heads have left
    pub heads_busy : (after : List Lined)
        → ((waiter : RipeFile) → is_lined after waiter ≡ (is_lined line waiter && not (is_within dest 0 bound waiter && leads files waiter)))
        → AreHeads (slice_set busy dest true) files after
    heads_busy after left = record { lined = λ waiter. by_case waiter (cases_eq waiter.dest dest) }
      where
        by_case : (waiter : RipeFile) → (waiter.dest ≡ dest) ⊎ (waiter.dest ≡ dest → ⊥)
            → is_lined after waiter ≡ (is_open (slice_set busy dest true) waiter.dest && leads files waiter)
        by_case waiter (inl same) =
            to_false (is_lined after waiter) (λ lined.
            let parts =
            and_parts (is_lined line waiter) (not (is_within dest 0 bound waiter && leads files waiter)) (sym (left waiter) ∙ lined) in
            let leading = (and_parts (is_open busy waiter.dest) (leads files waiter) (sym (heads.lined waiter) ∙ parts.0)).1 in
            sym parts.1 ∙ ap not (ap (λ (test : Bool). test && leads files waiter) (all_within waiter same leading) ∙ leading))
            ∙ sym (ap (λ (test : Bool). not test && leads files waiter)
            (ap (λ n. slice_index_or (slice_set busy dest true) n true) same ∙ get_or-set_same busy dest true true known))
        by_case waiter (inr other) =
            left waiter
            ∙ (ap (λ (test : Bool). is_lined line waiter && not (test && leads files waiter)) (not_within waiter other)
            ∙ (and_not_false (is_lined line waiter)
            ∙ (heads.lined waiter
            ∙ ap (λ (test : Bool). not test && leads files waiter) (sym (get_or-set_other busy dest waiter.dest true true other)))))

    -- one that gets free: its heads have come in
    pub heads_free : (after : List Lined) → is_open busy dest ≡ false
        → ((waiter : RipeFile) → is_lined after waiter ≡ (is_lined line waiter || (is_within dest 0 bound waiter && leads files waiter)))
        → AreHeads (slice_set busy dest false) files after
    heads_free after was entered = record { lined = λ waiter. by_case waiter (cases_eq waiter.dest dest) }
      where
        by_case : (waiter : RipeFile) → (waiter.dest ≡ dest) ⊎ (waiter.dest ≡ dest → ⊥)
            → is_lined after waiter ≡ (is_open (slice_set busy dest false) waiter.dest && leads files waiter)
        by_case waiter (inl same) =
            entered waiter
            ∙ (ap (λ (test : Bool). test || (is_within dest 0 bound waiter && leads files waiter))
            (heads.lined waiter ∙ ap (λ (test : Bool). test && leads files waiter) (ap (is_open busy) same ∙ was))
            ∙ (same_answer (is_within dest 0 bound waiter && leads files waiter) (leads files waiter)
            (λ both. (and_parts (is_within dest 0 bound waiter) (leads files waiter) both).1)
            (λ leading. ap (λ (test : Bool). test && leads files waiter) (all_within waiter same leading) ∙ leading)
            ∙ sym (ap (λ (test : Bool). not test && leads files waiter)
            (ap (λ n. slice_index_or (slice_set busy dest false) n true) same ∙ get_or-set_same busy dest false true known))))
        by_case waiter (inr other) =
            entered waiter
            ∙ (ap (λ (test : Bool). is_lined line waiter || (test && leads files waiter)) (not_within waiter other)
            ∙ (or_false (is_lined line waiter)
            ∙ (heads.lined waiter
            ∙ ap (λ (test : Bool). not test && leads files waiter) (sym (get_or-set_other busy dest waiter.dest false true other)))))

  -- files changed so that all lead as before
  pub heads_same : (changed : List RipeFile) → ((waiter : RipeFile) → leads changed waiter ≡ leads files waiter) → AreHeads busy changed line
  heads_same changed same = record {
    lined = λ waiter. heads.lined waiter ∙ ap (λ (test : Bool). is_open busy waiter.dest && test) (sym (same waiter));
  }

  module _ (dest queue : ℕ) (changed : List RipeFile)
      (apart : (waiter : RipeFile) → is_within dest queue (queue + 1) waiter ≡ false → leads changed waiter ≡ leads files waiter) where
    -- files changed in one group of a destination that is not open
    pub heads_apart : is_open busy dest ≡ false → AreHeads busy changed line
    heads_apart not_open = record { lined = λ waiter. heads.lined waiter ∙ by_test waiter (is_within dest queue (queue + 1) waiter) refl }
      where
        by_test : (waiter : RipeFile) (answer : Bool) → is_within dest queue (queue + 1) waiter ≡ answer
            → (is_open busy waiter.dest && leads files waiter) ≡ (is_open busy waiter.dest && leads changed waiter)
        by_test waiter true is =
            let none = ap (is_open busy) (within dest queue (queue + 1) waiter.dest waiter.queue is).same ∙ not_open in
            ap (λ (test : Bool). test && leads files waiter) none ∙ sym (ap (λ (test : Bool). test && leads changed waiter) none)
        by_test waiter false is = ap (λ (test : Bool). is_open busy waiter.dest && test) (sym (apart waiter is))

    module _ (between : List Lined) (opens : is_open busy dest ≡ true)
        (left : (waiter : RipeFile)
        → is_lined between waiter ≡ (is_lined line waiter && not (is_within dest queue (queue + 1) waiter && leads files waiter))) where
      -- where the group's head has left, none of the group stands in line
      pub group_left : (waiter : RipeFile) → is_within dest queue (queue + 1) waiter ≡ true → is_lined between waiter ≡ false
      group_left waiter is =
          to_false (is_lined between waiter) (λ lined.
          let parts =
          and_parts (is_lined line waiter) (not (is_within dest queue (queue + 1) waiter && leads files waiter)) (sym (left waiter) ∙ lined) in
          let leading = (and_parts (is_open busy waiter.dest) (leads files waiter) (sym (heads.lined waiter) ∙ parts.0)).1 in
          sym parts.1 ∙ ap not (ap (λ (test : Bool). test && leads files waiter) is ∙ leading))

      pub left_apart : (waiter : RipeFile) → (is_within dest queue (queue + 1) waiter && leads changed waiter) ≡ true → is_lined between waiter ≡ false
      left_apart waiter is = group_left waiter (and_parts (is_within dest queue (queue + 1) waiter) (leads changed waiter) is).0

      -- whoever still stands in line waits, and leads as before
      pub left_waits : (waiter : RipeFile) → is_lined between waiter ≡ true → has_key goes_by_group waiter changed ≡ true
      left_waits waiter lined = by_test (is_within dest queue (queue + 1) waiter) refl
        where
          by_test : (answer : Bool) → is_within dest queue (queue + 1) waiter ≡ answer → has_key goes_by_group waiter changed ≡ true
          by_test true is = no (sym lined ∙ group_left waiter is)
          by_test false is =
              let parts =
              and_parts (is_lined line waiter) (not (is_within dest queue (queue + 1) waiter && leads files waiter)) (sym (left waiter) ∙ lined) in
              (leader changed waiter
              (apart waiter is ∙ (and_parts (is_open busy waiter.dest) (leads files waiter) (sym (heads.lined waiter) ∙ parts.0)).1)).there

      -- and with the new head all is as it should be
      pub heads_again : (after : List Lined)
          → ((waiter : RipeFile) → is_lined after waiter ≡ (is_lined between waiter || (is_within dest queue (queue + 1) waiter && leads changed waiter)))
          → AreHeads busy changed after
      heads_again after entered = record {
        lined = λ waiter.
            entered waiter
            ∙ (ap (λ (test : Bool). test || (is_within dest queue (queue + 1) waiter && leads changed waiter))
            (left waiter ∙ ap (λ (test : Bool). test && not (is_within dest queue (queue + 1) waiter && leads files waiter)) (heads.lined waiter))
            ∙ by_test waiter (is_within dest queue (queue + 1) waiter) refl);
      }
        where
          by_test : (waiter : RipeFile) (answer : Bool) → is_within dest queue (queue + 1) waiter ≡ answer
              → (((is_open busy waiter.dest && leads files waiter) && not (is_within dest queue (queue + 1) waiter && leads files waiter))
              || (is_within dest queue (queue + 1) waiter && leads changed waiter))
              ≡ (is_open busy waiter.dest && leads changed waiter)
          by_test waiter true is =
              ap
              (λ (test : Bool). ((is_open busy waiter.dest && leads files waiter) && not (test && leads files waiter)) || (test && leads changed waiter)) is
              ∙ drop_all (is_open busy waiter.dest) (leads files waiter) (leads changed waiter)
              (ap (is_open busy) (within dest queue (queue + 1) waiter.dest waiter.queue is).same ∙ opens)
          by_test waiter false is =
              ap
              (λ (test : Bool). ((is_open busy waiter.dest && leads files waiter) && not (test && leads files waiter)) || (test && leads changed waiter)) is
              ∙ keep_all (is_open busy waiter.dest) (leads files waiter) (leads changed waiter) (apart waiter is)

-- no file of a number that a destination may have has too great a queue, after one more or one less
pub below_put : (file : RipeFile) (files : List RipeFile) (bound most : ℕ) → (file.dest < most → file.queue < bound)
    → ((waiter : RipeFile) → has_key goes_by_group waiter files ≡ true → waiter.dest < most → waiter.queue < bound)
    → (waiter : RipeFile) → has_key goes_by_group waiter (put_by goes_by_group file files) ≡ true → waiter.dest < most → waiter.queue < bound
below_put file files bound most less below waiter there = by_test (is_one file waiter) refl
  where
    by_test : (answer : Bool) → is_one file waiter ≡ answer → waiter.dest < most → waiter.queue < bound
    by_test true is = subst (λ some. some.dest < most → some.queue < bound) (one_of goes_by_group by_group file waiter is) less
    by_test false is =
        below waiter (sym (ap (λ (test : Bool). test || has_key goes_by_group waiter files) is) ∙ (sym (has_put goes_by_group file waiter files) ∙ there))

pub below_without : (file : RipeFile) (files : List RipeFile) (bound most : ℕ)
    → ((waiter : RipeFile) → has_key goes_by_group waiter files ≡ true → waiter.dest < most → waiter.queue < bound)
    → (waiter : RipeFile) → has_key goes_by_group waiter (without goes_by_group file files) ≡ true → waiter.dest < most → waiter.queue < bound
below_without file files bound most below waiter there =
    below waiter
    (and_parts (has_key goes_by_group waiter files) (differs goes_by_group file waiter) (sym (has_without goes_by_group by_group file waiter files) ∙ there)).0

-- files changed in one group of a destination that is not open: all is kept, and the line with it
pub kept_apart : (busy : List Bool) (files : KeySet RipeFile) (line : KeySet Lined) (bound most dest queue : ℕ) (changed : List RipeFile)
    → AreKept bound most busy files line → is_open busy dest ≡ false
    → ((waiter : RipeFile) → is_within dest queue (queue + 1) waiter ≡ false → leads changed waiter ≡ leads files.keys waiter)
    → ((waiter : RipeFile) → has_key goes_by_group waiter changed ≡ true → waiter.dest < most → waiter.queue < bound)
    → AreKept bound most busy (record files { keys = changed }) line
kept_apart busy files line bound most dest queue changed kept shut apart below = record {
  heads = heads_apart busy files.keys line.keys kept.heads dest queue changed apart shut;
  few = kept.few;
  below = below;
  room = kept.room;
}

-- and files changed so that all lead as before
pub kept_same : (busy : List Bool) (files : KeySet RipeFile) (line : KeySet Lined) (bound most : ℕ) (changed : List RipeFile)
    → AreKept bound most busy files line → ((waiter : RipeFile) → leads changed waiter ≡ leads files.keys waiter)
    → ((waiter : RipeFile) → has_key goes_by_group waiter changed ≡ true → waiter.dest < most → waiter.queue < bound)
    → AreKept bound most busy (record files { keys = changed }) line
kept_same busy files line bound most changed kept same below = record {
  heads = heads_same busy files.keys line.keys kept.heads changed same;
  few = kept.few;
  below = below;
  room = kept.room;
}
