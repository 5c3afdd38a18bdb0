-- A walk over those who lead, one queue after the other, and the line as it changes.
use Rattle.std.proofs.Common.{◌≡◌, ℕ, ◌<◌, ◌≤◌, ◌+◌, Bool, true, false, List, [], ◌∷◌, length, refl, ap, sym, ◌∙◌, subst, arith}
use Rattle.std.specs.Prelude.{not, nat_lt, ◌==◌, ◌||◌, ◌&&◌}
use Rattle.std.proofs.lemmas.Bool.{and_parts, or_cases}
use Rattle.std.proofs.Common.{◌⊎◌, inl, inr}
use Rattle.std.proofs.lemmas.Bool.Decides.{nat_tests}
use Rattle.ordered.specs.Orders.{AreSortedBy, has_key, put_by, without, differs}
use Rattle.ordered.proofs.Lists.{filter_sorted, put_sorted, length-put_by, length-without}
use Rattle.ordered.proofs.Members.{has_put, has_without, same_apart, itself, one_of}
use Rattle.fts_heads.specs.declared.ripe_file.RipeFile.{RipeFile}
use Rattle.fts_heads.specs.declared.ripe_file.Lined.{Lined}
use Rattle.fts_heads.specs.RipeFiles.{goes_by_group, goes_in_line, by_group, in_line}
use Rattle.fts_heads.specs.Keys.{is_line_before, lines_in_order}
use Rattle.fts_heads.specs.Heads.{is_one, leads, is_lined, is_within}
use Rattle.fts_heads.proofs.Found.{has_rest, has_first, of_there}
use Rattle.fts_heads.proofs.Ranges.{within, to_within, leader}

-- the line with a file more, and with one less
pub line_put : (head : RipeFile) (line : List Lined) (waiter : RipeFile)
    → is_lined (put_by is_line_before (record { waiter = head }) line) waiter ≡ (is_one head waiter || is_lined line waiter)
line_put head line waiter =
    has_put is_line_before (record { waiter = head }) (record { waiter = waiter }) line
    ∙ ap (λ (test : Bool). test || is_lined line waiter) (same_apart goes_in_line goes_by_group in_line by_group head waiter)

twice : (test : Bool) → test ≡ not (not test)
twice true = refl
twice false = refl

pub line_without : (head : RipeFile) (line : List Lined) (waiter : RipeFile)
    → is_lined (without is_line_before (record { waiter = head }) line) waiter ≡ (is_lined line waiter && not (is_one head waiter))
line_without head line waiter =
    has_without is_line_before lines_in_order (record { waiter = head }) (record { waiter = waiter }) line
    ∙ ap (λ (test : Bool). is_lined line waiter && test)
    (twice (differs goes_in_line head waiter) ∙ ap not (same_apart goes_in_line goes_by_group in_line by_group head waiter))

-- a range in two
two_ranges : (dest from middle to other queue : ℕ) → from ≤ middle → middle ≤ to
    → ((other == dest) && (not (nat_lt queue from) && nat_lt queue to))
    ≡ (((other == dest) && (not (nat_lt queue from) && nat_lt queue middle)) || ((other == dest) && (not (nat_lt queue middle) && nat_lt queue to)))
two_ranges dest from middle to other queue least most = grind (arith, nat_tests)

not_yet : (dest from to other queue : ℕ) → to ≤ queue → ((other == dest) && (not (nat_lt queue from) && nat_lt queue to)) ≡ false
not_yet dest from to other queue past = grind (arith, nat_tests)

left_more : (have one other both lead : Bool) → both ≡ (one || other)
    → ((have && not (one && lead)) && not (other && lead)) ≡ (have && not (both && lead))
left_more have one other both lead is = grind (arith, nat_tests)

entered_more : (have one other both lead : Bool) → both ≡ (one || other)
    → ((other && lead) || (have || (one && lead))) ≡ (have || (both && lead))
entered_more have one other both lead is = grind (arith, nat_tests)

module _ (files : List RipeFile) (dest from queue to : ℕ) (least : from ≤ queue) where
  -- the next that leads
  pub record IsHead (head : RipeFile) : Type 0 where
    pub past : queue ≤ head.queue
    pub before : head.queue < to
    pub alone : (waiter : RipeFile) → (is_within dest queue (head.queue + 1) waiter && leads files waiter) ≡ is_one head waiter

  pub head_passes : (head : RipeFile) → IsHead head → (is_within dest queue (head.queue + 1) head ≡ true) × (leads files head ≡ true)
  head_passes head is =
      and_parts (is_within dest queue (head.queue + 1) head) (leads files head) (is.alone head ∙ itself goes_by_group by_group head)

  pub head_there : (head : RipeFile) → IsHead head → has_key goes_by_group head files ≡ true
  head_there head is = (leader files head (head_passes head is).1).there

  -- it is one of the whole range, and not of those before
  pub head_in : (head : RipeFile) → IsHead head → (is_within dest from to head && leads files head) ≡ true
  head_in head is =
      let parts = head_passes head is in
      let range = within dest queue (head.queue + 1) head.dest head.queue parts.0 in
      ap (λ (test : Bool). test && leads files head)
      (to_within dest from to head.dest head.queue range.same (omega (arith, least, is.past)) is.before)
      ∙ parts.1

  pub head_later : (head : RipeFile) → IsHead head → is_within dest from queue head ≡ false
  head_later head is = not_yet dest from queue head.dest head.queue is.past

  pub left_one : (old line : List Lined) (head : RipeFile) → IsHead head
      → ((waiter : RipeFile) → is_lined line waiter ≡ (is_lined old waiter && not (is_within dest from queue waiter && leads files waiter)))
      → (waiter : RipeFile) → is_lined (without is_line_before (record { waiter = head }) line) waiter
      ≡ (is_lined old waiter && not (is_within dest from (head.queue + 1) waiter && leads files waiter))
  left_one old line head is so_far waiter =
      line_without head line waiter
      ∙ (ap (λ (test : Bool). test && not (is_one head waiter)) (so_far waiter)
      ∙ (ap (λ (test : Bool). (is_lined old waiter && not (is_within dest from queue waiter && leads files waiter)) && not test) (sym (is.alone waiter))
      ∙ left_more (is_lined old waiter) (is_within dest from queue waiter) (is_within dest queue (head.queue + 1) waiter)
      (is_within dest from (head.queue + 1) waiter) (leads files waiter)
      (two_ranges dest from queue (head.queue + 1) waiter.dest waiter.queue least (omega (arith, is.past)))))

  pub entered_one : (old line : List Lined) (head : RipeFile) → IsHead head
      → ((waiter : RipeFile) → is_lined line waiter ≡ (is_lined old waiter || (is_within dest from queue waiter && leads files waiter)))
      → (waiter : RipeFile) → is_lined (put_by is_line_before (record { waiter = head }) line) waiter
      ≡ (is_lined old waiter || (is_within dest from (head.queue + 1) waiter && leads files waiter))
  entered_one old line head is so_far waiter =
      line_put head line waiter
      ∙ (ap (λ (test : Bool). is_one head waiter || test) (so_far waiter)
      ∙ (ap (λ (test : Bool). test || (is_lined old waiter || (is_within dest from queue waiter && leads files waiter))) (sym (is.alone waiter))
      ∙ entered_more (is_lined old waiter) (is_within dest from queue waiter) (is_within dest queue (head.queue + 1) waiter)
      (is_within dest from (head.queue + 1) waiter) (leads files waiter)
      (two_ranges dest from queue (head.queue + 1) waiter.dest waiter.queue least (omega (arith, is.past)))))

  -- where none is left, the range is done
  pub left_all : (old line : List Lined) → queue ≤ to
      → ((waiter : RipeFile) → (is_within dest queue to waiter && leads files waiter) ≡ false)
      → ((waiter : RipeFile) → is_lined line waiter ≡ (is_lined old waiter && not (is_within dest from queue waiter && leads files waiter)))
      → (waiter : RipeFile) → is_lined line waiter ≡ (is_lined old waiter && not (is_within dest from to waiter && leads files waiter))
  left_all old line most none so_far waiter =
      so_far waiter
      ∙ (and_true (is_lined old waiter && not (is_within dest from queue waiter && leads files waiter))
      ∙ (ap (λ (test : Bool). (is_lined old waiter && not (is_within dest from queue waiter && leads files waiter)) && not test) (sym (none waiter))
      ∙ left_more (is_lined old waiter) (is_within dest from queue waiter) (is_within dest queue to waiter)
      (is_within dest from to waiter) (leads files waiter)
      (two_ranges dest from queue to waiter.dest waiter.queue least most)))
    where
      and_true : (test : Bool) → test ≡ (test && true)
      and_true true = refl
      and_true false = refl

  pub entered_all : (old line : List Lined) → queue ≤ to
      → ((waiter : RipeFile) → (is_within dest queue to waiter && leads files waiter) ≡ false)
      → ((waiter : RipeFile) → is_lined line waiter ≡ (is_lined old waiter || (is_within dest from queue waiter && leads files waiter)))
      → (waiter : RipeFile) → is_lined line waiter ≡ (is_lined old waiter || (is_within dest from to waiter && leads files waiter))
  entered_all old line most none so_far waiter =
      so_far waiter
      ∙ (ap (λ (test : Bool). test || (is_lined old waiter || (is_within dest from queue waiter && leads files waiter))) (sym (none waiter))
      ∙ entered_more (is_lined old waiter) (is_within dest from queue waiter) (is_within dest queue to waiter)
      (is_within dest from to waiter) (leads files waiter)
      (two_ranges dest from queue to waiter.dest waiter.queue least most))

-- at the start nothing is done
pub none_left : (have lead : Bool) (dest from other queue : ℕ)
    → have ≡ (have && not (((other == dest) && (not (nat_lt queue from) && nat_lt queue from)) && lead))
none_left have lead dest from other queue = by_test have ∙ ap (λ (test : Bool). have && not (test && lead)) (sym (empty dest from other queue))
  where
    empty : (dest from other queue : ℕ) → ((other == dest) && (not (nat_lt queue from) && nat_lt queue from)) ≡ false
    empty dest from other queue = grind (arith, nat_tests)

    by_test : (test : Bool) → test ≡ (test && true)
    by_test true = refl
    by_test false = refl

pub none_entered : (have lead : Bool) (dest from other queue : ℕ)
    → have ≡ (have || (((other == dest) && (not (nat_lt queue from) && nat_lt queue from)) && lead))
none_entered have lead dest from other queue = by_test have ∙ ap (λ (test : Bool). have || (test && lead)) (sym (empty dest from other queue))
  where
    empty : (dest from other queue : ℕ) → ((other == dest) && (not (nat_lt queue from) && nat_lt queue from)) ≡ false
    empty dest from other queue = grind (arith, nat_tests)

    by_test : (test : Bool) → test ≡ (test || false)
    by_test true = refl
    by_test false = refl

-- where all in line wait, there are no more of them
pub no_more : (line : List Lined) (files : List RipeFile) → AreSortedBy is_line_before line → AreSortedBy goes_by_group files
    → ((waiter : RipeFile) → is_lined line waiter ≡ true → has_key goes_by_group waiter files ≡ true) → length line ≤ length files
no_more [] files lines sorted wait = omega arith
no_more (first ∷ rest) files lines sorted wait =
    let there = wait first.waiter (has_first is_line_before lines_in_order first rest) in
    let fewer = length-without goes_by_group by_group first.waiter files sorted there in
    let behind = no_more rest (without goes_by_group first.waiter files) lines.1
    (filter_sorted goes_by_group (λ other. differs goes_by_group other first.waiter) files sorted) others in
    omega (arith, fewer, behind)
  where
    apart : (test : Bool) → not test ≡ false → test ≡ true
    apart true is = refl
    apart false is = cc

    others : (waiter : RipeFile) → is_lined rest waiter ≡ true → has_key goes_by_group waiter (without goes_by_group first.waiter files) ≡ true
    others waiter later =
        let goes : goes_in_line first.waiter waiter ≡ true =
        of_there is_line_before lines_in_order (λ other. is_line_before first other ≡ true) rest (record { waiter = waiter }) lines.0 later in
        let differ : differs goes_by_group first.waiter waiter ≡ true =
        apart (differs goes_by_group first.waiter waiter)
        (sym (same_apart goes_in_line goes_by_group in_line by_group first.waiter waiter)
        ∙ ap (λ (test : Bool). not (test || goes_in_line waiter first.waiter)) goes)
        in
        has_without goes_by_group by_group first.waiter waiter files
        ∙ (ap (λ (test : Bool). test && differs goes_by_group first.waiter waiter)
        (wait waiter (has_rest is_line_before lines_in_order (record { waiter = waiter }) first rest later))
        ∙ differ)

-- and fewer, where one that waits stands not in line
pub fewer_lined : (line : List Lined) (files : List RipeFile) (head : RipeFile) → AreSortedBy is_line_before line → AreSortedBy goes_by_group files
    → ((waiter : RipeFile) → is_lined line waiter ≡ true → has_key goes_by_group waiter files ≡ true) → has_key goes_by_group head files ≡ true
    → is_lined line head ≡ false → length line < length files
fewer_lined line files head lines sorted wait there absent =
    let all = no_more (put_by is_line_before (record { waiter = head }) line) files
    (put_sorted is_line_before lines_in_order (record { waiter = head }) line lines absent) sorted with_head in
    omega (arith, all, length-put_by is_line_before (record { waiter = head }) line)
  where
    with_head : (waiter : RipeFile) → is_lined (put_by is_line_before (record { waiter = head }) line) waiter ≡ true → has_key goes_by_group waiter files ≡ true
    with_head waiter is = by_case (or_cases (is_one head waiter) (is_lined line waiter) (sym (line_put head line waiter) ∙ is))
      where
        by_case : (is_one head waiter ≡ true) ⊎ (is_lined line waiter ≡ true) → has_key goes_by_group waiter files ≡ true
        by_case (inl one) = subst (λ some. has_key goes_by_group some files ≡ true) (one_of goes_by_group by_group head waiter one) there
        by_case (inr lined) = wait waiter lined

-- all in line wait, while some come in
pub still_wait : (have one lead there : Bool) → (have ≡ true → there ≡ true) → (lead ≡ true → there ≡ true) → (have || (one && lead)) ≡ true → there ≡ true
still_wait true one lead there waits leads_there is = waits refl
still_wait false one lead there waits leads_there is = leads_there (and_parts one lead is).1
