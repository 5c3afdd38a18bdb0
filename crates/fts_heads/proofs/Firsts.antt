-- The first of a queue in line goes first of all files of the queue whose destination is known and free.
use Rattle.std.proofs.Common.{◌≡◌, ℕ, suc, zero, Bool, true, false, List, [], ◌∷◌, ◌++◌, length, Option, Some, None, map, refl, ap, sym, ◌∙◌, arith}
use Rattle.std.specs.Prelude.{not, nat_lt, ◌==◌, ◌||◌, ◌&&◌, find, IfSome, IfNone}
use Rattle.std.specs.List.{AllByRecursion, list_any}
use Rattle.std.proofs.lemmas.Bool.{and_parts, and_from, and_right}
use Rattle.std.proofs.lemmas.Bool.Decides.{nat_tests}
use Rattle.ordered.specs.Orders.{AreSortedBy, has_key, first_from, differs, without}
use Rattle.ordered.specs.ByNumbers.{is_first_by}
use Rattle.ordered.proofs.Members.{one_of, any_filter, any_same, has_without}
use Rattle.fts_heads.specs.declared.ripe_file.RipeFile.{RipeFile}
use Rattle.fts_heads.specs.declared.ripe_file.Lined.{Lined}
use Rattle.fts_heads.specs.RipeFiles.{goes_by_group, goes_in_line, by_group, in_line, is_in}
use Rattle.fts_heads.specs.Keys.{is_line_before}
use Rattle.fts_heads.specs.Heads.{leads, is_lined, is_open, AreHeads, IsFirstOf, is_one, goes_ahead, start_at}
use Rattle.fts_heads.proofs.Found.{any_there, no, IsFound, is_found, none_found}
use Rattle.fts_heads.proofs.Ranges.{IsNext, next, next_leads, not_before_start, to_false, both_same, leader}
use Rattle.fts_heads.proofs.Upkeep.{lined_waits, passes_on}

-- the files in line without their wrapping
sorted_files : (line : List Lined) → AreSortedBy is_line_before line → AreSortedBy goes_in_line (map (λ key. key.waiter) line)
sorted_files [] sorted = tt
sorted_files (first ∷ rest) sorted = (all_files rest sorted.0, sorted_files rest sorted.1)
  where
    all_files : (keys : List Lined) → AllByRecursion (λ later. is_line_before first later ≡ true) keys
        → AllByRecursion (λ later. goes_in_line first.waiter later ≡ true) (map (λ key. key.waiter) keys)
    all_files [] all = tt
    all_files (key ∷ keys) all = (all.0, all_files keys all.1)

same_lined : (line : List Lined) (waiter : RipeFile) → has_key goes_in_line waiter (map (λ key. key.waiter) line) ≡ is_lined line waiter
same_lined [] waiter = refl
same_lined (first ∷ rest) waiter =
    ap (λ (test : Bool). not (goes_in_line first.waiter waiter || goes_in_line waiter first.waiter) || test) (same_lined rest waiter)

-- one that a file does not go before, and that does not go before the start of the file's group, is of this group
pub record IsOfGroup (dest queue other_dest other_queue : ℕ) : Type 0 where
  pub same_dest : other_dest ≡ dest
  pub same_queue : other_queue ≡ queue

of_group : (dest queue other_dest other_queue : ℕ) (rest other_rest : Bool) → is_first_by dest other_dest (is_first_by other_queue queue rest) ≡ false
    → is_first_by other_dest dest (is_first_by queue other_queue other_rest) ≡ false → IsOfGroup dest queue other_dest other_queue
of_group dest queue other_dest other_queue rest other_rest first second = record {
  same_dest = grind (arith, nat_tests);
  same_queue = grind (arith, nat_tests);
}

-- in one group the orders agree
line_in_group : (queue other_queue dest other_dest rank other_rank file other_file : ℕ) → other_queue ≡ queue → other_dest ≡ dest
    → is_first_by other_dest dest (is_first_by queue other_queue (is_first_by rank other_rank (nat_lt file other_file))) ≡ false
    → is_first_by queue other_queue (is_first_by rank other_rank (is_first_by file other_file (nat_lt dest other_dest))) ≡ false
line_in_group queue other_queue dest other_dest rank other_rank file other_file same_queue same_dest is = grind (arith, nat_tests)

-- each file that waits has one of its group that leads, and does not go in front of it in line
pub record HasHead (files : List RipeFile) (waiter : RipeFile) : Type 0 where
  pub head : RipeFile
  pub leading : leads files head ≡ true
  pub dest : head.dest ≡ waiter.dest
  pub queue : head.queue ≡ waiter.queue
  pub behind : goes_in_line waiter head ≡ false
  pub in_front : goes_by_group waiter head ≡ false

pub has_head : (files : List RipeFile) (waiter : RipeFile) → AreSortedBy goes_by_group files → has_key goes_by_group waiter files ≡ true → HasHead files waiter
has_head files waiter sorted there = by_answer (first_from goes_by_group (start_at waiter.dest waiter.queue) files) refl
  where
    by_answer : (answer : Option RipeFile) → first_from goes_by_group (start_at waiter.dest waiter.queue) files ≡ answer → HasHead files waiter
    by_answer None is =
        no (sym (ap not (not_before_start waiter.dest waiter.queue waiter.dest waiter.queue waiter.rank waiter.file refl (omega arith)))
        ∙ none_found goes_by_group by_group (λ other. not (goes_by_group other (start_at waiter.dest waiter.queue))) files is waiter there)
    by_answer (Some head) is =
        let found : IsNext files sorted waiter.dest waiter.queue head = next files sorted waiter.dest waiter.queue head is in
        let behind : goes_by_group waiter head ≡ false = found.least waiter there refl (omega arith) in
        let group = of_group waiter.dest waiter.queue head.dest head.queue _ _ found.passing behind in
        record {
          head = head;
          leading = next_leads files sorted waiter.dest waiter.queue head found group.same_dest;
          dest = group.same_dest;
          queue = group.same_queue;
          in_front = behind;
          behind = line_in_group waiter.queue head.queue waiter.dest head.dest waiter.rank head.rank waiter.file head.file group.same_queue
              group.same_dest behind;
        }

module _ (busy : List Bool) (files : List RipeFile) (line : List Lined) (queue : ℕ) (heads : AreHeads busy files line)
    (sorted : AreSortedBy goes_by_group files)
    (lines : AreSortedBy is_line_before line) where
  -- the head of a file that passes stands in line
  head_lined : (waiter : RipeFile) (has : HasHead files waiter) → (is_in queue waiter && is_open busy waiter.dest) ≡ true
      → (is_lined line has.head ≡ true) × (is_in queue has.head ≡ true)
  head_lined waiter has passed =
      let parts = and_parts (is_in queue waiter) (is_open busy waiter.dest) passed in (
        heads.lined has.head
            ∙ (ap (λ (test : Bool). test && leads files has.head) (ap (is_open busy) has.dest ∙ parts.1)
            ∙ has.leading),
        ap (λ n. n == queue) has.queue ∙ parts.0,
      )

  pub first_is : (first : RipeFile) → find (is_in queue) (map (λ key. key.waiter) line) ≡ Some first
      → IsFirstOf (λ waiter. is_in queue waiter && is_open busy waiter.dest) files first
  first_is first is =
      let found = is_found goes_in_line in_line (is_in queue) (map (λ key. key.waiter) line) first (sorted_files line lines) is in
      let lined = sym (same_lined line first) ∙ found.there in
      let free = (and_parts (is_open busy first.dest) (leads files first) (sym (heads.lined first) ∙ lined)).0 in
      record {
        there = lined_waits busy files line heads first lined;
        passing = and_from (is_in queue first) (is_open busy first.dest) found.passing free;
        least = λ other there passed. least found other (has_head files other sorted there) passed;
      }
    where
      least : IsFound goes_in_line (is_in queue) (map (λ key. key.waiter) line) first → (other : RipeFile) → HasHead files other
          → (is_in queue other && is_open busy other.dest) ≡ true → goes_in_line other first ≡ false
      least found other has passed = to_false (goes_in_line other first) (λ goes.
          let stands = head_lined other has passed in
          let not_front : goes_in_line has.head first ≡ false =
          found.least has.head (same_lined line has.head ∙ stands.0) stands.1 in
          by_test goes not_front (goes_in_line has.head other) refl)
        where
          by_test : goes_in_line other first ≡ true → goes_in_line has.head first ≡ false → (answer : Bool) → goes_in_line has.head other ≡ answer
              → true ≡ false
          by_test goes not_front true is = sym (in_line.transitive has.head other first is goes) ∙ not_front
          by_test goes not_front false is =
              sym goes ∙ (ap (λ some. goes_in_line some first) (sym (in_line.total has.head other is has.behind)) ∙ not_front)

  pub none_is : find (is_in queue) (map (λ key. key.waiter) line) ≡ None → (waiter : RipeFile) → has_key goes_by_group waiter files ≡ true
      → (is_in queue waiter && is_open busy waiter.dest) ≡ false
  none_is is waiter there = to_false (is_in queue waiter && is_open busy waiter.dest) (λ passed.
      let has = has_head files waiter sorted there in
      let stands = head_lined waiter has passed in
      sym stands.1
      ∙ none_found goes_in_line in_line (is_in queue) (map (λ key. key.waiter) line) is has.head (same_lined line has.head ∙ stands.0))

-- two numbers that differ, each one less
another : (m n : ℕ) → (suc m == suc n) ≡ false → (m == n) ≡ false
another m n is = grind (arith, nat_tests)

-- a destination more opens no other
open_more : (busy : List Bool) (dest : ℕ) → (dest == length busy) ≡ false → is_open (busy ++ (false ∷ [])) dest ≡ is_open busy dest
open_more [] zero other = cc
open_more [] (suc n) other = refl
open_more (first ∷ rest) zero other = refl
open_more (first ∷ rest) (suc n) other = open_more rest n (another n (length rest) other)

-- so with one more, for which no file waits, the line stays as it is
pub heads_more : (busy : List Bool) (files : List RipeFile) (line : List Lined) → AreHeads busy files line
    → ((waiter : RipeFile) → has_key goes_by_group waiter files ≡ true → (waiter.dest == length busy) ≡ false)
    → AreHeads (busy ++ (false ∷ [])) files line
heads_more busy files line heads new = record { lined = λ waiter. heads.lined waiter ∙ by_test waiter (leads files waiter) refl }
  where
    by_test : (waiter : RipeFile) (answer : Bool) → leads files waiter ≡ answer
        → (is_open busy waiter.dest && leads files waiter) ≡ (is_open (busy ++ (false ∷ [])) waiter.dest && leads files waiter)
    by_test waiter true is =
        ap (λ (test : Bool). test && leads files waiter) (sym (open_more busy waiter.dest (new waiter (leader files waiter is).there)))
    by_test waiter false is =
        and_right (is_open busy waiter.dest) (leads files waiter) is ∙ sym (and_right (is_open (busy ++ (false ∷ [])) waiter.dest) (leads files waiter) is)

-- by what was found
pub if_some : {A : Type 0} (P : A → Type 0) (answer : Option A) → ((found : A) → answer ≡ Some found → P found) → IfSome answer P
if_some P None each = tt
if_some P (Some found) each = each found refl

pub if_none : {A : Type 0} (P : Type 0) (answer : Option A) → (answer ≡ None → P) → IfNone answer P
if_none P None none = none refl
if_none P (Some found) none = tt

pub no_heads : (waiter : RipeFile) → is_lined [] waiter ≡ (is_open [] waiter.dest && leads [] waiter)
no_heads waiter = sym (and_right (is_open [] waiter.dest) (leads [] waiter) refl)

-- of two of a group, the one that is another than the file and not behind it goes ahead of it
ahead_of : (file head : RipeFile) → head.dest ≡ file.dest → head.queue ≡ file.queue → goes_by_group file head ≡ false → is_one file head ≡ false
    → goes_ahead head file ≡ true
ahead_of file head dest queue not_front other =
    both_same head.dest file.dest head.queue file.queue (goes_by_group head file) dest queue
    (goes (goes_by_group file head) (goes_by_group head file) not_front other)
  where
    goes : (front back : Bool) → front ≡ false → not (front || back) ≡ false → back ≡ true
    goes front back is too = grind (arith, nat_tests)

-- one less that does not lead changes nothing at all
pub leads_less : (file : RipeFile) (files : List RipeFile) → AreSortedBy goes_by_group files → has_key goes_by_group file files ≡ true
    → leads files file ≡ false
    → (waiter : RipeFile) → leads (without goes_by_group file files) waiter ≡ leads files waiter
leads_less file files sorted there behind waiter = by_test (is_one file waiter) refl
  where
    bits : (have any : Bool) → any ≡ true → (have && not any) ≡ false
    bits have any is = grind (arith, nat_tests)

    no_bits : (have apart rest : Bool) → not apart ≡ true → ((have && apart) && rest) ≡ false
    no_bits have apart rest is = grind (arith, nat_tests)

    keep : (have apart : Bool) → not apart ≡ false → (have && apart) ≡ have
    keep have apart is = grind (arith, nat_tests)

    has : HasHead files file
    has = has_head files file sorted there

    -- the head of its group is another, and goes ahead of it
    other_head : is_one file has.head ≡ false
    other_head = to_false (is_one file has.head) (λ one.
        sym has.leading ∙ (ap (leads files) (sym (one_of goes_by_group by_group file has.head one)) ∙ behind))

    by_test : (answer : Bool) → is_one file waiter ≡ answer → leads (without goes_by_group file files) waiter ≡ leads files waiter
    by_test true is =
        ap (λ (test : Bool). test && not (list_any (λ other. goes_ahead other waiter) (without goes_by_group file files)))
        (has_without goes_by_group by_group file waiter files)
        ∙ (no_bits (has_key goes_by_group waiter files) (differs goes_by_group file waiter)
        (not (list_any (λ other. goes_ahead other waiter) (without goes_by_group file files))) is
        ∙ sym (ap (leads files) (sym (one_of goes_by_group by_group file waiter is)) ∙ behind))
    by_test false is =
        ap (λ (test : Bool). test && not (list_any (λ other. goes_ahead other waiter) (without goes_by_group file files)))
        (has_without goes_by_group by_group file waiter files ∙ keep (has_key goes_by_group waiter files) (differs goes_by_group file waiter) is)
        ∙ ap (λ (test : Bool). has_key goes_by_group waiter files && not test) same_any
      where
        same_any : list_any (λ other. goes_ahead other waiter) (without goes_by_group file files) ≡ list_any (λ other. goes_ahead other waiter) files
        same_any = by_ahead (goes_ahead file waiter) refl
          where
            by_ahead : (answer : Bool) → goes_ahead file waiter ≡ answer
                → list_any (λ other. goes_ahead other waiter) (without goes_by_group file files) ≡ list_any (λ other. goes_ahead other waiter) files
            by_ahead true goes =
                let in_front = ahead_of file has.head has.dest has.queue has.in_front other_head in
                let further = passes_on has.head file waiter in_front goes in
                any_there goes_by_group by_group (λ other. goes_ahead other waiter) has.head (without goes_by_group file files)
                (has_without goes_by_group by_group file has.head files
                ∙ (keep (has_key goes_by_group has.head files) (differs goes_by_group file has.head) other_head
                ∙ (leader files has.head has.leading).there)) further
                ∙ sym (any_there goes_by_group by_group (λ other. goes_ahead other waiter) has.head files (leader files has.head has.leading).there further)
            by_ahead false goes =
                any_filter (λ other. goes_ahead other waiter) (λ other. differs goes_by_group other file) files
                ∙ any_same (λ other. differs goes_by_group other file && goes_ahead other waiter) (λ other. goes_ahead other waiter) files
                (λ other. one_test other (differs goes_by_group other file) refl)
              where
                one_test : (other : RipeFile) (answer : Bool) → differs goes_by_group other file ≡ answer
                    → (answer && goes_ahead other waiter) ≡ goes_ahead other waiter
                one_test other true is = refl
                one_test other false is = sym (ap (λ some. goes_ahead some waiter) (one_of goes_by_group by_group other file (ap not is)) ∙ goes)
