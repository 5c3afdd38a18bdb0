-- A walk over rows, by the segments of a path.
use Rattle.std.proofs.Common.{◌≡◌, ◌≢◌, ℕ, zero, suc, ◌-◌, ◌<◌, List, [], ◌∷◌, ◌++◌, length, drop, Option, Some, None, Bool, true, false, cond, refl, sym, ap, ◌∙◌, arith, nat_eq, ◌==◌, ltb, ◌&&◌, append-nil, true≢false}
use Rattle.std.specs.Prelude.{bytes_eq, not}
use Rattle.std.proofs.lemmas.Bool.Decides.{nat_tests}
use Rattle.matchit.specs.Rows.{RowsOf}
use Rattle.std.proofs.Math.Seq.{drop-append_seam, drop-length}
use Rattle.std.proofs.lemmas.List.{length-append}
use Rattle.std.specs.Cmp.Lexicographic.{pointwise}
use Rattle.matchit.specs.Seek.{seek, param_step, step, own, or_else, has_slash, segment, cuts, longest_from, with_suffix}

-- a byte that is no slash
abbrev pub IsPlain : ℕ → Type 0
IsPlain b = (b < 256) × (b ≢ 47)

-- bytes of which none is a slash
abbrev pub IsWord : List ℕ → Type 0
IsWord [] = Unit {0}
IsWord (b ∷ w) = IsPlain b × IsWord w

-- the same as a test
abbrev pub is_word : List ℕ → Bool
is_word [] = true
is_word (b ∷ w) = (ltb b 256 && not (b == 47)) && is_word w

-- the test of a byte means that it is none
is_plain : (b : ℕ) (rest : Bool) → ((ltb b 256 && not (b == 47)) && rest) ≡ true → IsPlain b × (rest ≡ true)
is_plain b rest e = ((grind (arith, nat_tests), λ f. grind (arith, nat_tests)), grind (arith, nat_tests))

-- what passes the test is a word
pub word_of_test : (w : List ℕ) → is_word w ≡ true → IsWord w
word_of_test [] e = tt
word_of_test (b ∷ w) e = let parts = is_plain b (is_word w) e in (parts.0, word_of_test w parts.1)

-- segments, each behind a slash
abbrev pub behind : List (List ℕ) → List ℕ
behind [] = []
behind (first ∷ more) = 47 ∷ (first ++ behind more)

-- the pattern leaves the word before the word's end
abbrev pub leaves : List ℕ → List ℕ → Bool
leaves [] t = false
leaves (c ∷ w) [] = true
leaves (c ∷ w) (x ∷ t) = cond (x == c) (leaves w t) true

-- a word has no slash at its end
no_slash_ends : (n : ℕ) (text : List ℕ) → IsWord text → pointwise nat_eq (47 ∷ []) (drop n text) ≡ false
no_slash_ends zero [] i = refl
no_slash_ends (suc n) [] i = refl
no_slash_ends zero (b ∷ text) i =
    let e : (47 == b) ≡ false = grind (arith, nat_tests, i.0.1) in
    rw e refl
no_slash_ends (suc n) (b ∷ text) i = no_slash_ends n text i.1

-- a second part that fails is enough
and_false : (a b : Bool) → b ≡ false → (a && b) ≡ false
and_false true b e = e
and_false false b e = refl

-- no word ends with a slash behind something
cuts_word : (text : List ℕ) → IsWord text → cuts text (47 ∷ []) ≡ false
cuts_word text i = and_false _ _ (no_slash_ends (length text - 1) text i)

-- a slash behind a word is its end, if the word isn't empty
cuts_slash : (b : ℕ) (text : List ℕ) → cuts ((b ∷ text) ++ 47 ∷ []) (47 ∷ []) ≡ true
cuts_slash b text =
    let long : ltb 1 (length ((b ∷ text) ++ 47 ∷ [])) ≡ true = grind (arith, nat_tests, length-append text (47 ∷ [])) in
    let place : length ((b ∷ text) ++ 47 ∷ []) - 1 ≡ length (b ∷ text) = omega (arith, length-append text (47 ∷ [])) in
    rw (long, place, drop-append_seam (b ∷ text) (47 ∷ [])) refl

-- the first segment of a path, with the slash behind it
segment_word : (text : List ℕ) → IsWord text → segment text ≡ text
segment_word [] i = refl
segment_word (b ∷ text) i =
    let e : (b == 47) ≡ false = grind (arith, nat_tests, i.0.1) in
    rw e (ap (λ rest. b ∷ rest) (segment_word text i.1))

-- the same where a slash comes behind the first word
pub segment_slash : (text p : List ℕ) → IsWord text → segment (text ++ 47 ∷ p) ≡ text ++ 47 ∷ []
segment_slash [] p i = refl
segment_slash (b ∷ text) p i =
    let e : (b == 47) ≡ false = grind (arith, nat_tests, i.0.1) in
    rw e (ap (λ rest. b ∷ rest) (segment_slash text p i.1))

-- a word has no slash
has_slash_word : (text : List ℕ) → IsWord text → has_slash text ≡ false
has_slash_word [] i = refl
has_slash_word (b ∷ text) i =
    let e : (b == 47) ≡ false = grind (arith, nat_tests, i.0.1) in
    rw e (has_slash_word text i.1)

-- a path with a slash behind its first word has one
has_slash_slash : (text p : List ℕ) → has_slash (text ++ 47 ∷ p) ≡ true
has_slash_slash [] p = refl
has_slash_slash (b ∷ text) p =
    elim (b == 47) as (λ v. cond v true (has_slash (text ++ 47 ∷ p)) ≡ true) [
      | true ↦ refl
      | false ↦ has_slash_slash text p
    ]

module _ {K : Type 0} where
  -- each row with these tokens in front
  abbrev pub under : List ℕ → RowsOf K → RowsOf K
  under w [] = []
  under w ((t, key) ∷ rest) = (w ++ t, key) ∷ under w rest

  -- a row that ends here, if there is one
  abbrev pub ends_of : Option K → RowsOf K
  ends_of None = []
  ends_of (Some key) = ([], key) ∷ []

  -- rows behind a slash, and one that ends before it
  abbrev pub node : RowsOf K → Option K → RowsOf K
  node rows end = under (47 ∷ []) rows ++ ends_of end

  -- what rows behind a word answer to the segments behind it
  abbrev pub at_node : RowsOf K → Option K → List (List ℕ) → Option K
  at_node rows end [] = end
  at_node rows end (first ∷ more) = seek 0 rows (first ++ behind more)

  -- nothing in front changes nothing
  pub under_none : (rows : RowsOf K) → under [] rows ≡ rows
  under_none [] = refl
  under_none ((t, key) ∷ rows) = ap (λ rest. (t, key) ∷ rest) (under_none rows)

  -- no second answer changes nothing
  pub or_else_none : (found : Option K) → or_else found None ≡ found
  or_else_none None = refl
  or_else_none (Some key) = refl

  -- rows that begin with this byte go on behind it
  step_hit : (c : ℕ) (w : List ℕ) (rows : RowsOf K) → step c (under (c ∷ w) rows) ≡ under w rows
  step_hit c w [] = refl
  step_hit c w ((t, key) ∷ rows) =
      let e : (c == c) ≡ true = grind (arith, nat_tests) in
      rw e (ap (λ rest. (w ++ t, key) ∷ rest) (step_hit c w rows))

  -- rows that begin with another one do not
  pub step_miss : (c b : ℕ) (w : List ℕ) (rows : RowsOf K) → c ≢ b → step b (under (c ∷ w) rows) ≡ []
  step_miss c b w [] n = refl
  step_miss c b w ((t, key) ∷ rows) n =
      let e : (c == b) ≡ false = grind (arith, nat_tests) in
      rw e (step_miss c b w rows n)

  -- no row that begins with something ends here
  own_under : (c : ℕ) (w : List ℕ) (rows : RowsOf K) → own (under (c ∷ w) rows) ≡ None
  own_under c w [] = refl
  own_under c w ((t, key) ∷ rows) = own_under c w rows

  -- a slash leads to the rows behind it
  step_node : (rows : RowsOf K) (end : Option K) → step 47 (node rows end) ≡ rows
  step_node [] None = refl
  step_node [] (Some key) = refl
  step_node ((t, key) ∷ rows) end = ap (λ rest. (t, key) ∷ rest) (step_node rows end)

  -- another byte leads nowhere
  step_node-miss : (b : ℕ) (rows : RowsOf K) (end : Option K) → b ≢ 47 → step b (node rows end) ≡ []
  step_node-miss b [] None n = refl
  step_node-miss b [] (Some key) n = refl
  step_node-miss b ((t, key) ∷ rows) end n =
      let e : (47 == b) ≡ false = grind (arith, nat_tests) in
      rw e (step_node-miss b rows end n)

  -- the row that ends here is the node's
  own_node : (rows : RowsOf K) (end : Option K) → own (node rows end) ≡ end
  own_node [] None = refl
  own_node [] (Some key) = refl
  own_node ((t, key) ∷ rows) end = own_node rows end

  -- no row, no answer
  abbrev pick : Bool → ℕ → ℕ × RowsOf K
  pick slash n = cond slash (0, []) (n, [])

  -- whatever a name takes, without rows there is no answer
  none_picked : (slash : Bool) (n : ℕ) (p : List ℕ) → ((k : ℕ) → seek {K = K} k [] p ≡ None) → seek ((pick slash n).0 - 1) (pick slash n).1 p ≡ None
  none_picked true n p h = h 0
  none_picked false n p h = h (n - 1)

  -- without rows there is no answer
  pub seek_none : (n : ℕ) (p : List ℕ) → seek {K = K} n [] p ≡ None
  unfolding seek param_step
  seek_none n [] = refl
  seek_none (suc n) (b ∷ p) = seek_none n p
  seek_none zero (b ∷ p) = rw (seek_none 0 p, none_picked (has_slash (b ∷ p)) (length (b ∷ p)) p (λ k. seek_none k p)) refl

  -- a byte where no row has a name
  pub seek_byte : (rows : RowsOf K) (b : ℕ) (p : List ℕ) → step 256 rows ≡ [] → step 257 rows ≡ [] → seek 0 rows (b ∷ p) ≡ seek 0 (step b rows) p
  unfolding seek param_step
  seek_byte rows b p e f = rw (e, f, none_picked (has_slash (b ∷ p)) (length (b ∷ p)) p (λ k. seek_none k p)) (or_else_none _)

  -- behind a word another byte than a slash has no answer
  seek_node-miss : (rows : RowsOf K) (end : Option K) (b : ℕ) (p : List ℕ) → b ≢ 47 → seek 0 (node rows end) (b ∷ p) ≡ None
  seek_node-miss rows end b p n =
      seek_byte (node rows end) b p (step_node-miss 256 rows end (λ e. omega arith)) (step_node-miss 257 rows end (λ e. omega arith))
      ∙ (ap (λ rest. seek 0 rest p) (step_node-miss b rows end n) ∙ seek_none 0 p)

  -- behind a word
  pub seek_node : (rows : RowsOf K) (end : Option K) (more : List (List ℕ)) → seek 0 (node rows end) (behind more) ≡ at_node rows end more
  unfolding seek
  seek_node rows end [] = own_node rows end
  seek_node rows end (first ∷ more) =
      seek_byte (node rows end) 47 (first ++ behind more) (step_node-miss 256 rows end (λ e. omega arith)) (step_node-miss 257 rows end (λ e. omega arith))
      ∙ ap (λ rest. seek 0 rest (first ++ behind more)) (step_node rows end)

  -- rows that begin with a byte have no name there
  seek_under : (c : ℕ) (w : List ℕ) (rows : RowsOf K) (b : ℕ) (p : List ℕ) → c < 256 → seek 0 (under (c ∷ w) rows) (b ∷ p) ≡ seek 0 (step b (under (c ∷ w) rows)) p
  seek_under c w rows b p l = seek_byte (under (c ∷ w) rows) b p (step_miss c 256 w rows (λ e. omega arith)) (step_miss c 257 w rows (λ e. omega arith))

  -- and no answer to another byte
  seek_under-miss : (c : ℕ) (w : List ℕ) (rows : RowsOf K) (b : ℕ) (p : List ℕ) → c < 256 → c ≢ b → seek 0 (under (c ∷ w) rows) (b ∷ p) ≡ None
  seek_under-miss c w rows b p l n = seek_under c w rows b p l ∙ (ap (λ rest. seek 0 rest p) (step_miss c b w rows n) ∙ seek_none 0 p)

  -- rows that begin with a word: it has to be the whole segment
  pub seek_word : (w text : List ℕ) (rows : RowsOf K) (end : Option K) (more : List (List ℕ)) → IsWord w → IsWord text
      → seek 0 (under w (node rows end)) (text ++ behind more) ≡ cond (bytes_eq text w) (at_node rows end more) None
  unfolding seek
  seek_word [] [] rows end more i j = ap (λ rest. seek 0 rest (behind more)) (under_none (node rows end)) ∙ seek_node rows end more
  seek_word [] (b ∷ text) rows end more i j =
      ap (λ rest. seek 0 rest (b ∷ (text ++ behind more))) (under_none (node rows end)) ∙ seek_node-miss rows end b (text ++ behind more) j.0.1
  seek_word (c ∷ w) [] rows end [] i j = own_under c w (node rows end)
  seek_word (c ∷ w) [] rows end (first ∷ more) i j = seek_under-miss c w (node rows end) 47 (first ++ behind more) i.0.0 i.0.1
  seek_word (c ∷ w) (b ∷ text) rows end more i j = by (b == c) refl (seek_word w text rows end more i.1 j.1)
    where
      by : (same : Bool) → (b == c) ≡ same → seek 0 (under w (node rows end)) (text ++ behind more) ≡ cond (bytes_eq text w) (at_node rows end more) None
          → seek 0 (under (c ∷ w) (node rows end)) (b ∷ (text ++ behind more)) ≡ cond (same && bytes_eq text w) (at_node rows end more) None
      by true e ih =
          let is : b ≡ c = grind (arith, nat_tests) in
          rw is (seek_under c w (node rows end) c (text ++ behind more) i.0.0 ∙ (ap (λ rest. seek 0 rest (text ++ behind more)) (step_hit c w (node rows end)) ∙ ih))
      by false e ih =
          let n : c ≢ b = λ q. grind (arith, nat_tests) in
          seek_under-miss c w (node rows end) b (text ++ behind more) i.0.0 n

  -- two answers, one after the other
  or_else_steps : (a b c : Option K) → or_else (or_else a b) c ≡ or_else a (or_else b c)
  or_else_steps None b c = refl
  or_else_steps (Some key) b c = refl

  -- of two lists of rows the second one's row may end here
  own_append : (c : ℕ) (w : List ℕ) (rows others : RowsOf K) → own (under (c ∷ w) rows ++ others) ≡ own others
  own_append c w [] others = refl
  own_append c w ((t, key) ∷ rows) others = own_append c w rows others

  -- the rows that go on are those of both lists
  step_append : (b : ℕ) (rows others : RowsOf K) → step b (rows ++ others) ≡ step b rows ++ step b others
  step_append b [] others = refl
  step_append b (([], key) ∷ rows) others = step_append b rows others
  step_append b ((x ∷ t, key) ∷ rows) others =
      elim (x == b) as (λ v. cond v ((t, key) ∷ step b (rows ++ others)) (step b (rows ++ others)) ≡ cond v ((t, key) ∷ step b rows) (step b rows) ++ step b others) [
        | true ↦ ap (λ rest. (t, key) ∷ rest) (step_append b rows others)
        | false ↦ step_append b rows others
      ]

  -- each of these patterns does
  abbrev pub all_leave : List ℕ → RowsOf K → Bool
  all_leave w [] = true
  all_leave w ((t, key) ∷ rows) = leaves w t && all_leave w rows

  -- rows that leave no word before its end are none
  all_leave-none : (rows : RowsOf K) → all_leave [] rows ≡ true → rows ≡ []
  all_leave-none [] e = refl
  all_leave-none ((t, key) ∷ rows) e = absurd (true≢false (sym e))

  -- rows that leave a word behind its first byte still leave what is left
  all_leave-step : (c : ℕ) (w : List ℕ) (rows : RowsOf K) → all_leave (c ∷ w) rows ≡ true → all_leave w (step c rows) ≡ true
  all_leave-step c w [] e = refl
  all_leave-step c w (([], key) ∷ rows) e = all_leave-step c w rows e
  all_leave-step c w ((x ∷ t, key) ∷ rows) e = by (x == c) e (all_leave-step c w rows)
    where
      both : (a b : Bool) → (a && b) ≡ true → (b ≡ true → all_leave w (step c rows) ≡ true) → (a && all_leave w (step c rows)) ≡ true
      both true b f next = next f
      both false b f next = absurd (true≢false (sym f))

      by : (same : Bool) → (cond same (leaves w t) true && all_leave (c ∷ w) rows) ≡ true → (all_leave (c ∷ w) rows ≡ true → all_leave w (step c rows) ≡ true)
          → all_leave w (cond same ((t, key) ∷ step c rows) (step c rows)) ≡ true
      by true f next = both (leaves w t) (all_leave (c ∷ w) rows) f next
      by false f next = next f

  -- what rows with a name answer, besides those that go on with the byte
  abbrev others : RowsOf K → RowsOf K → ℕ → List ℕ → Option K
  others named caught b p = or_else (seek ((param_step named (b ∷ p)).0 - 1) (param_step named (b ∷ p)).1 p) (own caught)

  -- rows that begin with a word, and rows that leave it before its end
  pub seek_apart : (w : List ℕ) (rows rest : RowsOf K) (p : List ℕ) → IsWord w → all_leave w rest ≡ true
      → seek 0 (under w rows ++ rest) p ≡ or_else (seek 0 (under w rows) p) (seek 0 rest p)
  unfolding seek
  seek_apart [] rows rest p i e =
      let none : rest ≡ [] = all_leave-none rest e in
      rw (none, append-nil (under [] rows), seek_none 0 p) (sym (or_else_none _))
  seek_apart (c ∷ w) rows rest [] i e = rw (own_append c w rows rest, own_under c w rows) refl
  seek_apart (c ∷ w) rows rest (b ∷ p) i e =
      let named : step 256 (under (c ∷ w) rows ++ rest) ≡ step 256 rest = step_append 256 (under (c ∷ w) rows) rest ∙ ap (λ front. front ++ step 256 rest) (step_miss c 256 w rows (λ q. omega arith)) in
      let caught : step 257 (under (c ∷ w) rows ++ rest) ≡ step 257 rest = step_append 257 (under (c ∷ w) rows) rest ∙ ap (λ front. front ++ step 257 rest) (step_miss c 257 w rows (λ q. omega arith)) in
      ap (λ found. or_else (seek 0 (step b (under (c ∷ w) rows ++ rest)) p) found) (ap (λ n. others n (step 257 (under (c ∷ w) rows ++ rest)) b p) named ∙ ap (λ n. others (step 256 rest) n b p) caught)
      ∙ (ap (λ front. or_else (seek 0 front p) (others (step 256 rest) (step 257 rest) b p)) (step_append b (under (c ∷ w) rows) rest)
      ∙ (by (b == c) refl (seek_apart w rows (step b rest) p i.1) ∙ ap (λ found. or_else found (seek 0 rest (b ∷ p))) (sym (seek_under c w rows b p i.0.0))))
    where
      by : (same : Bool) → (b == c) ≡ same
          → (all_leave w (step b rest) ≡ true → seek 0 (under w rows ++ step b rest) p ≡ or_else (seek 0 (under w rows) p) (seek 0 (step b rest) p))
          → or_else (seek 0 (step b (under (c ∷ w) rows) ++ step b rest) p) (others (step 256 rest) (step 257 rest) b p)
          ≡ or_else (seek 0 (step b (under (c ∷ w) rows)) p) (or_else (seek 0 (step b rest) p) (others (step 256 rest) (step 257 rest) b p))
      by true f ih =
          let is : b ≡ c = grind (arith, nat_tests) in
          let stepped : step b (under (c ∷ w) rows) ≡ under w rows = rw is (step_hit c w rows) in
          let leave : all_leave w (step b rest) ≡ true = rw is (all_leave-step c w rest e) in
          rw stepped (ap (λ found. or_else found (others (step 256 rest) (step 257 rest) b p)) (ih leave) ∙ or_else_steps (seek 0 (under w rows) p) (seek 0 (step b rest) p) (others (step 256 rest) (step 257 rest) b p))
      by false f ih =
          let n : c ≢ b = λ q. grind (arith, nat_tests) in
          rw (step_miss c b w rows n, seek_none 0 p) refl

  -- what a name takes is passed over
  seek_skip : (n : ℕ) (rows : RowsOf K) (p : List ℕ) → seek n rows p ≡ seek 0 rows (drop n p)
  unfolding seek
  seek_skip zero rows p = refl
  seek_skip (suc n) rows [] = refl
  seek_skip (suc n) rows (b ∷ p) = seek_skip n rows p

  -- rows of which each begins with a name, at a byte: on behind what the name takes
  abbrev pub go_on : ℕ × RowsOf K → List ℕ → Option K
  go_on taken p = seek (taken.0 - 1) taken.1 p

  -- at a byte of the path rows that begin with a name answer by what the name takes
  seek_named : (rows : RowsOf K) (b : ℕ) (p : List ℕ) → b < 256 → seek 0 (under (256 ∷ []) rows) (b ∷ p) ≡ go_on (param_step rows (b ∷ p)) p
  unfolding seek
  seek_named rows b p l =
      let away : step b (under (256 ∷ []) rows) ≡ [] = step_miss 256 b [] rows (λ e. omega arith) in
      let named : step 256 (under (256 ∷ []) rows) ≡ rows = step_hit 256 [] rows ∙ under_none rows in
      let caught : step 257 (under (256 ∷ []) rows) ≡ [] = step_miss 256 257 [] rows (λ e. omega arith) in
      rw (away, named, caught, seek_none 0 p) (or_else_none _)

  -- what a name takes, by the longest suffix of its segment that a row goes on with: none, or the slash
  taken_none : (rows : RowsOf K) (path : List ℕ) → longest_from (segment path) [] rows ≡ [] → param_step rows path ≡ cond (has_slash path) (0, []) (length path, rows)
  unfolding param_step
  taken_none rows path e = rw e refl

  -- it takes the segment but for its slash, and the rows with a slash go on
  taken_some : (rows : RowsOf K) (path : List ℕ) → longest_from (segment path) [] rows ≡ 47 ∷ [] → param_step rows path ≡ (length (segment path) - 1, with_suffix (47 ∷ []) rows)
  unfolding param_step
  taken_some rows path e = rw e refl

  -- in a segment without a slash no suffix is found
  longest_word : (seg : List ℕ) (rows : RowsOf K) (end : Option K) → cuts seg (47 ∷ []) ≡ false → longest_from seg [] (node rows end) ≡ []
  longest_word seg [] None e = refl
  longest_word seg [] (Some key) e = refl
  longest_word seg ((t, key) ∷ rows) end e = ap (λ cut. longest_from seg (cond cut (47 ∷ []) []) (node rows end)) e ∙ longest_word seg rows end e

  -- nor where no row goes on behind a slash
  longest_end : (seg : List ℕ) (end : Option K) → longest_from seg [] (node [] end) ≡ []
  longest_end seg None = refl
  longest_end seg (Some key) = refl

  -- a slash that was found is the longest suffix
  longest_slash : (seg : List ℕ) (rows : RowsOf K) (end : Option K) → longest_from seg (47 ∷ []) (node rows end) ≡ 47 ∷ []
  longest_slash seg [] None = refl
  longest_slash seg [] (Some key) = refl
  longest_slash seg ((t, key) ∷ rows) end = longest_slash seg rows end

  -- the rows with a slash are those of the node
  with_slash : (rows : RowsOf K) (end : Option K) → with_suffix (47 ∷ []) (node rows end) ≡ under (47 ∷ []) rows
  with_slash [] None = refl
  with_slash [] (Some key) = refl
  with_slash ((t, key) ∷ rows) end = ap (λ rest. (47 ∷ t, key) ∷ rest) (with_slash rows end)

  -- a name before a slash, where no row goes on
  name_stops : (b : ℕ) (text p : List ℕ) (end : Option K) → IsWord (b ∷ text) → go_on (param_step (node [] end) (b ∷ (text ++ 47 ∷ p))) (text ++ 47 ∷ p) ≡ None
  name_stops b text p end i =
      let taken : param_step (node [] end) (b ∷ (text ++ 47 ∷ p)) ≡ (0, []) =
      taken_none (node [] end) (b ∷ (text ++ 47 ∷ p)) (longest_end (segment (b ∷ (text ++ 47 ∷ p))) end)
      ∙ ap (λ slash. cond slash (0, []) (length (b ∷ (text ++ 47 ∷ p)), node [] end)) (has_slash_slash (b ∷ text) p)
      in
      ap (λ taken. go_on taken (text ++ 47 ∷ p)) taken ∙ seek_none 0 (text ++ 47 ∷ p)

  -- the same, where rows go on
  name_goes : (b : ℕ) (text p : List ℕ) (t : List ℕ) (key : K) (rows : RowsOf K) (end : Option K) → IsWord (b ∷ text)
      → go_on (param_step (node ((t, key) ∷ rows) end) (b ∷ (text ++ 47 ∷ p))) (text ++ 47 ∷ p) ≡ seek 0 ((t, key) ∷ rows) p
  name_goes b text p t key rows end i =
      let seg : segment (b ∷ (text ++ 47 ∷ p)) ≡ (b ∷ text) ++ 47 ∷ [] = segment_slash (b ∷ text) p i in
      let ends : cuts (segment (b ∷ (text ++ 47 ∷ p))) (47 ∷ []) ≡ true = ap (λ seg. cuts seg (47 ∷ [])) seg ∙ cuts_slash b text in
      let longest : longest_from (segment (b ∷ (text ++ 47 ∷ p))) [] (node ((t, key) ∷ rows) end) ≡ 47 ∷ [] =
      ap (λ cut. longest_from (segment (b ∷ (text ++ 47 ∷ p))) (cond cut (47 ∷ []) []) (node rows end)) ends
      ∙ longest_slash (segment (b ∷ (text ++ 47 ∷ p))) rows end
      in
      let place : (length (segment (b ∷ (text ++ 47 ∷ p))) - 1) - 1 ≡ length text = omega (arith, ap length seg, length-append text (47 ∷ [])) in
      let node_none : under (47 ∷ []) ((t, key) ∷ rows) ≡ node ((t, key) ∷ rows) None = sym (append-nil (under (47 ∷ []) ((t, key) ∷ rows))) in
      ap (λ taken. go_on taken (text ++ 47 ∷ p)) (taken_some (node ((t, key) ∷ rows) end) (b ∷ (text ++ 47 ∷ p)) longest)
      ∙ (ap (λ after. seek ((length (segment (b ∷ (text ++ 47 ∷ p))) - 1) - 1) after (text ++ 47 ∷ p)) (with_slash ((t, key) ∷ rows) end ∙ node_none)
      ∙ (ap (λ n. seek n (node ((t, key) ∷ rows) None) (text ++ 47 ∷ p)) place
      ∙ (seek_skip (length text) (node ((t, key) ∷ rows) None) (text ++ 47 ∷ p)
      ∙ (ap (λ rest. seek 0 (node ((t, key) ∷ rows) None) rest) (drop-append_seam text (47 ∷ p))
      ∙ (seek_byte (node ((t, key) ∷ rows) None) 47 p (step_node-miss 256 ((t, key) ∷ rows) None (λ e. omega arith)) (step_node-miss 257 ((t, key) ∷ rows) None (λ e. omega arith))
      ∙ ap (λ rest. seek 0 rest p) (step_node ((t, key) ∷ rows) None))))))

  -- a name at the end of a path
  name_ends : (b : ℕ) (text : List ℕ) (rows : RowsOf K) (end : Option K) → IsWord (b ∷ text) → go_on (param_step (node rows end) (b ∷ text)) text ≡ end
  unfolding seek
  name_ends b text rows end i =
      let seg : segment (b ∷ text) ≡ b ∷ text = segment_word (b ∷ text) i in
      let ends : cuts (segment (b ∷ text)) (47 ∷ []) ≡ false = ap (λ seg. cuts seg (47 ∷ [])) seg ∙ cuts_word (b ∷ text) i in
      let taken : param_step (node rows end) (b ∷ text) ≡ (length (b ∷ text), node rows end) =
      taken_none (node rows end) (b ∷ text) (longest_word (segment (b ∷ text)) rows end ends)
      ∙ ap (λ slash. cond slash (0, []) (length (b ∷ text), node rows end)) (has_slash_word (b ∷ text) i)
      in
      let place : length (b ∷ text) - 1 ≡ length text = omega arith in
      ap (λ taken. go_on taken text) taken
      ∙ (ap (λ n. seek n (node rows end) text) place
      ∙ (seek_skip (length text) (node rows end) text
      ∙ (ap (λ rest. seek 0 (node rows end) rest) (drop-length text) ∙ own_node rows end)))

  -- rows that begin with a name: it takes a whole segment, of one byte at least
  pub seek_name : (text : List ℕ) (rows : RowsOf K) (end : Option K) (more : List (List ℕ)) → IsWord text
      → seek 0 (under (256 ∷ []) (node rows end)) (text ++ behind more) ≡ cond (bytes_eq text []) None (at_node rows end more)
  unfolding seek
  seek_name [] rows end [] i = own_under 256 [] (node rows end)
  seek_name [] rows end (first ∷ more) i =
      let p = first ++ behind more in
      let taken : param_step (node rows end) (47 ∷ p) ≡ (0, []) = taken_none (node rows end) (47 ∷ p) (longest_word (47 ∷ []) rows end refl) in
      seek_named (node rows end) 47 p (omega arith) ∙ (ap (λ taken. go_on taken p) taken ∙ seek_none 0 p)
  seek_name (b ∷ text) rows end [] i =
      rw (append-nil text) (seek_named (node rows end) b text i.0.0 ∙ name_ends b text rows end i)
  seek_name (b ∷ text) [] end (first ∷ more) i =
      let p = first ++ behind more in
      seek_named (node [] end) b (text ++ 47 ∷ p) i.0.0 ∙ (name_stops b text p end i ∙ sym (seek_none 0 p))
  seek_name (b ∷ text) ((t, key) ∷ rows) end (first ∷ more) i =
      let p = first ++ behind more in
      seek_named (node ((t, key) ∷ rows) end) b (text ++ 47 ∷ p) i.0.0 ∙ name_goes b text p t key rows end i
