-- The options of words, read one after another.
use Rattle.std.proofs.Common.{◌≡◌, ℕ, ◌+◌, ◌<◌, arith, Bor, Global, String, string_bytes, map, drop, get_or, length, add-one, drop-cons, Bool, true, false, ◌||◌, ◌&&◌, not, if◌then◌else◌, List, [], ◌∷◌, ◌++◌, Option, Some, None, refl, ap, sym, ◌∙◌, subst, append_assoc, append-nil}
use Rattle.std.proofs.lemmas.List.Folds.{list_any-append}
use Rattle.std.proofs.lemmas.Bool.Decides.{nat_tests}
use Rattle.std.proofs.Math.ListN.{get_or-map}
use Rattle.std.proofs.lemmas.List.{length-map}
use Rattle.std.specs.Option.{option_copied}
use Rattle.std.specs.Prelude.{option_map, option_and_then}
use Rattle.std.specs.List.{list_any, position_or_len, before_first, after_first}
use Rattle.fts_tables.specs.SettingsData.{are_apart}
use Rattle.fts_words.specs.Words.{option_of, options_behind, before_others, has_value, is_equals, is_same_option, each_once, numbers_of, asked_with, asked_of}
use Rattle.fts_words.specs.declared.asked.Command.{Command}
use Rattle.fts_words.specs.declared.options.Given.{Given}
use Rattle.fts_words.specs.declared.options.Numbers.{Numbers}
use Rattle.fts_words.proofs.Given.{Taken}
use Rattle.fts_words.proofs.Walked.{name_of_given, same_by_name, same_turned}

-- options before others, where there are such
abbrev pub joined : List Given → Option (List Given) → Option (List Given)
joined done rest = option_map (λ more. done ++ more) rest

-- these options were read, with these numbers, and words are left, with a name that waits for its value
pub record SoFar (command : Command) (words behind : List (List ℕ)) (waiting : Option (List ℕ)) (numbers : Numbers) : Type 0 where
  pub done : List Given
  pub apart : are_apart is_same_option done ≡ true
  pub are : numbers ≡ numbers_of done
  pub joins : options_behind command None words ≡ joined done (options_behind command waiting behind)

-- the next option was cut off the words
pub record Cuts (command : Command) (words rest : List (List ℕ)) (next : Option Given) (numbers : Numbers) : Type 0 where
  pub done : List Given
  pub apart : are_apart is_same_option done ≡ true
  pub are : numbers ≡ numbers_of done
  pub joins : options_behind command None words ≡ joined done (option_and_then (before_others (options_behind command None rest)) next)

-- options have the same name in both orders
same_option : (one other : Given) → is_same_option one other ≡ is_same_option other one
same_option one other = same_by_name one other ∙ same_turned (name_of_given other) (name_of_given one) ∙ sym (same_by_name other one)

-- one that is told apart from all before it
any_back : (option : Given) (done : List Given) → list_any (λ one. is_same_option one option) done ≡ list_any (is_same_option option) done
any_back option [] = refl
any_back option (one ∷ done) = rw (same_option one option, any_back option done) refl

-- four tests in two orders
regrouped : (a b c d : Bool) → (not (a || (b || false)) && (c && not d)) ≡ ((not a && c) && not (b || d))
regrouped a b c d = grind (arith, nat_tests)

-- a list with one more at its end
apart_more : (done : List Given) (option : Given) → are_apart is_same_option (done ++ option ∷ [])
    ≡ (are_apart is_same_option done && not (list_any (λ one. is_same_option one option) done))
apart_more [] option = refl
apart_more (one ∷ done) option =
    ap (λ found. not found && are_apart is_same_option (done ++ option ∷ [])) (list_any-append (is_same_option one) done (option ∷ []))
    ∙ ap (λ rest. not (list_any (is_same_option one) done || (is_same_option one option || false)) && rest) (apart_more done option)
    ∙ regrouped (list_any (is_same_option one) done) (is_same_option one option) (are_apart is_same_option done) (list_any (λ other. is_same_option other option) done)

-- a list that isn't apart stays so with more behind it
never_apart : (done more : List Given) → are_apart is_same_option done ≡ false → are_apart is_same_option (done ++ more) ≡ false
never_apart [] more is = cc
never_apart (one ∷ done) more is =
    by_first (list_any (is_same_option one) done) (list_any-append (is_same_option one) done more) is (λ all. never_apart done more all)
  where
    none : (b : Bool) → (b && false) ≡ false
    none true = refl
    none false = refl

    by_first : (b : Bool) → list_any (is_same_option one) (done ++ more) ≡ (b || list_any (is_same_option one) more) → (not b && are_apart is_same_option done) ≡ false
        → (are_apart is_same_option done ≡ false → are_apart is_same_option (done ++ more) ≡ false)
        → (not (list_any (is_same_option one) (done ++ more)) && are_apart is_same_option (done ++ more)) ≡ false
    by_first true any is behind = ap (λ (b : Bool). not b && are_apart is_same_option (done ++ more)) any
    by_first false any is behind = ap (λ (b : Bool). not (list_any (is_same_option one) (done ++ more)) && b) (behind is)
        ∙ none (not (list_any (is_same_option one) (done ++ more)))

join_one : (done : List Given) (option : Given) (rest : Option (List Given)) → joined done (before_others rest option) ≡ joined (done ++ option ∷ []) rest
join_one done option None = refl
join_one done option (Some more) = ap (λ (l : List Given). Some l) (sym (append_assoc done (option ∷ []) more))

join_none : (rest : Option (List Given)) → rest ≡ joined [] rest
join_none None = refl
join_none (Some more) = refl

module _ (command : Command) (words : List (List ℕ)) where
  pub begins : (numbers : Numbers) → numbers ≡ numbers_of [] → SoFar command words words None numbers
  begins numbers are = record { done = []; apart = refl; are = are; joins = join_none (options_behind command None words) }

  module _ (word : List ℕ) (rest : List (List ℕ)) (numbers : Numbers) where
    -- a name waited for this word
    pub cut_waiting : (name : List ℕ) → SoFar command words (word ∷ rest) (Some name) numbers → Cuts command words rest (option_of command name word) numbers
    cut_waiting name so_far = record { done = so_far.done; apart = so_far.apart; are = so_far.are; joins = so_far.joins }

    -- what no name waited for, by whether it has its value behind an equals sign
    joins_by : (so_far : SoFar command words (word ∷ rest) None numbers) (b : Bool) → has_value word ≡ b → options_behind command None words ≡ joined so_far.done
        (if b then option_and_then (before_others (options_behind command None rest)) (option_of command (before_first is_equals word) (after_first is_equals word))
        else options_behind command (Some word) rest)
    joins_by so_far b has = so_far.joins ∙ ap (λ (b : Bool). joined so_far.done
        (if b then option_and_then (before_others (options_behind command None rest)) (option_of command (before_first is_equals word) (after_first is_equals word))
        else options_behind command (Some word) rest)) has

    -- the word has its value behind an equals sign
    pub cut_equals : has_value word ≡ true → SoFar command words (word ∷ rest) None numbers
        → Cuts command words rest (option_of command (before_first is_equals word) (after_first is_equals word)) numbers
    cut_equals has so_far = record {
      done = so_far.done;
      apart = so_far.apart;
      are = so_far.are;
      joins = joins_by so_far true has;
    }

    -- the word is a name, whose value is to come
    pub waits : has_value word ≡ false → SoFar command words (word ∷ rest) None numbers → SoFar command words rest (Some word) numbers
    waits has so_far = record {
      done = so_far.done;
      apart = so_far.apart;
      are = so_far.are;
      joins = joins_by so_far false has;
    }

  asked_by : (o : Option (List Given)) → options_behind command None words ≡ o
      → asked_of command words ≡ option_and_then (λ options. asked_with command (numbers_of options)) (option_and_then each_once o)
  asked_by o is = ap (λ (x : Option (List Given)). option_and_then (λ options. asked_with command (numbers_of options)) (option_and_then each_once x)) is

  module _ (rest : List (List ℕ)) (numbers : Numbers) where
    -- it is none that the command has
    pub cut_none : Cuts command words rest None numbers → None ≡ asked_of command words
    cut_none cuts = sym (asked_by None cuts.joins)

    module _ (option : Given) (cuts : Cuts command words rest (Some option) numbers) (result : Option Numbers)
        (taken : (before : List Given) → numbers ≡ numbers_of before → Taken before option result) where
      -- it was there already
      pub cut_twice : result ≡ None → None ≡ asked_of command words
      cut_twice is = by_any (list_any (is_same_option option) cuts.done) refl (sym is ∙ taken cuts.done cuts.are)
        where
          by_rest : list_any (is_same_option option) cuts.done ≡ true → (others : Option (List Given)) → options_behind command None words ≡ joined (cuts.done ++ option ∷ []) others
              → None ≡ asked_of command words
          by_rest twice None is = sym (asked_by None is)
          by_rest twice (Some more) is =
              let not_apart : are_apart is_same_option (cuts.done ++ option ∷ []) ≡ false = apart_more cuts.done option
              ∙ rw (any_back option cuts.done, twice, cuts.apart) refl in
              sym (asked_by (Some ((cuts.done ++ option ∷ []) ++ more)) is
              ∙ ap (λ (b : Bool). option_and_then (λ options. asked_with command (numbers_of options)) (if b then Some ((cuts.done ++ option ∷ []) ++ more) else None))
              (never_apart (cuts.done ++ option ∷ []) more not_apart))

          by_any : (b : Bool) → list_any (is_same_option option) cuts.done ≡ b → None ≡ (if b then None else Some (numbers_of (cuts.done ++ option ∷ [])))
              → None ≡ asked_of command words
          by_any true any told = by_rest any (options_behind command None rest) (cuts.joins ∙ join_one cuts.done option (options_behind command None rest))
          by_any false any told = cc

      -- it is one more
      pub cut_more : (now : Numbers) → result ≡ Some now → SoFar command words rest None now
      cut_more now is = by_any (list_any (is_same_option option) cuts.done) refl (sym is ∙ taken cuts.done cuts.are)
        where
          by_any : (b : Bool) → list_any (is_same_option option) cuts.done ≡ b → Some now ≡ (if b then None else Some (numbers_of (cuts.done ++ option ∷ [])))
              → SoFar command words rest None now
          by_any true any told = cc
          by_any false any told = record {
            done = cuts.done ++ option ∷ [];
            apart = apart_more cuts.done option ∙ rw (any_back option cuts.done, any, cuts.apart) refl;
            are = cc;
            joins = cuts.joins ∙ join_one cuts.done option (options_behind command None rest);
          }

  module _ (numbers : Numbers) where
    -- a name has no value
    pub ends_waiting : (name : List ℕ) → SoFar command words [] (Some name) numbers → None ≡ asked_of command words
    ends_waiting name so_far = sym (asked_by None so_far.joins)

    -- all words were read
    pub ends : SoFar command words [] None numbers → asked_with command numbers ≡ asked_of command words
    ends so_far = sym (asked_by (Some (so_far.done ++ [])) so_far.joins ∙ rw (append-nil so_far.done, so_far.apart, ← so_far.are) refl)

-- the words that are left begin with this one
pub dropped : (all : List (String Global)) (i : ℕ) (word : String Global) → i < length all → word ≡ get_or all i word
    → drop i (map string_bytes all) ≡ string_bytes word ∷ drop (i + 1) (map string_bytes all)
dropped all i word inside is =
    let within : i < length (map string_bytes all) = omega (arith, length-map all string_bytes, inside) in
    drop-cons (map string_bytes all) i (string_bytes word) within
    ∙ rw (get_or-map string_bytes all i word, ← is, ← add-one) refl

module _ (command : Command) (all : List (String Global)) (i : ℕ) (word : String Global) (inside : i < length all) (is : word ≡ get_or all i word) (numbers : Numbers) where
  module _ (waiting : Option (Bor (List ℕ))) (so_far : SoFar command (map string_bytes all) (drop i (map string_bytes all)) (option_copied waiting) numbers)
      (text : List ℕ) (reads : text ≡ string_bytes word) where
    here : SoFar command (map string_bytes all) (text ∷ drop (i + 1) (map string_bytes all)) (option_copied waiting) numbers
    here = subst (λ (l : List (List ℕ)). SoFar command (map string_bytes all) l (option_copied waiting) numbers)
        (dropped all i word inside is ∙ ap (λ (t : List ℕ). t ∷ drop (i + 1) (map string_bytes all)) (sym reads)) so_far

    -- a name waited for this word
    pub reads_waiting : (name : Bor (List ℕ)) (next : Option Given) → waiting ≡ Some name → next ≡ option_of command name.now text
        → Cuts command (map string_bytes all) (drop (i + 1) (map string_bytes all)) next numbers
    reads_waiting name next waits is =
        subst (λ (o : Option Given). Cuts command (map string_bytes all) (drop (i + 1) (map string_bytes all)) o numbers) (sym is)
        (cut_waiting command (map string_bytes all) text (drop (i + 1) (map string_bytes all)) numbers name.now
        (subst (λ (w : Option (Bor (List ℕ))). SoFar command (map string_bytes all) (text ∷ drop (i + 1) (map string_bytes all)) (option_copied w) numbers) waits here))

    module _ (none : waiting ≡ None) where
      free : SoFar command (map string_bytes all) (text ∷ drop (i + 1) (map string_bytes all)) None numbers
      free = subst (λ (w : Option (Bor (List ℕ))). SoFar command (map string_bytes all) (text ∷ drop (i + 1) (map string_bytes all)) (option_copied w) numbers) none here

      -- the word has its value behind an equals sign
      pub reads_equals : (name value : List ℕ) (next : Option Given) → position_or_len is_equals text < length text
          → name ≡ before_first is_equals text → value ≡ after_first is_equals text → next ≡ option_of command name value
          → Cuts command (map string_bytes all) (drop (i + 1) (map string_bytes all)) next numbers
      reads_equals name value next there is_name is_value is =
          let has : has_value text ≡ true = grind (arith, nat_tests) in
          subst (λ (o : Option Given). Cuts command (map string_bytes all) (drop (i + 1) (map string_bytes all)) o numbers)
          (sym (is ∙ rw (is_name, is_value) refl))
          (cut_equals command (map string_bytes all) text (drop (i + 1) (map string_bytes all)) numbers has free)

      -- the word is a name
      pub reads_name : position_or_len is_equals text ≡ length text → SoFar command (map string_bytes all) (drop (i + 1) (map string_bytes all)) (Some text) numbers
      reads_name all_before =
          let has : has_value text ≡ false = grind (arith, nat_tests) in
          waits command (map string_bytes all) text (drop (i + 1) (map string_bytes all)) numbers has free
