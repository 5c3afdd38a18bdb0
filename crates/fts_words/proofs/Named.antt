-- The paths that accepted words name: a socket is named exactly where there is its option, and the words that are left are read one after another.
use Rattle.std.proofs.Common.{◌≡◌, ℕ, ◌+◌, ◌<◌, ◌≤◌, arith, Bor, Global, String, string_bytes, map, drop, length, get_or, Bool, true, false, ◌||◌, not, if◌then◌else◌, List, [], ◌∷◌, Option, Some, None, refl, ap, sym, ◌∙◌, subst}
use Rattle.std.proofs.lemmas.Bool.Decides.{nat_tests}
use Rattle.std.proofs.lemmas.List.{length-map, drop_all}
use Rattle.std.specs.Option.{option_copied}
use Rattle.std.specs.Prelude.{IfSome, is_some, codes, bytes_eq, option_map, option_and_then}
use Rattle.std.specs.List.{list_any, position_or_len, before_first, after_first}
use Rattle.fts_words.specs.Words.{asked_in, asked_of, asked_with, serve_with, numbers_of, command_named, option_of, options_behind, before_others, has_value, is_equals, is_same_option, socket_in, value_behind, IsServedAt}
use Rattle.fts_words.specs.declared.asked.Asked.{Asked}
use Rattle.fts_words.specs.declared.asked.Asked.TheVariants as asks
use Rattle.fts_words.specs.declared.asked.Command.{Command}
use Rattle.fts_words.specs.declared.asked.Command.TheVariants.{Session, Show, Load, Serve, Submit, Query, Delete, Follow}
use Rattle.fts_words.specs.declared.options.Given.{Given}
use Rattle.fts_words.specs.declared.options.Given.TheVariants.{Port, Lanes, Connections, Number, Tries, Job, Socket, Log}
use Rattle.fts_words.specs.declared.options.Numbers.{Numbers}
use Rattle.fts_words.proofs.Taking.{word_of}
use Rattle.fts_words.proofs.Walked.{name_of_given, option_is, Opens, opens}
use Rattle.fts_words.proofs.Entered.{are_once}
use Rattle.fts_words.proofs.Reading.{dropped}

-- the name of a socket's option
abbrev named : List ℕ
named = codes "--socket"

socket_word : (option : Given) → bytes_eq (word_of (name_of_given option)) named ≡ is_same_option Socket option
socket_word (Port n) = refl
socket_word option = refl

same_word : (command : Command) (word value : List ℕ) (option : Given) → option_of command word value ≡ Some option → bytes_eq word named ≡ is_same_option Socket option
same_word command word value option is = ap (λ (w : List ℕ). bytes_eq w named) (option_is command word value option is).named.named ∙ socket_word option

-- words name a socket exactly where it is one of their options
abbrev NamesIt : Command → List (List ℕ) → Type 0
NamesIt command words = (options : List Given) → options_behind command None words ≡ Some options → is_some (value_behind named None words) ≡ list_any (is_same_option Socket) options

one_more : (command : Command) (word value : List ℕ) (behind : List (List ℕ)) (options : List Given) → Opens command word value behind options → NamesIt command behind
    → is_some (if bytes_eq word named then Some value else value_behind named None behind) ≡ list_any (is_same_option Socket) options
one_more command word value behind options opened names =
    by_test (bytes_eq word named) (same_word command word value opened.option opened.is)
    ∙ ap (λ (l : List Given). list_any (is_same_option Socket) l) (sym opened.all)
  where
    by_test : (b : Bool) → b ≡ is_same_option Socket opened.option
        → is_some (if b then Some value else value_behind named None behind) ≡ (is_same_option Socket opened.option || list_any (is_same_option Socket) opened.more)
    by_test true same = ap (λ (b : Bool). b || list_any (is_same_option Socket) opened.more) same
    by_test false same = names opened.more opened.rest ∙ ap (λ (b : Bool). b || list_any (is_same_option Socket) opened.more) same

by_word : (command : Command) (word : List ℕ) (words : List (List ℕ)) → NamesIt command words
    → ((value : List ℕ) (behind : List (List ℕ)) → words ≡ value ∷ behind → NamesIt command behind) → NamesIt command (word ∷ words)
by_word command word words joined parted options found = by_value (has_value word) found
  where
    waits : (l : List (List ℕ)) → words ≡ l → options_behind command (Some word) l ≡ Some options
        → is_some (value_behind named (Some word) l) ≡ list_any (is_same_option Socket) options
    waits [] same none = absurd cc
    waits (value ∷ behind) same is = one_more command word value behind options (opens command word value behind options is) (parted value behind same)

    by_value : (b : Bool)
        → (if b then option_and_then (before_others (options_behind command None words)) (option_of command (before_first is_equals word) (after_first is_equals word)) else options_behind command (Some word) words) ≡ Some options
        → is_some (if b then (if bytes_eq (before_first is_equals word) named then Some (after_first is_equals word) else value_behind named None words) else value_behind named (Some word) words)
        ≡ list_any (is_same_option Socket) options
    by_value true is = one_more command (before_first is_equals word) (after_first is_equals word) words options
        (opens command (before_first is_equals word) (after_first is_equals word) words options is) joined
    by_value false is = waits words refl is

names_none : (command : Command) → NamesIt command []
names_none command options found = let none : options ≡ [] = cc in ap (λ (l : List Given). list_any (is_same_option Socket) l) (sym none)

names_it : (command : Command) (words : List (List ℕ)) → NamesIt command words
names_it command [] = names_none command
names_it command (word ∷ []) = by_word command word [] (names_none command) (λ value behind none. absurd cc)
names_it command (word ∷ value ∷ behind) = by_word command word (value ∷ behind) (names_it command (value ∷ behind))
    (λ one more same. let e : more ≡ behind = cc in subst (NamesIt command) (sym e) (names_it command behind))

-- a port is there exactly where no socket is
served_at : (lanes : ℕ) (connections port : Option ℕ) (socket : Bool) (p : Option ℕ) (l : ℕ) (c : Option ℕ)
    → serve_with lanes connections port socket ≡ Some (asks.Serve p l c) → socket ≡ not (is_some p)
served_at lanes connections None false p l c is = absurd cc
served_at lanes connections None true p l c is = let e : None ≡ p = cc in ap (λ (o : Option ℕ). not (is_some o)) e
served_at lanes connections (Some port) false p l c is = let e : Some port ≡ p = cc in ap (λ (o : Option ℕ). not (is_some o)) e
served_at lanes connections (Some port) true p l c is = absurd cc

-- what is made of a number serves nothing
no_load : (number : Option ℕ) (p : Option ℕ) (l : ℕ) (c : Option ℕ) → option_map asks.Load number ≡ Some (asks.Serve p l c) → ⊥
no_load None p l c is = cc
no_load (Some n) p l c is = cc

no_submit : (tries : ℕ) (port : Option ℕ) (p : Option ℕ) (l : ℕ) (c : Option ℕ) → option_map (λ n. asks.Submit n tries) port ≡ Some (asks.Serve p l c) → ⊥
no_submit tries None p l c is = cc
no_submit tries (Some n) p l c is = cc

no_follow : (tries : ℕ) (port : Option ℕ) (p : Option ℕ) (l : ℕ) (c : Option ℕ) → option_map (λ n. asks.Follow n tries) port ≡ Some (asks.Serve p l c) → ⊥
no_follow tries None p l c is = cc
no_follow tries (Some n) p l c is = cc

no_query : (tries : ℕ) (port job : Option ℕ) (p : Option ℕ) (l : ℕ) (c : Option ℕ)
    → option_and_then (λ n. option_map (λ id. asks.Query n id tries) job) port ≡ Some (asks.Serve p l c) → ⊥
no_query tries None job p l c is = cc
no_query tries (Some n) None p l c is = cc
no_query tries (Some n) (Some id) p l c is = cc

served_with : (command : Command) (numbers : Numbers) (asked : Asked) → asked_with command numbers ≡ Some asked → IsServedAt numbers.socket asked
served_with command numbers asks.Session is = tt
served_with command numbers asks.Show is = tt
served_with command numbers (asks.Load number) is = tt
served_with command numbers (asks.Submit port tries) is = tt
served_with command numbers (asks.Query port job tries) is = tt
served_with command numbers asks.Delete is = tt
served_with command numbers (asks.Follow port tries) is = tt
served_with Session numbers (asks.Serve port lanes connections) is = absurd cc
served_with Show numbers (asks.Serve port lanes connections) is = absurd cc
served_with Load numbers (asks.Serve port lanes connections) is = absurd (no_load numbers.number port lanes connections is)
served_with Serve numbers (asks.Serve port lanes connections) is = served_at _ numbers.connections numbers.port numbers.socket port lanes connections is
served_with Submit numbers (asks.Serve port lanes connections) is = absurd (no_submit _ numbers.port port lanes connections is)
served_with Query numbers (asks.Serve port lanes connections) is = absurd (no_query _ numbers.port numbers.job port lanes connections is)
served_with Delete numbers (asks.Serve port lanes connections) is = absurd cc
served_with Follow numbers (asks.Serve port lanes connections) is = absurd (no_follow _ numbers.port port lanes connections is)

-- accepted words name a socket exactly where there is no port
pub served_in : (words : List (List ℕ)) → IfSome (asked_in words) (IsServedAt (is_some (socket_in words)))
served_in [] = tt
served_in (name ∷ words) = by_command (command_named name)
  where
    by_asked : (command : Command) (o : Option Asked) → asked_of command words ≡ o → IfSome o (IsServedAt (is_some (option_and_then (λ asked. value_behind named None words) o)))
    by_asked command None is = tt
    by_asked command (Some asked) is =
        let once = are_once command words asked is in
        subst (λ (b : Bool). IsServedAt b asked) (sym (names_it command words once.options once.are)) (served_with command (numbers_of once.options) asked once.with)

    by_command : (o : Option Command) → IfSome (option_and_then (λ command. asked_of command words) o)
        (IsServedAt (is_some (option_and_then (λ asked. value_behind named None words) (option_and_then (λ command. asked_of command words) o))))
    by_command None = tt
    by_command (Some command) = by_asked command (asked_of command words) refl

-- a copy is there exactly where its text is
copied_there : (text : Option (Bor (List ℕ))) → is_some (option_copied text) ≡ is_some text
copied_there None = refl
copied_there (Some t) = refl

pub served_as : (words : List (List ℕ)) (result : Option (Bor (List ℕ))) → option_copied result ≡ socket_in words → IfSome (asked_in words) (IsServedAt (is_some result))
served_as words result is =
    subst (λ (b : Bool). IfSome (asked_in words) (IsServedAt b)) (sym (ap (λ (o : Option (List ℕ)). is_some o) is) ∙ copied_there result) (served_in words)

-- the value behind words, of which one is read more
module _ (wanted : List ℕ) (all : List (String Global)) (i : ℕ) (word : String Global) (inside : i < length all) (is : word ≡ get_or all i word) (waiting : Option (Bor (List ℕ)))
    (so_far : value_behind wanted None (map string_bytes all) ≡ value_behind wanted (option_copied waiting) (drop i (map string_bytes all)))
    (text : List ℕ) (reads : text ≡ string_bytes word) where
  abbrev rest : List (List ℕ)
  rest = drop (i + 1) (map string_bytes all)

  here : value_behind wanted None (map string_bytes all) ≡ value_behind wanted (option_copied waiting) (text ∷ rest)
  here = so_far ∙ ap (value_behind wanted (option_copied waiting)) (dropped all i word inside is ∙ ap (λ (t : List ℕ). t ∷ rest) (sym reads))

  module _ (name : Bor (List ℕ)) (waits : waiting ≡ Some name) where
    with_name : value_behind wanted None (map string_bytes all) ≡ (if bytes_eq name.now wanted then Some text else value_behind wanted None rest)
    with_name = here ∙ ap (λ (w : Option (Bor (List ℕ))). value_behind wanted (option_copied w) (text ∷ rest)) waits

    pub found_next : bytes_eq name.now wanted ≡ true → Some text ≡ value_behind wanted None (map string_bytes all)
    found_next same = sym (with_name ∙ ap (λ (b : Bool). if b then Some text else value_behind wanted None rest) same)

    pub passed_next : bytes_eq name.now wanted ≡ false → value_behind wanted None (map string_bytes all) ≡ value_behind wanted None rest
    passed_next apart = with_name ∙ ap (λ (b : Bool). if b then Some text else value_behind wanted None rest) apart

  module _ (free : waiting ≡ None) where
    abbrev by_value : Bool → Option (List ℕ)
    by_value b = if b then (if bytes_eq (before_first is_equals text) wanted then Some (after_first is_equals text) else value_behind wanted None rest) else value_behind wanted (Some text) rest

    with_none : value_behind wanted None (map string_bytes all) ≡ by_value (has_value text)
    with_none = here ∙ ap (λ (w : Option (Bor (List ℕ))). value_behind wanted (option_copied w) (text ∷ rest)) free

    pub waits_next : position_or_len is_equals text ≡ length text → value_behind wanted None (map string_bytes all) ≡ value_behind wanted (Some text) rest
    waits_next all_before =
        let has : has_value text ≡ false = grind (arith, nat_tests) in
        with_none ∙ ap by_value has

    module _ (name value : List ℕ) (there : position_or_len is_equals text < length text) (is_name : name ≡ before_first is_equals text) (is_value : value ≡ after_first is_equals text) where
      with_value : value_behind wanted None (map string_bytes all) ≡ (if bytes_eq name wanted then Some value else value_behind wanted None rest)
      with_value =
          let has : has_value text ≡ true = grind (arith, nat_tests) in
          with_none ∙ ap by_value has ∙ rw (is_name, is_value) refl

      pub found_joined : bytes_eq name wanted ≡ true → Some value ≡ value_behind wanted None (map string_bytes all)
      found_joined same = sym (with_value ∙ ap (λ (b : Bool). if b then Some value else value_behind wanted None rest) same)

      pub passed_joined : bytes_eq name wanted ≡ false → value_behind wanted None (map string_bytes all) ≡ value_behind wanted None rest
      passed_joined apart = with_value ∙ ap (λ (b : Bool). if b then Some value else value_behind wanted None rest) apart

-- no word is left
pub ended : (wanted : List ℕ) (all : List (String Global)) (i : ℕ) (waiting : Option (Bor (List ℕ))) → length all ≤ i
    → value_behind wanted None (map string_bytes all) ≡ value_behind wanted (option_copied waiting) (drop i (map string_bytes all))
    → None ≡ value_behind wanted None (map string_bytes all)
ended wanted all i waiting over so_far =
    let none : drop i (map string_bytes all) ≡ [] = drop_all i (map string_bytes all) (omega (arith, length-map all string_bytes, over)) in
    sym (so_far ∙ ap (value_behind wanted (option_copied waiting)) none)
