-- The numbers of options, with one option more.
use Rattle.std.proofs.Common.{◌≡◌, ℕ, Bool, true, false, ◌||◌, if◌then◌else◌, List, [], ◌∷◌, ◌++◌, Option, Some, None, refl, ap, sym, subst, ◌∙◌, arith}
use Rattle.std.specs.Prelude.{is_some, unwrap_or, option_map}
use Rattle.std.specs.List.{list_any}
use Rattle.std.proofs.lemmas.List.Folds.{list_any-append}
use Rattle.std.proofs.lemmas.Bool.Decides.{nat_tests}
use Rattle.fts_words.specs.Words.{port_of, lanes_of, connections_of, number_given, tries_of, job_of, first_of, numbers_of, is_same_option}
use Rattle.fts_words.specs.declared.options.Given.{Given}
use Rattle.fts_words.specs.declared.options.Given.TheVariants.{Port, Lanes, Connections, Number, Tries, Job, Socket, Log}
use Rattle.fts_words.specs.declared.options.Numbers.{Numbers}

-- a part with that of one option more
abbrev with_part : Option ℕ → Option ℕ → Option ℕ
with_part None given = given
with_part (Some n) None = Some n
with_part (Some n) (Some m) = Some m

first_alone : (new : Option ℕ) → unwrap_or (option_map Some new) None ≡ with_part new None
first_alone None = refl
first_alone (Some n) = refl

first_behind : (first new given : Option ℕ) → unwrap_or (option_map Some first) (with_part new given) ≡ with_part new (unwrap_or (option_map Some first) given)
first_behind None new given = refl
first_behind (Some n) None given = refl
first_behind (Some n) (Some m) given = refl

-- the first that there is stays the first, and where there is none it is the new one
first_more : (part : Given → Option ℕ) (before : List Given) (option : Given)
    → first_of part (before ++ option ∷ []) ≡ with_part (part option) (first_of part before)
first_more part [] option = first_alone (part option)
first_more part (first ∷ before) option = ap (λ (o : Option ℕ). unwrap_or (option_map Some (part first)) o) (first_more part before option)
    ∙ first_behind (part first) (part option) (first_of part before)

-- whether there is one of a name
any_port : (number : ℕ) (before : List Given) → list_any (is_same_option (Port number)) before ≡ is_some (first_of port_of before)
any_port number [] = refl
any_port number (Port n ∷ before) = refl
any_port number (other ∷ before) = any_port number before

any_lanes : (number : ℕ) (before : List Given) → list_any (is_same_option (Lanes number)) before ≡ is_some (first_of lanes_of before)
any_lanes number [] = refl
any_lanes number (Lanes n ∷ before) = refl
any_lanes number (other ∷ before) = any_lanes number before

any_connections : (number : ℕ) (before : List Given) → list_any (is_same_option (Connections number)) before ≡ is_some (first_of connections_of before)
any_connections number [] = refl
any_connections number (Connections n ∷ before) = refl
any_connections number (other ∷ before) = any_connections number before

any_number : (number : ℕ) (before : List Given) → list_any (is_same_option (Number number)) before ≡ is_some (first_of number_given before)
any_number number [] = refl
any_number number (Number n ∷ before) = refl
any_number number (other ∷ before) = any_number number before

any_tries : (number : ℕ) (before : List Given) → list_any (is_same_option (Tries number)) before ≡ is_some (first_of tries_of before)
any_tries number [] = refl
any_tries number (Tries n ∷ before) = refl
any_tries number (other ∷ before) = any_tries number before

any_job : (number : ℕ) (before : List Given) → list_any (is_same_option (Job number)) before ≡ is_some (first_of job_of before)
any_job number [] = refl
any_job number (Job n ∷ before) = refl
any_job number (other ∷ before) = any_job number before

-- it stays so with another behind, and there is one with itself
any_more : (variant : Given) (before : List Given) (option : Given)
    → list_any (is_same_option variant) (before ++ option ∷ []) ≡ (if is_same_option variant option then true else list_any (is_same_option variant) before)
any_more variant before option =
    list_any-append (is_same_option variant) before (option ∷ [])
    ∙ either (list_any (is_same_option variant) before) (is_same_option variant option)
  where
    either : (b c : Bool) → (b || (c || false)) ≡ (if c then true else b)
    either b c = grind (arith, nat_tests)

-- what comes of a value of which one may be given
abbrev pub Once : Option ℕ → ℕ → Option ℕ → Type 0
Once given value result = result ≡ (if is_some given then None else Some value)

-- it is refused where there is one already
once_refused : (given : Option ℕ) (value : ℕ) → Once given value None → is_some given ≡ true
once_refused None value is = cc
once_refused (Some n) value is = refl

-- and it is taken where there is none
once_free : (given : Option ℕ) (value result : ℕ) → Once given value (Some result) → given ≡ None
once_free None value result is = refl
once_free (Some n) value result is = cc

once_taken : (given : Option ℕ) (value result : ℕ) → Once given value (Some result) → result ≡ value
once_taken None value result is = cc
once_taken (Some n) value result is = cc

-- what one option more makes of numbers
abbrev pub Taken : List Given → Given → Option Numbers → Type 0
Taken before option result = result ≡ (if list_any (is_same_option option) before then None else Some (numbers_of (before ++ option ∷ [])))

-- numbers by their parts
abbrev record_of : Option ℕ → Option ℕ → Option ℕ → Option ℕ → Option ℕ → Option ℕ → Bool → Bool → Numbers
record_of port lanes connections number tries job socket log =
    record { port = port; lanes = lanes; connections = connections; number = number; tries = tries; job = job; socket = socket; log = log }

same_numbers : {a b c d e f p q r s t u : Option ℕ} {g h v w : Bool} → a ≡ p → b ≡ q → c ≡ r → d ≡ s → e ≡ t → f ≡ u → g ≡ v → h ≡ w
    → record_of a b c d e f g h ≡ record_of p q r s t u v w
same_numbers one two three four five six seven eight = cc

-- numbers with one option more
abbrev with_one : Numbers → Given → Numbers
with_one self option = record {
  port = with_part (port_of option) self.port;
  lanes = with_part (lanes_of option) self.lanes;
  connections = with_part (connections_of option) self.connections;
  number = with_part (number_given option) self.number;
  tries = with_part (tries_of option) self.tries;
  job = with_part (job_of option) self.job;
  socket = if is_same_option Socket option then true else self.socket;
  log = if is_same_option Log option then true else self.log;
}

numbers_more : (before : List Given) (option : Given) → numbers_of (before ++ option ∷ []) ≡ with_one (numbers_of before) option
numbers_more before option = same_numbers
    (first_more port_of before option) (first_more lanes_of before option) (first_more connections_of before option)
    (first_more number_given before option) (first_more tries_of before option) (first_more job_of before option)
    (any_more Socket before option) (any_more Log before option)

-- an option of a variant, of which it is told whether there is one already
module _ (self : Numbers) (before : List Given) (are : self ≡ numbers_of before) (option variant : Given) (is : option ≡ variant) where
  taken_once : (given : Bool) (put : Numbers) (result : Option Numbers) → given ≡ list_any (is_same_option variant) before → put ≡ with_one self variant
      → result ≡ (if given then None else Some put) → Taken before option result
  taken_once given put result same new taken = subst (λ (o : Given). Taken before o result) (sym is)
      (taken ∙ ap (λ (b : Bool). if b then None else Some put) same
      ∙ ap (λ (n : Numbers). if list_any (is_same_option variant) before then None else Some n)
      (new ∙ ap (λ (n : Numbers). with_one n variant) are ∙ sym (numbers_more before variant)))

  of_number : (given : Option ℕ) (number : ℕ) (put : ℕ → Numbers) (result : Option ℕ) → list_any (is_same_option variant) before ≡ is_some given
      → (given ≡ None → put number ≡ with_one self variant) → Once given number result → Taken before option (option_map put result)
  of_number given number put None any new refused = taken_once true (with_one self variant) None (sym (any ∙ once_refused given number refused)) refl refl
  of_number given number put (Some result) any new free =
      let none = once_free given number result free in
      taken_once false (put result) (Some (put result)) (sym (any ∙ ap (λ (o : Option ℕ). is_some o) none))
      (ap put (once_taken given number result free) ∙ new none) refl

-- an option of a number, which is given once
module _ (self : Numbers) (before : List Given) (are : self ≡ numbers_of before) (option : Given) (number : ℕ) (result : Option ℕ) where
  pub port_once : option ≡ Port number → Once self.port number result
      → Taken before option (option_map (λ (n : ℕ). record self { port = Some n }) result)
  port_once one =
      of_number self before are option (Port number) one self.port number (λ (n : ℕ). record self { port = Some n }) result
      (any_port number before ∙ sym (ap (λ (n : Numbers). is_some n.port) are))
      (λ none. ap (λ (o : Option ℕ). record self { port = with_part (Some number) o }) (sym none))

  pub lanes_once : option ≡ Lanes number → Once self.lanes number result
      → Taken before option (option_map (λ (n : ℕ). record self { lanes = Some n }) result)
  lanes_once one =
      of_number self before are option (Lanes number) one self.lanes number (λ (n : ℕ). record self { lanes = Some n }) result
      (any_lanes number before ∙ sym (ap (λ (n : Numbers). is_some n.lanes) are))
      (λ none. ap (λ (o : Option ℕ). record self { lanes = with_part (Some number) o }) (sym none))

  pub connections_once : option ≡ Connections number → Once self.connections number result
      → Taken before option (option_map (λ (n : ℕ). record self { connections = Some n }) result)
  connections_once one =
      of_number self before are option (Connections number) one self.connections number (λ (n : ℕ). record self { connections = Some n }) result
      (any_connections number before ∙ sym (ap (λ (n : Numbers). is_some n.connections) are))
      (λ none. ap (λ (o : Option ℕ). record self { connections = with_part (Some number) o }) (sym none))

  pub number_once : option ≡ Number number → Once self.number number result
      → Taken before option (option_map (λ (n : ℕ). record self { number = Some n }) result)
  number_once one =
      of_number self before are option (Number number) one self.number number (λ (n : ℕ). record self { number = Some n }) result
      (any_number number before ∙ sym (ap (λ (n : Numbers). is_some n.number) are))
      (λ none. ap (λ (o : Option ℕ). record self { number = with_part (Some number) o }) (sym none))

  pub tries_once : option ≡ Tries number → Once self.tries number result
      → Taken before option (option_map (λ (n : ℕ). record self { tries = Some n }) result)
  tries_once one =
      of_number self before are option (Tries number) one self.tries number (λ (n : ℕ). record self { tries = Some n }) result
      (any_tries number before ∙ sym (ap (λ (n : Numbers). is_some n.tries) are))
      (λ none. ap (λ (o : Option ℕ). record self { tries = with_part (Some number) o }) (sym none))

  pub job_once : option ≡ Job number → Once self.job number result
      → Taken before option (option_map (λ (n : ℕ). record self { job = Some n }) result)
  job_once one =
      of_number self before are option (Job number) one self.job number (λ (n : ℕ). record self { job = Some n }) result
      (any_job number before ∙ sym (ap (λ (n : Numbers). is_some n.job) are))
      (λ none. ap (λ (o : Option ℕ). record self { job = with_part (Some number) o }) (sym none))

-- an option of a path, which is given once
module _ (self : Numbers) (before : List Given) (are : self ≡ numbers_of before) (option : Given) where
  pub socket_once : (result : Option Numbers) → option ≡ Socket → result ≡ (if self.socket then None else Some (record self { socket = true }))
      → Taken before option result
  socket_once result one is =
      taken_once self before are option Socket one self.socket (record self { socket = true }) result (ap (λ (n : Numbers). n.socket) are) refl is

  pub log_once : (result : Option Numbers) → option ≡ Log → result ≡ (if self.log then None else Some (record self { log = true }))
      → Taken before option result
  log_once result one is =
      taken_once self before are option Log one self.log (record self { log = true }) result (ap (λ (n : Numbers). n.log) are) refl is
