-- The options of an accepted list are taken one after another, each where it is new, and their values are the definition's.
use Rattle.std.proofs.Common.{◌≡◌, refl, ap, sym, ◌∙◌, subst, arith, true≢false, ℕ, ◌<◌, ◌≤◌, ◌==◌, ◌&&◌, ◌||◌, cond, Bool, true, false, not, List, [], ◌∷◌, ◌++◌, length, get_or, Option, Some, None, is_some, ◌⊎◌, inl, inr}
use Rattle.std.specs.Int.{from_be_bytes, w128}
use Rattle.std.specs.Prelude.{codes, fold, find, option_map, option_and_then, bytes_eq, nat_le, slice_get, if◌then◌else◌}
use Rattle.std.specs.List.{list_any, list_all, before_first, after_first, position_or_len}
use Rattle.std.specs.Str.Parse.{digits_value}
use Rattle.std.proofs.lemmas.List.Folds.{list_any-append}
use Rattle.std.proofs.lemmas.List.Sums.{split_at_first, prefix_len_stops}
use Rattle.std.proofs.lemmas.Bool.Decides.{nat_tests}
use Rattle.std.proofs.lemmas.Slice.Eq.{bytes_eq-Decides}
use Rattle.clap.specs.Words.{Row, Text, first_of}
use Rattle.clap.specs.Takes.{turn_passes, walk_passes, settle_passes}
use Rattle.clap.specs.Walk.{Walk, walked, settled, settled_rows, has_row, with_values, without}
use Rattle.clap.specs.declared.parser.matches.ValueSource.TheVariants.{CommandLine}
use Rattle.fts_tables.specs.Names.{is_digit}
use Rattle.fts_tables.specs.SettingsData.{are_apart, is_within}
use Rattle.fts_words.specs.Words.{number_of, within, given_by, given_to_client, job_named, is_path, is_no_zero, begins_plainly, path_given, path_named, option_of, before_others, options_behind, has_value, is_equals, is_same_option}
use Rattle.fts_words.specs.declared.asked.Command.{Command}
use Rattle.fts_words.specs.declared.asked.Command.TheVariants.{Session, Show, Load, Serve, Submit, Query, Delete, Follow}
use Rattle.fts_words.specs.declared.options.Given.{Given}
use Rattle.fts_words.specs.declared.options.Given.TheVariants.{Port, Lanes, Connections, Number, Tries, Job, Socket, Log}
use Rattle.fts_words.proofs.Taking.{Name, ThePort, TheLanes, TheConnections, TheNumber, TheTries, TheJob, TheSocket, TheLog, id_of, word_of, Has, same_name, same_id, shape_of_command, rules_of_command, at, waiting_at, row_with, settles, met_joined, met_name, met_value, name_passes, joined_passes, value_passes, pending_settles, pending_leaves, row_behind}
use Rattle.fts_tables.specs.declared.limits.TheConstants.{MAX_LANES}
use Rattle.uuid.specs.Text.{parsed}
use Rattle.fts_words.proofs.Ids.{parsed_hyphen}

both : (a b : Bool) → (a && b) ≡ true → (a ≡ true) × (b ≡ true)
both true b is = (refl, is)
both false b is = absurd cc

neither : (a b : Bool) → (a || b) ≡ false → (a ≡ false) × (b ≡ false)
neither true b is = absurd cc
neither false b is = (refl, is)

is_not : (a : Bool) → not a ≡ true → a ≡ false
is_not true is = absurd cc
is_not false is = refl

le_of : (a b : ℕ) → nat_le a b ≡ true → a ≤ b
le_of a b is = grind (arith, nat_tests)

-- the name of an option that was given
abbrev pub name_of_given : Given → Name
name_of_given (Port n) = ThePort
name_of_given (Lanes n) = TheLanes
name_of_given (Connections n) = TheConnections
name_of_given (Number n) = TheNumber
name_of_given (Tries n) = TheTries
name_of_given (Job n) = TheJob
name_of_given Socket = TheSocket
name_of_given Log = TheLog

pub same_by_name : (one other : Given) → is_same_option one other ≡ same_name (name_of_given other) (name_of_given one)
same_by_name (Port a) (Port b) = refl
same_by_name (Lanes a) (Lanes b) = refl
same_by_name (Connections a) (Connections b) = refl
same_by_name (Number a) (Number b) = refl
same_by_name (Tries a) (Tries b) = refl
same_by_name (Job a) (Job b) = refl
same_by_name Socket Socket = refl
same_by_name Log Log = refl
same_by_name one other = refl

same_self : (one : Name) → same_name one one ≡ true
same_self ThePort = refl
same_self one = refl

name_is : (one other : Name) → same_name one other ≡ true → one ≡ other
name_is ThePort ThePort is = refl
name_is TheLanes TheLanes is = refl
name_is TheConnections TheConnections is = refl
name_is TheNumber TheNumber is = refl
name_is TheTries TheTries is = refl
name_is TheJob TheJob is = refl
name_is TheSocket TheSocket is = refl
name_is TheLog TheLog is = refl
name_is one other is = absurd cc

-- and names are the same in both orders
pub same_turned : (one other : Name) → same_name one other ≡ same_name other one
same_turned one other = by_tests (same_name one other) (same_name other one) refl refl
  where
    by_tests : (b c : Bool) → same_name one other ≡ b → same_name other one ≡ c → b ≡ c
    by_tests true true there back = refl
    by_tests false false there back = refl
    by_tests true false there back = let is : one ≡ other = name_is one other there in absurd (true≢false (sym (subst (λ name. same_name name one ≡ true) is (same_self one)) ∙ back))
    by_tests false true there back = let is : other ≡ one = name_is other one back in absurd (true≢false (sym (subst (λ name. same_name name other ≡ true) is (same_self other)) ∙ there))

-- the option of a name, where it was given
abbrev pub given_as : Name → List Given → Option Given
given_as name [] = None
given_as name (option ∷ options) = if same_name (name_of_given option) name then Some option else given_as name options

abbrev pub or_else : Option Given → Option Given → Option Given
or_else None other = other
or_else (Some option) other = Some option

-- what rows say of an option
abbrev pub value_at : Command → Name → List Row → Option Given
value_at command name rows = option_and_then (option_of command (word_of name)) (first_of (id_of name) rows)

-- a value that begins with no hyphen
pub record BeginsPlainly (value : Text) : Type 0 where
  pub first : ℕ
  pub more : List ℕ
  pub plain : (first == 45) ≡ false
  pub is : value ≡ first ∷ more

-- such is that of a number
digit_first : (value : Text) (number : ℕ) → number_of value ≡ Some number → BeginsPlainly value
digit_first [] number is = absurd cc
digit_first (d ∷ ds) number is = by_test (is_within 1 20 (length (d ∷ ds)) && list_all is_digit (d ∷ ds)) refl is
  where
    by_test : (b : Bool) → (is_within 1 20 (length (d ∷ ds)) && list_all is_digit (d ∷ ds)) ≡ b → (if b then Some (digits_value 10 (d ∷ ds)) else None) ≡ Some number → BeginsPlainly (d ∷ ds)
    by_test false same found = absurd cc
    by_test true same found =
        let all = (both (is_within 1 20 (length (d ∷ ds))) (list_all is_digit (d ∷ ds)) same).1 in
        let first = (both (is_digit d) (list_all is_digit ds) all).0 in
        let low = le_of 48 d (both (nat_le 48 d) (nat_le d 57) first).0 in
        record { first = d; more = ds; plain = no_hyphen low; is = refl }
      where
        no_hyphen : 48 ≤ d → (d == 45) ≡ false
        no_hyphen low = grind (arith, nat_tests)

-- and the text of an id
id_first : (value : Text) (id : List ℕ) → parsed value ≡ Some id → BeginsPlainly value
id_first [] id is = absurd cc
id_first (d ∷ ds) id is = record { first = d; more = ds; plain = by_test (d == 45) refl; is = refl }
  where
    by_test : (b : Bool) → (d == 45) ≡ b → b ≡ false
    by_test false same = refl
    by_test true same =
        let hyphen : d ≡ 45 = grind (arith, nat_tests) in
        let none = parsed_hyphen ds in
        let found = subst (λ x. parsed (x ∷ ds) ≡ Some id) hyphen is in absurd cc

-- and a path
path_first : (value : Text) → begins_plainly value ≡ true → BeginsPlainly value
path_first [] is = absurd cc
path_first (d ∷ ds) is = record { first = d; more = ds; plain = is_not (d == 45) is; is = refl }

-- an option of a command has one of its names
pub record IsNamed (command : Command) (word : Text) (option : Given) : Type 0 where
  pub has : Has command (name_of_given option)
  pub named : word ≡ word_of (name_of_given option)

in_range : (b : Bool) (one option : Given) → (if b then Some one else None) ≡ Some option → one ≡ option
in_range true one option is = cc
in_range false one option is = absurd cc

abbrev connections_or : ℕ → Bool → Option Given
connections_or number b = if b then within 1 1000000 Connections number else None

abbrev lanes_or : Text → ℕ → Bool → Option Given
lanes_or word number b = if b then within 1 MAX_LANES Lanes number else connections_or number (bytes_eq word (codes "--connections"))

abbrev port_or : Text → ℕ → Bool → Option Given
port_or word number b = if b then within 1 65535 Port number else lanes_or word number (bytes_eq word (codes "--lanes"))

by_connections : (word : Text) (number : ℕ) (option : Given) (b : Bool) → (b ≡ true → word ≡ codes "--connections") → connections_or number b ≡ Some option → IsNamed Serve word option
by_connections word number option false same found = absurd cc
by_connections word number option true same found =
    subst (IsNamed Serve word) (in_range (is_within 1 1000000 number) (Connections number) option found) (record { has = tt; named = same refl })

by_lanes : (word : Text) (number : ℕ) (option : Given) (b : Bool) → (b ≡ true → word ≡ codes "--lanes") → lanes_or word number b ≡ Some option → IsNamed Serve word option
by_lanes word number option false same found =
    by_connections word number option (bytes_eq word (codes "--connections")) (bytes_eq-Decides word (codes "--connections")).0 found
by_lanes word number option true same found =
    subst (IsNamed Serve word) (in_range (is_within 1 MAX_LANES number) (Lanes number) option found) (record { has = tt; named = same refl })

by_port : (word : Text) (number : ℕ) (option : Given) (b : Bool) → (b ≡ true → word ≡ codes "--port") → port_or word number b ≡ Some option → IsNamed Serve word option
by_port word number option false same found = by_lanes word number option (bytes_eq word (codes "--lanes")) (bytes_eq-Decides word (codes "--lanes")).0 found
by_port word number option true same found =
    subst (IsNamed Serve word) (in_range (is_within 1 65535 number) (Port number) option found) (record { has = tt; named = same refl })

by_number : (word : Text) (number : ℕ) (option : Given) (b : Bool) → (b ≡ true → word ≡ codes "--number")
    → (if b then within 0 18446744073709551615 Number number else None) ≡ Some option → IsNamed Load word option
by_number word number option false same found = absurd cc
by_number word number option true same found =
    subst (IsNamed Load word) (in_range (is_within 0 18446744073709551615 number) (Number number) option found) (record { has = tt; named = same refl })

-- the options of a client
record IsClientOption (word : Text) (option : Given) : Type 0 where
  pub named : word ≡ word_of (name_of_given option)
  pub kind : (name_of_given option ≡ ThePort) ⊎ (name_of_given option ≡ TheTries)

abbrev tries_or : ℕ → Bool → Option Given
tries_or number b = if b then within 1 10 Tries number else None

abbrev client_port_or : Text → ℕ → Bool → Option Given
client_port_or word number b = if b then within 1 65535 Port number else tries_or number (bytes_eq word (codes "--tries"))

by_tries : (word : Text) (number : ℕ) (option : Given) (b : Bool) → (b ≡ true → word ≡ codes "--tries") → tries_or number b ≡ Some option → IsClientOption word option
by_tries word number option false same found = absurd cc
by_tries word number option true same found =
    subst (IsClientOption word) (in_range (is_within 1 10 number) (Tries number) option found) (record { named = same refl; kind = inr refl })

by_client_port : (word : Text) (number : ℕ) (option : Given) (b : Bool) → (b ≡ true → word ≡ codes "--port") → client_port_or word number b ≡ Some option → IsClientOption word option
by_client_port word number option false same found = by_tries word number option (bytes_eq word (codes "--tries")) (bytes_eq-Decides word (codes "--tries")).0 found
by_client_port word number option true same found =
    subst (IsClientOption word) (in_range (is_within 1 65535 number) (Port number) option found) (record { named = same refl; kind = inl refl })

-- a command that has a client's options
by_client : (command : Command) (word : Text) (number : ℕ) (option : Given) → Has command ThePort → Has command TheTries → given_to_client word number ≡ Some option
    → IsNamed command word option
by_client command word number option port tries is =
    let client = by_client_port word number option (bytes_eq word (codes "--port")) (bytes_eq-Decides word (codes "--port")).0 is in
    record { has = of_kind client.kind; named = client.named }
  where
    of_kind : (name_of_given option ≡ ThePort) ⊎ (name_of_given option ≡ TheTries) → Has command (name_of_given option)
    of_kind (inl e) = subst (Has command) (sym e) port
    of_kind (inr e) = subst (Has command) (sym e) tries

named_by : (command : Command) (word : Text) (number : ℕ) (option : Given) → given_by command word number ≡ Some option → IsNamed command word option
named_by Session word number option is = absurd cc
named_by Show word number option is = absurd cc
named_by Load word number option is = by_number word number option (bytes_eq word (codes "--number")) (bytes_eq-Decides word (codes "--number")).0 is
named_by Serve word number option is = by_port word number option (bytes_eq word (codes "--port")) (bytes_eq-Decides word (codes "--port")).0 is
named_by Submit word number option is = by_client Submit word number option tt tt is
named_by Query word number option is = by_client Query word number option tt tt is
named_by Delete word number option is = absurd cc
named_by Follow word number option is = by_client Follow word number option tt tt is

pub record IsOption (command : Command) (word value : Text) (option : Given) : Type 0 where
  pub named : IsNamed command word option
  pub begins : BeginsPlainly value

number_is : (command : Command) (word value : Text) (option : Given) → option_and_then (given_by command word) (number_of value) ≡ Some option → IsOption command word value option
number_is command word value option is = by_number (number_of value) refl is
  where
    by_number : (o : Option ℕ) → number_of value ≡ o → option_and_then (given_by command word) o ≡ Some option → IsOption command word value option
    by_number None same found = absurd cc
    by_number (Some number) same found = record { named = named_by command word number option found; begins = digit_first value number same }

job_is : (word value : Text) (option : Given) → word ≡ codes "--job" → job_named value ≡ Some option → IsOption Query word value option
job_is word value option named is = by_id (parsed value) refl is
  where
    by_id : (o : Option (List ℕ)) → parsed value ≡ o → option_map (λ id. Job (from_be_bytes w128 id)) o ≡ Some option → IsOption Query word value option
    by_id None same found = absurd cc
    by_id (Some id) same found =
        let e : Job (from_be_bytes w128 id) ≡ option = cc in
        subst (IsOption Query word value) e (record { named = record { has = tt; named = named }; begins = id_first value id same })

by_job : (word value : Text) (option : Given) (b : Bool) → (b ≡ true → word ≡ codes "--job")
    → (if b then job_named value else option_and_then (given_by Query word) (number_of value)) ≡ Some option → IsOption Query word value option
by_job word value option true same found = job_is word value option (same refl) found
by_job word value option false same found = number_is Query word value option found

path_is : (word value : Text) (given option : Given) (most : ℕ) → IsNamed Serve word given → path_given given most value ≡ Some option → IsOption Serve word value option
path_is word value given option most named is = by_test (is_path most value) refl is
  where
    by_test : (b : Bool) → is_path most value ≡ b → (if b then Some given else None) ≡ Some option → IsOption Serve word value option
    by_test false same found = absurd cc
    by_test true same found =
        let behind = (both (is_within 1 most (length value)) (begins_plainly value && list_all is_no_zero value) same).1 in
        let plain = (both (begins_plainly value) (list_all is_no_zero value) behind).0 in
        subst (IsOption Serve word value) (in_range true given option found) (record { named = named; begins = path_first value plain })

abbrev log_or : Text → Bool → Option Given
log_or value b = if b then path_given Log 4095 value else None

abbrev socket_or : Text → Text → Bool → Option Given
socket_or word value b = if b then path_given Socket 107 value else log_or value (bytes_eq word (codes "--log"))

by_log : (word value : Text) (option : Given) (b : Bool) → (b ≡ true → word ≡ codes "--log") → log_or value b ≡ Some option → IsOption Serve word value option
by_log word value option false same found = absurd cc
by_log word value option true same found = path_is word value Log option 4095 (record { has = tt; named = same refl }) found

by_socket : (word value : Text) (option : Given) (b : Bool) → (b ≡ true → word ≡ codes "--socket") → socket_or word value b ≡ Some option → IsOption Serve word value option
by_socket word value option false same found = by_log word value option (bytes_eq word (codes "--log")) (bytes_eq-Decides word (codes "--log")).0 found
by_socket word value option true same found = path_is word value Socket option 107 (record { has = tt; named = same refl }) found

by_path : (word value : Text) (option : Given) (b : Bool) → (if b then path_named word value else option_and_then (given_by Serve word) (number_of value)) ≡ Some option
    → IsOption Serve word value option
by_path word value option true found = by_socket word value option (bytes_eq word (codes "--socket")) (bytes_eq-Decides word (codes "--socket")).0 found
by_path word value option false found = number_is Serve word value option found

pub option_is : (command : Command) (word value : Text) (option : Given) → option_of command word value ≡ Some option → IsOption command word value option
option_is Serve word value option is = by_path word value option (bytes_eq word (codes "--socket") || bytes_eq word (codes "--log")) is
option_is Query word value option is = by_job word value option (bytes_eq word (codes "--job")) (bytes_eq-Decides word (codes "--job")).0 is
option_is other word value option is = number_is other word value option is

-- a word is cut at its equals sign
cut : (word : Text) → has_value word ≡ true → word ≡ before_first is_equals word ++ 61 ∷ after_first is_equals word
cut word is =
    let there : position_or_len is_equals word < length word = grind (arith, nat_tests) in
    split_at_first is_equals word 0 there
    ∙ ap (λ b. before_first is_equals word ++ b ∷ after_first is_equals word) (equals (get_or word (position_or_len is_equals word) 0) (prefix_len_stops (λ b. not (is_equals b)) word 0 there))
  where
    equals : (b : ℕ) → not (b == 61) ≡ false → b ≡ 61
    equals b e = grind (arith, nat_tests)

-- rows with one more behind them
has_more : (name other : Name) (value : Text) (rows : List Row) → has_row (id_of other) (rows ++ row_with name value ∷ []) ≡ (has_row (id_of other) rows || (same_name name other || false))
has_more name other value rows =
    list_any-append (λ (row : Row). bytes_eq row.id (id_of other)) rows (row_with name value ∷ []) ∙ ap (λ b. has_row (id_of other) rows || (b || false)) (same_id name other)

first_other : (id : Text) (rows : List Row) (row : Row) → bytes_eq row.id id ≡ false → find (λ (r : Row). bytes_eq r.id id) (rows ++ row ∷ []) ≡ find (λ (r : Row). bytes_eq r.id id) rows
first_other id [] row apart = rw apart refl
first_other id (first ∷ rows) row apart = ap (cond (bytes_eq first.id id) (Some first)) (first_other id rows row apart)

first_new : (id : Text) (rows : List Row) (row : Row) → has_row id rows ≡ false → bytes_eq row.id id ≡ true → find (λ (r : Row). bytes_eq r.id id) (rows ++ row ∷ []) ≡ Some row
first_new id [] row none same = rw same refl
first_new id (first ∷ rows) row none same =
    let parts = neither (bytes_eq first.id id) (has_row id rows) none in
    ap (λ b. cond b (Some first) (find (λ (r : Row). bytes_eq r.id id) (rows ++ row ∷ []))) parts.0 ∙ first_new id rows row parts.1 same

value_other : (command : Command) (name other : Name) (value : Text) (rows : List Row) → same_name name other ≡ false
    → value_at command other (rows ++ row_with name value ∷ []) ≡ value_at command other rows
value_other command name other value rows apart =
    ap (λ (o : Option Row). option_and_then (option_of command (word_of other)) (option_and_then (λ (r : Row). slice_get r.values 0) o))
    (first_other (id_of other) rows (row_with name value) (same_id name other ∙ apart))

value_new : (command : Command) (name : Name) (value : Text) (rows : List Row) → has_row (id_of name) rows ≡ false
    → value_at command name (rows ++ row_with name value ∷ []) ≡ option_of command (word_of name) value
value_new command name value rows none =
    ap (λ (o : Option Row). option_and_then (option_of command (word_of name)) (option_and_then (λ (r : Row). slice_get r.values 0) o))
    (first_new (id_of name) rows (row_with name value) none (same_id name name ∙ same_self name))

-- of options that are apart the first is the only one of its name
none_later : (option : Given) (options : List Given) → list_any (is_same_option option) options ≡ false → given_as (name_of_given option) options ≡ None
none_later option [] none = refl
none_later option (other ∷ options) none =
    let parts = neither (is_same_option option other) (list_any (is_same_option option) options) none in
    ap (λ b. if b then Some other else given_as (name_of_given option) options) (sym (same_by_name option other) ∙ parts.0) ∙ none_later option options parts.1

-- the options to come are new to the rows
abbrev pub AreNew : List Given → List Row → Type 0
AreNew options rows = (name : Name) → is_some (given_as name options) ≡ true → has_row (id_of name) rows ≡ false

first_is_new : (option : Given) (options : List Given) (rows : List Row) → AreNew (option ∷ options) rows → has_row (id_of (name_of_given option)) rows ≡ false
first_is_new option options rows new = new (name_of_given option) (ap (λ b. is_some (if b then Some option else given_as (name_of_given option) options)) (same_self (name_of_given option)))

-- those behind the first are, with its row
rest_is_new : (option : Given) (options : List Given) (value : Text) (rows : List Row) → list_any (is_same_option option) options ≡ false → AreNew (option ∷ options) rows
    → AreNew options (rows ++ row_with (name_of_given option) value ∷ [])
rest_is_new option options value rows apart new name some = by_name (same_name (name_of_given option) name) refl
  where
    by_name : (b : Bool) → same_name (name_of_given option) name ≡ b → has_row (id_of name) (rows ++ row_with (name_of_given option) value ∷ []) ≡ false
    by_name true same =
        let none = none_later option options apart in
        absurd (is_none (given_as name options) (ap (λ n. given_as n options) (sym (name_is (name_of_given option) name same)) ∙ none) some)
      where
        is_none : (o : Option Given) → o ≡ None → is_some o ≡ true → ⊥
        is_none None e h = cc
        is_none (Some one) e h = cc
    by_name false same = has_more (name_of_given option) name value rows ∙ ap (λ b. has_row (id_of name) rows || (b || false)) same
        ∙ ap (λ b. b || false) (new name (ap (λ b. is_some (if b then Some option else given_as name options)) same ∙ some))

-- a walk over words takes them all, and leaves the values of these options
pub record Goes (command : Command) (walk : Walk) (words : List Text) (options : List Given) (rows : List Row) : Type 0 where
  pub passes : walk_passes (shape_of_command command) [] walk words ≡ true
  pub settles_at_end : settle_passes (rules_of_command command) false (fold (walked (rules_of_command command) []) walk words).held ≡ true
  pub values : (name : Name) → value_at command name (settled (rules_of_command command) (fold (walked (rules_of_command command) []) walk words).held).rows
      ≡ or_else (given_as name options) (value_at command name rows)

goes_none : (command : Command) (rows : List Row) (pending : Option (Text × List Text)) → settles command rows pending ≡ true
    → Goes command (at rows pending) [] [] (settled_rows (rules_of_command command) pending rows)
unfolding walk_passes
goes_none command rows pending so = record { passes = refl; settles_at_end = so; values = λ name. refl }

goes_step : (command : Command) (walk next : Walk) (word : Text) (words : List Text) (options : List Given) (rows : List Row)
    → turn_passes (shape_of_command command) [] walk word ≡ true → walked (rules_of_command command) [] walk word ≡ next → Goes command next words options rows
    → Goes command walk (word ∷ words) options rows
unfolding walk_passes
goes_step command walk next word words options rows passes met goes = record {
  passes = ap (λ b. b && walk_passes (shape_of_command command) [] (walked (rules_of_command command) [] walk word) words) passes
      ∙ ap (λ (w : Walk). walk_passes (shape_of_command command) [] w words) met ∙ goes.passes;
  settles_at_end = ap (λ (w : Walk). settle_passes (rules_of_command command) false (fold (walked (rules_of_command command) []) w words).held) met ∙ goes.settles_at_end;
  values = λ name. ap (λ (w : Walk). value_at command name (settled (rules_of_command command) (fold (walked (rules_of_command command) []) w words).held).rows) met ∙ goes.values name;
}

-- one option more
goes_more : (command : Command) (walk : Walk) (words : List Text) (option : Given) (options : List Given) (value : Text) (rows rows2 : List Row)
    → rows2 ≡ rows ++ row_with (name_of_given option) value ∷ [] → option_of command (word_of (name_of_given option)) value ≡ Some option
    → list_any (is_same_option option) options ≡ false → has_row (id_of (name_of_given option)) rows ≡ false
    → Goes command walk words options rows2 → Goes command walk words (option ∷ options) rows
goes_more command walk words option options value rows rows2 same is apart new goes = record {
  passes = goes.passes;
  settles_at_end = goes.settles_at_end;
  values = λ name. goes.values name ∙ ap (λ (l : List Row). or_else (given_as name options) (value_at command name l)) same ∙ by_name name (same_name (name_of_given option) name) refl;
}
  where
    by_name : (name : Name) (b : Bool) → same_name (name_of_given option) name ≡ b
        → or_else (given_as name options) (value_at command name (rows ++ row_with (name_of_given option) value ∷ []))
        ≡ or_else (if same_name (name_of_given option) name then Some option else given_as name options) (value_at command name rows)
    by_name name true named =
        let found = value_new command (name_of_given option) value rows new ∙ is in
        let none = none_later option options apart in
        let same_one = name_is (name_of_given option) name named in
        ap (λ n. or_else (given_as n options) (value_at command n (rows ++ row_with (name_of_given option) value ∷ []))) (sym same_one)
        ∙ ap (λ o. or_else o (value_at command (name_of_given option) (rows ++ row_with (name_of_given option) value ∷ []))) none ∙ found
        ∙ ap (λ b. or_else (if b then Some option else given_as name options) (value_at command name rows)) (sym named)
    by_name name false named = ap (or_else (given_as name options)) (value_other command (name_of_given option) name value rows named)
        ∙ ap (λ b. or_else (if b then Some option else given_as name options) (value_at command name rows)) (sym named)

-- the first option of a list, and those behind it
pub record Opens (command : Command) (word value : Text) (behind : List Text) (options : List Given) : Type 0 where
  pub option : Given
  pub more : List Given
  pub is : option_of command word value ≡ Some option
  pub rest : options_behind command None behind ≡ Some more
  pub all : options ≡ option ∷ more

pub opens : (command : Command) (word value : Text) (behind : List Text) (options : List Given)
    → option_and_then (before_others (options_behind command None behind)) (option_of command word value) ≡ Some options → Opens command word value behind options
opens command word value behind options found = by_parts (option_of command word value) (options_behind command None behind) refl refl found
  where
    by_parts : (first : Option Given) (others : Option (List Given)) → option_of command word value ≡ first → options_behind command None behind ≡ others
        → option_and_then (before_others others) first ≡ Some options → Opens command word value behind options
    by_parts None others is rest found = absurd cc
    by_parts (Some option) None is rest found = absurd cc
    by_parts (Some option) (Some more) is rest found = record { option = option; more = more; is = is; rest = rest; all = cc }

-- what is taken of words behind a place where nothing waits
abbrev pub GoesOn : Command → List Text → Type 0
GoesOn command words = (options : List Given) (rows : List Row) (pending : Option (Text × List Text)) → options_behind command None words ≡ Some options
    → are_apart is_same_option options ≡ true → settles command rows pending ≡ true → AreNew options (settled_rows (rules_of_command command) pending rows)
    → Goes command (at rows pending) words options (settled_rows (rules_of_command command) pending rows)

module _ (command : Command) (word value : Text) (behind : List Text) (options : List Given) (rows : List Row) (pending : Option (Text × List Text))
    (opened : Opens command word value behind options) (apart : are_apart is_same_option options ≡ true) (so : settles command rows pending ≡ true)
    (new : AreNew options (settled_rows (rules_of_command command) pending rows)) (go_on : GoesOn command behind) where
  abbrev here : List Row
  here = settled_rows (rules_of_command command) pending rows

  abbrev the_name : Name
  the_name = name_of_given opened.option

  kind : IsOption command word value opened.option
  kind = option_is command word value opened.option opened.is

  are_two : (list_any (is_same_option opened.option) opened.more ≡ false) × (are_apart is_same_option opened.more ≡ true)
  are_two =
      let parts = both (not (list_any (is_same_option opened.option) opened.more)) (are_apart is_same_option opened.more) (subst (λ (l : List Given). are_apart is_same_option l ≡ true) opened.all apart) in
      (is_not (list_any (is_same_option opened.option) opened.more) parts.0, parts.1)

  new_here : AreNew (opened.option ∷ opened.more) here
  new_here = subst (λ (l : List Given). AreNew l here) opened.all new

  first_new_here : has_row (id_of the_name) here ≡ false
  first_new_here = first_is_new opened.option opened.more here new_here

  is_here : option_of command (word_of the_name) value ≡ Some opened.option
  is_here = ap (λ w. option_of command w value) (sym kind.named.named) ∙ opened.is

  -- the walk behind the option, wherever it stands with this row
  behind_it : (rows2 : List Row) (pending2 : Option (Text × List Text)) → settles command rows2 pending2 ≡ true
      → settled_rows (rules_of_command command) pending2 rows2 ≡ here ++ row_with the_name value ∷ [] → Goes command (at rows2 pending2) behind (opened.option ∷ opened.more) here
  behind_it rows2 pending2 so2 same = goes_more command (at rows2 pending2) behind opened.option opened.more value here (settled_rows (rules_of_command command) pending2 rows2)
      same is_here are_two.0 first_new_here
      (go_on opened.more rows2 pending2 opened.rest are_two.1 so2
      (subst (λ (l : List Row). AreNew opened.more l) (sym same) (rest_is_new opened.option opened.more value here are_two.0 new_here)))

  -- an option with its value in the next word
  goes_apart : Goes command (at rows pending) (word ∷ value ∷ behind) options here
  goes_apart =
      let has = kind.named.has in
      let begins = kind.begins in
      let value_row = row_behind the_name value here first_new_here in
      let end = behind_it here (Some (id_of the_name, value ∷ [])) (pending_settles command the_name has value here first_new_here) (pending_leaves command the_name has value here ∙ value_row) in
      let met = subst (λ (v : Text). walked (rules_of_command command) [] (waiting_at (id_of the_name) here) v ≡ at here (Some (id_of the_name, v ∷ []))) (sym begins.is)
      (met_value command the_name has begins.first begins.more here begins.plain) in
      let passes = subst (λ (v : Text). turn_passes (shape_of_command command) [] (waiting_at (id_of the_name) here) v ≡ true) (sym begins.is)
      (value_passes command the_name has begins.first begins.more here begins.plain) in
      let second = goes_step command (waiting_at (id_of the_name) here) (at here (Some (id_of the_name, value ∷ []))) value behind (opened.option ∷ opened.more) here passes met end in
      let first = goes_step command (at rows pending) (waiting_at (id_of the_name) here) (word_of the_name) (value ∷ behind) (opened.option ∷ opened.more) here
      (name_passes command the_name has rows pending so) (met_name command the_name has rows pending) second in
      subst (λ (w : Text). Goes command (at rows pending) (w ∷ value ∷ behind) options here) (sym kind.named.named)
      (subst (λ (l : List Given). Goes command (at rows pending) (word_of the_name ∷ value ∷ behind) l here) (sym opened.all) first)

  -- an option with its value in its own word
  goes_joined : (whole : Text) → whole ≡ word ++ 61 ∷ value → Goes command (at rows pending) (whole ∷ behind) options here
  goes_joined whole is =
      let has = kind.named.has in
      let begins = kind.begins in
      let value_row = row_behind the_name value here first_new_here in
      let after = with_values (id_of the_name) (row_with the_name []).reading CommandLine (value ∷ []) (without (id_of the_name) here) in
      let end = behind_it after None refl value_row in
      let met = subst (λ (v : Text). walked (rules_of_command command) [] (at rows pending) (word_of the_name ++ 61 ∷ v)
      ≡ at (with_values (id_of the_name) (row_with the_name []).reading CommandLine (v ∷ []) (without (id_of the_name) here)) None) (sym begins.is)
      (met_joined command the_name has begins.first begins.more rows pending) in
      let passes = subst (λ (v : Text). turn_passes (shape_of_command command) [] (at rows pending) (word_of the_name ++ 61 ∷ v) ≡ true) (sym begins.is)
      (joined_passes command the_name has begins.first begins.more rows pending so first_new_here) in
      let first = goes_step command (at rows pending) (at after None) (word_of the_name ++ 61 ∷ value) behind (opened.option ∷ opened.more) here passes met end in
      subst (λ (w : Text). Goes command (at rows pending) (w ∷ behind) options here) (sym (is ∙ ap (λ (w : Text). w ++ 61 ∷ value) kind.named.named))
      (subst (λ (l : List Given). Goes command (at rows pending) ((word_of the_name ++ 61 ∷ value) ∷ behind) l here) (sym opened.all) first)

-- the first word has its value, or waits for it
by_word : (command : Command) (word : Text) (words : List Text) (joined : GoesOn command words) (parted : (value : Text) (behind : List Text) → words ≡ value ∷ behind → GoesOn command behind)
    → GoesOn command (word ∷ words)
by_word command word words joined parted options rows pending found apart so new = by_value (has_value word) refl found
  where
    waits : (l : List Text) → words ≡ l → options_behind command (Some word) l ≡ Some options
        → Goes command (at rows pending) (word ∷ l) options (settled_rows (rules_of_command command) pending rows)
    waits [] same none = absurd cc
    waits (value ∷ behind) same found = goes_apart command word value behind options rows pending (opens command word value behind options found) apart so new (parted value behind same)

    by_value : (b : Bool) → has_value word ≡ b
        → (if b then option_and_then (before_others (options_behind command None words)) (option_of command (before_first is_equals word) (after_first is_equals word)) else options_behind command (Some word) words) ≡ Some options
        → Goes command (at rows pending) (word ∷ words) options (settled_rows (rules_of_command command) pending rows)
    by_value true has found = goes_joined command (before_first is_equals word) (after_first is_equals word) words options rows pending
        (opens command (before_first is_equals word) (after_first is_equals word) words options found) apart so new joined word (cut word has)
    by_value false has found = waits words refl found

goes_nowhere : (command : Command) → GoesOn command []
goes_nowhere command options rows pending found apart so new =
    let none : options ≡ [] = cc in
    subst (λ (l : List Given). Goes command (at rows pending) [] l (settled_rows (rules_of_command command) pending rows)) (sym none) (goes_none command rows pending so)

pub goes_on : (command : Command) (words : List Text) → GoesOn command words
goes_on command [] = goes_nowhere command
goes_on command (word ∷ []) = by_word command word [] (goes_on command []) (λ value behind none. absurd cc)
goes_on command (word ∷ value ∷ behind) = by_word command word (value ∷ behind) (goes_on command (value ∷ behind))
    (λ one more same. let e : more ≡ behind = cc in subst (GoesOn command) (sym e) (goes_on command behind))
