-- The numbers of accepted words are in their ranges.
use Rattle.std.proofs.Common.{◌≡◌, ℕ, ◌≤◌, Bool, true, false, ◌&&◌, if◌then◌else◌, List, [], ◌∷◌, Option, Some, None, refl, arith}
use Rattle.std.specs.Prelude.{IfSome, option_map, option_and_then, unwrap_or, nat_le, bytes_eq, codes}
use Rattle.std.proofs.lemmas.Bool.{leb-true}
use Rattle.std.specs.List.{list_any, before_first, after_first}
use Rattle.fts_tables.specs.SettingsData.{is_within, are_apart}
use Rattle.fts_words.specs.Words.{IsInRange, IsPort, AreTries, names_path, path_named, path_given, is_path, serve_with, within, given_by, given_to_client, names_job, job_named, number_of, option_of, before_others, options_behind, has_value, is_equals, each_once, first_of, lanes_of, connections_of, port_of, number_given, tries_of, job_of, numbers_of, asked_with, asked_of, asked_in, command_named, is_same_option}
use Rattle.fts_words.specs.declared.asked.Command.{Command}
use Rattle.fts_words.specs.declared.asked.Command.TheVariants.{Session, Show, Load, Serve, Submit, Query, Delete, Follow}
use Rattle.fts_words.specs.declared.options.Given.{Given}
use Rattle.fts_words.specs.declared.options.Given.TheVariants.{Port, Lanes, Connections, Number, Tries, Job, Socket, Log}
use Rattle.fts_tables.specs.declared.limits.TheConstants.{MAX_LANES}
use Rattle.uuid.specs.Text.{parsed}

-- an option whose number is in its range, where what is asked for rests on it
abbrev IsRanged : Given → Type 0
IsRanged (Port number) = (1 ≤ number) × (number ≤ 65535)
IsRanged (Lanes number) = (1 ≤ number) × (number ≤ MAX_LANES)
IsRanged (Connections number) = 1 ≤ number
IsRanged (Number number) = Unit {0}
IsRanged (Tries number) = AreTries number
IsRanged (Job id) = Unit {0}
IsRanged Socket = Unit {0}
IsRanged Log = Unit {0}

abbrev AreRanged : List Given → Type 0
AreRanged [] = Unit {0}
AreRanged (option ∷ options) = IsRanged option × AreRanged options

-- what is so of some value is so of one that is chosen
choice : {A : Type 0} (P : A → Type 0) (test : Bool) (one other : Option A) → IfSome one P → IfSome other P → IfSome (if test then one else other) P
choice P true one other p q = p
choice P false one other p q = q

given_where : {A : Type 0} (P : A → Type 0) (test : Bool) (a : A) → (test ≡ true → P a) → IfSome (if test then Some a else None) P
given_where P true a p = p refl
given_where P false a p = tt

next_some : {A B : Type 0} (Q : A → Type 0) (P : B → Type 0) (first : Option A) (more : A → Option B) → IfSome first Q → ((a : A) → Q a → IfSome (more a) P)
    → IfSome (option_and_then more first) P
next_some Q P None more q p = tt
next_some Q P (Some a) more q p = p a q

some_map : {A B : Type 0} (Q : A → Type 0) (P : B → Type 0) (first : Option A) (f : A → B) → IfSome first Q → ((a : A) → Q a → P (f a)) → IfSome (option_map f first) P
some_map Q P None f q p = tt
some_map Q P (Some a) f q p = p a q

and_both : (one other : Bool) → (one && other) ≡ true → (one ≡ true) × (other ≡ true)
and_both true other e = (refl, e)
and_both false other e = cc

both : (low high number : ℕ) → is_within low high number ≡ true → (low ≤ number) × (number ≤ high)
both low high number e =
    let parts = and_both (nat_le low number) (nat_le number high) e in
    (leb-true low number parts.0, leb-true number high parts.1)

within_range : (P : Given → Type 0) (low high : ℕ) (given : ℕ → Given) (number : ℕ) → (low ≤ number → number ≤ high → P (given number)) → IfSome (within low high given number) P
within_range P low high given number p =
    given_where P (is_within low high number) (given number) (λ e. p (both low high number e).0 (both low high number e).1)

client_ranged : (name : List ℕ) (number : ℕ) → IfSome (given_to_client name number) IsRanged
client_ranged name number =
    choice IsRanged (bytes_eq name (codes "--port")) (within 1 65535 Port number) (if bytes_eq name (codes "--tries") then within 1 10 Tries number else None)
    (within_range IsRanged 1 65535 Port number (λ low high. (low, high)))
    (choice IsRanged (bytes_eq name (codes "--tries")) (within 1 10 Tries number) None
    (within_range IsRanged 1 10 Tries number (λ low high. (low, high))) tt)

given_ranged : (command : Command) (name : List ℕ) (number : ℕ) → IfSome (given_by command name number) IsRanged
given_ranged Session name number = tt
given_ranged Show name number = tt
given_ranged Load name number =
    choice IsRanged (bytes_eq name (codes "--number")) (within 0 18446744073709551615 Number number) None
    (within_range IsRanged 0 18446744073709551615 Number number (λ low high. tt)) tt
given_ranged Serve name number =
    choice IsRanged (bytes_eq name (codes "--port")) (within 1 65535 Port number)
    (if bytes_eq name (codes "--lanes") then within 1 MAX_LANES Lanes number else if bytes_eq name (codes "--connections") then within 1 1000000 Connections number else None)
    (within_range IsRanged 1 65535 Port number (λ low high. (low, high)))
    (choice IsRanged (bytes_eq name (codes "--lanes")) (within 1 MAX_LANES Lanes number)
    (if bytes_eq name (codes "--connections") then within 1 1000000 Connections number else None)
    (within_range IsRanged 1 MAX_LANES Lanes number (λ low high. (low, high)))
    (choice IsRanged (bytes_eq name (codes "--connections")) (within 1 1000000 Connections number) None
    (within_range IsRanged 1 1000000 Connections number (λ low high. low)) tt))
given_ranged Delete name number = tt
given_ranged _ name number = client_ranged name number

any : {A : Type 0} (first : Option A) → IfSome first (λ a. Unit {0})
any None = tt
any (Some a) = tt

path_ranged : (name value : List ℕ) → IfSome (path_named name value) IsRanged
path_ranged name value =
    choice IsRanged (bytes_eq name (codes "--socket")) (path_given Socket 107 value) (if bytes_eq name (codes "--log") then path_given Log 4095 value else None)
    (given_where IsRanged (is_path 107 value) Socket (λ e. tt))
    (choice IsRanged (bytes_eq name (codes "--log")) (path_given Log 4095 value) None
    (given_where IsRanged (is_path 4095 value) Log (λ e. tt)) tt)

option_ranged : (command : Command) (name value : List ℕ) → IfSome (option_of command name value) IsRanged
option_ranged command name value =
    choice IsRanged (names_job command name) (job_named value)
    (if names_path command name then path_named name value else option_and_then (given_by command name) (number_of value))
    (some_map (λ id. Unit {0}) IsRanged (parsed value) _ (any (parsed value)) (λ id u. tt))
    (choice IsRanged (names_path command name) (path_named name value) (option_and_then (given_by command name) (number_of value)) (path_ranged name value)
    (next_some (λ number. Unit {0}) IsRanged (number_of value) (given_by command name) (any (number_of value)) (λ number q. given_ranged command name number)))

more_ranged : (others : Option (List Given)) (next : Option Given) → IfSome others AreRanged → IfSome next IsRanged
    → IfSome (option_and_then (before_others others) next) AreRanged
more_ranged others next q r = next_some IsRanged AreRanged next (before_others others) r
    (λ given p. some_map AreRanged AreRanged others (λ more. given ∷ more) q (λ more rest. (p, rest)))

options_ranged : (command : Command) (waiting : Option (List ℕ)) (words : List (List ℕ)) → IfSome (options_behind command waiting words) AreRanged
options_ranged command None [] = tt
options_ranged command (Some name) [] = tt
options_ranged command (Some name) (word ∷ words) =
    more_ranged (options_behind command None words) (option_of command name word) (options_ranged command None words) (option_ranged command name word)
options_ranged command None (word ∷ words) =
    choice AreRanged (has_value word)
    (option_and_then (before_others (options_behind command None words)) (option_of command (before_first is_equals word) (after_first is_equals word)))
    (options_behind command (Some word) words)
    (more_ranged (options_behind command None words) (option_of command (before_first is_equals word) (after_first is_equals word))
    (options_ranged command None words) (option_ranged command (before_first is_equals word) (after_first is_equals word)))
    (options_ranged command (Some word) words)

port_ranged : (options : List Given) → AreRanged options → IsPort (first_of port_of options)
port_ranged [] r = tt
port_ranged (Port n ∷ options) r = r.0
port_ranged (other ∷ options) r = port_ranged options r.1

lanes_ranged : (options : List Given) → AreRanged options → IfSome (first_of lanes_of options) (λ n. (1 ≤ n) × (n ≤ MAX_LANES))
lanes_ranged [] r = tt
lanes_ranged (Lanes n ∷ options) r = r.0
lanes_ranged (other ∷ options) r = lanes_ranged options r.1

connections_ranged : (options : List Given) → AreRanged options → IfSome (first_of connections_of options) (λ n. 1 ≤ n)
connections_ranged [] r = tt
connections_ranged (Connections n ∷ options) r = r.0
connections_ranged (other ∷ options) r = connections_ranged options r.1

tries_ranged : (options : List Given) → AreRanged options → IfSome (first_of tries_of options) (λ n. AreTries n)
tries_ranged [] r = tt
tries_ranged (Tries n ∷ options) r = r.0
tries_ranged (other ∷ options) r = tries_ranged options r.1

some_or : (lanes : Option ℕ) → IfSome lanes (λ n. (1 ≤ n) × (n ≤ MAX_LANES)) → (1 ≤ unwrap_or lanes 4) × (unwrap_or lanes 4 ≤ MAX_LANES)
some_or None r = (omega arith, omega arith)
some_or (Some n) r = r

tries_or : (tries : Option ℕ) → IfSome tries (λ n. AreTries n) → AreTries (unwrap_or tries 3)
tries_or None r = (omega arith, omega arith)
tries_or (Some n) r = r

served_ranged : (lanes : ℕ) (connections port : Option ℕ) (named : Bool) → (1 ≤ lanes) × (lanes ≤ MAX_LANES) → IfSome connections (λ n. 1 ≤ n) → IsPort port
    → IfSome (serve_with lanes connections port named) IsInRange
served_ranged lanes connections None false l c p = tt
served_ranged lanes connections None true l c p = (l.0, (l.1, (c, tt)))
served_ranged lanes connections (Some port) false l c p = (l.0, (l.1, (c, p)))
served_ranged lanes connections (Some port) true l c p = tt

asked_ranged : (command : Command) (options : List Given) → AreRanged options → IfSome (asked_with command (numbers_of options)) IsInRange
asked_ranged Session options r = tt
asked_ranged Show options r = tt
asked_ranged Load options r = some_map (λ n. Unit {0}) IsInRange (first_of number_given options) _ (any (first_of number_given options)) (λ n u. tt)
asked_ranged Serve options r =
    served_ranged (unwrap_or (first_of lanes_of options) 4) (first_of connections_of options) (first_of port_of options) (list_any (is_same_option Socket) options)
    (some_or (first_of lanes_of options) (lanes_ranged options r)) (connections_ranged options r) (port_ranged options r)
asked_ranged Submit options r = some_map (λ n. Unit {0}) IsInRange (first_of port_of options) _ (any (first_of port_of options))
    (λ n u. tries_or (first_of tries_of options) (tries_ranged options r))
asked_ranged Query options r = next_some (λ n. Unit {0}) IsInRange (first_of port_of options) _ (any (first_of port_of options))
    (λ n u. some_map (λ job. Unit {0}) IsInRange (first_of job_of options) _ (any (first_of job_of options))
    (λ job v. tries_or (first_of tries_of options) (tries_ranged options r)))
asked_ranged Delete options r = tt
asked_ranged Follow options r = some_map (λ n. Unit {0}) IsInRange (first_of port_of options) _ (any (first_of port_of options))
    (λ n u. tries_or (first_of tries_of options) (tries_ranged options r))

once_ranged : (options : List Given) → AreRanged options → IfSome (each_once options) AreRanged
once_ranged options r = given_where AreRanged (are_apart is_same_option options) options (λ e. r)

command_ranged : (command : Command) (words : List (List ℕ)) → IfSome (asked_of command words) IsInRange
command_ranged command words =
    next_some AreRanged IsInRange (option_and_then each_once (options_behind command None words)) (λ options. asked_with command (numbers_of options))
    (next_some AreRanged AreRanged (options_behind command None words) each_once (options_ranged command None words) once_ranged) (asked_ranged command)

-- what is asked for is in its range
pub asked_in_range : (words : List (List ℕ)) → IfSome (asked_in words) IsInRange
asked_in_range [] = tt
asked_in_range (name ∷ words) = next_some (λ command. Unit {0}) IsInRange (command_named name) (λ command. asked_of command words) (any (command_named name))
    (λ command u. command_ranged command words)
