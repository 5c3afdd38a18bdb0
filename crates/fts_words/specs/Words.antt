-- Which words are a command, and what they ask for: the first is a command's name, and the rest are its options, in any order and each at most once.
-- An option is `--name` and its value in the next word, or `--name=value` in one. A value is 1 to 20 decimal digits, with a number in its range; that of
-- `--job` is the text of a UUID (RFC 9562), and those of `--socket` and `--log` are paths.
use Rattle.std.specs.Prelude.{ℕ, ◌≤◌, IfSome, ◌≡◌, ◌==◌, ◌&&◌, ◌||◌, not, Bool, true, false, if◌then◌else◌, nat_lt, is_some, List, [], ◌∷◌, length, Option, Some, None, option_and_then, option_map, unwrap_or, bytes_eq, codes}
use Rattle.std.specs.List.{list_all, list_any, position_or_len, before_first, after_first}
use Rattle.std.specs.Str.Parse.{digits_value}
use Rattle.std.specs.Int.{from_be_bytes, w128}
use Rattle.uuid.specs.Text.{parsed}
use Rattle.fts_tables.specs.Names.{is_digit}
use Rattle.fts_tables.specs.declared.limits.TheConstants.{MAX_LANES}
use Rattle.fts_tables.specs.SettingsData.{is_within, are_apart}
use Rattle.fts_words.specs.declared.asked.Asked.{Asked}
use Rattle.fts_words.specs.declared.asked.Asked.TheVariants as asks
use Rattle.fts_words.specs.declared.asked.Command.{Command}
use Rattle.fts_words.specs.declared.asked.Command.TheVariants.{Session, Show, Load, Serve, Submit, Query, Delete, Follow}
use Rattle.fts_words.specs.declared.options.Given.{Given}
use Rattle.fts_words.specs.declared.options.Given.TheVariants.{Port, Lanes, Connections, Number, Tries, Job, Socket, Log}
use Rattle.fts_words.specs.declared.options.Numbers.{Numbers}

-- the command of a name
abbrev pub command_named : List ℕ → Option Command
command_named name =
    if bytes_eq name (codes "session") then Some Session else
    if bytes_eq name (codes "show") then Some Show else
    if bytes_eq name (codes "load") then Some Load else
    if bytes_eq name (codes "serve") then Some Serve else
    if bytes_eq name (codes "submit") then Some Submit else
    if bytes_eq name (codes "query") then Some Query else
    if bytes_eq name (codes "delete") then Some Delete else
    if bytes_eq name (codes "follow") then Some Follow else None

-- the command that is asked for
abbrev pub command_of : Asked → Command
command_of asks.Session = Session
command_of asks.Show = Show
command_of (asks.Load number) = Load
command_of (asks.Serve port lanes connections) = Serve
command_of (asks.Submit port tries) = Submit
command_of (asks.Query port job tries) = Query
command_of asks.Delete = Delete
command_of (asks.Follow port tries) = Follow

-- whether it is to serve that is asked for
abbrev pub IsToServe : Option Asked → Type 0
IsToServe None = ⊥
IsToServe (Some asks.Session) = ⊥
IsToServe (Some asks.Show) = ⊥
IsToServe (Some (asks.Load number)) = ⊥
IsToServe (Some (asks.Serve port lanes connections)) = Unit {0}
IsToServe (Some (asks.Submit port tries)) = ⊥
IsToServe (Some (asks.Query port job tries)) = ⊥
IsToServe (Some asks.Delete) = ⊥
IsToServe (Some (asks.Follow port tries)) = ⊥

-- so many tries are 1 to 10
abbrev pub AreTries : ℕ → Type 0
AreTries tries = (1 ≤ tries) × (tries ≤ 10)

-- the port, where there is one, is 1 to 65535
abbrev pub IsPort : Option ℕ → Type 0
IsPort port = IfSome port (λ number. (1 ≤ number) × (number ≤ 65535))

-- the lanes, connections and tries that are asked for are in their ranges, and so is the port that is to be served
abbrev pub IsInRange : Asked → Type 0
IsInRange asks.Session = Unit {0}
IsInRange asks.Show = Unit {0}
IsInRange (asks.Load number) = Unit {0}
IsInRange (asks.Serve port lanes connections) = (1 ≤ lanes) × ((lanes ≤ MAX_LANES) × (IfSome connections (λ most. 1 ≤ most) × IsPort port))
IsInRange (asks.Submit port tries) = AreTries tries
IsInRange (asks.Query port job tries) = AreTries tries
IsInRange asks.Delete = Unit {0}
IsInRange (asks.Follow port tries) = AreTries tries

-- whether a byte is an equals sign
abbrev pub is_equals : ℕ → Bool
is_equals byte = byte == 61

-- whether a word has its value behind an equals sign
abbrev pub has_value : List ℕ → Bool
has_value word = nat_lt (position_or_len is_equals word) (length word)

-- the number of a value of 1 to 20 decimal digits
abbrev pub number_of : List ℕ → Option ℕ
number_of value = if is_within 1 20 (length value) && list_all is_digit value then Some (digits_value 10 value) else None

-- a number that is in a range
abbrev pub within : ℕ → ℕ → (ℕ → Given) → ℕ → Option Given
within low high given number = if is_within low high number then Some (given number) else None

-- the option of a client by its name, with a number in its range
abbrev pub given_to_client : List ℕ → ℕ → Option Given
given_to_client name number =
    if bytes_eq name (codes "--port") then within 1 65535 Port number else
    if bytes_eq name (codes "--tries") then within 1 10 Tries number else None

-- the option of a command by its name, with a number in its range
abbrev pub given_by : Command → List ℕ → ℕ → Option Given
given_by Session name number = None
given_by Show name number = None
given_by Load name number = if bytes_eq name (codes "--number") then within 0 18446744073709551615 Number number else None
given_by Serve name number =
    if bytes_eq name (codes "--port") then within 1 65535 Port number else
    if bytes_eq name (codes "--lanes") then within 1 MAX_LANES Lanes number else
    if bytes_eq name (codes "--connections") then within 1 1000000 Connections number else None
given_by Delete name number = None
given_by _ name number = given_to_client name number

-- whether a name is that of the option which names a job
abbrev pub names_job : Command → List ℕ → Bool
names_job Query name = bytes_eq name (codes "--job")
names_job _ name = false

-- the job whose id a value is the text of
abbrev pub job_named : List ℕ → Option Given
job_named value = option_map (λ id. Job (from_be_bytes w128 id)) (parsed value)

-- whether a command has options whose values are paths
abbrev pub has_paths : Command → Bool
has_paths Serve = true
has_paths _ = false

-- whether a byte is not zero
abbrev pub is_no_zero : ℕ → Bool
is_no_zero byte = not (byte == 0)

-- whether a value begins with another byte than a hyphen: one that begins so is an option whose own value was left out
abbrev pub begins_plainly : List ℕ → Bool
begins_plainly [] = false
begins_plainly (first ∷ rest) = not (first == 45)

-- whether a value is a path of 1 to so many bytes, of which none is zero
abbrev pub is_path : ℕ → List ℕ → Bool
is_path most value = is_within 1 most (length value) && (begins_plainly value && list_all is_no_zero value)

-- an option whose value is a path of at most so many bytes
abbrev pub path_given : Given → ℕ → List ℕ → Option Given
path_given option most value = if is_path most value then Some option else None

-- the option by its name, where the command has those of paths. The address of a socket has room for 107 bytes and a zero, and a path for 4095 and a zero
abbrev pub path_named : List ℕ → List ℕ → Option Given
path_named name value =
    if bytes_eq name (codes "--socket") then path_given Socket 107 value else
    if bytes_eq name (codes "--log") then path_given Log 4095 value else None

-- whether a name is that of an option whose value is a path
abbrev pub names_path : Command → List ℕ → Bool
names_path command name = has_paths command && (bytes_eq name (codes "--socket") || bytes_eq name (codes "--log"))

-- the option of a command by its name and its value
abbrev pub option_of : Command → List ℕ → List ℕ → Option Given
option_of command name value =
    if names_job command name then job_named value else
    if names_path command name then path_named name value else option_and_then (given_by command name) (number_of value)

-- an option before others
abbrev pub before_others : Option (List Given) → Given → Option (List Given)
before_others others given = option_map (λ more. given ∷ more) others

-- the options of words, in their order; a word that waits is a name whose value comes next
abbrev pub options_behind : Command → Option (List ℕ) → List (List ℕ) → Option (List Given)
options_behind command None [] = Some []
options_behind command (Some name) [] = None
options_behind command (Some name) (word ∷ words) = option_and_then (before_others (options_behind command None words)) (option_of command name word)
options_behind command None (word ∷ words) =
    if has_value word then option_and_then (before_others (options_behind command None words)) (option_of command (before_first is_equals word) (after_first is_equals word))
    else options_behind command (Some word) words

-- whether two options have one name
abbrev pub is_same_option : Given → Given → Bool
is_same_option (Port one) (Port other) = true
is_same_option (Lanes one) (Lanes other) = true
is_same_option (Connections one) (Connections other) = true
is_same_option (Number one) (Number other) = true
is_same_option (Tries one) (Tries other) = true
is_same_option (Job one) (Job other) = true
is_same_option Socket Socket = true
is_same_option Log Log = true
is_same_option one other = false

-- the options, where none stands twice
abbrev pub each_once : List Given → Option (List Given)
each_once options = if are_apart is_same_option options then Some options else None

-- the numbers of options, each of one name
abbrev pub port_of : Given → Option ℕ
port_of (Port number) = Some number
port_of other = None

abbrev pub lanes_of : Given → Option ℕ
lanes_of (Lanes number) = Some number
lanes_of other = None

abbrev pub connections_of : Given → Option ℕ
connections_of (Connections number) = Some number
connections_of other = None

abbrev pub number_given : Given → Option ℕ
number_given (Number number) = Some number
number_given other = None

abbrev pub tries_of : Given → Option ℕ
tries_of (Tries number) = Some number
tries_of other = None

abbrev pub job_of : Given → Option ℕ
job_of (Job id) = Some id
job_of other = None

-- the first of options that has such a number
abbrev pub first_of : (Given → Option ℕ) → List Given → Option ℕ
first_of part [] = None
first_of part (option ∷ options) = unwrap_or (option_map Some (part option)) (first_of part options)

-- the numbers of options, and whether there are paths
abbrev pub numbers_of : List Given → Numbers
numbers_of options = record {
  port = first_of port_of options;
  lanes = first_of lanes_of options;
  connections = first_of connections_of options;
  number = first_of number_given options;
  tries = first_of tries_of options;
  job = first_of job_of options;
  socket = list_any (is_same_option Socket) options;
  log = list_any (is_same_option Log) options;
}

-- what it is to serve: connections at a port or at a socket, at one of the two
abbrev pub serve_with : ℕ → Option ℕ → Option ℕ → Bool → Option Asked
serve_with lanes connections None false = None
serve_with lanes connections None true = Some (asks.Serve None lanes connections)
serve_with lanes connections (Some port) false = Some (asks.Serve (Some port) lanes connections)
serve_with lanes connections (Some port) true = None

-- what a command asks for with these numbers: a port, a number and a job have to be there where they are the command's; there are 4 lanes where none are
-- named, and 3 tries
abbrev pub asked_with : Command → Numbers → Option Asked
asked_with Session numbers = Some asks.Session
asked_with Show numbers = Some asks.Show
asked_with Load numbers = option_map asks.Load numbers.number
asked_with Serve numbers = serve_with (unwrap_or numbers.lanes 4) numbers.connections numbers.port numbers.socket
asked_with Submit numbers = option_map (λ port. asks.Submit port (unwrap_or numbers.tries 3)) numbers.port
asked_with Query numbers = option_and_then (λ port. option_map (λ job. asks.Query port job (unwrap_or numbers.tries 3)) numbers.job) numbers.port
asked_with Delete numbers = Some asks.Delete
asked_with Follow numbers = option_map (λ port. asks.Follow port (unwrap_or numbers.tries 3)) numbers.port

-- what a command's words ask for
abbrev pub asked_of : Command → List (List ℕ) → Option Asked
asked_of command words = option_and_then (λ options. asked_with command (numbers_of options)) (option_and_then each_once (options_behind command None words))

-- what words ask for, where they are accepted
abbrev pub asked_in : List (List ℕ) → Option Asked
asked_in [] = None
asked_in (name ∷ words) = option_and_then (λ command. asked_of command words) (command_named name)

-- the value that words have for an option, by its name; a word that waits is a name whose value comes next
abbrev pub value_behind : List ℕ → Option (List ℕ) → List (List ℕ) → Option (List ℕ)
value_behind wanted waiting [] = None
value_behind wanted (Some name) (word ∷ words) = if bytes_eq name wanted then Some word else value_behind wanted None words
value_behind wanted None (word ∷ words) =
    if has_value word then (if bytes_eq (before_first is_equals word) wanted then Some (after_first is_equals word) else value_behind wanted None words)
    else value_behind wanted (Some word) words

-- the value that words have for an option, behind a command's name
abbrev pub value_named : List ℕ → List (List ℕ) → Option (List ℕ)
value_named wanted [] = None
value_named wanted (name ∷ words) = value_behind wanted None words

-- the value of an option of words that are accepted
abbrev pub accepted_value : List ℕ → List (List ℕ) → Option (List ℕ)
accepted_value wanted words = option_and_then (λ asked. value_named wanted words) (asked_in words)

-- the path of the socket that accepted words name
abbrev pub socket_in : List (List ℕ) → Option (List ℕ)
socket_in words = accepted_value (codes "--socket") words

-- the path of the log that accepted words name
abbrev pub log_in : List (List ℕ) → Option (List ℕ)
log_in words = accepted_value (codes "--log") words

-- where it is to serve that is asked for, connections come at a port exactly where no socket is named
abbrev pub IsServedAt : Bool → Asked → Type 0
IsServedAt named asks.Session = Unit {0}
IsServedAt named asks.Show = Unit {0}
IsServedAt named (asks.Load number) = Unit {0}
IsServedAt named (asks.Serve port lanes connections) = named ≡ not (is_some port)
IsServedAt named (asks.Submit port tries) = Unit {0}
IsServedAt named (asks.Query port job tries) = Unit {0}
IsServedAt named asks.Delete = Unit {0}
IsServedAt named (asks.Follow port tries) = Unit {0}
