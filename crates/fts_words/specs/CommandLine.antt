-- The command line as `clap` has it: one subcommand for each command, whose options take one value each.
use Rattle.std.specs.Prelude.{◌≡◌, ◌⊎◌, true, ℕ, List, [], ◌∷◌, Option, Some, None, option_and_then, is_some, codes, Result, Ok, Err}
use Rattle.clap.specs.Words.{App, Row, Rule, first_of, new_app, new_rule, with_rule, with_subcommand}
use Rattle.clap.specs.declared.builder.action.ArgAction.TheVariants.{Set}
use Rattle.clap.specs.declared.error.kind.ErrorKind.{ErrorKind}
use Rattle.clap.specs.declared.error.kind.ErrorKind.TheVariants.{OutOfMemory}
use Rattle.fts_words.specs.Words.{command_named, asked_with, asked_of, option_of, port_of, lanes_of, connections_of, number_given, tries_of, job_of}
use Rattle.fts_words.specs.declared.asked.Asked.{Asked}
use Rattle.fts_words.specs.declared.asked.Command.{Command}
use Rattle.fts_words.specs.declared.options.Given.{Given}
use Rattle.fts_words.specs.declared.options.Numbers.{Numbers}

-- an option, by its name without hyphens
abbrev pub option_rule : List ℕ → Rule
option_rule name = record (new_rule name) { long = Some name; action = Some Set }

-- a command without options
abbrev pub bare_command : List ℕ → App
bare_command name = record { top = record (new_app name).top { disable_help_flag = true }; subs = [] }

abbrev pub load_command : App
load_command = with_rule (bare_command (codes "load")) (option_rule (codes "number"))

-- the command that serves, with the options whose values are numbers
abbrev pub bare_serve : App
bare_serve = with_rule (with_rule (with_rule (bare_command (codes "serve")) (option_rule (codes "port"))) (option_rule (codes "lanes"))) (option_rule (codes "connections"))

-- and with those whose values are paths
abbrev pub serve_command : App
serve_command = with_rule (with_rule bare_serve (option_rule (codes "socket"))) (option_rule (codes "log"))

-- the options of a client, behind those that a command has
abbrev pub with_client_options : App → App
with_client_options command = with_rule (with_rule command (option_rule (codes "port"))) (option_rule (codes "tries"))

abbrev pub submit_command : App
submit_command = with_client_options (bare_command (codes "submit"))

abbrev pub query_command : App
query_command = with_client_options (with_rule (bare_command (codes "query")) (option_rule (codes "job")))

abbrev pub follow_command : App
follow_command = with_client_options (bare_command (codes "follow"))

-- the program, whose words begin with a command's name
abbrev pub program : App
program = record { top = record (new_app (codes "fts")).top { no_binary_name = true; disable_help_flag = true; disable_help_subcommand = true }; subs = [] }

-- with the commands of a service
abbrev pub service_line : App
service_line = with_subcommand (with_subcommand (with_subcommand (with_subcommand program (bare_command (codes "session")).top) (bare_command (codes "show")).top) load_command.top) serve_command.top

abbrev pub command_line : App
command_line = with_subcommand (with_subcommand (with_subcommand (with_subcommand service_line submit_command.top) query_command.top) (bare_command (codes "delete")).top) follow_command.top

-- the option of a command that rows have under an id, with the name that its words have
abbrev pub value_in : Command → List ℕ → List ℕ → List Row → Option Given
value_in command id name rows = option_and_then (option_of command name) (first_of id rows)

-- the numbers of the options that rows have, and whether they have paths
abbrev pub values_in : Command → List Row → Numbers
values_in command rows = record {
  port = option_and_then port_of (value_in command (codes "port") (codes "--port") rows);
  lanes = option_and_then lanes_of (value_in command (codes "lanes") (codes "--lanes") rows);
  connections = option_and_then connections_of (value_in command (codes "connections") (codes "--connections") rows);
  number = option_and_then number_given (value_in command (codes "number") (codes "--number") rows);
  tries = option_and_then tries_of (value_in command (codes "tries") (codes "--tries") rows);
  job = option_and_then job_of (value_in command (codes "job") (codes "--job") rows);
  socket = is_some (value_in command (codes "socket") (codes "--socket") rows);
  log = is_some (value_in command (codes "log") (codes "--log") rows);
}

-- what words ask for, by the name that is the first of them
abbrev pub asked_by : List (List ℕ) → Option Asked
asked_by [] = None
asked_by (name ∷ words) = option_and_then (λ command. asked_of command words) (command_named name)

-- what the subcommand that was entered asks for, by its name and its rows
abbrev pub asked_entered : Option (List ℕ × List Row) → Option Asked
asked_entered entered = option_and_then (λ found. option_and_then (λ command. asked_with command (values_in command found.1)) (command_named found.0)) entered

-- a list that is accepted was taken as what it asks for, or there was no memory
abbrev pub IsTaken : Option Asked → Result (Option Asked) ErrorKind → Type 0
IsTaken None result = Unit {0}
IsTaken (Some asked) result = (result ≡ Ok (Some asked)) ⊎ (result ≡ Err OutOfMemory)
