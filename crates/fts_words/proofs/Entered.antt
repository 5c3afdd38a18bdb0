-- The whole command line: `clap` takes each list that the definition accepts, and has the values of its options.
use Rattle.std.proofs.Common.{◌≡◌, refl, ap, sym, ◌∙◌, subst, ◌&&◌, Bool, true, false, not, inl, inr, List, [], ◌∷◌, ◌++◌, Option, Some, None, Ok, Err}
use Rattle.std.specs.Prelude.{codes, fold, option_and_then, is_some, bytes_eq, if◌then◌else◌}
use Rattle.std.specs.List.{list_any}
use Rattle.std.proofs.Common.{append_assoc, append-nil}
use Rattle.std.proofs.lemmas.Slice.Eq.{bytes_eq-Decides}
use Rattle.clap.specs.Words.{Row, Shape, Text, first_value, rows_of, takes, subcommand_of}
use Rattle.clap.specs.declared.error.kind.ErrorKind.{ErrorKind}
use Rattle.clap.specs.declared.error.kind.ErrorKind.TheVariants.{OutOfMemory}
use Rattle.clap.specs.declared.parser.matches.Found.{Found}
use Rattle.clap.proofs.WalkLemmas.{first_value-rows}
use Rattle.clap.specs.Simple.{App, built, names_of, entered, is_simple}
use Rattle.clap.specs.Takes.{turn_passes, walk_passes, level_passes, entered_passes}
use Rattle.clap.specs.Walk.{Held, Walk, Names, walked, walk, walk_from, settled, has_row, finished, nothing_held, rows_after, idle}
use Rattle.clap.proofs.OnLiterals.{clap_on_literals}
use Rattle.fts_tables.specs.SettingsData.{are_apart}
use Rattle.fts_words.specs.CommandLine.{command_line, value_in, values_in, asked_by, asked_entered, IsTaken}
use Rattle.fts_words.specs.Words.{command_named, option_of, options_behind, each_once, numbers_of, asked_with, asked_of, is_same_option, port_of, lanes_of, connections_of, number_given, tries_of, job_of, first_of as first_number}
use Rattle.fts_words.specs.declared.asked.Asked.{Asked}
use Rattle.fts_words.specs.declared.asked.Command.{Command}
use Rattle.fts_words.specs.declared.asked.Command.TheVariants.{Session, Show, Load, Serve, Submit, Query, Delete, Follow}
use Rattle.fts_words.specs.declared.options.Given.{Given}
use Rattle.fts_words.specs.declared.options.Given.TheVariants.{Port, Lanes, Connections, Number, Tries, Job, Socket, Log}
use Rattle.fts_words.proofs.Taking.{Name, ThePort, TheLanes, TheConnections, TheNumber, TheTries, TheJob, TheSocket, TheLog, shape_of_command, rules_of_command, at}
use Rattle.fts_words.proofs.Walked.{given_as, or_else, value_at, Goes, goes_on}

-- a command's name
abbrev pub name_of : Command → Text
name_of Session = codes "session"
name_of Show = codes "show"
name_of Load = codes "load"
name_of Serve = codes "serve"
name_of Submit = codes "submit"
name_of Query = codes "query"
name_of Delete = codes "delete"
name_of Follow = codes "follow"

-- the options that are left of an accepted list are each once
pub record AreOnce (command : Command) (words : List Text) (asked : Asked) : Type 0 where
  pub options : List Given
  pub are : options_behind command None words ≡ Some options
  pub apart : are_apart is_same_option options ≡ true
  pub with : asked_with command (numbers_of options) ≡ Some asked

pub are_once : (command : Command) (words : List Text) (asked : Asked) → asked_of command words ≡ Some asked → AreOnce command words asked
are_once command words asked found = by_options (options_behind command None words) refl found
  where
    by_apart : (options : List Given) (b : Bool) → are_apart is_same_option options ≡ b → options_behind command None words ≡ Some options
        → option_and_then (λ (l : List Given). asked_with command (numbers_of l)) (if b then Some options else None) ≡ Some asked → AreOnce command words asked
    by_apart options true apart is found = record { options = options; are = is; apart = apart; with = found }
    by_apart options false apart is found = absurd cc

    by_options : (o : Option (List Given)) → options_behind command None words ≡ o
        → option_and_then (λ (l : List Given). asked_with command (numbers_of l)) (option_and_then each_once o) ≡ Some asked → AreOnce command words asked
    by_options None is found = absurd cc
    by_options (Some options) is found = by_apart options (are_apart is_same_option options) refl is found

-- from the beginning
begun : (command : Command) (words : List Text) (options : List Given) → options_behind command None words ≡ Some options → are_apart is_same_option options ≡ true
    → Goes command (at [] None) words options []
begun command words options are apart = goes_on command words options [] None are apart refl (λ name some. refl)

-- the level of a command passes
level_taken : (command : Command) (words : List Text) (options : List Given) → Goes command (at [] None) words options [] → level_passes (shape_of_command command) [] nothing_held words false ≡ true
level_taken Session words options goes = rw (goes.passes, goes.settles_at_end) refl
level_taken command words options goes = rw (goes.passes, goes.settles_at_end) refl

-- no option has a default
abbrev kept : Text → List Row → List Row
kept id rows = if has_row id rows then rows else rows

kept_one : (id : Text) (rows : List Row) → kept id rows ≡ rows
kept_one id rows = same (has_row id rows)
  where
    same : (b : Bool) → (if b then rows else rows) ≡ rows
    same true = refl
    same false = refl

kept_two : (id other : Text) (rows : List Row) → kept other (kept id rows) ≡ rows
kept_two id other rows = ap (kept other) (kept_one id rows) ∙ kept_one other rows

kept_three : (id other third : Text) (rows : List Row) → kept third (kept other (kept id rows)) ≡ rows
kept_three id other third rows = ap (kept third) (kept_two id other rows) ∙ kept_one third rows

kept_five : (id other third fourth fifth : Text) (rows : List Row) → kept fifth (kept fourth (kept third (kept other (kept id rows)))) ≡ rows
kept_five id other third fourth fifth rows =
    ap (λ (l : List Row). kept fifth (kept fourth l)) (kept_three id other third rows) ∙ kept_two fourth fifth rows

finished_is : (command : Command) (held : Held) → finished (rules_of_command command) held ≡ (settled (rules_of_command command) held).rows
finished_is Session held = refl
finished_is Show held = refl
finished_is Load held = kept_one (codes "number") (settled (rules_of_command Load) held).rows
finished_is Serve held = kept_five (codes "port") (codes "lanes") (codes "connections") (codes "socket") (codes "log") (settled (rules_of_command Serve) held).rows
finished_is Submit held = kept_two (codes "port") (codes "tries") (settled (rules_of_command Submit) held).rows
finished_is Query held = kept_three (codes "job") (codes "port") (codes "tries") (settled (rules_of_command Query) held).rows
finished_is Delete held = refl
finished_is Follow held = kept_two (codes "port") (codes "tries") (settled (rules_of_command Follow) held).rows

-- where a walk stopped at a command's name, with the words behind it
abbrev stopped_at : Command → List Text → Walk
stopped_at command words = record { held = nothing_held; waiting = idle; position = 1; is_trailing = false; stopped = Some (name_of command, words) }

abbrev top : Shape
top = (built command_line).top

abbrev names : Names
names = names_of (built command_line)

met_command : (command : Command) → walked top.rules names (walk_from nothing_held) (name_of command) ≡ stopped_at command []
unfolding clap_on_literals
met_command Session = refl
met_command command = refl

command_passes : (command : Command) → turn_passes top names (walk_from nothing_held) (name_of command) ≡ true
unfolding clap_on_literals
command_passes Session = refl
command_passes command = refl

-- the words behind are kept for the command
kept_words : (command : Command) (before words : List Text) → fold (walked top.rules names) (stopped_at command before) words ≡ stopped_at command (before ++ words)
unfolding walked
kept_words command before [] = ap (stopped_at command) (sym (append-nil before))
kept_words command before (word ∷ words) = kept_words command (before ++ word ∷ []) words ∙ ap (stopped_at command) (append_assoc before (word ∷ []) words)

kept_passes : (command : Command) (before words : List Text) → walk_passes top names (stopped_at command before) words ≡ true
unfolding walk_passes walked
kept_passes command before [] = refl
kept_passes command before (word ∷ words) = kept_passes command (before ++ word ∷ []) words

top_walk : (command : Command) (words : List Text) → walk top.rules names nothing_held (name_of command ∷ words) ≡ stopped_at command words
top_walk command words = ap (λ (w : Walk). fold (walked top.rules names) w words) (met_command command) ∙ kept_words command [] words

top_passes : (command : Command) (words : List Text) → walk_passes top names (walk_from nothing_held) (name_of command ∷ words) ≡ true
unfolding walk_passes
top_passes command words = ap (λ b. b && walk_passes top names (walked top.rules names (walk_from nothing_held) (name_of command)) words) (command_passes command)
    ∙ ap (λ (w : Walk). walk_passes top names w words) (met_command command) ∙ kept_passes command [] words

entered_taken : (command : Command) (words : List Text) → level_passes (shape_of_command command) [] nothing_held words false ≡ true
    → entered_passes (built command_line) (Some (name_of command, words)) ≡ true
entered_taken Session words passes = passes
entered_taken command words passes = passes

entered_rows : (command : Command) (words : List Text) → entered (built command_line) (Some (name_of command, words)) ≡ Some (name_of command, rows_after (rules_of_command command) [] words)
entered_rows Session words = refl
entered_rows command words = refl

-- `clap` takes the list
line_taken : (command : Command) (words : List Text) (options : List Given) → Goes command (at [] None) words options [] → takes command_line (name_of command ∷ words) ≡ true
line_taken command words options goes =
    let inside = ap (λ (w : Walk). entered_passes (built command_line) w.stopped) (top_walk command words) ∙ entered_taken command words (level_taken command words options goes) in
    rw (inside, top_passes command words, top_walk command words) refl

rows_are : (command : Command) (words : List Text) → subcommand_of command_line (name_of command ∷ words) ≡ Some (name_of command, rows_after (rules_of_command command) [] words)
rows_are command words = ap (λ (w : Walk). entered (built command_line) w.stopped) (top_walk command words) ∙ entered_rows command words

-- the values are those of the options
only_given : (option : Option Given) → or_else option None ≡ option
only_given None = refl
only_given (Some option) = refl

ports : (options : List Given) → option_and_then port_of (given_as ThePort options) ≡ first_number port_of options
ports [] = refl
ports (Port n ∷ options) = refl
ports (other ∷ options) = ports options

lanes : (options : List Given) → option_and_then lanes_of (given_as TheLanes options) ≡ first_number lanes_of options
lanes [] = refl
lanes (Lanes n ∷ options) = refl
lanes (other ∷ options) = lanes options

connections : (options : List Given) → option_and_then connections_of (given_as TheConnections options) ≡ first_number connections_of options
connections [] = refl
connections (Connections n ∷ options) = refl
connections (other ∷ options) = connections options

numbers : (options : List Given) → option_and_then number_given (given_as TheNumber options) ≡ first_number number_given options
numbers [] = refl
numbers (Number n ∷ options) = refl
numbers (other ∷ options) = numbers options

tries : (options : List Given) → option_and_then tries_of (given_as TheTries options) ≡ first_number tries_of options
tries [] = refl
tries (Tries n ∷ options) = refl
tries (other ∷ options) = tries options

jobs : (options : List Given) → option_and_then job_of (given_as TheJob options) ≡ first_number job_of options
jobs [] = refl
jobs (Job n ∷ options) = refl
jobs (other ∷ options) = jobs options

sockets : (options : List Given) → is_some (given_as TheSocket options) ≡ list_any (is_same_option Socket) options
sockets [] = refl
sockets (Socket ∷ options) = refl
sockets (other ∷ options) = sockets options

logs : (options : List Given) → is_some (given_as TheLog options) ≡ list_any (is_same_option Log) options
logs [] = refl
logs (Log ∷ options) = refl
logs (other ∷ options) = logs options

values_are : (command : Command) (words : List Text) (options : List Given) → Goes command (at [] None) words options []
    → values_in command (rows_after (rules_of_command command) [] words) ≡ numbers_of options
values_are command words options goes =
    let end = (walk (rules_of_command command) [] nothing_held words).held in
    let finished_rows = finished_is command end in
    let value : (name : Name) → value_at command name (rows_after (rules_of_command command) [] words) ≡ given_as name options =
    λ name. ap (value_at command name) finished_rows ∙ goes.values name ∙ only_given (given_as name options) in
    let p = ap (option_and_then port_of) (value ThePort) ∙ ports options in
    let l = ap (option_and_then lanes_of) (value TheLanes) ∙ lanes options in
    let c = ap (option_and_then connections_of) (value TheConnections) ∙ connections options in
    let n = ap (option_and_then number_given) (value TheNumber) ∙ numbers options in
    let t = ap (option_and_then tries_of) (value TheTries) ∙ tries options in
    let j = ap (option_and_then job_of) (value TheJob) ∙ jobs options in
    let s = ap (λ (o : Option Given). is_some o) (value TheSocket) ∙ sockets options in
    let g = ap (λ (o : Option Given). is_some o) (value TheLog) ∙ logs options in
    rw (p, l, c, n, t, j, s, g) refl

-- a name is that of its command
of_names : (name : Text) (command one : Command) (others : Option Command) → (others ≡ Some command → name ≡ name_of command)
    → (if bytes_eq name (name_of one) then Some one else others) ≡ Some command → name ≡ name_of command
of_names name command one others behind is = by_test (bytes_eq name (name_of one)) (bytes_eq-Decides name (name_of one)).0 is
  where
    by_test : (b : Bool) → (b ≡ true → name ≡ name_of one) → (if b then Some one else others) ≡ Some command → name ≡ name_of command
    by_test true same found = let e : one ≡ command = cc in same refl ∙ ap name_of e
    by_test false same found = behind found

name_is : (name : Text) (command : Command) → command_named name ≡ Some command → name ≡ name_of command
name_is name command is =
    of_names name command Session _
    (of_names name command Show _
    (of_names name command Load _
    (of_names name command Serve _
    (of_names name command Submit _
    (of_names name command Query _
    (of_names name command Delete _
    (of_names name command Follow None
    (λ none. absurd cc)))))))) is

named_so : (command : Command) → command_named (name_of command) ≡ Some command
named_so Session = refl
named_so command = refl

-- `clap` takes each list that asks for something, and enters what it asks for
pub record IsAccepted (words : List Text) (asked : Asked) : Type 0 where
  pub taken : takes command_line words ≡ true
  pub entered : asked_entered (subcommand_of command_line words) ≡ Some asked

accepted_by : (command : Command) (words : List Text) (asked : Asked) → asked_of command words ≡ Some asked → IsAccepted (name_of command ∷ words) asked
accepted_by command words asked is =
    let once = are_once command words asked is in
    let goes = begun command words once.options once.are once.apart in
    record {
      taken = line_taken command words once.options goes;
      entered = ap asked_entered (rows_are command words)
          ∙ ap (λ (o : Option Command). option_and_then (λ (c : Command). asked_with c (values_in c (rows_after (rules_of_command command) [] words))) o) (named_so command)
          ∙ ap (asked_with command) (values_are command words once.options goes) ∙ once.with;
    }

pub accepted : (words : List Text) (asked : Asked) → asked_by words ≡ Some asked → IsAccepted words asked
accepted [] asked is = absurd cc
accepted (name ∷ words) asked is = by_command (command_named name) refl is
  where
    by_command : (o : Option Command) → command_named name ≡ o → option_and_then (λ (c : Command). asked_of c words) o ≡ Some asked → IsAccepted (name ∷ words) asked
    by_command None named found = absurd cc
    by_command (Some command) named found =
        subst (λ (n : Text). IsAccepted (n ∷ words) asked) (sym (name_is name command named)) (accepted_by command words asked found)

pub is_simple_line : is_simple command_line ≡ true
is_simple_line = refl

-- what `clap` makes of words, where its command is the definition's
pub taken_as : (words : List Text) (result : Option Asked) (line : App) (rows : Option (Text × List Row)) → line ≡ command_line
    → (is_simple line ≡ true → rows ≡ subcommand_of line words) → result ≡ asked_entered rows → IsTaken (asked_by words) (Ok result)
taken_as words result line rows is given found = by_asked (asked_by words) refl
  where
    by_asked : (o : Option Asked) → asked_by words ≡ o → IsTaken o (Ok result)
    by_asked None asks = tt
    by_asked (Some asked) asks = inl (ap (λ (o : Option Asked). Ok o)
        (found ∙ ap asked_entered (given (ap is_simple is ∙ is_simple_line) ∙ ap (λ (a : App). subcommand_of a words) is) ∙ (accepted words asked asks).entered))

pub refused_as : (words : List Text) (line : App) (kind : ErrorKind) → line ≡ command_line → (takes line words ≡ true → kind ≡ OutOfMemory) → IsTaken (asked_by words) (Err kind)
refused_as words line kind is given = by_asked (asked_by words) refl
  where
    by_asked : (o : Option Asked) → asked_by words ≡ o → IsTaken o (Err kind)
    by_asked None asks = tt
    by_asked (Some asked) asks = inr (ap (λ (k : ErrorKind). Err k) (given (ap (λ (a : App). takes a words) is ∙ (accepted words asked asks).taken)))

-- the option that matches have under an id
pub value_found : (found : Found) (command : Command) (id name : Text) (text : Option Text) (result : Option Given) → text ≡ first_value found id
    → result ≡ option_and_then (option_of command name) text → result ≡ value_in command id name (rows_of found)
value_found found command id name text result is read = read ∙ ap (option_and_then (option_of command name)) (is ∙ first_value-rows found id)

-- a command that is plain has no global option
pub third : (a b c d : Bool) → (a && (not b && (not c && d))) ≡ true → c ≡ false
third true true c d is = absurd cc
third true false true d is = absurd cc
third true false false d is = refl
third false b c d is = absurd cc
