-- What `clap` makes of a command's options, word by word: it takes each list that is accepted, and has the values of its options.
use Rattle.std.proofs.Common.{◌≡◌, refl, ap, ◌∙◌, ℕ, ◌==◌, ◌||◌, ◌&&◌, Bool, true, false, List, [], ◌∷◌, ◌++◌, Option, Some, None}
use Rattle.std.specs.Prelude.{codes, bytes_eq, if◌then◌else◌, option_and_then}
use Rattle.std.specs.Option.{option_map_or}
use Rattle.clap.specs.Lexer.{long_of, long_of_rest, short_of, short_of_rest, strip_byte}
use Rattle.clap.specs.Words.{Row, Rule, Shape, Text}
use Rattle.clap.specs.Simple.{App, filled, built_leaf, inherited, with_leaf_noted, marked_built}
use Rattle.clap.specs.Takes.{turn_passes, settle_passes, flag_word_passes, bundle_passes, step_passes}
use Rattle.clap.specs.Walk.{Walk, Held, Step, trailing, word_met, plain_word, short_or_plain, long_or_other, after_step, walked, settled_rows, has_row, at_row, with_values, without, more_values, reading_by, idle, option}
use Rattle.clap.specs.declared.parser.matches.ValueSource.TheVariants.{CommandLine}
use Rattle.clap.proofs.OnLiterals.{clap_on_literals}
use Rattle.fts_words.specs.CommandLine.{command_line, option_rule, bare_command, load_command, serve_command, submit_command, query_command, follow_command}
use Rattle.fts_words.specs.declared.asked.Command.{Command}
use Rattle.fts_words.specs.declared.asked.Command.TheVariants.{Session, Show, Load, Serve, Submit, Query, Delete, Follow}

-- the options by their names
pub data Name : Type 0 where
  ThePort : Name
  TheLanes : Name
  TheConnections : Name
  TheNumber : Name
  TheTries : Name
  TheJob : Name
  TheSocket : Name
  TheLog : Name

abbrev pub id_of : Name → Text
id_of ThePort = codes "port"
id_of TheLanes = codes "lanes"
id_of TheConnections = codes "connections"
id_of TheNumber = codes "number"
id_of TheTries = codes "tries"
id_of TheJob = codes "job"
id_of TheSocket = codes "socket"
id_of TheLog = codes "log"

-- the option as a word
abbrev pub word_of : Name → Text
word_of name = codes "--" ++ id_of name

-- whether a command has an option
abbrev pub Has : Command → Name → Type 0
Has Load TheNumber = Unit {0}
Has Serve ThePort = Unit {0}
Has Serve TheLanes = Unit {0}
Has Serve TheConnections = Unit {0}
Has Serve TheSocket = Unit {0}
Has Serve TheLog = Unit {0}
Has Submit ThePort = Unit {0}
Has Submit TheTries = Unit {0}
Has Query ThePort = Unit {0}
Has Query TheTries = Unit {0}
Has Query TheJob = Unit {0}
Has Follow ThePort = Unit {0}
Has Follow TheTries = Unit {0}
Has command name = ⊥

-- what holds of each option of each command
pub of_each : (P : Command → Name → Type 0)
    → P Load TheNumber
    → P Serve ThePort
    → P Serve TheLanes
    → P Serve TheConnections
    → P Serve TheSocket
    → P Serve TheLog
    → P Submit ThePort
    → P Submit TheTries
    → P Query ThePort
    → P Query TheTries
    → P Query TheJob
    → P Follow ThePort
    → P Follow TheTries
    → (command : Command) (name : Name) → Has command name → P command name
of_each P a b c d e f g h i j k l m Load TheNumber has = a
of_each P a b c d e f g h i j k l m Serve ThePort has = b
of_each P a b c d e f g h i j k l m Serve TheLanes has = c
of_each P a b c d e f g h i j k l m Serve TheConnections has = d
of_each P a b c d e f g h i j k l m Serve TheSocket has = e
of_each P a b c d e f g h i j k l m Serve TheLog has = f
of_each P a b c d e f g h i j k l m Submit ThePort has = g
of_each P a b c d e f g h i j k l m Submit TheTries has = h
of_each P a b c d e f g h i j k l m Query ThePort has = i
of_each P a b c d e f g h i j k l m Query TheTries has = j
of_each P a b c d e f g h i j k l m Query TheJob has = k
of_each P a b c d e f g h i j k l m Follow ThePort has = l
of_each P a b c d e f g h i j k l m Follow TheTries has = m
of_each P a b c d e f g h i j k l m command name has = absurd has

-- the names are apart
abbrev pub same_name : Name → Name → Bool
same_name ThePort ThePort = true
same_name TheLanes TheLanes = true
same_name TheConnections TheConnections = true
same_name TheNumber TheNumber = true
same_name TheTries TheTries = true
same_name TheJob TheJob = true
same_name TheSocket TheSocket = true
same_name TheLog TheLog = true
same_name one other = false

pub same_id : (one other : Name) → bytes_eq (id_of one) (id_of other) ≡ same_name one other
same_id ThePort ThePort = refl
same_id TheLanes TheLanes = refl
same_id TheConnections TheConnections = refl
same_id TheNumber TheNumber = refl
same_id TheTries TheTries = refl
same_id TheJob TheJob = refl
same_id TheSocket TheSocket = refl
same_id TheLog TheLog = refl
same_id one other = refl

-- a command as it is built
abbrev pub built_one : App → Shape
built_one command = built_leaf (inherited (with_leaf_noted (marked_built command_line.top)) command.top)

abbrev pub shape_of_command : Command → Shape
shape_of_command Session = built_one (bare_command (codes "session"))
shape_of_command Show = built_one (bare_command (codes "show"))
shape_of_command Load = built_one load_command
shape_of_command Serve = built_one serve_command
shape_of_command Submit = built_one submit_command
shape_of_command Query = built_one query_command
shape_of_command Delete = built_one (bare_command (codes "delete"))
shape_of_command Follow = built_one follow_command

abbrev pub rules_of_command : Command → List Rule
rules_of_command command = (shape_of_command command).rules

-- where nothing waits for a value, and where an option waits for its value
abbrev pub at : List Row → Option (Text × List Text) → Walk
at rows pending = record {
  held = record { rows = rows; pending = pending; skip = 0 };
  waiting = idle;
  position = 1;
  is_trailing = false;
  stopped = None;
}

abbrev pub waiting_at : Text → List Row → Walk
waiting_at id rows = record {
  held = record { rows = rows; pending = Some (id, []); skip = 0 };
  waiting = option id;
  position = 1;
  is_trailing = false;
  stopped = None;
}

-- the row of an option with its value
abbrev pub row_with : Name → Text → Row
row_with name value = record {
  id = id_of name;
  values = value ∷ [];
  count = None;
  source = Some CommandLine;
  reading = reading_by (filled (option_rule (id_of name)));
}

-- behind rows of which none has its id, a row is the last one
at_end : (id : Text) (change : Row → List Row) (missing rows : List Row) → has_row id rows ≡ false → at_row id change missing rows ≡ rows ++ missing
at_end id change missing [] none = refl
at_end id change missing (row ∷ rows) none = by_test (bytes_eq row.id id) none (at_end id change missing rows)
  where
    by_test : (b : Bool) → (b || has_row id rows) ≡ false → (has_row id rows ≡ false → at_row id change missing rows ≡ rows ++ missing)
        → (if b then change row ++ rows else row ∷ at_row id change missing rows) ≡ (row ∷ rows) ++ missing
    by_test true none behind = absurd cc
    by_test false none behind = ap (λ (more : List Row). row ∷ more) (behind none)

no_more : (rows : List Row) → rows ++ [] ≡ rows
no_more [] = refl
no_more (row ∷ rows) = ap (λ (more : List Row). row ∷ more) (no_more rows)

-- one option, with its value behind an equals sign
abbrev pub MeetsJoined : Command → Name → Type 0
MeetsJoined command name = (v : ℕ) (vs : List ℕ) (rows : List Row) (pending : Option (Text × List Text))
    → walked (rules_of_command command) [] (at rows pending) (word_of name ++ 61 ∷ v ∷ vs)
    ≡ at (with_values (id_of name) (row_with name []).reading CommandLine ((v ∷ vs) ∷ []) (without (id_of name) (settled_rows (rules_of_command command) pending rows))) None

pub met_joined : (command : Command) (name : Name) → Has command name → MeetsJoined command name
unfolding clap_on_literals
met_joined = of_each MeetsJoined
    (λ v vs rows pending. refl) (λ v vs rows pending. refl) (λ v vs rows pending. refl) (λ v vs rows pending. refl) (λ v vs rows pending. refl) (λ v vs rows pending. refl)
    (λ v vs rows pending. refl) (λ v vs rows pending. refl) (λ v vs rows pending. refl) (λ v vs rows pending. refl) (λ v vs rows pending. refl) (λ v vs rows pending. refl) (λ v vs rows pending. refl)

-- its name alone
abbrev pub MeetsName : Command → Name → Type 0
MeetsName command name = (rows : List Row) (pending : Option (Text × List Text))
    → walked (rules_of_command command) [] (at rows pending) (word_of name) ≡ waiting_at (id_of name) (settled_rows (rules_of_command command) pending rows)

pub met_name : (command : Command) (name : Name) → Has command name → MeetsName command name
unfolding clap_on_literals
met_name = of_each MeetsName
    (λ rows pending. refl) (λ rows pending. refl) (λ rows pending. refl) (λ rows pending. refl) (λ rows pending. refl) (λ rows pending. refl)
    (λ rows pending. refl) (λ rows pending. refl) (λ rows pending. refl) (λ rows pending. refl) (λ rows pending. refl) (λ rows pending. refl) (λ rows pending. refl)

-- a word that begins with no hyphen is no option
module _ (v : ℕ) (vs : List ℕ) (plain : (v == 45) ≡ false) where
  no_long : long_of (v ∷ vs) ≡ None
  no_long = ap (λ (b : Bool). option_and_then long_of_rest (option_and_then (strip_byte 45) (if b then Some vs else None))) plain

  no_short : short_of (v ∷ vs) ≡ None
  no_short = ap (λ (b : Bool). option_and_then short_of_rest (if b then Some vs else None)) plain

  no_dashes : bytes_eq (v ∷ vs) (45 ∷ 45 ∷ []) ≡ false
  no_dashes = ap (λ (b : Bool). b && bytes_eq vs (45 ∷ [])) plain

  met_plain : (rules : List Rule) (id : Text) (h : Held) → word_met rules [] false (option id) 1 (v ∷ vs) h ≡ plain_word rules (option id) (v ∷ vs) h
  met_plain rules id h =
      ap (λ (b : Bool). if b then (h, trailing 1) else long_or_other rules (option id) (v ∷ vs) (long_of (v ∷ vs)) h) no_dashes
      ∙ ap (λ (o : Option (Text × Option Text)). long_or_other rules (option id) (v ∷ vs) o h) no_long
      ∙ ap (λ (o : Option Text). short_or_plain rules (option id) (v ∷ vs) o h) no_short

  met_word : (rules : List Rule) (id : Text) (rows : List Row) → walked rules [] (waiting_at id rows) (v ∷ vs)
      ≡ after_step rules (v ∷ vs) (waiting_at id rows) (plain_word rules (option id) (v ∷ vs) (waiting_at id rows).held).0 (plain_word rules (option id) (v ∷ vs) (waiting_at id rows).held).1
  unfolding walked
  met_word rules id rows = ap (λ (met : Held × Step). after_step rules (v ∷ vs) (waiting_at id rows) met.0 met.1) (met_plain rules id (waiting_at id rows).held)

  word_turns : (s : Shape) (id : Text) (rows : List Row) → turn_passes s [] (waiting_at id rows) (v ∷ vs) ≡ true
  word_turns s id rows =
      let held = (waiting_at id rows).held in
      let met = word_met s.rules [] false (option id) 1 (v ∷ vs) held in
      ap (λ (b : Bool). (b || flag_word_passes s.rules s.args_override_self (long_of (v ∷ vs)) (v ∷ vs) held) && step_passes s 1 met.0 met.1) no_dashes
      ∙ ap (λ (o : Option (Text × Option Text)). flag_word_passes s.rules s.args_override_self o (v ∷ vs) held && step_passes s 1 met.0 met.1) no_long
      ∙ ap (λ (o : Option Text). option_map_or (λ flags. bundle_passes s.rules s.args_override_self flags held) o true && step_passes s 1 met.0 met.1) no_short
      ∙ ap (λ (m : Held × Step). step_passes s 1 m.0 m.1) (met_plain s.rules id held)

-- and then its value, which begins with no hyphen
abbrev pub MeetsValue : Command → Name → Type 0
MeetsValue command name = (v : ℕ) (vs : List ℕ) (rows : List Row) → (v == 45) ≡ false
    → walked (rules_of_command command) [] (waiting_at (id_of name) rows) (v ∷ vs) ≡ at rows (Some (id_of name, (v ∷ vs) ∷ []))

abbrev KeepsValue : Command → Name → Type 0
KeepsValue command name = (word : Text) (rows : List Row)
    → after_step (rules_of_command command) word (waiting_at (id_of name) rows) (plain_word (rules_of_command command) (option (id_of name)) word (waiting_at (id_of name) rows).held).0
    (plain_word (rules_of_command command) (option (id_of name)) word (waiting_at (id_of name) rows).held).1 ≡ at rows (Some (id_of name, word ∷ []))

keeps_value : (command : Command) (name : Name) → Has command name → KeepsValue command name
keeps_value = of_each KeepsValue
    (λ word rows. refl) (λ word rows. refl) (λ word rows. refl) (λ word rows. refl) (λ word rows. refl) (λ word rows. refl)
    (λ word rows. refl) (λ word rows. refl) (λ word rows. refl) (λ word rows. refl) (λ word rows. refl) (λ word rows. refl) (λ word rows. refl)

pub met_value : (command : Command) (name : Name) → Has command name → MeetsValue command name
met_value command name has v vs rows plain = met_word v vs plain (rules_of_command command) (id_of name) rows ∙ keeps_value command name has (v ∷ vs) rows

-- whether each of them passes
abbrev pub settles : Command → List Row → Option (Text × List Text) → Bool
settles command rows pending = settle_passes (rules_of_command command) false (record { rows = rows; pending = pending; skip = 0 })

abbrev pub NamePasses : Command → Name → Type 0
NamePasses command name = (rows : List Row) (pending : Option (Text × List Text)) → settles command rows pending ≡ true
    → turn_passes (shape_of_command command) [] (at rows pending) (word_of name) ≡ true

pub name_passes : (command : Command) (name : Name) → Has command name → NamePasses command name
unfolding clap_on_literals
name_passes = of_each NamePasses
    (λ rows pending so. rw so refl) (λ rows pending so. rw so refl) (λ rows pending so. rw so refl) (λ rows pending so. rw so refl) (λ rows pending so. rw so refl) (λ rows pending so. rw so refl)
    (λ rows pending so. rw so refl) (λ rows pending so. rw so refl) (λ rows pending so. rw so refl) (λ rows pending so. rw so refl) (λ rows pending so. rw so refl) (λ rows pending so. rw so refl) (λ rows pending so. rw so refl)

abbrev pub JoinedPasses : Command → Name → Type 0
JoinedPasses command name = (v : ℕ) (vs : List ℕ) (rows : List Row) (pending : Option (Text × List Text)) → settles command rows pending ≡ true
    → has_row (id_of name) (settled_rows (rules_of_command command) pending rows) ≡ false
    → turn_passes (shape_of_command command) [] (at rows pending) (word_of name ++ 61 ∷ v ∷ vs) ≡ true

pub joined_passes : (command : Command) (name : Name) → Has command name → JoinedPasses command name
unfolding clap_on_literals
joined_passes = of_each JoinedPasses
    (λ v vs rows pending so new. rw (so, new) refl) (λ v vs rows pending so new. rw (so, new) refl) (λ v vs rows pending so new. rw (so, new) refl) (λ v vs rows pending so new. rw (so, new) refl) (λ v vs rows pending so new. rw (so, new) refl) (λ v vs rows pending so new. rw (so, new) refl)
    (λ v vs rows pending so new. rw (so, new) refl) (λ v vs rows pending so new. rw (so, new) refl) (λ v vs rows pending so new. rw (so, new) refl) (λ v vs rows pending so new. rw (so, new) refl) (λ v vs rows pending so new. rw (so, new) refl) (λ v vs rows pending so new. rw (so, new) refl) (λ v vs rows pending so new. rw (so, new) refl)

abbrev pub ValuePasses : Command → Name → Type 0
ValuePasses command name = (v : ℕ) (vs : List ℕ) (rows : List Row) → (v == 45) ≡ false
    → turn_passes (shape_of_command command) [] (waiting_at (id_of name) rows) (v ∷ vs) ≡ true

pub value_passes : (command : Command) (name : Name) → Has command name → ValuePasses command name
value_passes command name has v vs rows plain = word_turns v vs plain (shape_of_command command) (id_of name) rows

-- an option that waited, and got its value, settles where it is new; and what it leaves
abbrev pub PendingSettles : Command → Name → Type 0
PendingSettles command name = (value : Text) (rows : List Row) → has_row (id_of name) rows ≡ false → settles command rows (Some (id_of name, value ∷ [])) ≡ true

pub pending_settles : (command : Command) (name : Name) → Has command name → PendingSettles command name
pending_settles = of_each PendingSettles
    (λ value rows new. rw new refl) (λ value rows new. rw new refl) (λ value rows new. rw new refl) (λ value rows new. rw new refl) (λ value rows new. rw new refl) (λ value rows new. rw new refl)
    (λ value rows new. rw new refl) (λ value rows new. rw new refl) (λ value rows new. rw new refl) (λ value rows new. rw new refl) (λ value rows new. rw new refl) (λ value rows new. rw new refl) (λ value rows new. rw new refl)

abbrev pub PendingLeaves : Command → Name → Type 0
PendingLeaves command name = (value : Text) (rows : List Row)
    → settled_rows (rules_of_command command) (Some (id_of name, value ∷ [])) rows ≡ with_values (id_of name) (row_with name []).reading CommandLine (value ∷ []) (without (id_of name) rows)

pub pending_leaves : (command : Command) (name : Name) → Has command name → PendingLeaves command name
pending_leaves = of_each PendingLeaves
    (λ value rows. refl) (λ value rows. refl) (λ value rows. refl) (λ value rows. refl) (λ value rows. refl) (λ value rows. refl)
    (λ value rows. refl) (λ value rows. refl) (λ value rows. refl) (λ value rows. refl) (λ value rows. refl) (λ value rows. refl) (λ value rows. refl)

-- the row of a new option stands behind the others
pub row_behind : (name : Name) (value : Text) (rows : List Row) → has_row (id_of name) rows ≡ false
    → with_values (id_of name) (row_with name []).reading CommandLine (value ∷ []) (without (id_of name) rows) ≡ rows ++ row_with name value ∷ []
row_behind name value rows new =
    ap (with_values (id_of name) (row_with name []).reading CommandLine (value ∷ [])) (at_end (id_of name) (λ _. []) [] rows new ∙ no_more rows)
    ∙ at_end (id_of name) (more_values CommandLine (value ∷ [])) (row_with name value ∷ []) rows new
