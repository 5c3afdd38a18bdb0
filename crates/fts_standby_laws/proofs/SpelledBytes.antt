-- The spelling of a proper entry is of bytes: each number of it is below 256.
use Rattle.std.proofs.Common.{◌≡◌, ℕ, zero, suc, ◌+◌, ◌/◌, ◌%◌, ◌^◌, ◌<◌, Bool, true, false, cond, ltb, List, [], ◌∷◌, ◌++◌, length, Option, Some, None, subst, arith, ⊎_elim}
use Rattle.std.specs.Prelude.{◌==◌}
use Rattle.std.specs.Int.{byte_at, bytes_low_first, bytes_high_first}
use Rattle.std.specs.List.{flat_map, list_all}
use Rattle.std.specs.Str.{is_utf8}
use Rattle.std.proofs.Math.Utf8.{scalar, scalars, encode, encodes, scalar_cases}
use Rattle.std.proofs.lemmas.Bool.{and_parts, cond_both, ltb-true}
use Rattle.std.proofs.lemmas.Str.{IsUtf8-from_is_utf8}
use Rattle.fts_tables.specs.SettingsData.{SettingsData, is_within, is_label}
use Rattle.fts_tables.specs.Names.{is_endpoint_name, is_path_key}
use Rattle.fts_tables.specs.JobData.{JobData}
use Rattle.fts_tables.specs.declared.settings.Endpoint.{Endpoint}
use Rattle.fts_tables.specs.declared.settings.LinkRule.{LinkRule}
use Rattle.fts_tables.specs.declared.settings.Weight.{Weight}
use Rattle.fts_tables.specs.declared.rows.NewFile.{NewFile}
use Rattle.fts_tables.specs.declared.rows.JobKind.{JobKind}
use Rattle.fts_tables.specs.declared.rows.JobKind.TheVariants.{Plain, Replica, Multihop}
use Rattle.fts_tables.specs.declared.rows.Strategy.{Strategy}
use Rattle.fts_tables.specs.declared.rows.Strategy.TheVariants.{Auto, Orderly}
use Rattle.fts_tables.specs.declared.rows.Outcome.{Outcome}
use Rattle.fts_tables.specs.declared.rows.Outcome.TheVariants.{Verified, SourceMissing, DestinationExists, SourceSize, SourceDigest, ReadBackDiffers, StoreFailed, Stopped}
use Rattle.fts_tables.specs.declared.commands.Command.{Command}
use Rattle.fts_tables.specs.declared.commands.Command.TheVariants.{Restart, Submit, CancelJob, CancelFile, SetPriority, Claim, Report, Ban, Unban, Expire}
use Rattle.fts_tables.specs.declared.commands.Entry.{Entry}
use Rattle.fts_record.specs.Spelling.{low_first, number_bytes, text_bytes, flag_bytes, option_bytes, digest_bytes, id_bytes, kind_bytes, strategy_bytes, list_bytes, endpoint_bytes, link_bytes, weight_bytes, settings_bytes, file_bytes, job_bytes, limited_job_bytes, outcome_bytes, command_bytes, spelled}
use Rattle.fts_record.specs.Fields.{is_u32}
use Rattle.fts_record.specs.Proper.{is_digest, is_none_or, is_label_text, is_name_text, is_path_text, is_list, is_proper_endpoint, is_proper_link, is_proper_weight, has_proper_settings_fields, is_proper_settings, is_proper_file, has_proper_job_fields, is_proper_job, is_proper_outcome, is_proper_command, is_proper, IsProper}
use Rattle.fts_record.specs.Laws.{AreBytes}

-- each number of a list is a byte
abbrev AreSmall : List ℕ → Type 0
AreSmall [] = Unit {0}
AreSmall (byte ∷ bytes) = (byte < 256) × AreSmall bytes

small-append : (front back : List ℕ) → AreSmall front → AreSmall back → AreSmall (front ++ back)
small-append [] back first second = second
small-append (byte ∷ front) back first second = (first.0, small-append front back first.1 second)

-- as it is said of places
at_each : (bytes : List ℕ) → AreSmall bytes → AreBytes bytes
at_each [] small place = omega arith
at_each (byte ∷ bytes) small zero = small.0
at_each (byte ∷ bytes) small (suc place) = at_each bytes small.1 place

-- numbers
low_first_small : (more number : ℕ) → AreSmall (low_first more number)
low_first_small zero number = tt
low_first_small (suc more) number =
    let behind = low_first_small more (number / 128) in
    cond_both (ltb number 128) (number ∷ []) ((128 + number % 128) ∷ low_first more (number / 128)) AreSmall
    (λ small. let few = ltb-true number 128 small in (omega (arith, few), tt)) (λ large. (omega arith, behind))

number_small : (number : ℕ) → AreSmall (number_bytes number)
unfolding number_bytes
number_small number = low_first_small 10 number

-- the bytes of a wide number
byte_small : (place number : ℕ) → byte_at place number < 256
byte_small zero number = omega arith
byte_small (suc place) number = omega arith

low_small : (place count number : ℕ) → AreSmall (bytes_low_first place count number)
low_small place zero number = tt
low_small place (suc count) number = (byte_small place number, low_small (suc place) count number)

high_small : (count number : ℕ) → AreSmall (bytes_high_first count number)
high_small zero number = tt
high_small (suc count) number = (byte_small count number, high_small count number)

-- the bytes of characters
few_characters : (c : ℕ) → scalar c ≡ true → c < 1114112
few_characters c is = ⊎_elim (λ low. omega (arith, low)) (λ high. high.1) (scalar_cases c is)

encode_small : (c : ℕ) → c < 1114112 → AreSmall (encode c)
unfolding encode
encode_small c few =
    cond_both (ltb c 128) (c ∷ []) _ AreSmall
    (λ one. let small = ltb-true c 128 one in (omega (arith, small), tt))
    (λ _. cond_both (ltb c 2048) _ _ AreSmall
    (λ two. let small = ltb-true c 2048 two in (omega (arith, small), (omega arith, tt)))
    (λ _. cond_both (ltb c 65536) _ _ AreSmall
    (λ three. let small = ltb-true c 65536 three in (omega (arith, small), (omega arith, (omega arith, tt))))
    (λ _. (omega (arith, few), (omega arith, (omega arith, (omega arith, tt)))))))

encodes_small : (cs : List ℕ) → scalars cs ≡ true → AreSmall (encodes cs)
encodes_small [] is = tt
encodes_small (c ∷ cs) is =
    let both = and_parts (scalar c) (scalars cs) is in
    small-append (encode c) (encodes cs) (encode_small c (few_characters c both.0)) (encodes_small cs both.1)

text_small : (text : List ℕ) → is_utf8 text ≡ true → AreSmall (text_bytes text)
unfolding text_bytes
text_small text is =
    let of = IsUtf8-from_is_utf8 text is in
    small-append (number_bytes (length text)) text (number_small (length text)) (subst AreSmall of.1.1 (encodes_small of.0 of.1.0))

-- labels, names of endpoints and paths
label_small : (text : List ℕ) → is_label_text text ≡ true → AreSmall (text_bytes text)
unfolding is_label_text
label_small text passed = text_small text (and_parts (is_utf8 text) (is_label text) passed).0

name_small : (text : List ℕ) → is_name_text text ≡ true → AreSmall (text_bytes text)
unfolding is_name_text
name_small text passed = text_small text (and_parts (is_utf8 text) (is_endpoint_name text) passed).0

path_small : (text : List ℕ) → is_path_text text ≡ true → AreSmall (text_bytes text)
unfolding is_path_text
path_small text passed = text_small text (and_parts (is_utf8 text) (is_path_key text) passed).0

-- items, and a list of them
items_small : {A : Type 0} (spell : A → List ℕ) (test : A → Bool) → ((item : A) → test item ≡ true → AreSmall (spell item))
    → (items : List A) → list_all test items ≡ true → AreSmall (flat_map spell items)
items_small spell test each [] passed = tt
items_small spell test each (item ∷ items) passed =
    let both = and_parts (test item) (list_all test items) passed in
    small-append (spell item) (flat_map spell items) (each item both.0) (items_small spell test each items both.1)

list_small : {A : Type 0} (spell : A → List ℕ) (test : A → Bool) (low high : ℕ) → ((item : A) → test item ≡ true → AreSmall (spell item))
    → (items : List A) → is_list low high test items ≡ true → AreSmall (list_bytes spell items)
list_small spell test low high each items passed =
    let both = and_parts (is_within low high (length items)) (list_all test items) passed in
    small-append (number_bytes (length items)) (flat_map spell items) (number_small (length items)) (items_small spell test each items both.1)

-- digests, ids, kinds, strategies and flags
each_small : (bytes : List ℕ) → list_all (λ byte. ltb byte 256) bytes ≡ true → AreSmall bytes
each_small [] passed = tt
each_small (byte ∷ bytes) passed =
    let both = and_parts (ltb byte 256) (list_all (λ byte. ltb byte 256) bytes) passed in (ltb-true byte 256 both.0, each_small bytes both.1)

digest_small : (digest : List ℕ) → is_digest digest ≡ true → AreSmall digest
digest_small digest passed = each_small digest (and_parts (length digest == 16) (list_all (λ byte. ltb byte 256) digest) passed).1

wanted_small : (wanted : Option (List ℕ)) → is_none_or is_digest wanted ≡ true → AreSmall (option_bytes digest_bytes wanted)
wanted_small None passed = (omega arith, tt)
wanted_small (Some digest) passed = (omega arith, digest_small digest passed)

id_small : (id : Option ℕ) → AreSmall (option_bytes id_bytes id)
id_small None = (omega arith, tt)
id_small (Some id) =
    (omega arith, small-append (bytes_high_first 8 (id / 2 ^ 64)) (bytes_high_first 8 (id % 2 ^ 64)) (high_small 8 (id / 2 ^ 64)) (high_small 8 (id % 2 ^ 64)))

kind_small : (kind : JobKind) → AreSmall (kind_bytes kind)
kind_small Plain = (omega arith, tt)
kind_small Replica = (omega arith, tt)
kind_small Multihop = (omega arith, tt)

strategy_small : (strategy : Strategy) → AreSmall (strategy_bytes strategy)
strategy_small Auto = (omega arith, tt)
strategy_small Orderly = (omega arith, tt)

flag_small : (flag : Bool) → AreSmall (flag_bytes flag)
flag_small false = (omega arith, tt)
flag_small true = (omega arith, tt)

-- endpoints, links and activities
endpoint_small : (e : Endpoint) → is_proper_endpoint e ≡ true → AreSmall (endpoint_bytes e)
unfolding endpoint_bytes is_proper_endpoint
endpoint_small e passed =
    let name = (and_parts _ _ (and_parts _ _ passed).0).0 in
    small-append _ _ (small-append (text_bytes e.name) _ (name_small e.name name) (number_small e.inbound)) (number_small e.outbound)

link_small : (l : LinkRule) → is_proper_link l ≡ true → AreSmall (link_bytes l)
unfolding link_bytes is_proper_link
link_small l passed =
    let dest = and_parts _ _ (and_parts _ _ passed).0 in
    let source = and_parts _ _ dest.0 in
    small-append _ _ (small-append _ _ (small-append (text_bytes l.symbolic) _ (label_small l.symbolic source.0) (name_small l.source source.1))
    (name_small l.dest dest.1)) (number_small l.max_active)

weight_small : (w : Weight) → is_proper_weight w ≡ true → AreSmall (weight_bytes w)
unfolding weight_bytes is_proper_weight
weight_small w passed = small-append (text_bytes w.name) _ (label_small w.name (and_parts _ _ passed).0) (number_small w.weight)

-- settings, files and jobs
settings_small : (s : SettingsData) → is_proper_settings s ≡ true → AreSmall (settings_bytes s)
unfolding settings_bytes is_proper_settings has_proper_settings_fields
settings_small s passed =
    let weights = and_parts _ _ (and_parts _ _ passed).0 in
    let links = and_parts _ _ weights.0 in
    let endpoints = and_parts _ _ links.0 in
    let limit = and_parts _ _ endpoints.0 in
    let workers = and_parts _ _ limit.0 in
    small-append _ _ (small-append _ _ (small-append _ _ (small-append _ _ (small-append (text_bytes s.vo) _
    (label_small s.vo workers.0) (number_small s.workers)) (number_small s.default_max_active))
    (list_small endpoint_bytes is_proper_endpoint 1 256 endpoint_small s.endpoints endpoints.1))
    (list_small link_bytes is_proper_link 0 1024 link_small s.links links.1))
    (list_small weight_bytes is_proper_weight 0 64 weight_small s.weights weights.1)

file_small : (f : NewFile) → is_proper_file f ≡ true → AreSmall (file_bytes f)
unfolding file_bytes is_proper_file
file_small f passed =
    let activity = and_parts _ _ passed in
    let wanted = and_parts _ _ activity.0 in
    let size = and_parts _ _ wanted.0 in
    let dest_path = and_parts _ _ size.0 in
    let dest = and_parts _ _ dest_path.0 in
    let source_path = and_parts _ _ dest.0 in
    let source = and_parts _ _ source_path.0 in
    small-append _ _ (small-append _ _ (small-append _ _ (small-append _ _ (small-append _ _ (small-append _ _ (small-append (number_bytes f.index) _
    (number_small f.index) (name_small f.source.endpoint source.1)) (path_small f.source.path source_path.1))
    (name_small f.dest.endpoint dest.1)) (path_small f.dest.path dest_path.1)) (number_small f.size)) (wanted_small f.wanted wanted.1))
    (label_small f.activity activity.1)

job_small : (j : JobData) → has_proper_job_fields j ≡ true → AreSmall (job_bytes j)
unfolding job_bytes has_proper_job_fields
job_small j passed =
    small-append _ _ (small-append _ _ (small-append _ _ (small-append _ _ (small-append _ _ (small-append _ _ (small-append (kind_bytes j.kind) _
    (kind_small j.kind) (strategy_small j.strategy)) (id_small j.id)) (number_small j.priority)) (number_small j.retry)) (number_small j.delay))
    (flag_small j.overwrite)) (list_small file_bytes is_proper_file 1 200 file_small j.files (and_parts _ _ passed).1)

-- outcomes and commands
outcome_small : (o : Outcome) → is_proper_outcome o ≡ true → AreSmall (outcome_bytes o)
unfolding outcome_bytes is_proper_outcome
outcome_small (Verified size digest) passed =
    (omega arith, small-append (number_bytes size) digest (number_small size) (digest_small digest (and_parts _ _ passed).1))
outcome_small (SourceSize seen) passed = (omega arith, number_small seen)
outcome_small (SourceDigest seen) passed = (omega arith, digest_small seen passed)
outcome_small (ReadBackDiffers place) passed = (omega arith, number_small place)
outcome_small _ passed = (omega arith, tt)

submit_small : (now : ℕ) (j : JobData) → is_proper_job j ≡ true
    → AreSmall (cond (j.queue_hours == 0) (2 ∷ number_bytes now ++ job_bytes j) (11 ∷ number_bytes now ++ limited_job_bytes j))
unfolding is_proper_job limited_job_bytes
submit_small now j passed =
    let job = job_small j (and_parts _ _ passed).0 in
    cond_both (j.queue_hours == 0) (2 ∷ number_bytes now ++ job_bytes j) _ AreSmall
    (λ _. (omega arith, small-append (number_bytes now) (job_bytes j) (number_small now) job))
    (λ _. (omega arith, small-append (number_bytes now) _ (number_small now) (small-append (number_bytes j.queue_hours) (job_bytes j) (number_small j.queue_hours) job)))

command_small : (command : Command) → is_proper_command command ≡ true → AreSmall (command_bytes command)
unfolding command_bytes is_proper_command
command_small (Restart now s) passed = (omega arith, small-append (number_bytes now) _ (number_small now) (settings_small s (and_parts _ _ passed).1))
command_small (Submit now j) passed = submit_small now j (and_parts _ _ passed).1
command_small (CancelJob now j) passed = (omega arith, small-append (number_bytes now) _ (number_small now) (number_small j))
command_small (CancelFile now j f) passed =
    (omega arith, small-append _ _ (small-append (number_bytes now) _ (number_small now) (number_small j)) (number_small f))
command_small (SetPriority now j priority) passed =
    (omega arith, small-append _ _ (small-append (number_bytes now) _ (number_small now) (number_small j)) (number_small priority))
command_small (Claim now word) passed = (omega arith, small-append (number_bytes now) _ (number_small now) (low_small 0 8 word))
command_small (Report now f attempt o) passed = (
  omega arith,
  small-append _ _ (small-append _ _ (small-append (number_bytes now) _ (number_small now) (number_small f)) (number_small attempt))
      (outcome_small o (and_parts _ _ passed).1),
)
command_small (Ban now storage cancel) passed =
    (omega arith, small-append _ _ (small-append (number_bytes now) _ (number_small now) (name_small storage (and_parts _ _ passed).1)) (flag_small cancel))
command_small (Unban now storage) passed = (omega arith, small-append (number_bytes now) _ (number_small now) (name_small storage (and_parts _ _ passed).1))
command_small (Expire now) passed = (omega arith, number_small now)

-- the spelling of a proper entry
pub spelled_bytes : (entry : Entry) → IsProper entry → AreBytes (spelled entry)
unfolding spelled is_proper
spelled_bytes entry passed =
    let both = and_parts (is_u32 entry.writer) (is_proper_command entry.command) passed in
    at_each (number_bytes entry.writer ++ command_bytes entry.command)
    (small-append (number_bytes entry.writer) (command_bytes entry.command) (number_small entry.writer) (command_small entry.command both.1))
