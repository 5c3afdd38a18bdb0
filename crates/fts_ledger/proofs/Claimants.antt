-- The files that are out behind an opening list behind which none was: each was claimed there, and a writer's own aren't more by entries of others.
use Rattle.std.proofs.Common.{◌≡◌, ◌≢◌, refl, sym, ◌∙◌, subst, ⊎_elim, ℕ, Bool, true, false, cond, List, [], ◌∷◌, ◌++◌, Option, Some, None, Ok, Err, eq-eqb}
use Rattle.std.specs.Prelude.{◌==◌}
use Rattle.fts_tables.specs.SettingsData.{SettingsData}
use Rattle.fts_tables.specs.Tables.{Tables, empty_tables}
use Rattle.fts_tables.specs.Step.{Outcomes, step}
use Rattle.fts_tables.specs.History.{out_after, out_from, out_of_list, out_step, tables_after, tables_from, tables_of, without}
use Rattle.fts_tables.specs.declared.commands.Entry.{Entry}
use Rattle.fts_tables.specs.declared.commands.Command.TheVariants.{Restart}
use Rattle.fts_tables.specs.declared.commands.Answer.{Answer}
use Rattle.fts_tables.specs.declared.commands.Answer.TheVariants.{Restarted, Submitted, Cancelled, PrioritySet, Claimed, Reported, Banned, Unbanned, Expired}
use Rattle.fts_turnstile.specs.History.{Among}
use Rattle.fts_keep.specs.Applied.{entry_by}
use Rattle.fts_workers.proofs.OutFiles.{out_of_list-last}
use Rattle.fts_shop.specs.Looking.{NoneOf}
use Rattle.fts_ledger.specs.Claims.{Claimant, IsOut, IsOwn, claim_after, claim_step, last_claim, last_claim_from}
use Rattle.fts_ledger.proofs.Lists.{among_last, among_without, no_test}
use Rattle.fts_ledger.proofs.Walks.{others_leave}

-- the files that are out behind two lists
out_from-append : (tables : Tables) (files : List ℕ) (entries more : List Entry)
    → out_from tables files (entries ++ more) ≡ out_from (tables_from tables entries) (out_from tables files entries) more
out_from-append tables files [] more = refl
out_from-append tables files (entry ∷ entries) more =
    out_from-append (tables_after tables (step tables entry.command)) (out_step files (step tables entry.command)) entries more

-- and the last claim behind them
last_from-append : (file : ℕ) (tables : Tables) (last : Option Claimant) (entries more : List Entry)
    → last_claim_from file tables last (entries ++ more)
    ≡ last_claim_from file (tables_from tables entries) (last_claim_from file tables last entries) more
last_from-append file tables last [] more = refl
last_from-append file tables last (entry ∷ entries) more =
    last_from-append file (tables_after tables (step tables entry.command)) (claim_step file last entry.writer (step tables entry.command)) entries more

-- a file is some writer's
abbrev pub HasOwner : Option Claimant → Type 0
HasOwner last = (writer : ℕ) × IsOwn writer last

-- a file that an answer leaves out is some writer's, where it was so before
owned_after : (file : ℕ) (files : List ℕ) (last : Option Claimant) (writer : ℕ) (answer : Answer) → (Among file files → HasOwner last)
    → Among file (out_after files answer) → HasOwner (claim_after file last writer answer)
owned_after file files last writer (Restarted count) owned among = absurd among
owned_after file files last writer (Submitted job id) owned among = owned among
owned_after file files last writer (Cancelled job) owned among = owned among
owned_after file files last writer (PrioritySet job) owned among = owned among
owned_after file files last writer (Claimed claimed attempt) owned among = by (claimed == file) refl
  where
    by : (same : Bool) → (claimed == file) ≡ same → HasOwner (cond same (Some (record { writer = writer; attempt = attempt })) last)
    by true at = (writer, refl)
    by false at = ⊎_elim
        (λ there. owned (among_without file claimed files there).0)
        (λ here. absurd (no_test (claimed == file) (eq-eqb claimed file (sym here)) at))
        (among_last file claimed (without claimed files) among)
owned_after file files last writer (Reported reported state) owned among = owned (among_without file reported files among).0
owned_after file files last writer _ owned among = owned among

owned_step : (file : ℕ) (files : List ℕ) (last : Option Claimant) (writer : ℕ) (came : Outcomes) → (Among file files → HasOwner last)
    → Among file (out_step files came) → HasOwner (claim_step file last writer came)
owned_step file files last writer (Ok done) owned among = owned_after file files last writer done.1 owned among
owned_step file files last writer (Err refusal) owned among = owned among

-- so is one that entries leave out
owned_from : (file : ℕ) (tables : Tables) (files : List ℕ) (last : Option Claimant) (entries : List Entry) → (Among file files → HasOwner last)
    → Among file (out_from tables files entries) → HasOwner (last_claim_from file tables last entries)
owned_from file tables files last [] owned among = owned among
owned_from file tables files last (entry ∷ entries) owned among =
    owned_from file (tables_after tables (step tables entry.command)) (out_step files (step tables entry.command))
    (claim_step file last entry.writer (step tables entry.command)) entries
    (λ there. owned_step file files last entry.writer (step tables entry.command) owned there) among

pub claimed_behind : (opening entries : List Entry) (file : ℕ) → out_of_list opening ≡ [] → IsOut file (opening ++ entries)
    → (writer : ℕ) × IsOwn writer (last_claim file opening entries)
claimed_behind opening entries file none out =
    owned_from file (tables_of opening) (out_of_list opening) None entries
    (λ there. let among_none : Among file [] = subst (Among file) none there in absurd among_none)
    (subst (Among file) (out_from-append empty_tables [] opening entries) out)

-- a step of another leaves no more files out that a writer claimed last
step_leaves : (file : ℕ) (files : List ℕ) (last : Option Claimant) (writer by : ℕ) (came : Outcomes) → by ≢ writer
    → Among file (out_step files came) → IsOwn writer (claim_step file last by came) → Among file files × IsOwn writer last
step_leaves file files last writer by (Ok done) other among own = others_leave file files last writer by done.1 other among own
step_leaves file files last writer by (Err refusal) other among own = (among, own)

-- nor do entries of others
entries_leave : (file : ℕ) (tables : Tables) (files : List ℕ) (last : Option Claimant) (writer : ℕ) (entries : List Entry) → NoneOf writer entries
    → Among file (out_from tables files entries) → IsOwn writer (last_claim_from file tables last entries) → Among file files × IsOwn writer last
entries_leave file tables files last writer [] none among own = (among, own)
entries_leave file tables files last writer (entry ∷ entries) none among own =
    let came = step tables entry.command in
    let behind =
    entries_leave file (tables_after tables came) (out_step files came) (claim_step file last entry.writer came) writer entries none.1 among own in
    step_leaves file files last writer entry.writer came none.0 behind.0 behind.1

pub out_before_others : (writer file : ℕ) (opening entries later : List Entry) → NoneOf writer later → IsOut file (opening ++ (entries ++ later))
    → IsOwn writer (last_claim file opening (entries ++ later)) → IsOut file (opening ++ entries) × IsOwn writer (last_claim file opening entries)
out_before_others writer file opening entries later none out own =
    let here = tables_of opening in
    let files = out_of_list opening in
    let was = entries_leave file (tables_from here entries) (out_from here files entries) (last_claim file opening entries) writer later none
    (subst (Among file) (out_from-append empty_tables [] opening (entries ++ later) ∙ out_from-append here files entries later) out)
    (subst (IsOwn writer) (last_from-append file here None entries later) own) in
    (subst (Among file) (sym (out_from-append empty_tables [] opening entries)) was.0, was.1)

-- a restart leaves none out
pub none_out_restarted : (entries : List Entry) (writer now : ℕ) (settings : SettingsData)
    → out_of_list (entries ++ entry_by writer (Restart now settings) ∷ []) ≡ []
none_out_restarted entries writer now settings = out_of_list-last entries (entry_by writer (Restart now settings))
