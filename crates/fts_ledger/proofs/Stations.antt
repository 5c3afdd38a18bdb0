-- Where every writer reports only what it claimed last itself, and nothing is released, nobody takes a file from a writer.
use Rattle.std.proofs.Common.{◌≡◌, sym, ap, ◌∙◌, subst, ⊎_elim, ℕ, List, [], ◌∷◌, ◌++◌, Option, Some, None, append_assoc}
use Rattle.fts_tables.specs.History.{IsLegal}
use Rattle.fts_tables.specs.declared.rows.Outcome.{Outcome}
use Rattle.fts_tables.specs.declared.commands.Entry.{Entry}
use Rattle.fts_tables.specs.declared.commands.Command.{Command}
use Rattle.fts_tables.specs.declared.commands.Command.TheVariants.{Restart, Submit, CancelJob, CancelFile, SetPriority, Claim, Report, Ban, Unban, Expire}
use Rattle.fts_turnstile.specs.declared.turn.LoggedTurn.{LoggedTurn}
use Rattle.fts_turnstile.specs.History.{items_of}
use Rattle.fts_turnstile.specs.Passes.{PassView, seen_list}
use Rattle.fts_workers.specs.declared.held.Held.{Held}
use Rattle.fts_keep.specs.Applied.{entry_by}
use Rattle.fts_shop.specs.Looking.{NoneOf}
use Rattle.fts_shop.specs.Looked.{items_on}
use Rattle.fts_ledger.specs.Claims.{Claimant, IsOwn, last_claim}
use Rattle.fts_ledger.specs.Reports.{AddsWork, HasNoRestart, IsReportOf, IsRestart, IsUndisturbed, ReportsOwn}
use Rattle.fts_ledger.specs.Ledger.{KeepsItsFiles, KeepsLedger}
use Rattle.fts_ledger.proofs.Turned.{legal_back}
use Rattle.fts_ledger.proofs.Lists.{each_append, each_none, work_append, work_none}

-- a claim has one writer
one_writer : (last : Option Claimant) (one other : ℕ) → IsOwn one last → IsOwn other last → one ≡ other
one_writer None one other is_one is_other = absurd is_one
one_writer (Some claim) one other is_one is_other = sym is_one ∙ is_other

-- an entry among others of which none is a restart isn't one
no_restart_at : (earlier : List Entry) (entry : Entry) (later : List Entry) → HasNoRestart (earlier ++ entry ∷ later) → IsRestart entry.command → ⊥
no_restart_at [] entry later none is = none.0 is
no_restart_at (one ∷ earlier) entry later none is = no_restart_at earlier entry later none.1 is

-- what a report names
pub record Names (file : ℕ) (command : Command) : Type 0 where
  pub now : ℕ
  pub attempt : ℕ
  pub outcome : Outcome
  pub is : command ≡ Report now file attempt outcome

names : (file : ℕ) (command : Command) → IsReportOf file command → Names file command
names file (Restart now settings) is = absurd is
names file (Submit now job) is = absurd is
names file (CancelJob now job) is = absurd is
names file (CancelFile now job one) is = absurd is
names file (SetPriority now job priority) is = absurd is
names file (Claim now word) is = absurd is
names file (Report now reported attempt outcome) is =
    record { now = now; attempt = attempt; outcome = outcome; is = ap (λ f. Report now f attempt outcome) is }
names file (Ban now storage cancel) is = absurd is
names file (Unban now storage) is = absurd is
names file (Expire now) is = absurd is

pub undisturbed : (opening entries : List Entry) → HasNoRestart entries → ((writer : ℕ) → ReportsOwn writer opening [] entries)
    → (writer : ℕ) → IsUndisturbed writer opening entries
undisturbed opening entries none own writer earlier later entry file is last takes = ⊎_elim
    (λ restart. no_restart_at earlier entry later (subst HasNoRestart is none) restart)
    (λ report.
    let named = names file entry.command report.0 in
    let entry_is : entry ≡ entry_by entry.writer (Report named.now file named.attempt named.outcome) = ap (entry_by entry.writer) named.is in
    report.1 (one_writer (last_claim file opening earlier) entry.writer writer
    (own entry.writer earlier later named.now file named.attempt named.outcome (is ∙ ap (λ (e : Entry). earlier ++ e ∷ later) entry_is)) last))
    takes

-- what nobody took in a list, nobody took before
pub undisturbed_before : (writer : ℕ) (opening entries more : List Entry) → IsUndisturbed writer opening (entries ++ more)
    → IsUndisturbed writer opening entries
undisturbed_before writer opening entries more whole earlier later entry file is =
    whole earlier (later ++ more) entry file (ap (λ list. list ++ more) is ∙ append_assoc earlier (entry ∷ later) more)

-- reports of a writer's own, and more of them
pub own_on : (writer : ℕ) (opening before entries more : List Entry) → ReportsOwn writer opening before entries
    → ReportsOwn writer opening (before ++ entries) more → ReportsOwn writer opening before (entries ++ more)
own_on writer opening before entries more one two =
    each_append writer entries more (λ earlier file outcome. IsOwn writer (last_claim file opening (before ++ earlier))) one
    (λ earlier later now file attempt outcome is. subst (λ list. IsOwn writer (last_claim file opening list)) (append_assoc before entries earlier)
    (two earlier later now file attempt outcome is))

-- entries of others have no report of the writer
pub own_none : (writer : ℕ) (opening before entries : List Entry) → NoneOf writer entries → ReportsOwn writer opening before entries
own_none writer opening before entries none = each_none writer entries (λ earlier file outcome. IsOwn writer (last_claim file opening (before ++ earlier))) none

-- a pass that had added nothing has reported only its own in all turns, where it took none behind what it has seen
pub own_in_all : (old new : PassView Entry) (held : List Held) (later : List (LoggedTurn Entry)) → KeepsLedger old new held → NoneOf old.number (items_of old.seen)
    → NoneOf old.number (items_of later) → ReportsOwn old.number old.opening [] (items_of (new.seen ++ later))
own_in_all old new held later keeps none_before none_later =
    let seen : items_of new.seen ≡ items_of old.seen ++ items_of keeps.since = ap items_of keeps.seen ∙ items_on old.seen keeps.since in
    subst (ReportsOwn old.number old.opening []) (sym (items_on new.seen later))
    (own_on old.number old.opening [] (items_of new.seen) (items_of later)
    (subst (ReportsOwn old.number old.opening []) (sym seen)
    (own_on old.number old.opening [] (items_of old.seen) (items_of keeps.since) (own_none old.number old.opening [] (items_of old.seen) none_before)
    keeps.own_reports))
    (own_none old.number old.opening (items_of new.seen) (items_of later) none_later))

-- and has added expiries, claims and reports alone
pub work_in_all : (old new : PassView Entry) (held : List Held) (later : List (LoggedTurn Entry)) → KeepsLedger old new held → NoneOf old.number (items_of old.seen)
    → NoneOf old.number (items_of later) → AddsWork old.number (items_of (new.seen ++ later))
work_in_all old new held later keeps none_before none_later =
    let seen : items_of new.seen ≡ items_of old.seen ++ items_of keeps.since = ap items_of keeps.seen ∙ items_on old.seen keeps.since in
    subst (AddsWork old.number) (sym (items_on new.seen later))
    (work_append old.number (items_of new.seen) (items_of later)
    (subst (AddsWork old.number) (sym seen)
    (work_append old.number (items_of old.seen) (items_of keeps.since) (work_none old.number (items_of old.seen) none_before) keeps.work))
    (work_none old.number (items_of later) none_later))

-- what is legal in all turns is legal in what a pass has seen of them
pub legal_seen : (pass : PassView Entry) (later : List (LoggedTurn Entry)) → IsLegal (pass.opening ++ items_of (pass.seen ++ later)) → IsLegal (seen_list pass)
legal_seen pass later legal = legal_back pass.opening (items_of pass.seen) (items_of (pass.seen ++ later)) (items_of later) (items_on pass.seen later) legal

-- and what nobody took in all turns nobody took there
pub undisturbed_seen : (pass : PassView Entry) (later : List (LoggedTurn Entry)) → IsUndisturbed pass.number pass.opening (items_of (pass.seen ++ later))
    → KeepsItsFiles pass
undisturbed_seen pass later free = undisturbed_before pass.number pass.opening (items_of pass.seen) (items_of later)
    (subst (IsUndisturbed pass.number pass.opening) (items_on pass.seen later) free)
