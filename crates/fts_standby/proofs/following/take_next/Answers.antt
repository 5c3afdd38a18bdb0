-- The entry behind the last one: asked for in vain, not there, given and appended, or given and not appended.
use Rattle.std.proofs.Common.{◌≡◌, ℕ, List, Option, Ok, Err, Vec, Global, sym, subst, rules}
use Rattle.std.specs.Prelude.{IsSome}
use Rattle.fts_record.specs.Reading.{read_of}
use Rattle.fts_standby.specs.Hearing.{Gives, NoneThere}
use Rattle.fts_standby.specs.Asking.{IsAsked, ComesTo}
use Rattle.fts_standby.proofs.NextEntries.{given_is_some, next_ended, next_absent, next_given}
use Rattle.fts_standby.proofs.following.take_next.Goals as goal

pub returns-in_err-entry-clause-takes : goal.returns-in_err-entry-clause-takes
returns-in_err-entry-clause-takes g c =
    let is : c.from_residual.result ≡ Err c.in_err-entry.field-0.0 = search rules in
    let tried = rw c.count_of-number.ensures.count at c.in_err-entry.ensures.tried in
    let came = rw c.count_of-number.ensures.count at c.in_err-entry.ensures.came in
    rw is
    (next_ended g.D.Disk.state g.D.Disk.faults g.met.D.Disk.lawful _ _ c.args.port c.args.tries c.args.journal.now c.requires.ready _ _ _ _
    c.in_err-entry.ensures.tries tried c.in_err-entry.field-0.0 came)

pub append-requires-clause-entry : goal.append-requires-clause-entry
append-requires-clause-entry g c =
    let came : IsAsked c.count_of-number.result c.args.tries c.in_ok-entry.ensures.tries (Gives c.in-Some.entry.items) =
    subst (λ (found : Option (Vec ℕ Global)). ComesTo c.count_of-number.result c.args.tries c.in_ok-entry.ensures.tries (Ok found)) c.in-Some.is c.in_ok-entry.ensures.came in
    subst (λ (entry : List ℕ). IsSome (read_of entry)) (sym c.deref.ensures.value)
    (given_is_some c.count_of-number.result c.args.tries c.in_ok-entry.ensures.tries c.in-Some.entry.items came)

pub returns-in-Some-clause-takes : goal.returns-in-Some-clause-takes
returns-in-Some-clause-takes g c =
    let tried = rw c.count_of-number.ensures.count at c.in_ok-entry.ensures.tried in
    let came : IsAsked c.count_of-number.result c.args.tries c.in_ok-entry.ensures.tries (Gives c.in-Some.entry.items) =
    subst (λ (found : Option (Vec ℕ Global)). ComesTo c.count_of-number.result c.args.tries c.in_ok-entry.ensures.tries (Ok found)) c.in-Some.is c.in_ok-entry.ensures.came in
    let given : IsAsked c.args.journal.now.count c.args.tries c.in_ok-entry.ensures.tries (Gives c.deref.result.now) =
    subst (λ (number : ℕ). IsAsked number c.args.tries c.in_ok-entry.ensures.tries (Gives c.deref.result.now)) c.count_of-number.ensures.count
    (subst (λ (entry : List ℕ). IsAsked c.count_of-number.result c.args.tries c.in_ok-entry.ensures.tries (Gives entry)) (sym c.deref.ensures.value) came) in
    next_given g.D.Disk.state g.D.Disk.faults g.met.D.Disk.lawful _ _ c.args.port c.args.tries c.args.journal.now c.requires.ready _ _ _ _
    c.in_ok-entry.ensures.tries tried c.deref.result.now given c.append.new.journal c.append.result c.append.ensures.appends

pub returns-in-None-clause-takes : goal.returns-in-None-clause-takes
returns-in-None-clause-takes g c =
    let tried = rw c.count_of-number.ensures.count at c.in_ok-entry.ensures.tried in
    let came : IsAsked c.count_of-number.result c.args.tries c.in_ok-entry.ensures.tries NoneThere =
    subst (λ (found : Option (Vec ℕ Global)). ComesTo c.count_of-number.result c.args.tries c.in_ok-entry.ensures.tries (Ok found)) c.in-None.is c.in_ok-entry.ensures.came in
    next_absent g.D.Disk.state g.D.Disk.faults g.met.D.Disk.lawful _ _ c.args.port c.args.tries c.args.journal.now c.requires.ready _ _ _ _
    c.in_ok-entry.ensures.tries tried c.count_of-number.result c.count_of-number.ensures.count (rw c.count_of-number.ensures.count at came)
