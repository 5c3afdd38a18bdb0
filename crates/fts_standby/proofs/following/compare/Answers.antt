-- No last entry; one that was asked for in vain; and one that is the service's, isn't, or could not be read.
use Rattle.std.proofs.Common.{◌≡◌, ℕ, ◌-◌, List, Bool, Option, Ok, Err, Vec, Global, sym, ◌∙◌, subst, arith, rules}
use Rattle.fts_standby.specs.Hearing.{Gives}
use Rattle.fts_standby.specs.Asking.{IsAsked, ComesTo}
use Rattle.fts_standby.specs.Following.{LooksAtOwn}
use Rattle.fts_standby.proofs.NextEntries.{compared_none, compared_ended, compared_absent, compared_same, compared_other, compared_unread}
use Rattle.fts_standby.proofs.following.compare.Goals as goal

pub returns-then-count-eq0 : goal.returns-then-count-eq0
returns-then-count-eq0 g c =
    compared_none g.D.Disk.state g.D.Disk.faults g.met.D.Disk.lawful _ _ c.args.port c.args.tries c.args.journal.now c.requires.ready
    (λ told. c.count_of-count.ensures.told told ∙ c.count_of-count.ensures.count) _ _ (sym c.count_of-count.ensures.count ∙ c.if-count-eq0.true)

pub returns-in_err-entry : goal.returns-in_err-entry
returns-in_err-entry g c =
    let is : c.from_residual.result ≡ Err c.in_err-entry.field-0.0 = search rules in
    rw is
    (compared_ended g.D.Disk.state g.D.Disk.faults g.met.D.Disk.lawful _ _ c.args.port c.args.tries c.args.journal.now c.requires.ready
    (λ told. c.count_of-count.ensures.told told ∙ c.count_of-count.ensures.count) _ _ _ _ (c.count_of-count.result - 1)
    (omega (arith, c.count_of-count.ensures.count, c.if-count-eq0.false)) c.in_err-entry.ensures.tries c.in_err-entry.ensures.tried c.in_err-entry.field-0.0
    c.in_err-entry.ensures.came)

pub returns-in-None : goal.returns-in-None
returns-in-None g c =
    compared_absent g.D.Disk.state g.D.Disk.faults g.met.D.Disk.lawful _ _ c.args.port c.args.tries c.args.journal.now c.requires.ready
    (λ told. c.count_of-count.ensures.told told ∙ c.count_of-count.ensures.count) _ _ _ _ (c.count_of-count.result - 1)
    (omega (arith, c.count_of-count.ensures.count, c.if-count-eq0.false)) c.in_ok-entry.ensures.tries c.in_ok-entry.ensures.tried
    (subst (λ (found : Option (Vec ℕ Global)). ComesTo (c.count_of-count.result - 1) c.args.tries c.in_ok-entry.ensures.tries (Ok found)) c.in-None.is c.in_ok-entry.ensures.came)

pub returns-in_err-is_own : goal.returns-in_err-is_own
returns-in_err-is_own g c =
    let came : IsAsked (c.count_of-count.result - 1) c.args.tries c.in_ok-entry.ensures.tries (Gives c.in-Some.entry.items) =
    subst (λ (found : Option (Vec ℕ Global)). ComesTo (c.count_of-count.result - 1) c.args.tries c.in_ok-entry.ensures.tries (Ok found)) c.in-Some.is c.in_ok-entry.ensures.came in
    let given : IsAsked (c.count_of-count.result - 1) c.args.tries c.in_ok-entry.ensures.tries (Gives c.deref.result.now) =
    subst (λ (entry : List ℕ). IsAsked (c.count_of-count.result - 1) c.args.tries c.in_ok-entry.ensures.tries (Gives entry)) (sym c.deref.ensures.value) came in
    let is : c.from_residual-in_err-is_own.result ≡ Err c.in_err-is_own.field-0.0 = search rules in
    rw is
    (compared_unread g.D.Disk.state g.D.Disk.faults g.met.D.Disk.lawful _ _ c.args.port c.args.tries c.args.journal.now c.requires.ready
    (λ told. c.count_of-count.ensures.told told ∙ c.count_of-count.ensures.count) _ _ _ _ (c.count_of-count.result - 1)
    (omega (arith, c.count_of-count.ensures.count, c.if-count-eq0.false)) c.in_ok-entry.ensures.tries c.in_ok-entry.ensures.tried
    c.is_own.new.journal c.deref.result.now given c.in_err-is_own.field-0.0 c.in_err-is_own.ensures)

pub returns-then-branch : goal.returns-then-branch
returns-then-branch g c =
    let came : IsAsked (c.count_of-count.result - 1) c.args.tries c.in_ok-entry.ensures.tries (Gives c.in-Some.entry.items) =
    subst (λ (found : Option (Vec ℕ Global)). ComesTo (c.count_of-count.result - 1) c.args.tries c.in_ok-entry.ensures.tries (Ok found)) c.in-Some.is c.in_ok-entry.ensures.came in
    let given : IsAsked (c.count_of-count.result - 1) c.args.tries c.in_ok-entry.ensures.tries (Gives c.deref.result.now) =
    subst (λ (entry : List ℕ). IsAsked (c.count_of-count.result - 1) c.args.tries c.in_ok-entry.ensures.tries (Gives entry)) (sym c.deref.ensures.value) came in
    compared_same g.D.Disk.state g.D.Disk.faults g.met.D.Disk.lawful _ _ c.args.port c.args.tries c.args.journal.now c.requires.ready
    (λ told. c.count_of-count.ensures.told told ∙ c.count_of-count.ensures.count) _ _ _ _ (c.count_of-count.result - 1)
    (omega (arith, c.count_of-count.ensures.count, c.if-count-eq0.false)) c.in_ok-entry.ensures.tries c.in_ok-entry.ensures.tried
    c.is_own.new.journal c.deref.result.now given
    (subst (λ (own : Bool). LooksAtOwn g.D.Disk.state g.D.Disk.faults c.args.journal.now c.is_own.new.journal (c.count_of-count.result - 1) c.deref.result.now (Ok own))
    c.if-branch.true c.in_ok-is_own.ensures)

pub returns : goal.returns
returns g c =
    let came : IsAsked (c.count_of-count.result - 1) c.args.tries c.in_ok-entry.ensures.tries (Gives c.in-Some.entry.items) =
    subst (λ (found : Option (Vec ℕ Global)). ComesTo (c.count_of-count.result - 1) c.args.tries c.in_ok-entry.ensures.tries (Ok found)) c.in-Some.is c.in_ok-entry.ensures.came in
    let given : IsAsked (c.count_of-count.result - 1) c.args.tries c.in_ok-entry.ensures.tries (Gives c.deref.result.now) =
    subst (λ (entry : List ℕ). IsAsked (c.count_of-count.result - 1) c.args.tries c.in_ok-entry.ensures.tries (Gives entry)) (sym c.deref.ensures.value) came in
    compared_other g.D.Disk.state g.D.Disk.faults g.met.D.Disk.lawful _ _ c.args.port c.args.tries c.args.journal.now c.requires.ready
    (λ told. c.count_of-count.ensures.told told ∙ c.count_of-count.ensures.count) _ _ _ _ (c.count_of-count.result - 1)
    (omega (arith, c.count_of-count.ensures.count, c.if-count-eq0.false)) c.in_ok-entry.ensures.tries c.in_ok-entry.ensures.tried
    c.is_own.new.journal c.deref.result.now given
    (subst (λ (own : Bool). LooksAtOwn g.D.Disk.state g.D.Disk.faults c.args.journal.now c.is_own.new.journal (c.count_of-count.result - 1) c.deref.result.now (Ok own))
    c.if-branch.false c.in_ok-is_own.ensures)
