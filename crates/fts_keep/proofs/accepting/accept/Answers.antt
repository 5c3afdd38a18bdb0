-- Three exits go past a call of the journal: an append that failed, and what was done; a settling that failed is found by search.
use Rattle.std.proofs.Common.{◌≡◌, ◌∙◌, sym, subst, IsOk, IfSome, Ok, Err, ap, arith, length}
use Rattle.fts_tables.specs.Step.{step}
use Rattle.fts_keep.specs.Views.{keep_of, IsTied}
use Rattle.fts_keep.specs.Applied.{Applied, AppliesSafely, applied_to}
use Rattle.fts_keep.proofs.Lists.{spelled_some}
use Rattle.fts_keep.proofs.Exits.{failed_tied, appended_safe, done_tied, done_applied, done_safe}
use Rattle.fts_keep.proofs.accepting.accept.Goals as goal

pub append-requires-clause-body : goal.append-requires-clause-body
append-requires-clause-body g c =
    let is_body = c.deref.ensures.value ∙ c.in_ok-plan.ensures.body in
    record { some = omega (arith, ap length is_body, spelled_some c.args.entry.now); most = omega (arith, ap length is_body, c.in_ok-plan.ensures.short) }

pub returns-in_err-append-clause-tied : goal.returns-in_err-append-clause-tied
returns-in_err-append-clause-tied g c =
    failed_tied g.D.Disk.state g.D.Disk.faults c.what_is_spelled_is_read.ensures.read g.met.D.Disk.lawful c.args.desk.now c.check.new.desk
    c.args.journal.now c.args.list.now.entries c.args.entry.now
    c.check.ensures.tables c.check.ensures.commands c.requires.tied
    (subst (λ u. IsOk (applied_to c.args.desk.now.tables u c.args.entry.now)) c.used.ensures.used c.in_ok-plan.ensures.checks) c.settle.new.self
    (record {
      told = c.in_ok-settle.ensures.told;
      nothing = c.in_ok-settle.ensures.nothing;
      kept = c.in_ok-settle.ensures.kept;
      ok =
          c.in_ok-settle.ensures.ok;
      err = c.in_ok-settle.ensures.err;
      counts = c.in_ok-settle.ensures.counts;
      cause = c.in_ok-settle.ensures.cause;
      bodies =
          c.in_ok-settle.ensures.bodies;
      settled = c.in_ok-settle.ensures.settled;
      doubt = c.in_ok-settle.ensures.doubt;
      any_moment =
          c.in_ok-settle.ensures.any_moment;
      images = c.in_ok-settle.ensures.images;
    })
    c.append.new.self c.deref.result.now (c.deref.ensures.value ∙ c.in_ok-plan.ensures.body) c.in_ok-plan.ensures.proper
    c.in_err-append.field-0.0
    (record {
      told = c.in_err-append.ensures.told;
      ok = c.in_err-append.ensures.ok;
      err = c.in_err-append.ensures.err;
      counts =
          c.in_err-append.ensures.counts;
      cause = c.in_err-append.ensures.cause;
      appended = c.in_err-append.ensures.appended;
      failed =
          c.in_err-append.ensures.failed;
      any_moment = c.in_err-append.ensures.any_moment;
      images = c.in_err-append.ensures.images;
    })

pub returns-in_err-append-clause-safe : goal.returns-in_err-append-clause-safe
returns-in_err-append-clause-safe g c =
    appended_safe g.D.Disk.state g.D.Disk.faults c.what_is_spelled_is_read.ensures.read g.met.D.Disk.lawful c.args.desk.now c.check.new.desk
    c.args.journal.now c.args.list.now.entries c.args.entry.now
    c.check.ensures.tables c.check.ensures.commands c.requires.tied
    (subst (λ u. IsOk (applied_to c.args.desk.now.tables u c.args.entry.now)) c.used.ensures.used c.in_ok-plan.ensures.checks) c.settle.new.self
    (record {
      told = c.in_ok-settle.ensures.told;
      nothing = c.in_ok-settle.ensures.nothing;
      kept = c.in_ok-settle.ensures.kept;
      ok =
          c.in_ok-settle.ensures.ok;
      err = c.in_ok-settle.ensures.err;
      counts = c.in_ok-settle.ensures.counts;
      cause = c.in_ok-settle.ensures.cause;
      bodies =
          c.in_ok-settle.ensures.bodies;
      settled = c.in_ok-settle.ensures.settled;
      doubt = c.in_ok-settle.ensures.doubt;
      any_moment =
          c.in_ok-settle.ensures.any_moment;
      images = c.in_ok-settle.ensures.images;
    })
    c.append.new.self c.deref.result.now (c.deref.ensures.value ∙ c.in_ok-plan.ensures.body) c.in_ok-plan.ensures.proper
    (Err c.in_err-append.field-0.0)
    (record {
      told = c.in_err-append.ensures.told;
      ok = c.in_err-append.ensures.ok;
      err = c.in_err-append.ensures.err;
      counts =
          c.in_err-append.ensures.counts;
      cause = c.in_err-append.ensures.cause;
      appended = c.in_err-append.ensures.appended;
      failed =
          c.in_err-append.ensures.failed;
      any_moment = c.in_err-append.ensures.any_moment;
      images = c.in_err-append.ensures.images;
    })

pub returns-clause-tied : goal.returns-clause-tied
returns-clause-tied g c =
    subst (λ l. IsTied g.D.Disk.state c.commit.new.self c.append.new.self l) (sym c.add.ensures.added) (
    done_tied g.D.Disk.state g.D.Disk.faults c.what_is_spelled_is_read.ensures.read g.met.D.Disk.lawful c.args.desk.now c.check.new.desk c.args.journal.now
    c.args.list.now.entries c.args.entry.now
    c.check.ensures.tables c.check.ensures.commands c.requires.tied
    (subst (λ u. IsOk (applied_to c.args.desk.now.tables u c.args.entry.now)) c.used.ensures.used c.in_ok-plan.ensures.checks) c.settle.new.self
    (record {
      told = c.in_ok-settle.ensures.told;
      nothing = c.in_ok-settle.ensures.nothing;
      kept = c.in_ok-settle.ensures.kept;
      ok =
          c.in_ok-settle.ensures.ok;
      err = c.in_ok-settle.ensures.err;
      counts = c.in_ok-settle.ensures.counts;
      cause = c.in_ok-settle.ensures.cause;
      bodies =
          c.in_ok-settle.ensures.bodies;
      settled = c.in_ok-settle.ensures.settled;
      doubt = c.in_ok-settle.ensures.doubt;
      any_moment =
          c.in_ok-settle.ensures.any_moment;
      images = c.in_ok-settle.ensures.images;
    })
    c.append.new.self c.deref.result.now (c.deref.ensures.value ∙ c.in_ok-plan.ensures.body) c.in_ok-plan.ensures.proper
    (record {
      told = c.in_ok-append.ensures.told;
      ok = c.in_ok-append.ensures.ok;
      err = c.in_ok-append.ensures.err;
      counts = c.in_ok-append.ensures.counts;
      cause = c.in_ok-append.ensures.cause;
      appended = c.in_ok-append.ensures.appended;
      failed = c.in_ok-append.ensures.failed;
      any_moment =
          c.in_ok-append.ensures.any_moment;
      images = c.in_ok-append.ensures.images;
    })
    c.commit.new.self c.commit.result
    (subst (λ p. IfSome p (λ command. step c.check.new.desk.tables command ≡ Ok (c.commit.new.self.tables, c.commit.result)))
    c.in_ok-plan.ensures.planned c.commit.ensures.step) c.commit.ensures.commands)

pub returns-clause-applied : goal.returns-clause-applied
returns-clause-applied g c =
    subst (λ l. Applied g.D.Disk.state g.D.Disk.faults (keep_of g.D.Disk.state c.args.desk.now c.args.journal.now c.args.list.now.entries)
    (keep_of g.D.Disk.state c.commit.new.self c.append.new.self l) c.args.entry.now (Ok c.commit.result)) (sym c.add.ensures.added) (
    done_applied g.D.Disk.state g.D.Disk.faults c.what_is_spelled_is_read.ensures.read g.met.D.Disk.lawful c.args.desk.now c.check.new.desk
    c.args.journal.now c.args.list.now.entries c.args.entry.now
    c.check.ensures.tables c.check.ensures.commands c.requires.tied
    (subst (λ u. IsOk (applied_to c.args.desk.now.tables u c.args.entry.now)) c.used.ensures.used c.in_ok-plan.ensures.checks) c.settle.new.self
    (record {
      told = c.in_ok-settle.ensures.told;
      nothing = c.in_ok-settle.ensures.nothing;
      kept = c.in_ok-settle.ensures.kept;
      ok =
          c.in_ok-settle.ensures.ok;
      err = c.in_ok-settle.ensures.err;
      counts = c.in_ok-settle.ensures.counts;
      cause = c.in_ok-settle.ensures.cause;
      bodies =
          c.in_ok-settle.ensures.bodies;
      settled = c.in_ok-settle.ensures.settled;
      doubt = c.in_ok-settle.ensures.doubt;
      any_moment =
          c.in_ok-settle.ensures.any_moment;
      images = c.in_ok-settle.ensures.images;
    })
    c.append.new.self c.deref.result.now (c.deref.ensures.value ∙ c.in_ok-plan.ensures.body) c.in_ok-plan.ensures.proper
    (record {
      told = c.in_ok-append.ensures.told;
      ok = c.in_ok-append.ensures.ok;
      err = c.in_ok-append.ensures.err;
      counts = c.in_ok-append.ensures.counts;
      cause = c.in_ok-append.ensures.cause;
      appended = c.in_ok-append.ensures.appended;
      failed = c.in_ok-append.ensures.failed;
      any_moment =
          c.in_ok-append.ensures.any_moment;
      images = c.in_ok-append.ensures.images;
    })
    c.commit.new.self c.commit.result
    (subst (λ p. IfSome p (λ command. step c.check.new.desk.tables command ≡ Ok (c.commit.new.self.tables, c.commit.result)))
    c.in_ok-plan.ensures.planned c.commit.ensures.step) c.commit.ensures.commands)

pub returns-clause-safe : goal.returns-clause-safe
returns-clause-safe g c =
    subst (λ l. AppliesSafely g.D.Disk.state (keep_of g.D.Disk.state c.args.desk.now c.args.journal.now c.args.list.now.entries)
    (keep_of g.D.Disk.state c.commit.new.self c.append.new.self l) c.args.entry.now) (sym c.add.ensures.added) (
    done_safe g.D.Disk.state g.D.Disk.faults c.what_is_spelled_is_read.ensures.read g.met.D.Disk.lawful c.args.desk.now c.check.new.desk c.args.journal.now
    c.args.list.now.entries c.args.entry.now
    c.check.ensures.tables c.check.ensures.commands c.requires.tied
    (subst (λ u. IsOk (applied_to c.args.desk.now.tables u c.args.entry.now)) c.used.ensures.used c.in_ok-plan.ensures.checks) c.settle.new.self
    (record {
      told = c.in_ok-settle.ensures.told;
      nothing = c.in_ok-settle.ensures.nothing;
      kept = c.in_ok-settle.ensures.kept;
      ok =
          c.in_ok-settle.ensures.ok;
      err = c.in_ok-settle.ensures.err;
      counts = c.in_ok-settle.ensures.counts;
      cause = c.in_ok-settle.ensures.cause;
      bodies =
          c.in_ok-settle.ensures.bodies;
      settled = c.in_ok-settle.ensures.settled;
      doubt = c.in_ok-settle.ensures.doubt;
      any_moment =
          c.in_ok-settle.ensures.any_moment;
      images = c.in_ok-settle.ensures.images;
    })
    c.append.new.self c.deref.result.now (c.deref.ensures.value ∙ c.in_ok-plan.ensures.body) c.in_ok-plan.ensures.proper
    (record {
      told = c.in_ok-append.ensures.told;
      ok = c.in_ok-append.ensures.ok;
      err = c.in_ok-append.ensures.err;
      counts = c.in_ok-append.ensures.counts;
      cause = c.in_ok-append.ensures.cause;
      appended = c.in_ok-append.ensures.appended;
      failed = c.in_ok-append.ensures.failed;
      any_moment =
          c.in_ok-append.ensures.any_moment;
      images = c.in_ok-append.ensures.images;
    })
    c.commit.new.self c.commit.result
    (subst (λ p. IfSome p (λ command. step c.check.new.desk.tables command ≡ Ok (c.commit.new.self.tables, c.commit.result)))
    c.in_ok-plan.ensures.planned c.commit.ensures.step) c.commit.ensures.commands)
