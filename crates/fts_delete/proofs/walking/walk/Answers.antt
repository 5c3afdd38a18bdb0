-- The loop goes on by one row.
use Rattle.std.proofs.Common.{rules, ◌≡◌, ◌∙◌, sym, ap, subst, length, Err, arith}
use Rattle.fts_delete.specs.Views.{deletes_of}
use Rattle.fts_delete.specs.Passed.{Passed}
use Rattle.fts_delete.proofs.Steps.{length_passed, walk_start, walk_step, walk_stop, walk_end}
use Rattle.fts_delete.proofs.Images.{images_start, rows_numbered}
use Rattle.fts_delete.proofs.Tying.{kept_deletes}
use Rattle.fts_delete.proofs.walking.walk.Goals as goal

pub loop-at-init : goal.loop-at-init
loop-at-init g c = record {
  tied = c.requires.tied;
  walked = walk_start _ _ _ _ _ _ _ (images_start g.D.Disk.state (deletes_of g.D.Disk.state c.args.rows.now.items c.args.journal.now)
      (kept_deletes g.D.Disk.state c.args.rows.now.items c.args.journal.now c.requires.tied) (g.met.D.Disk.lawful c.args.journal.now.disk));
}

pub pass_row-requires-clause-here : goal.pass_row-requires-clause-here
pass_row-requires-clause-here g c =
    let walked = c.loop-at.invariant.walked in
    let same : length c.loop-at.rows.items ≡ length c.args.rows.now.items =
    ap length walked.by.rows ∙ length_passed c.args.rows.now.items walked.done in
    omega (arith, c.loop-at-test.true, c.len-count.ensures, same)

pub returns-in_err-pass_row-clause-passed : goal.returns-in_err-pass_row-clause-passed
returns-in_err-pass_row-clause-passed g c =
    let is : c.from_residual.result ≡ Err c.in_err-pass_row.field-0.0 = search rules in
    subst (λ r. Passed g.D.Disk.state g.D.Disk.faults g.E.Store.state g.E.Store.faults g.E.Store.calls
    (deletes_of g.D.Disk.state c.args.rows.now.items c.args.journal.now)
    (deletes_of g.D.Disk.state c.pass_row.new.rows.items c.pass_row.new.journal) c.args.store.now c.pass_row.new.store r) (sym is)
    (walk_stop _ _ _ _ _ _ _ _ _ _ _ _ c.loop-at.invariant.walked c.in_err-pass_row.field-0.0 c.in_err-pass_row.ensures.passes)

pub loop-at-preserved : goal.loop-at-preserved
loop-at-preserved g c = record {
  tied = c.in_ok-pass_row.ensures.tied;
  walked = walk_step _ _ _ _ _ _ _ _ _ _ _ _ c.loop-at.invariant.walked
      (rows_numbered g.D.Disk.state (deletes_of g.D.Disk.state c.args.rows.now.items c.args.journal.now)
      (kept_deletes g.D.Disk.state c.args.rows.now.items c.args.journal.now c.requires.tied)) c.in_ok-pass_row.ensures.passes;
}

pub returns-clause-passed : goal.returns-clause-passed
returns-clause-passed g c =
    walk_end _ _ _ _ _ _ _ _ _ c.loop-at.at (omega (arith, c.loop-at-test.false, c.loop-at.auto.at-end, c.len-count.ensures)) c.loop-at.invariant.walked
