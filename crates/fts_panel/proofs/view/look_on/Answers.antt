-- A look went on, or what was folded no longer stands there and the journal was opened anew.
use Rattle.std.proofs.Common.{Ok, Err, subst}
use Rattle.fts_watch.specs.declared.fault.MonitorFault.TheVariants.{DiskFailed, Damaged, Changed, Memory}
use Rattle.fts_panel.specs.Views.{Opens}
use Rattle.fts_panel.proofs.view.look_on.Goals as goal

pub returns-in-Err-Changed : goal.returns-in-Err-Changed
returns-in-Err-Changed g c =
    let was = rw c.in-Err-Changed.field-0-is at c.in-Err-Changed.ensures in (
      Err Changed,
      record {
        changed = c.look.new.self;
        folds = record { goes_on = c.look.ensures.goes_on; looks = c.look.ensures.looks; all = was.all; cause = was.cause };
        opens = subst (λ d. Opens g.D.Disk.state g.D.Disk.faults c.args.now d c.open_view.result) c.close.ensures c.open_view.ensures;
      },
    )

pub returns-in-Ok : goal.returns-in-Ok
returns-in-Ok g c = (
  Ok tt,
  record {
    after = c.look.new.self;
    folds = record { goes_on = c.look.ensures.goes_on; looks = c.look.ensures.looks; all = c.in-Ok.ensures.all; cause = c.in-Ok.ensures.cause };
    is = c.view_by-in-Ok.ensures;
  },
)

pub returns-in-Err-DiskFailed : goal.returns-in-Err-DiskFailed
returns-in-Err-DiskFailed g c =
    let was = rw c.in-Err-DiskFailed.field-0-is at c.in-Err-DiskFailed.ensures in (
      Err DiskFailed,
      record {
        after = c.look.new.self;
        folds = record { goes_on = c.look.ensures.goes_on; looks = c.look.ensures.looks; all = was.all; cause = was.cause };
        is = c.view_by.ensures;
      },
    )

pub returns-in-Err-Damaged : goal.returns-in-Err-Damaged
returns-in-Err-Damaged g c =
    let was = rw c.in-Err-Damaged.field-0-is at c.in-Err-Damaged.ensures in (
      Err (Damaged c.in-Err-Damaged.offset),
      record {
        after = c.look.new.self;
        folds = record { goes_on = c.look.ensures.goes_on; looks = c.look.ensures.looks; all = was.all; cause = was.cause };
        is = c.view_by-in-Err-Damaged.ensures;
      },
    )

pub returns-in-Err-Memory : goal.returns-in-Err-Memory
returns-in-Err-Memory g c =
    let was = rw c.in-Err-Memory.field-0-is at c.in-Err-Memory.ensures in (
      Err Memory,
      record {
        after = c.look.new.self;
        folds = record { goes_on = c.look.ensures.goes_on; looks = c.look.ensures.looks; all = was.all; cause = was.cause };
        is = c.view_by-in-Err-Memory.ensures;
      },
    )
