-- The journal was opened and looked at, or couldn't be opened.
use Rattle.std.proofs.Common.{inl, inr, refl}
use Rattle.fts_panel.proofs.view.open_view.Goals as goal

pub returns-in-Ok : goal.returns-in-Ok
returns-in-Ok g c = inl (record {
  opened = c.in-Ok.monitor;
  looks = c.in-Ok.ensures.looks;
  none = c.in-Ok.ensures.none;
  found = c.look-found.result;
  seen = record {
    after = c.look-found.new.self;
    folds = record {
      goes_on = c.look-found.ensures.goes_on;
      looks = c.look-found.ensures.looks;
      all = c.look-found.ensures.all;
      cause = c.look-found.ensures.cause;
    };
    is = c.view_by.ensures;
  };
})

pub returns-in-Err : goal.returns-in-Err
returns-in-Err g c = inr (record {
  after = c.in-Err.disk;
  fault = c.in-Err.fault;
  looks = c.in-Err.ensures.looks;
  cause = c.in-Err.ensures.cause;
  is = refl;
})
