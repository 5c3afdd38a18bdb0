-- The exits of a run over a journal that is open: nothing asked, a pass that stopped, and rows that were written.
use Rattle.std.proofs.Common.{inl, inr, ap}
use Rattle.fts_deleting.specs.Told.{rows_text}
use Rattle.fts_deleting.proofs.Lines.{told_whole, told_part}
use Rattle.fts_deleting.proofs.running.run_over.Goals as goal
use Rattle.fts_deleting.proofs.running.run_over.Goals.{in-Ok-tell_rows, in-Err-tell_rows}
use Rattle.std.proofs.Common.{refl}

pub returns-in-Err-clause-run : goal.returns-in-Err-clause-run
returns-in-Err-clause-run g c disk left = inl (record { unasked = c.in-Err.ensures.unasked; store = refl; output = refl })

pub returns-in-Err-pass_once-clause-run : goal.returns-in-Err-pass_once-clause-run
returns-in-Err-pass_once-clause-run g c disk left = inr (record {
  next = c.ask_input.new.deletes;
  asks = c.in-Ok.ensures.asked;
  passes = inl (record { fault = c.in-Err-pass_once.fault; passes = c.in-Err-pass_once.ensures; end_is = c.end_of.ensures; output = refl });
})

pub returns-clause-run : goal.returns-clause-run
returns-clause-run g c disk left =
    let same = ap rows_text c.rows.ensures.rows in
    inr (record {
      next = c.ask_input.new.deletes;
      asks = c.in-Ok.ensures.asked;
      passes = inr (record {
        passes = c.in-Ok-pass_once.ensures;
        whole = c.match-tell_rows.whole;
        written = elim c.match-tell_rows.branch [
          | in-Ok-tell_rows w ↦ told_whole _ _ _ _ _ same w.whole-is w.in-Ok-tell_rows.ensures.sent
          | in-Err-tell_rows w ↦ told_part _ _ _ _ _ _ same w.whole-is w.in-Err-tell_rows.ensures.sent
        ];
        end_is = c.told.ensures;
      });
    })
