-- The tables that were viewed were shown, whole or in part.
use Rattle.std.proofs.Common.{Bool, inr, refl, sym, subst}
use Rattle.fts_show.specs.Shown.{shown_text}
use Rattle.fts_top.specs.Looks.{WritesText}
use Rattle.fts_top.proofs.looks.show_journal.Goals.{in-Ok-send_tables, in-Err-send_tables}
use Rattle.fts_top.proofs.looks.show_journal.Goals as goal

pub returns-after-send_tables-clause-look : goal.returns-after-send_tables-clause-look
returns-after-send_tables-clause-look g c = λ text has. inr (record {
  settings = has;
  tables = c.in-Ok.desk.tables;
  viewed = c.in-Ok.ensures.ok;
  whole = c.match-send_tables.whole;
  ended = refl;
  written = elim c.match-send_tables.branch [
    | in-Ok-send_tables w ↦ subst (λ (b : Bool). WritesText (shown_text c.in-Ok.desk.tables) (g.K.Sink.held c.args.output.now) (g.K.Sink.held c.send_tables.new.output) b)
        (sym w.whole-is) w.in-Ok-send_tables.ensures.sent
    | in-Err-send_tables w ↦ subst (λ (b : Bool). WritesText (shown_text c.in-Ok.desk.tables) (g.K.Sink.held c.args.output.now) (g.K.Sink.held c.send_tables.new.output) b)
        (sym w.whole-is) (_, w.in-Err-send_tables.ensures.sent)
  ];
  counted = c.make_tally.ensures;
})
