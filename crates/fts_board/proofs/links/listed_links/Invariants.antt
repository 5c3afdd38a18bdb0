-- The links so far are those of the rules so far.
use Rattle.std.proofs.Common.{◌≡◌, map, take, List}
use Rattle.fts_tables.specs.Tables.{Tables}
use Rattle.fts_chronicle.specs.declared.chronicle.CopyReport.{CopyReport}
use Rattle.fts_counts.specs.Listed.{endpoints_of}
use Rattle.fts_board.specs.Snapshot.{listed_object}
use Rattle.fts_counts.specs.Listed.{AreKnown}
use Rattle.fts_board.specs.Boards.{IsBoardOf, shown_link}
use Rattle.fts_board.proofs.links.listed_links.Given as goal

abbrev pub invariant-loop-rule : goal.invariant-loop-rule
invariant-loop-rule l = (tables : Tables) (reports : List CopyReport) → IsBoardOf tables reports l.board → AreKnown (endpoints_of tables.settings) l.rules
    → map shown_link l.links.items ≡ map (listed_object tables.rows reports) (take l.rule-index l.rules)
