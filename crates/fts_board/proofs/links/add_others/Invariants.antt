-- The links so far, with those of the endpoints so far.
use Rattle.std.proofs.Common.{◌≡◌, ◌++◌, map, take, List}
use Rattle.std.specs.List.{flat_map}
use Rattle.fts_tables.specs.Tables.{Tables}
use Rattle.fts_tables.specs.declared.settings.Endpoint.{Endpoint}
use Rattle.fts_chronicle.specs.declared.chronicle.CopyReport.{CopyReport}
use Rattle.fts_counts.specs.Listed.{endpoints_of}
use Rattle.fts_board.specs.Snapshot.{others_from}
use Rattle.fts_board.specs.Boards.{IsBoardOf, shown_link}
use Rattle.fts_board.proofs.links.add_others.Given as goal

abbrev pub invariant-loop-endpoint : goal.invariant-loop-endpoint
invariant-loop-endpoint l = (tables : Tables) (reports : List CopyReport) → IsBoardOf tables reports l.board → l.endpoints ≡ endpoints_of tables.settings
    → map shown_link l.links.items ≡ map shown_link l.initial.links.items
    ++ flat_map (λ (endpoint : Endpoint). others_from tables reports endpoint.name) (take l.endpoint-index l.endpoints)
