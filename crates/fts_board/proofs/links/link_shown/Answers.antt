-- What the tables say of the pair is what the link's rows and reports say.
use Rattle.std.proofs.Common.{◌∙◌, List, [], ap, get_or}
use Rattle.fts_tables.specs.declared.settings.Endpoint.{Endpoint}
use Rattle.fts_counts.specs.Listed.{endpoints_of}
use Rattle.fts_board.specs.Tallied.{pair_of, row_tally_of, report_tally_of}
use Rattle.fts_board.specs.Boards.{link_with}
use Rattle.fts_board.specs.declared.tallies.RowTally.{RowTally}
use Rattle.fts_board.proofs.Tallied.{rows_at_pair, reports_at_pair}
use Rattle.fts_board.proofs.links.link_shown.Goals as goal

pub returns : goal.returns
returns c =
    let source = c.args.source.now in
    let dest = c.args.dest.now in
    record {
      shown = λ tables reports board from to.
          let pair = c.pair_of-pair.ensures ∙ ap (λ (l : List Endpoint). pair_of l source dest) board.endpoints in
          let rows = c.row_tally_at-rows.ensures ∙ (λ i. get_or ((c.deref.ensures.value ∙ board.rows) i) (pair i) (row_tally_of []))
          ∙ rows_at_pair (endpoints_of tables.settings) source dest from to tables.rows (row_tally_of []) in
          let told = c.report_tally_at-reports.ensures ∙ (λ i. get_or ((c.deref-2.ensures.value ∙ board.reports) i) (pair i) (report_tally_of []))
          ∙ reports_at_pair (endpoints_of tables.settings) source dest from to tables.rows reports (report_tally_of []) in
          (λ i. link_with source dest c.args.symbolic.now c.args.max_active (rows i) (told i));
      rows = λ tables reports board from to.
          let pair = c.pair_of-pair.ensures ∙ ap (λ (l : List Endpoint). pair_of l source dest) board.endpoints in
          ap (λ (tally : RowTally). tally.rows) (c.row_tally_at-rows.ensures ∙ (λ i. get_or ((c.deref.ensures.value ∙ board.rows) i) (pair i) (row_tally_of []))
          ∙ rows_at_pair (endpoints_of tables.settings) source dest from to tables.rows (row_tally_of []));
    }
