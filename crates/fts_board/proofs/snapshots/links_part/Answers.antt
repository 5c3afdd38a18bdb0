-- The first of the links are shown, and the others counted.
use Rattle.std.proofs.Common.{◌∙◌, List, ap, sym, take, length, map, arith}
use Rattle.std.proofs.lemmas.List.{take-map, length-map}
use Rattle.serde_json.specs.Data.{Data, array}
use Rattle.serde_json.specs.View.{items_of}
use Rattle.fts_board.specs.Boards.{shown_link}
use Rattle.fts_board.proofs.snapshots.links_part.Goals as goal

pub returns : goal.returns
returns c =
    let told = c.in_ok-links.ensures c.args.desk.now.tables c.args.reports.now c.in_ok-board.ensures.board in
    record {
      value = c.in_ok-value.ensures
          ∙ ap (λ (l : List Data). array (items_of l))
          (ap (map shown_link) (c.as_slice.ensures.value ∙ c.truncate.ensures.items) ∙ sym (take-map shown_link 1000 c.in_ok-links.links.items) ∙ ap (take 1000) told);
      left_out = omega (arith, ap length told, length-map c.in_ok-links.links.items shown_link);
    }
