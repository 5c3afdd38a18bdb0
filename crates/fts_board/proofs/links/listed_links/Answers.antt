-- A rule's link more.
use Rattle.std.proofs.Common.{◌++◌, [], ◌∷◌, ◌∙◌, ap, sym, map}
use Rattle.serde_json.specs.Data.{Data}
use Rattle.fts_counts.specs.Listed.{endpoints_of}
use Rattle.fts_board.specs.Snapshot.{listed_object}
use Rattle.fts_board.specs.Boards.{shown_link}
use Rattle.fts_board.proofs.Lists.{read_more, known_at}
use Rattle.fts_board.proofs.links.listed_links.Goals as goal

pub loop-rule-preserved : goal.loop-rule-preserved
loop-rule-preserved c = λ tables reports board known.
    let rules = c.args.rules.now in
    let rule = c.rule-item.result in
    let ends = known_at (endpoints_of tables.settings) rules c.loop-rule.rule-index rule c.loop-rule-test.true (sym c.rule-item.is) known in
    read_more (listed_object tables.rows reports) rules c.loop-rule.rule-index rule c.loop-rule-test.true (sym c.rule-item.is)
    (map shown_link c.loop-rule.links.items) (map shown_link c.add.new.links.items) (c.loop-rule.invariant tables reports board known)
    (c.in_ok-add.ensures ∙ ap (λ (value : Data). map shown_link c.loop-rule.links.items ++ value ∷ []) (c.listed_link-shown.ensures tables reports board ends.0 ends.1))
