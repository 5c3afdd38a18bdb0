-- The link of the rule's ends, under its name and limit.
use Rattle.std.proofs.Common.{◌∙◌, ap}
use Rattle.fts_tables.specs.SettingsData.{is_listed}
use Rattle.fts_counts.specs.Listed.{endpoints_of}
use Rattle.fts_board.specs.Snapshot.{link_object}
use Rattle.fts_board.proofs.links.listed_link.Goals as goal

pub returns : goal.returns
returns c = λ tables reports board from to.
    let endpoints = endpoints_of tables.settings in
    let source = c.as_str-source.ensures.text in
    let dest = c.as_str-dest.ensures.text in
    let symbolic = c.as_str-symbolic.ensures in
    c.link_shown.ensures.shown tables reports board (ap (is_listed endpoints) source ∙ from) (ap (is_listed endpoints) dest ∙ to)
    ∙ (λ i. link_object tables.rows reports (source i) (dest i) (symbolic i) c.args.rule.now.max_active)
