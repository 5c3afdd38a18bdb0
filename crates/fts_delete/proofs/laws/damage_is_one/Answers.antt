use Rattle.fts_delete.proofs.Damaged.{damage_once}
use Rattle.fts_delete.proofs.laws.damage_is_one.Goals as goal

pub returns : goal.returns
returns c = damage_once c.content_stands_for_one.ensures c.content_that_stands_is_not_cut.ensures c.content_is_cut_at_one_offset.ensures
    c.no_journal_stands_or_is_cut.ensures.stands c.no_journal_stands_or_is_cut.ensures.cut
