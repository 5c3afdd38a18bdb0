-- The last job that was looked at stands at the place of the last turn.
use Rattle.fts_pages.proofs.Turns.{next-told}
use Rattle.fts_pages.proofs.pages.next_value.Goals as goal

pub returns : goal.returns
returns c = next-told c.args.desk.now.tables.jobs c.args.places c.requires.inside c.requires.order c.args.newest c.args.more c.args.most
    c.place_at-place.result _ c.jobs.result.now c.id_value.result c.jobs.ensures.jobs c.place_at-place.ensures.place c.if-more.false
    c.requires.some c.if-places-most.false c.id_value.ensures
