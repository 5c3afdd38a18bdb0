use Rattle.std.proofs.Common.{subst, Err, rules}
use Rattle.fts_record.specs.Answers.{Tells}
use Rattle.fts_record.specs.Reading.{entry_in}
use Rattle.fts_keep.proofs.Damaged.{place_inside}
use Rattle.fts_watch.proofs.monitor.take_entry.Goals as goal

pub overflow_add-offset-in-Err-BadEntry : goal.overflow_add-offset-in-Err-BadEntry
overflow_add-offset-in-Err-BadEntry c =
    let tells = subst (λ f. Tells (Err f) (entry_in c.args.body.now)) c.in-Err-BadEntry.field-0-is c.in-Err-BadEntry.ensures.exact in
    let inside = place_inside c.args.body.now c.in-Err-BadEntry.at tells in
    search (rules, inside)
