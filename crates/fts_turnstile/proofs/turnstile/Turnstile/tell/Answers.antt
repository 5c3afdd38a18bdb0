use Rattle.std.proofs.Common.{rules, ap, ◌∙◌}
use Rattle.fts_turnstile.proofs.JoinSteps.{notes, tells_as, learns}
use Rattle.fts_turnstile.proofs.turnstile.Turnstile.tell.Goals as goal

pub split_seat-note-requires : goal.split_seat-note-requires
split_seat-note-requires g c = (search rules, search rules, notes _ _ _ _ _ _ _)

pub join_seat-requires : goal.join_seat-requires
join_seat-requires g c =
    let written = c.split_seat-note.ensures.4 in
    let rests = c.requires.rests.1 in
    (search rules, search rules, ap (λ m. m.1) written, search rules, tells_as _ _ _ _ _ _ _ _ _ c.args.from.now.me.0 (ap (λ m. m.0) written) rests.2 rests.5)

pub load-requires : goal.load-requires
load-requires g c =
    let read = c.join_seat.ensures.2 in
    let rests = c.requires.rests.1 in
    (search rules, search rules, learns _ _ _ _ _ _ _ _ (ap (λ m. m.0.lives) read ∙ rests.0) (ap (λ m. m.0.served) read ∙ rests.5))
