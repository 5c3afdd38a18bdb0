-- After a commit the tables are sound, with one command more, and nothing is prepared.
use Rattle.std.proofs.Common.{sym, ◌∙◌}
use Rattle.fts_desk.specs.Kept.{tables_kept}
use Rattle.fts_desk.proofs.Sound.{ready_for, sound_after}
use Rattle.fts_desk.proofs.desk.Desk.commit.Goals as goal

pub invariant_of-self : goal.invariant_of-self
invariant_of-self c =
    let inside = c.self.inside in
    let tables = tables_kept inside.kept in
    let command = c.in-Some.command in
    let planned = sym c.take.ensures.value ∙ c.in-Some.is in
    let ready = ready_for inside.kept inside.commands inside.decided inside.planned command c.self.invariant.ready planned in
    record {
      sound = sound_after tables (tables_kept c.make_step.new.kept) inside.commands command c.make_step.result c.self.invariant.sound ready.planned.files
          c.make_step.ensures.step
          (c.steps_keep_standing.ensures.standing tables command c.self.invariant.sound.standing ready.accepted)
          (c.steps_keep_bounds.ensures.bounds tables inside.commands command c.self.invariant.sound.bounds ready.planned.files ready.accepted);
      ready = rw c.take.ensures.after tt;
    }
