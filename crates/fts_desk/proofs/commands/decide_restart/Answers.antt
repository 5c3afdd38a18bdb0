-- A restart is never refused, and under the settings in force nothing is made anew.
use Rattle.fts_desk.proofs.Sound.{resumed}
use Rattle.fts_desk.proofs.commands.decide_restart.Goals as goal

pub returns-then-are_in_force-clause-answer : goal.returns-then-are_in_force-clause-answer
returns-then-are_in_force-clause-answer c = λ now. c.decide_resume.ensures.answer now c.args.settings.now

pub returns-then-are_in_force-clause-decided : goal.returns-then-are_in_force-clause-decided
returns-then-are_in_force-clause-decided c =
    resumed c.args.kept.now c.decide_resume.new.kept c.args.settings.now c.decide_resume.result (c.are_in_force.ensures.same c.if-are_in_force.true)
    c.decide_resume.ensures.decided
