-- What was decided answers the command as the machine does, and is all that it needs.
use Rattle.fts_desk.specs.Kept.{tables_kept}
use Rattle.fts_desk.proofs.Sound.{answered_as, planned_restart, planned_report, planned_ban}
use Rattle.fts_desk.proofs.commands.decide.Goals as goal

pub returns-in-Restart-clause-answer : goal.returns-in-Restart-clause-answer
returns-in-Restart-clause-answer c =
    answered_as (tables_kept c.args.kept.now) c.args.command.now c.decide_restart.result c.in-Restart.is (c.decide_restart.ensures.answer c.in-Restart.now)

pub returns-in-Restart-clause-planned : goal.returns-in-Restart-clause-planned
returns-in-Restart-clause-planned c =
    planned_restart c.decide_restart.new.kept c.in-Restart.now c.in-Restart.settings c.args.command.now c.decide_restart.result c.in-Restart.is
    c.decide_restart.ensures.decided

pub returns-in-Submit-clause-answer : goal.returns-in-Submit-clause-answer
returns-in-Submit-clause-answer c =
    answered_as (tables_kept c.args.kept.now) c.args.command.now c.make_room.result c.in-Submit.is (c.make_room.ensures.answer c.in-Submit.now)

pub returns-in-Report-clause-answer : goal.returns-in-Report-clause-answer
returns-in-Report-clause-answer c =
    answered_as (tables_kept c.args.kept.now) c.args.command.now c.decide_report.result c.in-Report.is
    (c.decide_report.ensures.answer c.in-Report.now c.in-Report.outcome)

pub returns-in-Report-clause-planned : goal.returns-in-Report-clause-planned
returns-in-Report-clause-planned c =
    planned_report c.decide_report.new.kept c.in-Report.now c.in-Report.file c.in-Report.attempt c.in-Report.outcome c.args.command.now
    c.decide_report.result c.in-Report.is c.decide_report.ensures.room

pub returns-in-Ban-clause-answer : goal.returns-in-Ban-clause-answer
returns-in-Ban-clause-answer c =
    answered_as (tables_kept c.args.kept.now) c.args.command.now c.decide_ban.result c.in-Ban.is (c.decide_ban.ensures.answer c.in-Ban.now c.in-Ban.cancel)

pub returns-in-Ban-clause-planned : goal.returns-in-Ban-clause-planned
returns-in-Ban-clause-planned c =
    planned_ban c.decide_ban.new.kept c.in-Ban.now c.in-Ban.storage c.in-Ban.cancel c.args.command.now c.decide_ban.result c.in-Ban.is
    c.decide_ban.ensures.room
