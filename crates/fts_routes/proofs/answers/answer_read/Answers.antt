-- What was planned, and what came of it.
use Rattle.std.proofs.Common.{ℕ, List, [], refl, subst}
use Rattle.std.specs.Prelude.{IsTrue}
use Rattle.fts_tables.specs.Tables.{Tables}
use Rattle.fts_wire.specs.Answered.{request_data}
use Rattle.fts_wire.specs.RequestData.{RequestData}
use Rattle.fts_routes.specs.Replies.{plan_of, said}
use Rattle.fts_routes.specs.Planned.{IsPlanned, is_decided}
use Rattle.fts_routes.specs.declared.planned.Planned.TheVariants.{Replies as PlannedReply, Looks as PlannedLook, Tries as PlannedCommand}
use Rattle.fts_routes.proofs.Coming.{comes-replied, comes-looked, comes-tried, answers, lacking_as_was, planned-priority}
use Rattle.fts_routes.proofs.ReadEntries.{bodies_read, are_shown, grown_none, doubt_same}
use Rattle.fts_routes.proofs.Sendable.{sendable, said-to, planned, planned-asked}
use Rattle.fts_routes.proofs.Still.{still, looked_since}
use Rattle.fts_routes.proofs.answers.answer_read.Goals as goal

pub try_command-requires : goal.try_command-requires
try_command-requires g c = record {
  priority = planned-priority c.desk.result.now.tables (plan_of c.desk.result.now.tables c.args.now (request_data c.args.request.now)) c.in-Ok-Tries.command c.in-Ok-Tries.reply
      (rw c.in-Ok-Tries.field-0-is at c.in-Ok-Tries.ensures);
  asked = planned-asked c.desk.result.now.tables (plan_of c.desk.result.now.tables c.args.now (request_data c.args.request.now)) c.in-Ok-Tries.command c.in-Ok-Tries.reply
      (planned c.desk.result.now.tables c.args.now (request_data c.args.request.now)) (rw c.in-Ok-Tries.field-0-is at c.in-Ok-Tries.ensures);
}

-- what is said as it is defined
decided : (tables : Tables) (used writer : ℕ) (request : RequestData) (now : ℕ) (bodies : List (List ℕ))
    → IsTrue (is_decided (said tables bodies used writer request now).reply.status)
decided tables used writer request now bodies = (said-to tables bodies used writer (plan_of tables now request) (planned tables now request)).decided

pub returns-in-Ok-Replies-clause-answers : goal.returns-in-Ok-Replies-clause-answers
returns-in-Ok-Replies-clause-answers g c = answers g.D.Disk.state g.D.Disk.faults c.args.keep.now c.args.keep.now (bodies_read g.D.Disk.state g.D.Disk.faults c.args.keep.now []) c.args.writer (request_data c.args.request.now) c.args.now c.in-Ok-Replies.reply
    (are_shown g.D.Disk.state g.D.Disk.faults c.args.keep.now c.desk.ensures.kept [])
    (comes-replied g.D.Disk.state g.D.Disk.faults c.args.keep.now (bodies_read g.D.Disk.state g.D.Disk.faults c.args.keep.now []) c.args.writer (plan_of c.args.keep.now.tables c.args.now (request_data c.args.request.now)) c.in-Ok-Replies.reply
    (subst (λ (tables : Tables). IsPlanned tables (PlannedReply c.in-Ok-Replies.reply) (plan_of tables c.args.now (request_data c.args.request.now))) c.desk.ensures.tables
    (rw c.in-Ok-Replies.field-0-is at c.in-Ok-Replies.ensures)))

pub returns-in-Ok-Replies-clause-images : goal.returns-in-Ok-Replies-clause-images
returns-in-Ok-Replies-clause-images g c = still g.D.Disk.state g.met.D.Disk.lawful c.args.keep.now c.desk.ensures.kept

pub returns-in-Ok-Replies-clause-phrase : goal.returns-in-Ok-Replies-clause-phrase
returns-in-Ok-Replies-clause-phrase g c = (sendable g.D.Disk.state g.D.Disk.faults c.args.keep.now c.args.keep.now c.args.writer (request_data c.args.request.now) c.args.now c.in-Ok-Replies.reply
    (returns-in-Ok-Replies-clause-answers g c)).phrase

pub returns-in-Ok-Replies-clause-methods : goal.returns-in-Ok-Replies-clause-methods
returns-in-Ok-Replies-clause-methods g c = (sendable g.D.Disk.state g.D.Disk.faults c.args.keep.now c.args.keep.now c.args.writer (request_data c.args.request.now) c.args.now c.in-Ok-Replies.reply
    (returns-in-Ok-Replies-clause-answers g c)).methods

pub returns-in-Ok-Tries-clause-answers : goal.returns-in-Ok-Tries-clause-answers
returns-in-Ok-Tries-clause-answers g c = answers g.D.Disk.state g.D.Disk.faults c.args.keep.now c.try_command.new.keep (bodies_read g.D.Disk.state g.D.Disk.faults c.args.keep.now []) c.args.writer (request_data c.args.request.now) c.args.now c.try_command.result
    (are_shown g.D.Disk.state g.D.Disk.faults c.args.keep.now c.desk.ensures.kept [])
    (comes-tried g.D.Disk.state g.D.Disk.faults c.args.keep.now c.try_command.new.keep (bodies_read g.D.Disk.state g.D.Disk.faults c.args.keep.now []) c.args.writer (plan_of c.args.keep.now.tables c.args.now (request_data c.args.request.now))
    c.in-Ok-Tries.command c.in-Ok-Tries.reply c.try_command.result
    (subst (λ (tables : Tables). IsPlanned tables (PlannedCommand c.in-Ok-Tries.command c.in-Ok-Tries.reply) (plan_of tables c.args.now (request_data c.args.request.now))) c.desk.ensures.tables
    (rw c.in-Ok-Tries.field-0-is at c.in-Ok-Tries.ensures))
    c.try_command.ensures.comes)

pub returns-in-Ok-Tries-clause-phrase : goal.returns-in-Ok-Tries-clause-phrase
returns-in-Ok-Tries-clause-phrase g c = (sendable g.D.Disk.state g.D.Disk.faults c.args.keep.now c.try_command.new.keep c.args.writer (request_data c.args.request.now) c.args.now c.try_command.result
    (returns-in-Ok-Tries-clause-answers g c)).phrase

pub returns-in-Ok-Tries-clause-methods : goal.returns-in-Ok-Tries-clause-methods
returns-in-Ok-Tries-clause-methods g c = (sendable g.D.Disk.state g.D.Disk.faults c.args.keep.now c.try_command.new.keep c.args.writer (request_data c.args.request.now) c.args.now c.try_command.result
    (returns-in-Ok-Tries-clause-answers g c)).methods

pub returns-in-Err-clause-answers : goal.returns-in-Err-clause-answers
returns-in-Err-clause-answers g c =
    let bodies = bodies_read g.D.Disk.state g.D.Disk.faults c.args.keep.now [] in
    answers g.D.Disk.state g.D.Disk.faults c.args.keep.now c.args.keep.now bodies c.args.writer (request_data c.args.request.now) c.args.now c.no_memory.result
    (are_shown g.D.Disk.state g.D.Disk.faults c.args.keep.now c.desk.ensures.kept [])
    (lacking_as_was g.D.Disk.state g.D.Disk.faults c.args.keep.now c.args.keep.now
    (said c.args.keep.now.tables bodies c.args.keep.now.used c.args.writer (request_data c.args.request.now) c.args.now) c.no_memory.result refl c.no_memory.ensures)

pub returns-in-Err-clause-images : goal.returns-in-Err-clause-images
returns-in-Err-clause-images g c = still g.D.Disk.state g.met.D.Disk.lawful c.args.keep.now c.desk.ensures.kept

pub returns-in-Ok-Replies-clause-decided : goal.returns-in-Ok-Replies-clause-decided
returns-in-Ok-Replies-clause-decided g c = decided c.args.keep.now.tables c.args.keep.now.used c.args.writer (request_data c.args.request.now) c.args.now

pub returns-in-Ok-Tries-clause-decided : goal.returns-in-Ok-Tries-clause-decided
returns-in-Ok-Tries-clause-decided g c = decided c.args.keep.now.tables c.args.keep.now.used c.args.writer (request_data c.args.request.now) c.args.now

pub returns-in-Err-clause-decided : goal.returns-in-Err-clause-decided
returns-in-Err-clause-decided g c = decided c.args.keep.now.tables c.args.keep.now.used c.args.writer (request_data c.args.request.now) c.args.now

pub returns-in-Ok-Looks-clause-answers : goal.returns-in-Ok-Looks-clause-answers
returns-in-Ok-Looks-clause-answers g c =
    let looks = c.look_at_entry.ensures.looks in
    answers g.D.Disk.state g.D.Disk.faults c.args.keep.now c.look_at_entry.new.keep looks.bodies c.args.writer (request_data c.args.request.now) c.args.now
    c.look_at_entry.result looks.shown
    (comes-looked g.D.Disk.state g.D.Disk.faults c.args.keep.now c.look_at_entry.new.keep looks.bodies c.args.writer
    (plan_of c.args.keep.now.tables c.args.now (request_data c.args.request.now)) c.in-Ok-Looks.number c.look_at_entry.result
    (subst (λ (tables : Tables). IsPlanned tables (PlannedLook c.in-Ok-Looks.number) (plan_of tables c.args.now (request_data c.args.request.now))) c.desk.ensures.tables
    (rw c.in-Ok-Looks.field-0-is at c.in-Ok-Looks.ensures)) looks.comes)

pub returns-in-Ok-Looks-clause-grows : goal.returns-in-Ok-Looks-clause-grows
returns-in-Ok-Looks-clause-grows g c = grown_none g.D.Disk.state g.D.Disk.faults c.args.keep.now c.look_at_entry.new.keep c.look_at_entry.ensures.only c.args.writer

pub returns-in-Ok-Looks-clause-images : goal.returns-in-Ok-Looks-clause-images
returns-in-Ok-Looks-clause-images g c = looked_since g.D.Disk.state g.D.Disk.faults g.met.D.Disk.lawful c.args.keep.now c.look_at_entry.new.keep
    c.desk.ensures.kept c.look_at_entry.ensures.only

pub returns-in-Ok-Looks-clause-doubt : goal.returns-in-Ok-Looks-clause-doubt
returns-in-Ok-Looks-clause-doubt g c = doubt_same g.D.Disk.state g.D.Disk.faults c.args.keep.now c.look_at_entry.new.keep c.look_at_entry.ensures.only

pub returns-in-Ok-Looks-clause-phrase : goal.returns-in-Ok-Looks-clause-phrase
returns-in-Ok-Looks-clause-phrase g c = (sendable g.D.Disk.state g.D.Disk.faults c.args.keep.now c.look_at_entry.new.keep c.args.writer (request_data c.args.request.now) c.args.now c.look_at_entry.result
    (returns-in-Ok-Looks-clause-answers g c)).phrase

pub returns-in-Ok-Looks-clause-methods : goal.returns-in-Ok-Looks-clause-methods
returns-in-Ok-Looks-clause-methods g c = (sendable g.D.Disk.state g.D.Disk.faults c.args.keep.now c.look_at_entry.new.keep c.args.writer (request_data c.args.request.now) c.args.now c.look_at_entry.result
    (returns-in-Ok-Looks-clause-answers g c)).methods

pub returns-in-Ok-Looks-clause-decided : goal.returns-in-Ok-Looks-clause-decided
returns-in-Ok-Looks-clause-decided g c = decided c.args.keep.now.tables c.args.keep.now.used c.args.writer (request_data c.args.request.now) c.args.now
