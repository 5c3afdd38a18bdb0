-- Worlds that compute, over the machine's own steps: a service that answers a submission by its id, and says with which status.
use Rattle.std.proofs.Common.{◌≡◌, ℕ, ◌==◌, true, false, List, [], ◌∷◌, Some, None, Ok, Err, codes, length, map, refl}
use Rattle.std.specs.Prelude.{unwrap_or}
use Rattle.fts_tables.specs.SettingsData.{SettingsData}
use Rattle.fts_tables.specs.JobData.{JobData}
use Rattle.fts_tables.specs.Step.{Outcomes, step}
use Rattle.fts_tables.specs.Moves.{standard_id}
use Rattle.fts_tables.specs.History.{tables_of, IsLegal}
use Rattle.fts_tables.specs.declared.rows.JobKind.TheVariants.{Plain}
use Rattle.fts_tables.specs.declared.rows.Strategy.TheVariants.{Auto}
use Rattle.fts_tables.specs.declared.commands.Entry.{Entry}
use Rattle.fts_tables.specs.declared.commands.Command.TheVariants.{Restart, Submit}
use Rattle.fts_laws.specs.Submissions.{submissions, jobs_with}
use Rattle.fts_client.specs.Worlds.{Heard, Done, CannotServe, Protocol, World, Event, Sends, IsAnswered, Fails, ComesInPart, Hears, HearsPart, Appends, Restarts, WithoutMemory, WithoutDisk, WithoutResponse, Ends, Begins, world_after}

-- a status and an id
abbrev Told : Type 0
Told = ℕ × ℕ

abbrev submission_by : ℕ → JobData → ℕ → Entry
submission_by writer job now = record { writer = writer; command = Submit now job }

abbrev reply_by : JobData → Outcomes → Told
reply_by job (Ok done) = (200, unwrap_or job.id 0)
reply_by job (Err refusal) = (409, unwrap_or job.id 0)

abbrev added_by : Entry → Outcomes → List Entry
added_by entry (Ok done) = entry ∷ []
added_by entry (Err refusal) = []

abbrev heard_by : ℕ → ℕ → Heard
heard_by status id = elim (status == 503) [ true ↦ CannotServe status | false ↦ Done id (status == 409) ]

abbrev plain_protocol : Protocol JobData Told
plain_protocol = record {
  reply = λ entries writer job now. reply_by job (step (tables_of entries) (Submit now job));
  added = λ entries writer job now. added_by (submission_by writer job now) (step (tables_of entries) (Submit now job));
  no_memory = (503, 0);
  disk_failed = (503, 0);
  heard = λ reply. heard_by reply.0 reply.1;
}

abbrev settings : SettingsData
settings = record { vo = codes "demo"; workers = 4; default_max_active = 2; endpoints = []; links = []; weights = [] }

abbrev other_settings : SettingsData
other_settings = record { vo = codes "other"; workers = 4; default_max_active = 2; endpoints = []; links = []; weights = [] }

abbrev job : JobData
job = record { id = Some 77; kind = Plain; strategy = Auto; priority = 3; retry = 0; delay = 0; overwrite = false; queue_hours = 0; files = [] }

abbrev start : World JobData Told
start = record {
  entries = record { writer = 0; command = Restart 1000 settings } ∷ [];
  doubt = None;
  sent = [];
  made = [];
  client = record { request = job; done = None };
}

-- a doubt that is dropped at a restart, one that is kept at the next, and then the answer that the job is there
abbrev doubts : List Event
doubts =
    Sends
    ∷ Fails 0 1 1001 WithoutDisk Begins
    ∷ Restarts false 0 1002 settings
    ∷ Fails 0 1 1003 WithoutResponse Begins
    ∷ Restarts true 0 1004 settings
    ∷ IsAnswered 0 1 1005
    ∷ []

six_steps : World JobData Told
six_steps = world_after plain_protocol start doubts

-- the entry stands in the list once, from the second doubt; of the two responses the second says that the job was there
kept_once : submissions 77 (world_after plain_protocol start doubts).entries ≡ 1
kept_once = refl

entries_then : map (λ (entry : Entry). entry.command) (world_after plain_protocol start doubts).entries
    ≡ Restart 1000 settings ∷ Restart 1002 settings ∷ Submit 1003 job ∷ Restart 1004 settings ∷ []
entries_then = refl

made_then : (world_after plain_protocol start doubts).made ≡ (503, 0) ∷ (409, 77) ∷ []
made_then = refl

untold_then : (world_after plain_protocol start doubts).client.done ≡ None
untold_then = refl

no_doubt_then : (world_after plain_protocol start doubts).doubt ≡ None
no_doubt_then = refl

-- a part of that answer says nothing; the whole of it names the job
cut_then : (world_after plain_protocol (world_after plain_protocol start doubts) (HearsPart 1 ∷ Hears 0 ∷ [])).client.done ≡ None
cut_then = refl

told_then : (world_after plain_protocol (world_after plain_protocol start doubts) (HearsPart 1 ∷ Hears 1 ∷ [])).client.done ≡ Some 77
told_then = refl

-- a doubt ends where another's entry is appended before the restart, and at a settling; a restart of another VO's name is no event
ended_by_another : (world_after plain_protocol start
    (Sends ∷ Fails 0 1 1001 WithoutDisk Begins ∷ Appends (record { writer = 2; command = Submit 1002 (record job { id = None }) }) ∷ Restarts true 0 1003 settings ∷ [])).doubt ≡ None
ended_by_another = refl

dropped_by_another : submissions 77 (world_after plain_protocol start
    (Sends ∷ Fails 0 1 1001 WithoutDisk Begins ∷ Appends (record { writer = 2; command = Submit 1002 (record job { id = None }) }) ∷ Restarts true 0 1003 settings ∷ [])).entries ≡ 0
dropped_by_another = refl

dropped_by_settling : submissions 77 (world_after plain_protocol start
    (Sends ∷ Fails 0 1 1001 WithoutDisk Begins ∷ Fails 0 1 1002 WithoutMemory Ends ∷ Restarts true 0 1003 settings ∷ [])).entries ≡ 0
dropped_by_settling = refl

no_other_vo : length (world_after plain_protocol start (Restarts true 0 1003 other_settings ∷ [])).entries ≡ 1
no_other_vo = refl

-- a part of a request asks for nothing; a request that came twice acts once
parts_ask_nothing : submissions 77 (world_after plain_protocol start (Sends ∷ ComesInPart 0 WithoutResponse ∷ [])).entries ≡ 0
parts_ask_nothing = refl

twice_acts_once : submissions 77 (world_after plain_protocol start (Sends ∷ IsAnswered 0 1 1001 ∷ IsAnswered 0 1 1002 ∷ [])).entries ≡ 1
twice_acts_once = refl

-- what was never sent never comes
none_sent : length (world_after plain_protocol start (IsAnswered 0 1 1001 ∷ [])).made ≡ 0
none_sent = refl

-- An id that the machine gives by itself may be given first: then two jobs have it, of which one was submitted under it.
-- An own id is never such an id.
abbrev taken_first : List Entry
taken_first =
    record { writer = 0; command = Restart 1000 settings }
    ∷ record { writer = 1; command = Submit 1001 (record job { id = Some (standard_id 2) }) }
    ∷ record { writer = 1; command = Submit 1002 (record job { id = None }) }
    ∷ []

two_jobs_of_a_standard_id : jobs_with (standard_id 2) (tables_of taken_first).jobs ≡ 2
two_jobs_of_a_standard_id = refl

one_submission_of_it : submissions (standard_id 2) taken_first ≡ 1
one_submission_of_it = refl

two_jobs_are_legal : IsLegal taken_first
two_jobs_are_legal = (tt, (tt, (tt, tt)))
