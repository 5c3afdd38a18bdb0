-- What a client takes from a response: by its status, and on 200 and 409 by the id under `job_id` in its body's object.
use Rattle.std.specs.Prelude.{ℕ, ◌==◌, ◌||◌, Bool, false, if◌then◌else◌, List, Option, Some, None, option_map, option_and_then, codes}
use Rattle.std.specs.Int.{from_be_bytes, w128}
use Rattle.serde_json.specs.Find.{get, as_str}
use Rattle.uuid.specs.Text.{parsed}
use Rattle.fts_jobdoc.specs.Json.{value_of}
use Rattle.fts_client.specs.Worlds.{Heard, Done, Refused, CannotServe, NoAnswer}

-- the id that a text spells, in any form of a UUID (RFC 9562)
abbrev pub id_spelled : List ℕ → Option ℕ
id_spelled text = option_map (from_be_bytes w128) (parsed text)

-- the id under `job_id` in a body's object
abbrev pub job_named_in : List ℕ → Option ℕ
job_named_in body = option_and_then id_spelled (option_and_then as_str (option_and_then (get (codes "job_id")) (value_of body)))

-- the job is there, where the body names one
abbrev pub done_by : Option ℕ → Bool → Heard
done_by (Some job) again = Done job again
done_by None again = NoAnswer

-- what a status says that tells of no job: 500 and 503 that the service can't serve now, and every other one that it refuses
abbrev pub refused_by : ℕ → Heard
refused_by status = if (status == 500) || (status == 503) then CannotServe status else Refused status

-- what a response of this status with this body says to a submission
abbrev pub heard_in : ℕ → List ℕ → Heard
heard_in status body =
    if (status == 200) || (status == 409) then done_by (job_named_in body) (status == 409)
    else refused_by status

-- what a response of this status says to a query: 200 shows the job, and so ends it
abbrev pub shown_in : ℕ → Heard
shown_in status = if status == 200 then Done 0 false else refused_by status
