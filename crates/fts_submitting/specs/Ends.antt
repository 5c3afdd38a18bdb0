-- How a client's command ends by how its tries ended, and the exit status of each end.
use Rattle.std.specs.Prelude.{ℕ, Bool, if◌then◌else◌}
use Rattle.fts_client.specs.declared.ends.SubmitEnd.{SubmitEnd}
use Rattle.fts_client.specs.declared.ends.SubmitEnd.TheVariants as submit_ends
use Rattle.fts_client.specs.declared.ends.QueryEnd.{QueryEnd}
use Rattle.fts_client.specs.declared.ends.QueryEnd.TheVariants as query_ends
use Rattle.fts_submitting.specs.declared.ends.ClientEnd.{ClientEnd}
use Rattle.fts_submitting.specs.declared.ends.ClientEnd.TheVariants.{Told, NoMemory, InputFailed, OutputFailed, DocumentRule, Refused, LinkFailed, NoAnswer, CannotServe}

-- the exit status
abbrev pub client_status : ClientEnd → ℕ
client_status Told = 0
client_status NoMemory = 1
client_status InputFailed = 5
client_status OutputFailed = 6
client_status (Refused status) = 15
client_status LinkFailed = 16
client_status NoAnswer = 17
client_status (CannotServe status) = 18
client_status (DocumentRule rule) = 19

-- the end of a command that had its text to write: it is written whole, or a write failed
abbrev pub told : Bool → ClientEnd
told whole = if whole then Told else OutputFailed

-- the end of a command whose submission ended so
abbrev pub end_of_submission : SubmitEnd → Bool → ClientEnd
end_of_submission (submit_ends.Done job again) whole = told whole
end_of_submission (submit_ends.Refused status) whole = Refused status
end_of_submission submit_ends.LinkFailed whole = LinkFailed
end_of_submission (submit_ends.CannotServe status) whole = CannotServe status
end_of_submission submit_ends.NoAnswer whole = NoAnswer
end_of_submission submit_ends.Memory whole = NoMemory

-- the end of a command whose query ended so
abbrev pub end_of_query : QueryEnd → Bool → ClientEnd
end_of_query query_ends.Found whole = told whole
end_of_query (query_ends.Refused status) whole = Refused status
end_of_query query_ends.LinkFailed whole = LinkFailed
end_of_query (query_ends.CannotServe status) whole = CannotServe status
end_of_query query_ends.NoAnswer whole = NoAnswer
end_of_query query_ends.Memory whole = NoMemory
