-- What an answer says to a standby that asked for the entry of a number: by its status, and of a 200 and a 404 by its body.
use Rattle.std.specs.Prelude.{ℕ, ◌==◌, ◌||◌, ◌&&◌, if◌then◌else◌, List, Option, Some, None}
use Rattle.fts_standby.specs.Entries.{entry_in, says_no_entry}
use Rattle.fts_standby.specs.declared.hearing.Heard.{Heard as HeardCode}
use Rattle.fts_standby.specs.declared.hearing.Heard.TheVariants.{Gives as CodeGives, NoneThere as CodeNoneThere, Refuses as CodeRefuses, CannotServe as CodeCannotServe, NoAnswer as CodeNoAnswer, LinkFailed as CodeLinkFailed}

-- what is heard
pub data Heard : Type 0 where
  -- the bytes of that entry
  Gives : List ℕ → Heard
  -- there is no entry of that number
  NoneThere : Heard
  -- another refusal, of this status
  Refuses : ℕ → Heard
  -- the service can't serve now, and says so with this status
  CannotServe : ℕ → Heard
  -- nothing that is an answer to this request
  NoAnswer : Heard
  -- nothing, since the link failed
  LinkFailed : Heard

-- an entry that was found in a body, or no answer
abbrev pub gives : Option (List ℕ) → Heard
gives (Some body) = Gives body
gives None = NoAnswer

-- what an answer of this status with this body says of the entry of a number
abbrev pub heard_of : ℕ → ℕ → List ℕ → Heard
heard_of number status body =
    if status == 200 then gives (entry_in number body)
    else if (status == 500) || (status == 503) then CannotServe status
    else if (status == 404) && says_no_entry body then NoneThere else Refuses status

-- the same as code has it
abbrev pub heard_data : HeardCode → Heard
heard_data (CodeGives entry) = Gives entry.items
heard_data CodeNoneThere = NoneThere
heard_data (CodeRefuses status) = Refuses status
heard_data (CodeCannotServe status) = CannotServe status
heard_data CodeNoAnswer = NoAnswer
heard_data CodeLinkFailed = LinkFailed
