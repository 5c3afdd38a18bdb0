-- Following in a world: what its answers show of the responses that the primary made, and the steps by which the journal goes on.
use Rattle.std.specs.Prelude.{◌≡◌, ◌≢◌, ℕ, true, Some, List, slice_get}
use Rattle.std.specs.List.{AllByRecursion}
use Rattle.std.specs.Str.{is_utf8}
use Rattle.hex.specs.Hex.{IsBytes}
use Rattle.serde_json.specs.Read.{read}
use Rattle.fts_tables.specs.declared.commands.Entry.{Entry}
use Rattle.fts_record.specs.Reading.{read_of}
use Rattle.fts_disk.specs.Disk.{DiskState}
use Rattle.fts_journal.specs.Journal.{JournalData, IsImageOf}
use Rattle.fts_wire.specs.NextAnswers.{AnswerData}
use Rattle.fts_client.specs.Tries.{answers_of}
use Rattle.fts_standby.specs.Worlds.{Response, Gives, Refuses, Standby, World, Step, spellings, started, reached, IsPrefix, StandsForPrefix}
use Rattle.fts_standby.specs.Entries.{entry_object}
use Rattle.fts_standby.specs.Asking.{Request}

-- an answer shows the entry of a number
pub record ShowsEntry (number : ℕ) (body : List ℕ) (count : ℕ) (answer : AnswerData) : Type 0 where
  pub status : answer.status ≡ 200
  pub utf8 : is_utf8 answer.body ≡ true
  pub reads : read answer.body ≡ Some (entry_object body count number)
  pub bytes : IsBytes body
  pub entry : Entry
  pub is_entry : read_of body ≡ Some entry

-- an answer shows a response
abbrev pub Shows : Response → AnswerData → Type 0
Shows (Gives number body count) answer = ShowsEntry number body count answer
Shows (Refuses status) answer = (answer.status ≡ status) × (status ≢ 200)

-- an answer shows one of the responses ever made
pub record IsOneOf (made : List Response) (answer : AnswerData) : Type 0 where
  pub place : ℕ
  pub response : Response
  pub at : slice_get made place ≡ Some response
  pub shows : Shows response answer

-- each answer that was read in these requests shows one of the responses ever made
abbrev pub ComeFrom : List Response → List Request → Type 0
ComeFrom made requests = AllByRecursion (λ (request : Request). AllByRecursion (IsOneOf made) (answers_of request.tries)) requests

-- the journal is that of the world's standby
abbrev pub standby_of : {D : Type 0} → JournalData D → Standby
standby_of journal = record { list = journal.bodies; doubt = journal.doubt }

-- steps of the standby alone lead from a world to this standby
pub record LeadsTo (w : World) (standby : Standby) : Type 0 where
  pub steps : List Step
  pub reaches : reached w steps ≡ record w { standby = standby }

-- a content is an image of a standby to which such steps lead
pub record IsOnTheWay (w : World) (content : List ℕ) : Type 0 where
  pub standby : Standby
  pub leads : LeadsTo w standby
  pub image : IsImageOf standby.list standby.doubt content

-- A call that followed went by steps of the standby alone: they lead to its journal, and each image of a moment of the call is one on the way.
pub record GoesOn {D : Type 0} (state : D → DiskState) (old new : JournalData D) (w : World) : Type 0 where
  pub leads : LeadsTo w (standby_of new)
  pub moments : (content : List ℕ) → (state new.disk).left_since (state old.disk).moment content → IsOnTheWay w content

-- a journal's list begins the spellings of the primary's list, and so does what each image of a moment of the call stands for
pub record Begins {D : Type 0} (state : D → DiskState) (old new : JournalData D) (w : World) : Type 0 where
  pub list : IsPrefix new.bodies (spellings w.primary)
  pub images : (content : List ℕ) → (state new.disk).left_since (state old.disk).moment content → StandsForPrefix (spellings w.primary) content

-- a world that a primary with an empty standby came to
pub record IsReached (w : World) : Type 0 where
  pub primary : List Entry
  pub steps : List Step
  pub is : w ≡ reached (started primary) steps
