-- A service that a standby asks: the request for an entry, what the service answers to it over its list, and calls whose answers are all such ones.
use Rattle.std.specs.Prelude.{◌≡◌, ℕ, ◌≤◌, true, List, [], ◌++◌, length, All, None, codes, decimal}
use Rattle.std.specs.List.{AllByRecursion}
use Rattle.fts_tables.specs.declared.commands.Entry.{Entry}
use Rattle.fts_record.specs.Proper.{IsProper}
use Rattle.fts_disk.specs.Disk.{DiskState, IsTold}
use Rattle.fts_journal.specs.Journal.{JournalData}
use Rattle.fts_wire.specs.NextAnswers.{AnswerData, answer_of}
use Rattle.fts_wire.specs.RequestData.{RequestData}
use Rattle.fts_wire.specs.declared.response.Reply.{Reply}
use Rattle.fts_client.specs.Tries.{answers_of}
use Rattle.fts_routes.specs.Replies.{Way, said_over, said_so}
use Rattle.fts_standby.specs.Worlds.{Standby, World, IsPrefix, IsPrefixWith, StandsForPrefix, spellings}
use Rattle.fts_standby.specs.Asking.{Request}
use Rattle.fts_standby.specs.Reaching.{ComeFrom, standby_of, IsReached, GoesOn}

-- the one request that is sent for the entry of a number: GET /journal/N, the last one on its connection
abbrev pub request_for : ℕ → RequestData
request_for number = record { method = codes "GET"; path = codes "/journal/" ++ decimal number; query = None; body = []; close = true }

-- a list that a service may have: its entries are proper, and 32 bits count them
pub record IsServed (entries : List Entry) : Type 0 where
  pub proper : All IsProper entries
  pub few : length entries ≤ 4294967295

-- a service with this list replies so to the request for the entry of a number: as it is defined, or that there is no memory, or that the disk failed
pub record IsReply (entries : List Entry) (number : ℕ) (reply : Reply) : Type 0 where
  pub writer : ℕ
  pub now : ℕ
  pub way : Way
  pub is : reply ≡ (said_so way (said_over entries writer (request_for number) now)).reply

-- an answer is a reply to that request by a service whose list was the first one and came to be the second: over what the list was at some time
pub record IsAnswered (early primary : List Entry) (number : ℕ) (answer : AnswerData) : Type 0 where
  pub entries : List Entry
  pub since : IsPrefix early entries
  pub begins : IsPrefix entries primary
  pub reply : Reply
  pub is_reply : IsReply entries number reply
  pub shown : answer ≡ answer_of reply

-- each answer that was read in these requests is one of that service, to the request in which it was read
abbrev pub AreAnswered : List Entry → List Entry → List Request → Type 0
AreAnswered early primary requests =
    AllByRecursion (λ (request : Request). AllByRecursion (IsAnswered early primary request.number) (answers_of request.tries)) requests

-- the number of each request is one of 32 bits, as `follow` has them
abbrev pub AreShort : List Request → Type 0
AreShort requests = AllByRecursion (λ (request : Request). request.number ≤ 4294967295) requests

-- a standby's list begins the spellings of a primary's, also with what is in doubt behind it
pub record IsBeginning (primary : List Entry) (standby : Standby) : Type 0 where
  pub list : IsPrefix standby.list (spellings primary)
  pub doubt : IsPrefixWith standby.list standby.doubt (spellings primary)

-- A call over a disk that tells its contents asked such a service: its list was the first one and grew to the second, of which the journal had a
-- beginning, and whatever was read is an answer of it.
pub record AsksService {D : Type 0} (state : D → DiskState) (old : JournalData D) (early primary : List Entry) (requests : List Request) : Type 0 where
  pub told : IsTold (state old.disk)
  pub served : IsServed primary
  pub grew : IsPrefix early primary
  pub begins : IsBeginning primary (standby_of old)
  pub answered : AreAnswered early primary requests

-- a world of this primary's list and this standby that came of an empty one, in which the primary made a response for each answer that was read
pub record IsWorldOf (primary : List Entry) (standby : Standby) (requests : List Request) (w : World) : Type 0 where
  pub reached : IsReached w
  pub primary_is : w.primary ≡ primary
  pub standby_is : w.standby ≡ standby
  pub come : ComeFrom w.made requests

-- a call went by steps of the standby alone, in such a world
pub record Walks {D : Type 0} (state : D → DiskState) (old new : JournalData D) (primary : List Entry) (requests : List Request) : Type 0 where
  pub world : World
  pub is_world : IsWorldOf primary (standby_of old) requests world
  pub goes : GoesOn state old new world

-- what a call left begins the primary's list, and so does what each image of a moment of it stands for
pub record LeavesBeginning {D : Type 0} (state : D → DiskState) (old new : JournalData D) (primary : List Entry) : Type 0 where
  pub standby : IsBeginning primary (standby_of new)
  pub images : (content : List ℕ) → (state new.disk).left_since (state old.disk).moment content → StandsForPrefix (spellings primary) content
