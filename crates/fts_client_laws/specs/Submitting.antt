-- The submission of a document, and what the service says to it, as a protocol of worlds.
use Rattle.std.specs.Prelude.{◌≡◌, ℕ, true, false, List, None, Ok, codes}
use Rattle.fts_wire.specs.RequestData.{RequestData}
use Rattle.fts_wire.specs.declared.response.Reply.{Reply}
use Rattle.fts_jobdoc.specs.Ids.{sid_id}
use Rattle.fts_routes.specs.Refusals.{no_memory, disk_failed}
use Rattle.fts_routes.specs.Replies.{said_over}
use Rattle.fts_jobdoc.specs.Sids.{sid_of}
use Rattle.fts_client.specs.Hearing.{heard_in}
use Rattle.fts_client.specs.Worlds.{Heard, Done, Protocol, World, IsStart}

-- the one request that a client sends for a document: POST /jobs, the last one on its connection
abbrev pub submission_of : List ℕ → RequestData
submission_of document = record { method = codes "POST"; path = codes "/jobs"; query = None; body = document; close = true }

-- the service as it answers over its list, and the client as it takes a response
abbrev pub submitting : Protocol RequestData Reply
submitting = record {
  reply = λ entries writer request now. (said_over entries writer request now).reply;
  added = λ entries writer request now. (said_over entries writer request now).added;
  no_memory = no_memory;
  disk_failed = disk_failed;
  heard = λ reply. heard_in reply.status reply.body;
}

-- where a client begins that submits a document with this own id, under a VO of this name: the id that its job will have
pub record Begins (document sid vo : List ℕ) (id : ℕ) (world : World RequestData Reply) : Type 0 where
  pub accepted : sid_of document ≡ Ok sid
  pub named : id ≡ sid_id vo sid
  pub start : IsStart vo (submission_of document) world

-- a 200 says that this job was made now, and a 409 that it was there before
pub record NamesJob (id status : ℕ) (heard : Heard) : Type 0 where
  pub accepted : status ≡ 200 → heard ≡ Done id false
  pub duplicate : status ≡ 409 → heard ≡ Done id true
