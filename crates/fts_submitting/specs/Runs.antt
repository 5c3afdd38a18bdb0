-- What a client's command does: a submission or a query by tries, and the text that it then writes.
use Rattle.std.specs.Prelude.{◌≡◌, ◌≢◌, ◌⊎◌, ℕ, Bool, true, false, List, ◌++◌, codes, Option, Ok, Err, IsOk}
use Rattle.uuid.specs.Text.{hyphenated_text, lower}
use Rattle.std.specs.Int.{to_be_bytes, w128}
use Rattle.fts_tables.specs.declared.limits.TheConstants.{MAX_CONTENT_BYTES}
use Rattle.fts_wire.specs.Outside.{Side}
use Rattle.fts_wire.specs.ReadAll.{IsAll, IsRefused}
use Rattle.fts_wire.specs.Response.{Sends}
use Rattle.fts_wire.specs.declared.outside.SinkFailed.{SinkFailed}
use Rattle.fts_wire.specs.declared.whole_input.ReadAllFault.TheVariants.{TooLong}
use Rattle.fts_jobdoc.specs.Faults.{rule_of}
use Rattle.fts_jobdoc.specs.Sids.{sid_of}
use Rattle.fts_jobdoc.specs.declared.fault.DocFault.{DocFault}
use Rattle.fts_jobdoc.specs.declared.fault.DocFault.TheVariants.{Memory as DocMemory}
use Rattle.fts_client.specs.Ends.{Submitted, Queried}
use Rattle.fts_client.specs.Links.{LinkData}
use Rattle.fts_wire.specs.NextAnswers.{AnswerRoomData}
use Rattle.fts_client.specs.declared.ends.SubmitEnd.{SubmitEnd}
use Rattle.fts_client.specs.declared.ends.SubmitEnd.TheVariants as submit_ends
use Rattle.fts_client.specs.declared.ends.QueryEnd.{QueryEnd}
use Rattle.fts_client.specs.declared.ends.QueryEnd.TheVariants as query_ends
use Rattle.fts_submitting.specs.Ends.{end_of_submission, end_of_query}
use Rattle.fts_submitting.specs.declared.ends.ClientEnd.{ClientEnd}
use Rattle.fts_submitting.specs.declared.ends.ClientEnd.TheVariants.{Told, NoMemory, InputFailed, OutputFailed, DocumentRule, Refused, LinkFailed, NoAnswer, CannotServe}

-- the line of a job's id
abbrev pub id_line : ℕ → List ℕ
id_line job = hyphenated_text lower (to_be_bytes w128 job) ++ codes "\n"

-- a text was written: all of it or, where a write failed, a part
abbrev pub Tells : List ℕ → Option (List ℕ) → Option (List ℕ) → Bool → Type 0
Tells text held now true = Sends {E = SinkFailed} held now text (Ok tt)
Tells text held now false = (failed : SinkFailed) × Sends held now text (Err failed)

-- a document was read, all of the input, and has an own id
pub record IsDocument (before after : Option (List ℕ)) (document : List ℕ) : Type 0 where
  pub all : IsAll MAX_CONTENT_BYTES before after document
  pub own : IsOk (sid_of document)

-- a document of the input breaks a rule of those on its own id
pub record BreaksRule (before after : Option (List ℕ)) (rule : ℕ) : Type 0 where
  pub document : List ℕ
  pub all : IsAll MAX_CONTENT_BYTES before after document
  pub fault : DocFault
  pub real : fault ≢ DocMemory
  pub broken : sid_of document ≡ Err fault
  pub number : rule ≡ rule_of fault

-- the input is too long for a document
abbrev pub IsTooLong : Option (List ℕ) → Option (List ℕ) → ℕ → Type 0
IsTooLong before after rule = (rule ≡ 45) × IsRefused MAX_CONTENT_BYTES before after TooLong

-- how a submission may end that has no document
abbrev pub HasNoDocument : Option (List ℕ) → Option (List ℕ) → ClientEnd → Type 0
HasNoDocument before after NoMemory = Unit {0}
HasNoDocument before after InputFailed = Unit {0}
HasNoDocument before after (DocumentRule rule) = BreaksRule before after rule ⊎ IsTooLong before after rule
HasNoDocument before after Told = ⊥
HasNoDocument before after OutputFailed = ⊥
HasNoDocument before after (Refused status) = ⊥
HasNoDocument before after LinkFailed = ⊥
HasNoDocument before after NoAnswer = ⊥
HasNoDocument before after (CannotServe status) = ⊥

-- a command sent nothing: its link and its output are as they were
pub record SendsNothing {L : Type 0} (old new : LinkData L) (faults_old faults_new : ℕ) (held now : Option (List ℕ)) : Type 0 where
  pub link : new ≡ old
  pub faults : faults_new ≡ faults_old
  pub unwritten : now ≡ held

-- what a submission that ended so has written
abbrev pub TellsId : SubmitEnd → Option (List ℕ) → Option (List ℕ) → Bool → Type 0
TellsId (submit_ends.Done job again) held now whole = Tells (id_line job) held now whole
TellsId (submit_ends.Refused status) held now whole = now ≡ held
TellsId submit_ends.LinkFailed held now whole = now ≡ held
TellsId (submit_ends.CannotServe status) held now whole = now ≡ held
TellsId submit_ends.NoAnswer held now whole = now ≡ held
TellsId submit_ends.Memory held now whole = now ≡ held

-- what a query that ended so has written, by the body that its room holds
abbrev pub TellsBody : List ℕ → QueryEnd → Option (List ℕ) → Option (List ℕ) → Bool → Type 0
TellsBody body query_ends.Found held now whole = Tells (body ++ codes "\n") held now whole
TellsBody body (query_ends.Refused status) held now whole = now ≡ held
TellsBody body query_ends.LinkFailed held now whole = now ≡ held
TellsBody body (query_ends.CannotServe status) held now whole = now ≡ held
TellsBody body query_ends.NoAnswer held now whole = now ≡ held
TellsBody body query_ends.Memory held now whole = now ≡ held

module _ {L : Type 0} (read written : Side L) (port : ℕ) where
  -- a document was sent by tries, and then the id of its job was written where they named it
  pub record SendsDocument (tries : ℕ) (before after : Option (List ℕ)) (old new : LinkData L) (faults_old faults_new : ℕ) (held now : Option (List ℕ)) (end : ClientEnd) : Type 0 where
    pub document : List ℕ
    pub document_is : IsDocument before after document
    pub ended : SubmitEnd
    pub room : AnswerRoomData
    pub left : AnswerRoomData
    pub submitted : Submitted read written port document tries ended old new faults_old faults_new room left
    pub whole : Bool
    pub told : TellsId ended held now whole
    pub end_is : end ≡ end_of_submission ended whole

  -- a job was asked for by tries, and then its object was written where they found it
  pub record AsksForJob (job tries : ℕ) (old new : LinkData L) (faults_old faults_new : ℕ) (held now : Option (List ℕ)) (end : ClientEnd) : Type 0 where
    pub ended : QueryEnd
    pub room : AnswerRoomData
    pub left : AnswerRoomData
    pub queried : Queried read written port job tries ended old new faults_old faults_new room left
    pub whole : Bool
    pub told : TellsBody left.body ended held now whole
    pub end_is : end ≡ end_of_query ended whole

  -- how a submission stopped before its first try
  pub record StopsUnsent (before after : Option (List ℕ)) (old new : LinkData L) (faults_old faults_new : ℕ) (held now : Option (List ℕ)) (end : ClientEnd) : Type 0 where
    pub without : HasNoDocument before after end
    pub nothing : SendsNothing old new faults_old faults_new held now

  -- what `submit` did
  abbrev pub IsSubmitRun : ℕ → Option (List ℕ) → Option (List ℕ) → LinkData L → LinkData L → ℕ → ℕ → Option (List ℕ) → Option (List ℕ) → ClientEnd → Type 0
  IsSubmitRun tries before after old new faults_old faults_new held now end =
      StopsUnsent before after old new faults_old faults_new held now end ⊎ SendsDocument tries before after old new faults_old faults_new held now end

  -- what `query` did: it had no memory to begin, or asked
  abbrev pub IsQueryRun : ℕ → ℕ → LinkData L → LinkData L → ℕ → ℕ → Option (List ℕ) → Option (List ℕ) → ClientEnd → Type 0
  IsQueryRun job tries old new faults_old faults_new held now end =
      ((end ≡ NoMemory) × SendsNothing old new faults_old faults_new held now) ⊎ AsksForJob job tries old new faults_old faults_new held now end
