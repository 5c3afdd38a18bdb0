-- What an answer comes to: by what its command came to, and by what was planned.
use Rattle.std.proofs.Common.{◌≡◌, ◌≢◌, ℕ, Bool, true, false, inl, inr, ⊎_elim, ◌⊎◌, List, [], ◌∷◌, Option, None, Result, Ok, Err, refl, sym, ◌∙◌, ap, subst, append-nil, arith}
use Rattle.std.specs.Prelude.{IfOk, IfErr, IsOk, IsTrue, if◌then◌else◌}
use Rattle.serde_json.specs.Data.{Data}
use Rattle.fts_tables.specs.Tables.{Tables}
use Rattle.fts_tables.specs.Step.{Outcomes, step}
use Rattle.fts_tables.specs.declared.names.Memory.{Memory}
use Rattle.fts_tables.specs.declared.commands.Command.{Command}
use Rattle.fts_tables.specs.declared.commands.Answer.{Answer}
use Rattle.fts_tables.specs.declared.commands.Entry.{Entry}
use Rattle.fts_tables.specs.declared.commands.Refusal.{Refusal}
use Rattle.fts_record.specs.Proper.{has_priority}
use Rattle.fts_disk.specs.Disk.{DiskState}
use Rattle.fts_wire.specs.RequestData.{RequestData}
use Rattle.fts_wire.specs.declared.response.Reply.{Reply}
use Rattle.fts_keep.specs.Keeps.{KeepData}
use Rattle.fts_keep.specs.Applied.{Applies, DoubtMoves, applied_by, applied_to, entry_by, fits, Applied, FailsByDisk, LacksMemory}
use Rattle.fts_keep.specs.declared.fault.KeepFault.{KeepFault}
use Rattle.fts_keep.specs.declared.fault.KeepFault.TheVariants.{Rule, DiskFailed, JournalFull, Damaged, Memory as NoMemory}
use Rattle.fts_keep.proofs.Applying.{doubt_of}
use Rattle.fts_routes.specs.Refusals.{disk_failed, journal_full, no_memory}
use Rattle.fts_routes.specs.Replies.{Plan, Replies, Looks, Tries, Said, said_only, said_by, said_to, said, reply_to_refusal, entry_reply, AsDefined, WithoutMemory, WithoutDisk, AreShown, Answers, DoubtComes, DoubtHasCause}
use Rattle.fts_routes.specs.Planned.{Comes, IsPlanned, ShowsOutcome, ShowsUnchanged}
use Rattle.fts_routes.specs.declared.planned.Planned.TheVariants.{Replies as PlannedReply, Looks as PlannedLook, Tries as PlannedCommand}

-- what the machine refuses, where a command comes to its refusal
pub refused-step : (used : ℕ) (entry : Entry) (outcome : Outcomes) (refusal : Refusal) → applied_by used entry outcome ≡ Err (Rule refusal) → outcome ≡ Err refusal
refused-step used entry (Err other) refusal is = cc
refused-step used entry (Ok done) refusal is = by_fit (fits used entry) is
  where
    by_fit : (room : Bool) → ◌≡◌ {A = Applies} (if room then Ok done else Err (JournalFull used)) (Err (Rule refusal)) → ◌≡◌ {A = Outcomes} (Ok done) (Err refusal)
    by_fit true is = absurd (cc)
    by_fit false is = absurd (cc)

-- the entry in doubt stayed, or was settled, whatever was asked for
pub doubt-stays : (before after : ℕ) (old new : Option Entry) (asked : List Entry) → (new ≡ old) ⊎ (new ≡ None) → DoubtComes before after old new asked []
doubt-stays before after old new [] stays = stays
doubt-stays before after old new (entry ∷ more) stays = ⊎_elim (λ same. inl same) (λ none. inr (inl none)) stays

-- an entry that would be accepted came into doubt at most
doubt-moves : (before after : ℕ) (old new : Option Entry) (tables : Tables) (shown : Tables → Data) (entry : Entry) (applied : Applies) → IsOk applied
    → DoubtMoves before after old new entry → DoubtComes before after old new (said_by tables shown entry applied).added []
doubt-moves before after old new tables shown entry (Ok done) good moves = moves
doubt-moves before after old new tables shown entry (Err fault) good moves = absurd (cc)

module _ {D : Type 0} (state : D → DiskState) (faults : D → ℕ) where
  -- nothing was added, as is said
  unmoved : (old new : KeepData D) (said : Said) (reply : Reply) → new ≡ old → said.added ≡ [] → reply ≡ said.reply → Comes state faults old new said reply
  unmoved old new said reply same none is = record {
    way = AsDefined;
    cause = tt;
    instead = tt;
    replies = is;
    tables = rw (same, none) refl;
    commands = rw (same, none) (omega arith);
    used = rw (same, none) refl;
    listed = rw (same, none) (sym (append-nil old.entries));
    doubt = rw (same, none) (inl refl);
  }

  -- nothing was added, for want of memory
  lacking : (old new : KeepData D) (said : Said) (reply : Reply) → new.entries ≡ old.entries → new.tables ≡ old.tables → new.commands ≡ old.commands → new.used ≡ old.used
      → DoubtComes (faults old.disk) (faults new.disk) old.doubt new.doubt said.added []
      → reply ≡ no_memory → Comes state faults old new said reply
  lacking old new said reply entries tables commands used doubt is = record {
    way = WithoutMemory;
    cause = tt;
    instead = tt;
    replies = is;
    tables = tables;
    commands = omega (arith, commands);
    used = used;
    listed = entries ∙ sym (append-nil old.entries);
    doubt = doubt;
  }

  pub lacking_as_was : (old new : KeepData D) (said : Said) (reply : Reply) → new ≡ old → reply ≡ no_memory → Comes state faults old new said reply
  lacking_as_was old new said reply same is = lacking old new said reply (ap (λ (keep : KeepData D). keep.entries) same)
      (ap (λ (keep : KeepData D). keep.tables) same) (ap (λ (keep : KeepData D). keep.commands) same) (ap (λ (keep : KeepData D). keep.used) same)
      (doubt-stays (faults old.disk) (faults new.disk) old.doubt new.doubt said.added (inl (ap (λ (keep : KeepData D). keep.doubt) same))) is

  -- the machine refused the command
  pub comes-refused : (old new : KeepData D) (writer : ℕ) (command : Command) (reply result : Reply) (refusal : Refusal) (made : Result Reply Memory)
      → applied_to old.tables old.used (entry_by writer command) ≡ Err (Rule refusal) → new ≡ old
      → IfOk made (λ reply_made. (shown : Tables → Data) → ShowsUnchanged shown old.tables reply refusal → reply_made ≡ reply_to_refusal old.tables shown refusal)
      → IfOk made (λ reply_made. result ≡ reply_made) → IfErr made (λ e. result ≡ no_memory)
      → (shown : Tables → Data) → ShowsOutcome shown old.tables reply (step old.tables command)
      → Comes state faults old new (said_to old.tables [] old.used writer (Tries command shown)) result
  comes-refused old new writer command reply result refusal (Ok reply_made) is same shows taken lacks shown outcome =
      subst (λ (applied : Applies). Comes state faults old new (said_by old.tables shown (entry_by writer command) applied) result) (sym is)
      (unmoved old new (said_only (reply_to_refusal old.tables shown refusal)) result same refl (taken ∙ shows shown
      (subst (λ (outcome : Outcomes). ShowsOutcome shown old.tables reply outcome) (refused-step old.used (entry_by writer command) (step old.tables command) refusal is) outcome)))
  comes-refused old new writer command reply result refusal (Err e) is same shows taken lacks shown outcome =
      lacking_as_was old new _ result same lacks

  -- the journal is full
  pub comes-full : (old new : KeepData D) (writer : ℕ) (command : Command) (result : Reply) (used : ℕ) (made : Result Reply Memory)
      → applied_to old.tables old.used (entry_by writer command) ≡ Err (JournalFull used) → new ≡ old
      → IfOk made (λ reply_made. reply_made ≡ journal_full) → IfOk made (λ reply_made. result ≡ reply_made) → IfErr made (λ e. result ≡ no_memory)
      → (shown : Tables → Data) → Comes state faults old new (said_to old.tables [] old.used writer (Tries command shown)) result
  comes-full old new writer command result used (Ok reply_made) is same full taken lacks shown =
      subst (λ (applied : Applies). Comes state faults old new (said_by old.tables shown (entry_by writer command) applied) result) (sym is)
      (unmoved old new (said_only journal_full) result same refl (taken ∙ full))
  comes-full old new writer command result used (Err e) is same full taken lacks shown =
      lacking_as_was old new _ result same lacks

  -- a command that would be accepted adds something
  adds : (tables : Tables) (shown : Tables → Data) (entry : Entry) (applied : Applies) → IsOk applied → (said_by tables shown entry applied).added ≢ []
  adds tables shown entry (Ok done) good = λ none. absurd (cc)
  adds tables shown entry (Err fault) good = absurd (cc)

  -- the command's own entry came into doubt at most, where the disk failed
  fails_doubt : (old new : KeepData D) (writer : ℕ) (command : Command) (fails : FailsByDisk state faults old new (entry_by writer command)) (shown : Tables → Data)
      → DoubtComes (faults old.disk) (faults new.disk) old.doubt new.doubt (said_to old.tables [] old.used writer (Tries command shown)).added []
  fails_doubt old new writer command fails shown =
      doubt-moves (faults old.disk) (faults new.disk) old.doubt new.doubt old.tables shown (entry_by writer command)
      (applied_to old.tables old.used (entry_by writer command)) fails.would
      (doubt_of state faults old new (entry_by writer command) (Err DiskFailed) fails)

  -- the disk failed
  pub comes-without_disk : (old new : KeepData D) (writer : ℕ) (command : Command) (result : Reply) (made : Result Reply Memory)
      → FailsByDisk state faults old new (entry_by writer command)
      → IfOk made (λ reply_made. reply_made ≡ disk_failed) → IfOk made (λ reply_made. result ≡ reply_made) → IfErr made (λ e. result ≡ no_memory)
      → (shown : Tables → Data) → Comes state faults old new (said_to old.tables [] old.used writer (Tries command shown)) result
  comes-without_disk old new writer command result (Ok reply_made) fails failed taken lacks shown = record {
    way = WithoutDisk;
    cause = fails.rose;
    instead = inl (adds old.tables shown (entry_by writer command) (applied_to old.tables old.used (entry_by writer command)) fails.would);
    replies = taken ∙ failed;
    tables = fails.keeps.tables;
    commands = omega (arith, fails.keeps.commands);
    used = fails.keeps.used;
    listed = fails.keeps.entries ∙ sym (append-nil old.entries);
    doubt = fails_doubt old new writer command fails shown;
  }
  comes-without_disk old new writer command result (Err e) fails failed taken lacks shown =
      lacking old new _ result fails.keeps.entries fails.keeps.tables fails.keeps.commands fails.keeps.used
      (fails_doubt old new writer command fails shown) lacks

  -- there was no memory
  pub comes-without_memory : (old new : KeepData D) (writer : ℕ) (command : Command) (result : Reply) → LacksMemory state old new → result ≡ no_memory
      → (shown : Tables → Data) → Comes state faults old new (said_to old.tables [] old.used writer (Tries command shown)) result
  comes-without_memory old new writer command result lacks is shown =
      lacking old new _ result lacks.keeps.entries lacks.keeps.tables lacks.keeps.commands lacks.keeps.used
      (doubt-stays (faults old.disk) (faults new.disk) old.doubt new.doubt
      (said_to old.tables [] old.used writer (Tries command shown)).added lacks.doubt) is

  -- what a command leaves in doubt has a cause
  pub doubt-caused : (old new : KeepData D) (entry : Entry) (result : Result Answer KeepFault) → Applied state faults old new entry result
      → DoubtHasCause state faults old new
  doubt-caused old new entry (Ok answer) applied = λ told. inl applied.cleared
  doubt-caused old new entry (Err (Rule refusal)) applied = λ told. inr (inl (ap (λ (keep : KeepData D). keep.doubt) applied.1))
  doubt-caused old new entry (Err (JournalFull used)) applied = λ told. inr (inl (ap (λ (keep : KeepData D). keep.doubt) applied.1))
  doubt-caused old new entry (Err DiskFailed) applied = λ told. inr (inr applied.rose)
  doubt-caused old new entry (Err NoMemory) applied = λ told. ⊎_elim (λ same. inr (inl same)) (λ none. inl none) applied.doubt
  doubt-caused old new entry (Err (Damaged offset)) applied = absurd applied

  -- a reply was planned
  pub comes-replied : (keep : KeepData D) (bodies : List (List ℕ)) (writer : ℕ) (plan : Plan) (reply : Reply) → IsPlanned keep.tables (PlannedReply reply) plan
      → Comes state faults keep keep (said_to keep.tables bodies keep.used writer plan) reply
  comes-replied keep bodies writer (Replies wanted) reply is = unmoved keep keep (said_only wanted) reply refl refl is
  comes-replied keep bodies writer (Looks wanted) reply is = absurd is
  comes-replied keep bodies writer (Tries wanted shown) reply is = absurd is

  -- a look at an entry was planned, and made
  pub comes-looked : (old new : KeepData D) (bodies : List (List ℕ)) (writer : ℕ) (plan : Plan) (number : Option ℕ) (reply : Reply)
      → IsPlanned old.tables (PlannedLook number) plan
      → Comes state faults old new (said_only (entry_reply bodies number)) reply → Comes state faults old new (said_to old.tables bodies old.used writer plan) reply
  comes-looked old new bodies writer (Replies wanted) number reply is comes = absurd is
  comes-looked old new bodies writer (Looks wanted) number reply is comes =
      subst (λ (n : Option ℕ). Comes state faults old new (said_only (entry_reply bodies n)) reply) is comes
  comes-looked old new bodies writer (Tries wanted shown) number reply is comes = absurd is

  -- a command was planned, and tried
  pub comes-tried : (old new : KeepData D) (bodies : List (List ℕ)) (writer : ℕ) (plan : Plan) (command : Command) (reply result : Reply) → IsPlanned old.tables (PlannedCommand command reply) plan
      → ((shown : Tables → Data) → ShowsOutcome shown old.tables reply (step old.tables command)
      → Comes state faults old new (said_to old.tables [] old.used writer (Tries command shown)) result)
      → Comes state faults old new (said_to old.tables bodies old.used writer plan) result
  comes-tried old new bodies writer (Replies wanted) command reply result is comes = absurd is
  comes-tried old new bodies writer (Looks wanted) command reply result is comes = absurd is
  comes-tried old new bodies writer (Tries wanted shown) command reply result is comes =
      subst (λ (tried : Command). Comes state faults old new (said_to old.tables [] old.used writer (Tries tried shown)) result) is.same
      (comes shown (subst (λ (tried : Command). ShowsOutcome shown old.tables reply (step old.tables tried)) (sym is.same) is.outcome))

  -- what an answer comes to is what is answered
  pub answers : (old new : KeepData D) (bodies : List (List ℕ)) (writer : ℕ) (request : RequestData) (now : ℕ) (reply : Reply) → AreShown state old bodies
      → Comes state faults old new (said old.tables bodies old.used writer request now) reply → Answers state faults old new writer request now reply
  answers old new bodies writer request now reply shown comes = record {
    bodies = bodies;
    shown = shown;
    way = comes.way;
    cause = comes.cause;
    instead = comes.instead;
    replies = comes.replies;
    tables = comes.tables;
    commands = comes.commands;
    used = comes.used;
    listed = comes.listed;
    doubt = comes.doubt;
  }

-- a command that was planned sets no priority out of its range
pub planned-priority : (tables : Tables) (plan : Plan) (command : Command) (reply : Reply) → IsPlanned tables (PlannedCommand command reply) plan → IsTrue (has_priority command)
planned-priority tables (Replies wanted) command reply is = absurd is
planned-priority tables (Looks wanted) command reply is = absurd is
planned-priority tables (Tries wanted shown) command reply is = subst (λ (tried : Command). IsTrue (has_priority tried)) (sym is.same) is.in_range
