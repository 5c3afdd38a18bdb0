-- When a run comes to its end. What it is given is told and breaks no rule, and no device counts a failure: then a session answers all requests
-- of its input as the machine does and ends with status 0, and `show` shows its tables. Two things are left to stop a session, want of memory, which
-- is free, and a record that passes the journal's limit; and want of memory alone to stop `show`.
use Rattle.std.specs.Prelude.{◌≡◌, ◌⊎◌, ℕ, ◌<◌, ◌≤◌, Bool, true, false, List, [], ◌∷◌, ◌++◌, length, All, Option, Some, None, IsSomeAnd, IsOk}
use Rattle.std.specs.List.{Any}
use Rattle.fts_tables.specs.Coming.{Coming, Gives}
use Rattle.fts_tables.specs.Counts.{Rose}
use Rattle.fts_tables.specs.SettingsData.{SettingsData}
use Rattle.fts_tables.specs.Step.{step}
use Rattle.fts_tables.specs.History.{tables_of}
use Rattle.fts_tables.specs.declared.commands.Entry.{Entry}
use Rattle.fts_tables.specs.declared.commands.Command.TheVariants.{Claim, Expire}
use Rattle.fts_tables.specs.declared.limits.TheConstants.{MAX_REQUESTS}
use Rattle.fts_tables.specs.declared.rows.Outcome.{Outcome}
use Rattle.fts_config.specs.Settings.{settings_of}
use Rattle.fts_disk.specs.Disk.{DiskState, IsTold}
use Rattle.fts_wire.specs.RequestData.{RequestData}
use Rattle.fts_wire.specs.Requests.{AreRequests, next_of, Closed}
use Rattle.fts_wire.specs.declared.response.Reply.{Reply}
use Rattle.fts_keep.specs.Applied.{entry_by, fits}
use Rattle.fts_keep.specs.Damage.{IsWhole, IsDamaged}
use Rattle.fts_keep.specs.Keeps.{used_of}
use Rattle.fts_keep.specs.Started.{Opens, restart_at, restarted}
use Rattle.fts_routes.specs.Refusals.{no_memory}
use Rattle.fts_routes.specs.Replies.{Way, AsDefined, WithoutMemory}
use Rattle.fts_workers.specs.Rounds.{Walk, report_in}
use Rattle.fts_words.specs.declared.asked.Asked.{Asked}
use Rattle.fts_words.specs.declared.asked.Asked.TheVariants as asks
use Rattle.fts_session.specs.Connections.{Exchange, requests_of, responses_of, AreWritten, AreServed}
use Rattle.fts_top.specs.Ends.{status_of}
use Rattle.fts_top.specs.Looks.{WritesText}
use Rattle.fts_top.specs.Runs.{OneThread, AreRead, begun_with, StopsEarly, RunsSession}
use Rattle.fts_session.specs.Sessions.{AnswersNext, FollowedByRound}
use Rattle.fts_show.specs.Shown.{shown_text}
use Rattle.fts_top.specs.declared.ends.RunEnd.{RunEnd}
use Rattle.fts_top.specs.declared.tally.Tally.{Tally}
use Rattle.fts_disk.specs.declared.disk.Disk as disk
use Rattle.fts_store.specs.declared.store.Store as store

-- none of these requests says close
abbrev pub NoneCloses : List RequestData → Type 0
NoneCloses requests = All (λ (request : RequestData). request.close ≡ false) requests

-- an input of these requests and this rest ends between requests, before there are as many as a connection may have
pub record EndsBetween (requests : List RequestData) (rest : List ℕ) : Type 0 where
  pub go_on : NoneCloses requests
  pub few : length requests < MAX_REQUESTS
  pub closed : next_of rest ≡ Closed

-- an input of these requests ends with the last of them, which says close, and no other does
pub record LastSaysClose (requests : List RequestData) : Type 0 where
  pub others : List RequestData
  pub last : RequestData
  pub all : requests ≡ others ++ last ∷ []
  pub go_on : NoneCloses others
  pub closes : last.close ≡ true
  pub few : length requests ≤ MAX_REQUESTS

-- these are all requests of the bytes up to their end, which is a good one; what stands behind a request that says close doesn't count
pub record EndsWell (bytes : List ℕ) (requests : List RequestData) : Type 0 where
  pub rest : List ℕ
  pub are : AreRequests bytes requests rest
  pub end : EndsBetween requests rest ⊎ LastSaysClose requests

-- a text of settings is told and breaks no rule
abbrev pub HasGoodSettings : Option (List ℕ) → Type 0
HasGoodSettings text = IsSomeAnd text (λ bytes. IsOk (settings_of bytes))

-- bytes break no rule of a journal: they are damaged at no offset
abbrev pub IsUndamaged : List ℕ → Type 0
IsUndamaged content = (offset : ℕ) → IsDamaged content offset → ⊥

-- what a session is given is told and breaks no rule: the text of its settings, the journal on its disk, or none yet, and its input, of these requests
pub record BreaksNoRule (text : Option (List ℕ)) (disk : DiskState) (input : Option (List ℕ)) (requests : List RequestData) : Type 0 where
  pub settings : HasGoodSettings text
  pub told : IsTold disk
  pub journal : (disk.seen ≡ []) ⊎ IsUndamaged disk.seen
  pub ends_well : IsSomeAnd input (λ bytes. EndsWell bytes requests)

-- how often settings, input, output and disk have failed
pub record Failures : Type 0 where
  pub settings : ℕ
  pub input : ℕ
  pub output : ℕ
  pub disk : ℕ

-- the same by its parts
abbrev pub failures_of : ℕ → ℕ → ℕ → ℕ → Failures
failures_of settings input output disk = record { settings = settings; input = input; output = output; disk = disk }

-- a count of failures did not rise
abbrev pub Stays : ℕ → ℕ → Type 0
Stays old new = Rose old new → ⊥

-- none of these counts rose
pub record NoneRose (old new : Failures) : Type 0 where
  pub settings : Stays old.settings new.settings
  pub input : Stays old.input new.input
  pub output : Stays old.output new.output
  pub disk : Stays old.disk new.disk

-- a request was answered over the list so far, which is the disk's own or another one, and its reply came about in this way
abbrev pub AnswersBy : Bool → Way → Walk → RequestData → Reply → Walk → Type 0
AnswersBy own way old request reply new = (answer : AnswersNext own old request reply new) × (answer.way ≡ way)

-- its reply is the machine's
abbrev pub AnswersAsDefined : Bool → Walk → RequestData → Reply → Walk → Type 0
AnswersAsDefined own old request reply new = AnswersBy own AsDefined old request reply new

-- its reply is the machine's, or that for want of memory
abbrev pub AnswersUnlessMemory : Bool → Walk → RequestData → Reply → Walk → Type 0
AnswersUnlessMemory own old request reply new = AnswersBy own AsDefined old request reply new ⊎ AnswersBy own WithoutMemory old request reply new

-- the Restart of a run doesn't fit the journal behind what the disk stands for, at the moment that comes next
pub record RestartPasses (text : Option (List ℕ)) (disk : DiskState) (moments : Option Coming) : Type 0 where
  pub settings : SettingsData
  pub read : AreRead text settings
  pub now : ℕ
  pub later : Option Coming
  pub moment : Gives moments later now
  pub opening : List Entry
  pub opens : Opens disk.seen opening
  pub passes : fits (used_of opening) (restart_at now settings) ≡ false

-- an entry of a round over a list: a claim, the report of a file, or an expiry
abbrev pub IsOfRound : List Entry → Entry → Type 0
IsOfRound entries entry = ((now : ℕ) × ((word : ℕ) × (entry ≡ entry_by 0 (Claim now word))))
    ⊎ (((now : ℕ) × ((file : ℕ) × ((outcome : Outcome) × (entry ≡ report_in entries now file outcome))))
    ⊎ ((now : ℕ) × (entry ≡ entry_by 0 (Expire now))))

-- the machine accepts a claim, a report or an expiry behind these entries, and it doesn't fit the journal there
pub record RoundPasses (entries : List Entry) : Type 0 where
  pub entry : Entry
  pub of_round : IsOfRound entries entry
  pub accepted : IsOk (step (tables_of entries) entry.command)
  pub passes : fits (used_of entries) entry ≡ false

module _ {D E : Type 0} (disks : disk.Ghosts D) (stores : store.Ghosts E)
    (text : Option (List ℕ)) (before after : OneThread D E) (end : RunEnd) (tally : Tally) where
  -- where the session of a run began: behind its Restart
  abbrev pub begun : RunsSession disks stores text before after end tally → Walk
  begun run = begun_with (restarted run.opening run.now run.settings) run.keep.used (disks.faults run.keep.disk) run.moments before.words

  -- the exchanges of a run whose responses were written whole
  abbrev pub exchanges_of : RunsSession disks stores text before after end tally → List Exchange
  exchanges_of run = run.ran.session.connection.served

  -- a run answered these requests and no others, each so, and wrote all responses whole
  pub record AnswersAll (Answers : Walk → RequestData → Reply → Walk → Type 0) (requests : List RequestData)
      (run : RunsSession disks stores text before after end tally) : Type 0 where
    pub all : requests_of (exchanges_of run) ≡ requests
    pub answered : AreServed Answers (FollowedByRound run.settings.workers) (begun run) (exchanges_of run) run.ran.session.connection.middle
    pub last : run.ran.session.connection.last ≡ []
    pub written : AreWritten before.output after.output (responses_of (exchanges_of run))

  -- all requests were answered as the machine does, and the status is 0
  pub record DoesAll (requests : List RequestData) : Type 0 where
    pub run : RunsSession disks stores text before after end tally
    pub answers : AnswersAll (AnswersAsDefined (disks.state before.disk).told) requests run
    pub status : status_of end ≡ 0

  -- all requests were answered, and memory was wanting in place of a reply or for the last round
  pub record WantsMemoryWithin (requests : List RequestData) : Type 0 where
    pub run : RunsSession disks stores text before after end tally
    pub answers : AnswersAll (AnswersUnlessMemory (disks.state before.disk).told) requests run
    pub wanting : (status_of end ≡ 1) ⊎ ((status_of end ≡ 0) × Any (λ (exchange : Exchange). exchange.reply ≡ no_memory) (exchanges_of run))

  -- memory was wanting to begin, and the status is 1
  pub record WantsMemoryFirst : Type 0 where
    pub stops : StopsEarly disks stores text before after end tally
    pub status : status_of end ≡ 1

  -- all requests were answered, and then a claim, a report or an expiry didn't fit the journal
  pub record FillsWithin (requests : List RequestData) : Type 0 where
    pub run : RunsSession disks stores text before after end tally
    pub answers : AnswersAll (AnswersUnlessMemory (disks.state before.disk).told) requests run
    pub passes : RoundPasses run.ran.final.entries
    pub status : status_of end ≡ 11

  -- the Restart didn't fit it, and nothing was answered
  pub record FillsFirst : Type 0 where
    pub stops : StopsEarly disks stores text before after end tally
    pub passes : RestartPasses text (disks.state before.disk) before.moments
    pub status : status_of end ≡ 11

  -- a session that nothing was in the way of: it did all, or memory was wanting, or a record passed the journal's limit
  abbrev pub Finishes : List RequestData → Type 0
  Finishes requests = DoesAll requests ⊎ ((WantsMemoryWithin requests ⊎ WantsMemoryFirst) ⊎ (FillsWithin requests ⊎ FillsFirst))

  -- a look that nothing was in the way of: the text of the tables of the disk's own list was written whole, or memory was wanting and nothing was
  pub record ShowsAll : Type 0 where
    pub entries : List Entry
    pub whole : IsWhole (disks.state before.disk).seen entries
    pub written : WritesText (shown_text (tables_of entries)) before.output after.output true
    pub status : status_of end ≡ 0

  abbrev pub FinishesShowing : Type 0
  FinishesShowing = ShowsAll ⊎ ((status_of end ≡ 1) × (after.output ≡ before.output))

  -- a run comes to its end where nothing that it is given breaks a rule and no device fails, by what its words ask for
  abbrev pub Completes : Option Asked → Failures → Failures → Type 0
  Completes None old new = Unit {0}
  Completes (Some asks.Session) old new =
      NoneRose old new → (requests : List RequestData) → BreaksNoRule text (disks.state before.disk) before.input.left requests → Finishes requests
  Completes (Some asks.Show) old new =
      Stays old.settings new.settings → Stays old.output new.output → Stays old.disk new.disk
      → HasGoodSettings text → IsTold (disks.state before.disk) → IsUndamaged (disks.state before.disk).seen → FinishesShowing
  Completes (Some (asks.Load number)) old new = Unit {0}
  Completes (Some (asks.Serve port lanes connections)) old new = Unit {0}
  Completes (Some (asks.Submit port tries)) old new = Unit {0}
  Completes (Some (asks.Query port job tries)) old new = Unit {0}
  Completes (Some asks.Delete) old new = Unit {0}
  Completes (Some (asks.Follow port tries)) old new = Unit {0}
