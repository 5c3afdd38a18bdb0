-- What a run of the program is: how it begins, what it answers and does, what it leaves, and how it may stop before its first request.
-- What it answers and does is so over every disk, over some list that is legal; images, and that the list is the disk's own, are so over a disk
-- that tells its contents.
use Rattle.std.specs.Prelude.{◌≡◌, ◌≢◌, ◌⊎◌, ℕ, ◌≤◌, true, List, [], ◌∷◌, ◌++◌, Option, Some, None, IfSome, Ok, Err}
use Rattle.fts_tables.specs.Counts.{Rose}
use Rattle.fts_tables.specs.Coming.{Coming, Gives}
use Rattle.fts_tables.specs.SettingsData.{SettingsData, IsSettings}
use Rattle.fts_tables.specs.History.{tables_of, IsLegal}
use Rattle.fts_tables.specs.declared.commands.Entry.{Entry}
use Rattle.fts_config.specs.Faults.{rule_of}
use Rattle.fts_config.specs.Settings.{settings_of}
use Rattle.fts_config.specs.declared.fault.SettingsFault.{SettingsFault}
use Rattle.fts_config.specs.declared.fault.SettingsFault.TheVariants.{Memory as SettingsMemory}
use Rattle.fts_disk.specs.Disk.{IsTold, LeavesOnly}
use Rattle.fts_keep.specs.Keeps.{KeepData, IsKeep, with_doubt, IsImageOf, IsImageSince}
use Rattle.fts_keep.specs.Started.{restarted, StartsOver, StartFault, StartsNot}
use Rattle.fts_keep.specs.declared.fault.KeepFault.{KeepFault}
use Rattle.fts_keep.specs.declared.fault.KeepFault.TheVariants as faults_of_keep
use Rattle.fts_session.specs.Connections.{Reading, reading_in}
use Rattle.fts_workers.specs.Benches.{held_over}
use Rattle.fts_workers.specs.Copies.{copies_from, copies_kept, FollowsReports}
use Rattle.fts_workers.specs.Rounds.{Walk}
use Rattle.fts_session.specs.Sessions.{IsSession, ThreadData, Works}
use Rattle.fts_top.specs.Tallies.{tally_of, tally_with, no_tally}
use Rattle.fts_session.specs.declared.ends.SessionEnd.{SessionEnd}
use Rattle.fts_top.specs.declared.ends.RunEnd.{RunEnd}
use Rattle.fts_top.specs.declared.ends.RunEnd.TheVariants.{NoMemory, NoCommand, SettingsUnread, SettingsRule, DiskFailed, Damaged, JournalFull, Session, Shown, SourcesUnmade, LineUnwritten, DoorsFailed, Served, Errand}
use Rattle.fts_top.specs.declared.tally.Tally.{Tally}
use Rattle.fts_disk.specs.declared.disk.Disk as disk
use Rattle.fts_store.specs.declared.store.Store as store
use Rattle.fts_tables.specs.declared.clock.Clock as clock
use Rattle.fts_tables.specs.declared.words.Words as words
use Rattle.fts_wire.specs.declared.outside.Source as source
use Rattle.fts_wire.specs.declared.outside.Sink as sink

-- what one thread meets: its disk, its store, its input, the bytes that its output holds, and the moments and words to come, where they are told
pub record OneThread (D E : Type 0) : Type 0 where
  pub disk : D
  pub store : E
  pub input : Reading
  pub output : Option (List ℕ)
  pub moments : Option Coming
  pub words : Option Coming

-- the same by its parts
abbrev pub one_thread : {D E : Type 0} → D → E → Reading → Option (List ℕ) → Option Coming → Option Coming → OneThread D E
one_thread disk store input output moments words =
    record { disk = disk; store = store; input = input; output = output; moments = moments; words = words }

-- the same, by what its input, its output, its clock and its words show
abbrev pub one_thread_at : {D E S K C W : Type 0} → source.Ghosts S → sink.Ghosts K → clock.Ghosts C → words.Ghosts W → D → E → S → K → C → W → OneThread D E
one_thread_at sources sinks clocks draws disk store input output at words =
    one_thread disk store (reading_in sources input) (sinks.held output) (clocks.moments at) (draws.words words)

-- this is so of the first hand before and after; the others are as they were
abbrev pub OverHands : {H : Type 0} → List H → List H → (H → H → Type 0) → Type 0
OverHands [] after P = Unit {0}
OverHands (hand ∷ others) [] P = ⊥
OverHands (hand ∷ others) (now ∷ others_now) P = P hand now × (others_now ≡ others)

-- a disk is there before and after, and this is so of the two
abbrev pub OverDisks : {D : Type 0} → Option D → Option D → (D → D → Type 0) → Type 0
OverDisks None left P = Unit {0}
OverDisks (Some disk) None P = ⊥
OverDisks (Some disk) (Some left) P = P disk left

-- these are the settings of the text, where it is told
abbrev pub AreRead : Option (List ℕ) → SettingsData → Type 0
AreRead text settings = IfSome text (λ bytes. settings_of bytes ≡ Ok settings)

-- the rule of this number is broken: by the text, where it is told
pub record IsBroken (text : Option (List ℕ)) (rule : ℕ) : Type 0 where
  pub fault : SettingsFault
  pub real : fault ≢ SettingsMemory
  pub number : rule ≡ rule_of fault
  pub told : IfSome text (λ bytes. settings_of bytes ≡ Err fault)

-- a run ends so by a fault of its settings: want of memory, or else a rule, by its number
abbrev pub EndsBy : SettingsFault → RunEnd → Type 0
EndsBy fault end = ((fault ≡ SettingsMemory) × (end ≡ NoMemory)) ⊎ ((fault ≢ SettingsMemory) × (end ≡ SettingsRule (rule_of fault)))

-- how a run may end that has no settings
abbrev pub HasNoSettings : Option (List ℕ) → RunEnd → Type 0
HasNoSettings text NoMemory = Unit {0}
HasNoSettings text SettingsUnread = Unit {0}
HasNoSettings text (SettingsRule rule) = IsBroken text rule
HasNoSettings text NoCommand = ⊥
HasNoSettings text DiskFailed = ⊥
HasNoSettings text (Damaged offset) = ⊥
HasNoSettings text (JournalFull used) = ⊥
HasNoSettings text (Session end) = ⊥
HasNoSettings text (Shown whole) = ⊥
HasNoSettings text SourcesUnmade = ⊥
HasNoSettings text LineUnwritten = ⊥
HasNoSettings text DoorsFailed = ⊥
HasNoSettings text (Served end) = ⊥
HasNoSettings text (Errand end) = ⊥

-- how a run ends that could not start its keep, for this fault
abbrev pub start_end : KeepFault → RunEnd
start_end faults_of_keep.DiskFailed = DiskFailed
start_end (faults_of_keep.Damaged offset) = Damaged offset
start_end (faults_of_keep.JournalFull used) = JournalFull used
start_end faults_of_keep.Memory = NoMemory
-- a start is never refused by a rule
start_end (faults_of_keep.Rule refusal) = NoMemory

-- what a list leaves of the disk: since the journal was opened or made each image is one of the list, as it was at some time, with one entry
-- more at most; and at the end each is one of the list itself, with one doubt at most, and with none where the disk counted no failure
pub record LeavesList {D : Type 0} (disks : disk.Ghosts D) (opened disk : D) (opening final : List Entry) : Type 0 where
  pub since : LeavesOnly (disks.state opened) (disks.state disk) (IsImageSince opening final)
  pub doubt : Option Entry
  pub legal : IsLegal (with_doubt final doubt)
  pub images : (content : List ℕ) → (disks.state disk).may_leave content → IsImageOf final doubt content
  pub counts : disks.faults opened ≤ disks.faults disk
  pub cause : (doubt ≡ None) ⊎ Rose (disks.faults opened) (disks.faults disk)

-- nothing was started: the disk is as it was, and no moment was taken
pub record StopsBefore {D : Type 0} (moments later : Option Coming) (disk left : D) : Type 0 where
  pub disk_is : left ≡ disk
  pub moments_are : later ≡ moments

module _ {D : Type 0} (disks : disk.Ghosts D) where
  -- a keep was not started, for this fault
  pub record StartsWith (text : Option (List ℕ)) (moments later : Option Coming) (disk left : D) (fault : KeepFault) : Type 0 where
    pub settings : SettingsData
    pub kept : IsSettings settings
    pub read : AreRead text settings
    pub now : ℕ
    pub moment : Gives moments later now
    pub cause : StartFault disks.state disks.faults disk left settings now fault
    pub leaves : StartsNot disks.state disks.faults disk left settings now

  -- how a run may stop before its first request
  abbrev pub IsStop : Option (List ℕ) → Option Coming → Option Coming → D → D → RunEnd → Type 0
  IsStop text moments later disk left NoCommand = StopsBefore moments later disk left
  IsStop text moments later disk left SettingsUnread = StopsBefore moments later disk left
  IsStop text moments later disk left (SettingsRule rule) = IsBroken text rule × StopsBefore moments later disk left
  IsStop text moments later disk left DiskFailed = StartsWith text moments later disk left faults_of_keep.DiskFailed
  IsStop text moments later disk left (Damaged offset) = StartsWith text moments later disk left (faults_of_keep.Damaged offset)
  IsStop text moments later disk left (JournalFull used) = StartsWith text moments later disk left (faults_of_keep.JournalFull used)
  IsStop text moments later disk left NoMemory = StopsBefore moments later disk left ⊎ StartsWith text moments later disk left faults_of_keep.Memory
  IsStop text moments later disk left (Session end) = ⊥
  IsStop text moments later disk left (Shown whole) = ⊥
  IsStop text moments later disk left SourcesUnmade = ⊥
  IsStop text moments later disk left LineUnwritten = ⊥
  IsStop text moments later disk left DoorsFailed = ⊥
  IsStop text moments later disk left (Served end) = ⊥
  IsStop text moments later disk left (Errand end) = ⊥

-- where a session begins: behind the Restart, with nothing kept and none in doubt
abbrev pub begun_with : List Entry → ℕ → ℕ → Option Coming → Option Coming → Walk
begun_with entries used count moments words = record {
  entries = entries;
  used = used;
  faults = count;
  doubt = None;
  kept = None;
  moments = moments;
  words = words;
}

-- what is seen of disks and stores: what is known of each, and its count of faults
module _ {D E : Type 0} (disks : disk.Ghosts D) (stores : store.Ghosts E) where
  -- a run stopped before its first request: it did not read its input, wrote no response, called no store and took no word
  pub record StopsEarly (text : Option (List ℕ)) (before after : OneThread D E) (end : RunEnd) (tally : Tally) : Type 0 where
    pub stop : IsStop disks text before.moments after.moments before.disk after.disk end
    pub counted : tally ≡ no_tally
    pub untaken : after.input ≡ before.input
    pub unwritten : after.output ≡ before.output
    pub store : after.store ≡ before.store
    pub words : after.words ≡ before.words

  -- a session ran from its Restart on, over the list that was there at the opening
  pub record RanOver (before after : OneThread D E) (settings : SettingsData) (now : ℕ) (moments : Option Coming) (keep : KeepData D)
      (opening : List Entry) (end : RunEnd) (tally : Tally) : Type 0 where
    pub final : Walk
    pub session_end : SessionEnd
    pub session : IsSession (disks.state before.disk).told [] settings.workers before.input after.input before.output after.output session_end
        (begun_with (restarted opening now settings) keep.used (disks.faults keep.disk) moments before.words) final
    pub ended : end ≡ Session session_end
    pub moments_left : after.moments ≡ final.moments
    pub words_left : after.words ≡ final.words
    pub faults_left : disks.faults after.disk ≡ final.faults
    pub since : List Entry
    pub grown : final.entries ≡ restarted opening now settings ++ since
    pub legal : IsLegal final.entries
    -- the copies made are those that the reports stand for, in order, and one at most whose report is to come
    pub store : FollowsReports stores.state stores.calls stores.faults [] (copies_from (λ writer. true) (tables_of (restarted opening now settings)) since)
        (copies_kept (tables_of final.entries) (held_over final.entries final.kept)) before.store after.store
    pub counted : tally ≡ tally_of since (tables_of final.entries)

  -- a run came to its session: under the settings of the text, which is told or not
  pub record RunsSession (text : Option (List ℕ)) (before after : OneThread D E) (end : RunEnd) (tally : Tally) : Type 0 where
    pub settings : SettingsData
    pub kept : IsSettings settings
    pub read : AreRead text settings
    pub now : ℕ
    pub moments : Option Coming
    pub moment : Gives before.moments moments now
    pub keep : KeepData D
    pub opening : List Entry
    pub starts : StartsOver disks.state disks.faults before.disk settings now keep opening
    pub ran : RanOver before after settings now moments keep opening end tally
    pub tells : (disks.state after.disk).told ≡ (disks.state before.disk).told
    pub leaves : (told : IsTold (disks.state before.disk)) → LeavesList disks (starts.own told).opened after.disk opening ran.final.entries
    -- what is in doubt at the end has an owner: the walk from the Restart on says which entry was tried when it came into doubt
    pub owner : (told : IsTold (disks.state before.disk)) → (leaves told).doubt ≡ ran.final.doubt

  -- a keep was served, which was closed then: it left this disk
  pub record ServesKeep (at : ThreadData D E) (workers : ℕ) (left : D) (store : E) (later words_later : Option Coming) (kept : List ℕ) (input after : Reading)
      (held now : Option (List ℕ)) (end : RunEnd) (tally : Tally) : Type 0 where
    pub session_end : SessionEnd
    pub ended : end ≡ Session session_end
    pub last : ThreadData D E
    pub closed : left ≡ last.keep.disk
    pub store_is : store ≡ last.store
    pub moments_are : later ≡ last.moments
    pub words_are : words_later ≡ last.words
    pub session : Works disks stores (λ own begun final. IsSession own kept workers input after held now session_end begun final) at last
    pub sound : IsKeep disks.state last.keep
    pub counted : tally ≡ tally_with last.claims last.keep.tables

  -- what a run did that ended so: it stopped before its first request, or ran a session
  abbrev pub IsSessionRun : RunEnd → Tally → Option (List ℕ) → OneThread D E → OneThread D E → Type 0
  IsSessionRun end tally text before after = StopsEarly text before after end tally ⊎ RunsSession text before after end tally
