-- What a run of `load` is: a keep is started under the settings, the files of the number are made in the store, and a session answers the load's own
-- requests, whose responses are dropped. A session that ended well is followed by one line, from the tally.
use Rattle.std.specs.Prelude.{◌≡◌, ◌≢◌, ◌⊎◌, ℕ, Bool, if◌then◌else◌, List, [], ◌∷◌, ◌++◌, codes, decimal, Option, Some, None, Ok, Err}
use Rattle.fts_tables.specs.Coming.{Coming, Gives}
use Rattle.fts_tables.specs.SettingsData.{SettingsData, IsSettings}
use Rattle.fts_tables.specs.History.{tables_of}
use Rattle.fts_tables.specs.declared.commands.Entry.{Entry}
use Rattle.fts_tables.specs.declared.settings.Endpoint.{Endpoint}
use Rattle.fts_disk.specs.Disk.{IsTold}
use Rattle.fts_store.specs.declared.store.StoreFailed.{StoreFailed}
use Rattle.fts_keep.specs.Keeps.{KeepData}
use Rattle.fts_keep.specs.Started.{restarted, StartsOver}
use Rattle.fts_load.specs.Made.{MakesSources}
use Rattle.fts_load.specs.Requests.{requests}
use Rattle.fts_session.specs.Connections.{Reading, reading_of}
use Rattle.fts_top.specs.Ends.{status_of}
use Rattle.fts_top.specs.Looks.{WritesText}
use Rattle.fts_top.specs.Runs.{AreRead, OneThread, LeavesList, StopsEarly, RunsSession, ServesKeep}
use Rattle.fts_session.specs.Sessions.{ThreadData}
use Rattle.fts_top.specs.Tallies.{tally_of, tally_with}
use Rattle.fts_top.specs.declared.ends.RunEnd.{RunEnd}
use Rattle.fts_top.specs.declared.ends.RunEnd.TheVariants.{SourcesUnmade, LineUnwritten}
use Rattle.fts_top.specs.declared.tally.Tally.{Tally}
use Rattle.fts_disk.specs.declared.disk.Disk as disk
use Rattle.fts_store.specs.declared.store.Store as store

-- the name of the first of some endpoints, and that of the last
abbrev pub first_name : List Endpoint → List ℕ
first_name [] = []
first_name (endpoint ∷ endpoints) = endpoint.name

abbrev pub last_name : List Endpoint → List ℕ
last_name [] = []
last_name (endpoint ∷ []) = endpoint.name
last_name (endpoint ∷ next ∷ endpoints) = last_name (next ∷ endpoints)

-- the endpoint of a load's sources, and that of its destinations
abbrev pub source_of : SettingsData → List ℕ
source_of settings = first_name settings.endpoints

abbrev pub dest_of : SettingsData → List ℕ
dest_of settings = last_name settings.endpoints

-- what a load's session reads: its requests, before the first read
abbrev pub load_reading : SettingsData → Reading
load_reading settings = reading_of (Some (requests (source_of settings) (dest_of settings))) 0

-- a load's line
abbrev pub load_line : Tally → List ℕ
load_line tally =
    codes "claims " ++ (decimal tally.claims ++ (codes " finished " ++ (decimal tally.finished ++ (codes " failed " ++ (decimal tally.failed
    ++ (codes " cancelled " ++ (decimal tally.cancelled ++ (codes " waiting " ++ (decimal tally.waiting ++ codes "\n")))))))))

-- how a load ends whose line was written, whole or in part
abbrev pub line_end : RunEnd → Bool → RunEnd
line_end ran whole = if whole then ran else LineUnwritten

-- its session ended with status 0, and then its line was written, or a part of it where a write failed
pub record WritesLine (line : List ℕ) (held now : Option (List ℕ)) (ran end : RunEnd) : Type 0 where
  pub well : status_of ran ≡ 0
  pub whole : Bool
  pub written : WritesText line held now whole
  pub ended : end ≡ line_end ran whole

-- its session ended with another status, and nothing was written
pub record WritesNothing (held now : Option (List ℕ)) (ran end : RunEnd) : Type 0 where
  pub badly : status_of ran ≢ 0
  pub unwritten : now ≡ held
  pub ended : end ≡ ran

-- how a load ends, by the end of its session
abbrev pub EndsLoad : List ℕ → Option (List ℕ) → Option (List ℕ) → RunEnd → RunEnd → Type 0
EndsLoad line held now ran end = WritesLine line held now ran end ⊎ WritesNothing held now ran end

module _ {D E : Type 0} (disks : disk.Ghosts D) (stores : store.Ghosts E) where
  -- over a keep that was started the files were not made, and it was closed
  pub record LeavesKeep (number : ℕ) (source : List ℕ) (at : ThreadData D E) (left : D) (store : E) (later words_later : Option Coming)
      (held now : Option (List ℕ)) (end : RunEnd) (tally : Tally) : Type 0 where
    pub failed : StoreFailed
    pub sources : MakesSources {E = StoreFailed} source number (stores.state at.store) (stores.state store) (stores.calls at.store) (stores.calls store)
        (stores.faults at.store) (stores.faults store) (Err failed)
    pub ended : end ≡ SourcesUnmade
    pub counted : tally ≡ tally_with 0 at.keep.tables
    pub closed : left ≡ at.keep.disk
    pub moments_are : later ≡ at.moments
    pub words_are : words_later ≡ at.words
    pub unwritten : now ≡ held

  -- over a keep that was started the files were made, and a session with this input ran
  pub record SessionOver (number : ℕ) (source : List ℕ) (at : ThreadData D E) (left : D) (store : E) (later words_later : Option Coming) (kept : List ℕ) (input : Reading)
      (held now : Option (List ℕ)) (end : RunEnd) (tally : Tally) : Type 0 where
    pub made : E
    pub sources : MakesSources {E = StoreFailed} source number (stores.state at.store) (stores.state made) (stores.calls at.store) (stores.calls made)
        (stores.faults at.store) (stores.faults made) (Ok tt)
    pub rest : Reading
    pub ran_end : RunEnd
    pub serves : ServesKeep disks stores (record at { store = made }) at.bench.places
        left store later words_later kept input rest None None ran_end tally
    pub ends : EndsLoad (load_line tally) held now ran_end end

  -- what a load did over a keep that was started
  abbrev pub LoadsKeep : ℕ → List ℕ → ThreadData D E → D → E → Option Coming → Option Coming → List ℕ → Reading → Option (List ℕ) → Option (List ℕ)
      → RunEnd → Tally → Type 0
  LoadsKeep number source at left store later words_later kept input held now end tally =
      LeavesKeep number source at left store later words_later held now end tally
      ⊎ SessionOver number source at left store later words_later kept input held now end tally

  -- a call of the store failed while the files were made: a keep was started and closed, and no request was answered
  pub record StopsUnmade (number : ℕ) (text : Option (List ℕ)) (before after : OneThread D E) (end : RunEnd) (tally : Tally) : Type 0 where
    pub settings : SettingsData
    pub kept : IsSettings settings
    pub read : AreRead text settings
    pub now : ℕ
    pub moment : Gives before.moments after.moments now
    pub keep : KeepData D
    pub opening : List Entry
    pub starts : StartsOver disks.state disks.faults before.disk settings now keep opening
    pub closed : after.disk ≡ keep.disk
    pub leaves : (told : IsTold (disks.state before.disk)) → LeavesList disks (starts.own told).opened after.disk opening (restarted opening now settings)
    pub failed : StoreFailed
    pub sources : MakesSources {E = StoreFailed} (source_of settings) number (stores.state before.store) (stores.state after.store)
        (stores.calls before.store) (stores.calls after.store) (stores.faults before.store) (stores.faults after.store) (Err failed)
    pub ended : end ≡ SourcesUnmade
    pub counted : tally ≡ tally_of [] (tables_of (restarted opening now settings))
    pub untaken : after.input ≡ before.input
    pub unwritten : after.output ≡ before.output
    pub words : after.words ≡ before.words

  -- a session ran over the load's requests, from a store in which its files were made; no response is told
  pub record RunsLoad (number : ℕ) (text : Option (List ℕ)) (before after : OneThread D E) (end : RunEnd) (tally : Tally) : Type 0 where
    pub made : E
    pub given : Reading
    pub rest : Reading
    pub ran_end : RunEnd
    pub ran : RunsSession disks stores text
        (record before { store = made; input = given; output = None }) (record after { input = rest; output = None }) ran_end tally
    pub requests : given ≡ load_reading ran.settings
    pub sources : MakesSources {E = StoreFailed} (source_of ran.settings) number (stores.state before.store) (stores.state made)
        (stores.calls before.store) (stores.calls made) (stores.faults before.store) (stores.faults made) (Ok tt)
    pub untaken : after.input ≡ before.input
    pub ends : EndsLoad (load_line tally) before.output after.output ran_end end

  -- what `load` did: it stopped before its keep was there, or at its files, or it ran a session
  abbrev pub IsLoad : ℕ → RunEnd → Tally → Option (List ℕ) → OneThread D E → OneThread D E → Type 0
  IsLoad number end tally text before after =
      StopsEarly disks stores text before after end tally
      ⊎ (StopsUnmade number text before after end tally ⊎ RunsLoad number text before after end tally)
