-- What a run of `show` is: the settings are read, the journal is looked at, and the text of its tables is written. It writes nothing to the disk.
use Rattle.std.specs.Prelude.{◌≡◌, ◌⊎◌, ℕ, Bool, true, false, List, [], Option, Ok, Err}
use Rattle.fts_tables.specs.Counts.{Rose}
use Rattle.fts_tables.specs.SettingsData.{SettingsData}
use Rattle.fts_tables.specs.Tables.{Tables}
use Rattle.fts_disk.specs.Disk.{IsTold}
use Rattle.fts_keep.specs.Damage.{IsDamaged}
use Rattle.fts_keep.specs.Started.{IsStill, Views}
use Rattle.fts_wire.specs.Response.{Sends}
use Rattle.fts_wire.specs.declared.outside.SinkFailed.{SinkFailed}
use Rattle.fts_top.specs.Runs.{AreRead, IsBroken, OneThread}
use Rattle.fts_show.specs.Shown.{shown_text}
use Rattle.fts_top.specs.Tallies.{tally_of, no_tally}
use Rattle.fts_top.specs.declared.ends.RunEnd.{RunEnd}
use Rattle.fts_top.specs.declared.ends.RunEnd.TheVariants.{NoMemory, NoCommand, SettingsUnread, SettingsRule, DiskFailed, Damaged, JournalFull, Session, Shown, SourcesUnmade, LineUnwritten, DoorsFailed, Served, Errand}
use Rattle.fts_top.specs.declared.tally.Tally.{Tally}
use Rattle.fts_disk.specs.declared.disk.Disk as disk

-- the text has settings, where it is told
abbrev pub HasSettings : Option (List ℕ) → Type 0
HasSettings text = (settings : SettingsData) × AreRead text settings

-- a text was written: all of it or, where a write failed, a part
abbrev pub WritesText : List ℕ → Option (List ℕ) → Option (List ℕ) → Bool → Type 0
WritesText text held now true = Sends {E = SinkFailed} held now text (Ok tt)
WritesText text held now false = (failed : SinkFailed) × Sends held now text (Err failed)

-- a run of `show` called nothing but the settings, the journal and the output
pub record LooksOnly {D E : Type 0} (before after : OneThread D E) : Type 0 where
  pub input : after.input ≡ before.input
  pub store : after.store ≡ before.store
  pub moments : after.moments ≡ before.moments
  pub words : after.words ≡ before.words

module _ {D : Type 0} (disks : disk.Ghosts D) where
  -- why nothing was shown: the settings, the journal, or want of memory
  abbrev pub IsLookStop : Option (List ℕ) → D → D → RunEnd → Type 0
  IsLookStop text disk left NoMemory = Unit {0}
  IsLookStop text disk left SettingsUnread = left ≡ disk
  IsLookStop text disk left (SettingsRule rule) = IsBroken text rule × (left ≡ disk)
  IsLookStop text disk left DiskFailed = HasSettings text × Rose (disks.faults disk) (disks.faults left)
  IsLookStop text disk left (Damaged offset) = HasSettings text × (IsTold (disks.state disk) → IsDamaged (disks.state disk).seen offset)
  IsLookStop text disk left NoCommand = ⊥
  IsLookStop text disk left (JournalFull used) = ⊥
  IsLookStop text disk left (Session end) = ⊥
  IsLookStop text disk left (Shown whole) = ⊥
  IsLookStop text disk left SourcesUnmade = ⊥
  IsLookStop text disk left LineUnwritten = ⊥
  IsLookStop text disk left DoorsFailed = ⊥
  IsLookStop text disk left (Served end) = ⊥
  IsLookStop text disk left (Errand end) = ⊥

  -- nothing was shown, and a crash leaves nothing else than before
  pub record LookStops (text : Option (List ℕ)) (disk left : D) (held now : Option (List ℕ)) (end : RunEnd) (tally : Tally) : Type 0 where
    pub stop : IsLookStop text disk left end
    pub still : (left ≡ disk) ⊎ (IsTold (disks.state disk) → IsStill (disks.state disk) (disks.state left))
    pub unwritten : now ≡ held
    pub counted : tally ≡ no_tally

  -- tables were shown: those of a legal list, over a disk that tells its contents of its own, which stays
  pub record Shows (text : Option (List ℕ)) (disk left : D) (held now : Option (List ℕ)) (end : RunEnd) (tally : Tally) : Type 0 where
    pub settings : HasSettings text
    pub tables : Tables
    pub viewed : Views disks.state disks.faults disk left tables
    pub whole : Bool
    pub ended : end ≡ Shown whole
    pub written : WritesText (shown_text tables) held now whole
    pub counted : tally ≡ tally_of [] tables

  -- what `show` did
  abbrev pub IsLook : RunEnd → Tally → Option (List ℕ) → D → D → Option (List ℕ) → Option (List ℕ) → Type 0
  IsLook end tally text disk left held now = LookStops text disk left held now end tally ⊎ Shows text disk left held now end tally
