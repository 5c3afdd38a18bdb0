-- What a run of `follow` does: the journal is made or loaded, it follows, and where that came to is written.
use Rattle.std.specs.Prelude.{◌≡◌, ◌⊎◌, ℕ, Bool, true, false, if◌then◌else◌, List, ◌++◌, codes, decimal, Option, Ok, Err}
use Rattle.fts_tables.specs.Counts.{Rose}
use Rattle.fts_journal.specs.Journal.{JournalData, IsSound}
use Rattle.fts_wire.specs.Outside.{Side}
use Rattle.fts_wire.specs.Response.{Sends}
use Rattle.fts_wire.specs.declared.outside.SinkFailed.{SinkFailed}
use Rattle.fts_client.specs.Links.{LinkData}
use Rattle.fts_standby.specs.Following.{Followed}
use Rattle.fts_standby.specs.declared.ends.FollowEnd.{FollowEnd}
use Rattle.fts_standby.specs.declared.ends.FollowEnd.TheVariants as ends
use Rattle.fts_following.specs.Opening.{OpensJournal, OpensNot, Makes}
use Rattle.fts_following.specs.declared.ends.FollowRunEnd.{FollowRunEnd}
use Rattle.fts_following.specs.declared.ends.FollowRunEnd.TheVariants.{CaughtUp, NoMemory, DiskFailed, OutputFailed, JournalFull, Refused, LinkFailed, NoAnswer, CannotServe, Diverged}
use Rattle.fts_disk.specs.declared.disk.Disk as disk

-- the line of a journal that caught up, by how many entries it has
abbrev pub caught_up_line : ℕ → List ℕ
caught_up_line count = codes "caught up at " ++ (decimal count ++ codes "\n")

-- a text was written: all of it or, where a write failed, a part
abbrev pub Tells : List ℕ → Option (List ℕ) → Option (List ℕ) → Bool → Type 0
Tells text held now true = Sends {E = SinkFailed} held now text (Ok tt)
Tells text held now false = (failed : SinkFailed) × Sends held now text (Err failed)

-- what is written of an end of following, and how the run ends by it
abbrev pub TellsEnd : FollowEnd → Option (List ℕ) → Option (List ℕ) → FollowRunEnd → Type 0
TellsEnd (ends.CaughtUp count) held now end = (whole : Bool) × Tells (caught_up_line count) held now whole × (end ≡ (if whole then CaughtUp else OutputFailed))
TellsEnd (ends.Diverged number) held now end = (now ≡ held) × (end ≡ Diverged number)
TellsEnd (ends.Refused status) held now end = (now ≡ held) × (end ≡ Refused status)
TellsEnd (ends.CannotServe status) held now end = (now ≡ held) × (end ≡ CannotServe status)
TellsEnd ends.NoAnswer held now end = (now ≡ held) × (end ≡ NoAnswer)
TellsEnd ends.LinkFailed held now end = (now ≡ held) × (end ≡ LinkFailed)
TellsEnd ends.DiskFailed held now end = (now ≡ held) × (end ≡ DiskFailed)
TellsEnd (ends.JournalFull used) held now end = (now ≡ held) × (end ≡ JournalFull used)
TellsEnd ends.Memory held now end = (now ≡ held) × (end ≡ NoMemory)

module _ {D L : Type 0} (disks : disk.Ghosts D) (read written : Side L) (port tries : ℕ) where
  -- there was no memory to begin, and the disk is as it was; or the journal was not opened
  abbrev pub IsUnopened : D → D → FollowRunEnd → Type 0
  IsUnopened disk left end = ((end ≡ NoMemory) × (left ≡ disk)) ⊎ (OpensNot disks.state disks.faults disk left end × Makes (disks.state disk) (disks.state left))

  -- so nothing was asked for, and nothing written
  pub record StopsUnopened (disk left : D) (old new : LinkData L) (broken failed : ℕ) (held now : Option (List ℕ)) (end : FollowRunEnd) : Type 0 where
    pub unopened : IsUnopened disk left end
    pub unlinked : new ≡ old
    pub unfailed : failed ≡ broken
    pub unwritten : now ≡ held

  -- the journal was opened, and it followed
  pub record RunsFollowing (disk left : D) (old new : LinkData L) (broken failed : ℕ) (held now : Option (List ℕ)) (end : FollowRunEnd) : Type 0 where
    pub opened : JournalData D
    pub opens : OpensJournal disks.state disks.faults disk opened
    pub makes : Makes (disks.state disk) (disks.state opened.disk)
    pub closed : JournalData D
    pub ended : FollowEnd
    pub followed : Followed disks.state disks.faults read written port tries opened closed old new broken failed ended
    pub disk_failed : ended ≡ ends.DiskFailed → Rose (disks.faults opened.disk) (disks.faults closed.disk)
    pub images : IsSound (disks.state closed.disk) closed.bodies closed.doubt
    pub left_is : left ≡ closed.disk
    pub tells : TellsEnd ended held now end

  -- what `follow` did: to the disk, to the link and its count of faults, and to what the output holds
  abbrev pub IsFollowRun : D → D → LinkData L → LinkData L → ℕ → ℕ → Option (List ℕ) → Option (List ℕ) → FollowRunEnd → Type 0
  IsFollowRun disk left old new broken failed held now end =
      StopsUnopened disk left old new broken failed held now end ⊎ RunsFollowing disk left old new broken failed held now end
