-- What the commands do that are none of the service's own: `submit` and `query` of a client, `delete`, and `follow` of a standby. Each calls nothing but
-- what it is named with here, and claims no file.
use Rattle.std.specs.Prelude.{◌≡◌, ◌⊎◌, ℕ, List, Option}
use Rattle.fts_wire.specs.Outside.{Side}
use Rattle.fts_client.specs.Links.{LinkData}
use Rattle.fts_submitting.specs.Runs.{IsSubmitRun, IsQueryRun}
use Rattle.fts_deleting.specs.Runs.{IsDeleteRun, around}
use Rattle.fts_following.specs.Runs.{IsFollowRun}
use Rattle.fts_tables.specs.SettingsData.{SettingsData, IsSettings}
use Rattle.fts_top.specs.Runs.{OneThread, OverDisks, AreRead, HasNoSettings}
use Rattle.fts_top.specs.Tallies.{no_tally}
use Rattle.fts_submitting.specs.declared.ends.ClientEnd.{ClientEnd}
use Rattle.fts_deleting.specs.declared.ends.DeleteEnd.{DeleteEnd}
use Rattle.fts_following.specs.declared.ends.FollowRunEnd.{FollowRunEnd}
use Rattle.fts_top.specs.declared.ends.RunEnd.{RunEnd}
use Rattle.fts_top.specs.declared.ends.RunEnd.TheVariants.{NoMemory, Errand}
use Rattle.fts_top.specs.declared.errands.ErrandEnd.TheVariants.{Client, Deletion, Standby}
use Rattle.fts_top.specs.declared.tally.Tally.{Tally}
use Rattle.fts_disk.specs.declared.disk.Disk as disk
use Rattle.fts_store.specs.declared.store.Store as store
use Rattle.fts_wire.specs.declared.outside.Source as source
use Rattle.fts_wire.specs.declared.outside.Sink as sink
use Rattle.fts_client.specs.declared.link.Link as link

-- what they meet beyond what a session does: the link to a service, its count of faults, and the disk of the deletions
pub record Beyond (L D : Type 0) : Type 0 where
  pub link : LinkData L
  pub faults : ℕ
  pub deletes : Option D

-- the same, by what the link shows
abbrev pub beyond_at : {P L D : Type 0} → link.Ghosts P L → P → Option D → Beyond L D
beyond_at links link deletes = record { link = links.link link; faults = links.faults link; deletes = deletes }

-- what a line shows of the side that is read, and of the side that is written
abbrev pub read_side : {L : Type 0} → source.Ghosts L → Side L
read_side lines = record { bytes = lines.left; faults = lines.faults; reads = lines.reads; beside = lines.beside }

abbrev pub written_side : {L : Type 0} → sink.Ghosts L → Side L
written_side lines = record { bytes = lines.held; faults = lines.faults; reads = λ _. 0; beside = lines.beside }

-- nothing was called, and no file was claimed
pub record CallsNothing {D E L : Type 0} (before after : OneThread D E) (beyond left : Beyond L D) (tally : Tally) : Type 0 where
  pub counted : tally ≡ no_tally
  pub same : after ≡ before
  pub beyond_same : left ≡ beyond

-- there was too little memory for the words of a command
abbrev pub WantsMemory : {D E L : Type 0} → OneThread D E → OneThread D E → Beyond L D → Beyond L D → RunEnd → Tally → Type 0
WantsMemory before after beyond left end tally = (end ≡ NoMemory) × CallsNothing before after beyond left tally

-- what every errand leaves: the moments and the words, and no file is claimed
pub record StaysAway {D E : Type 0} (before after : OneThread D E) (tally : Tally) : Type 0 where
  pub counted : tally ≡ no_tally
  pub moments : after.moments ≡ before.moments
  pub words : after.words ≡ before.words

-- a client's command leaves the disks and the store
pub record IsClientAlone {D E L : Type 0} (before after : OneThread D E) (beyond left : Beyond L D) (tally : Tally) : Type 0 where
  pub away : StaysAway before after tally
  pub disk : after.disk ≡ before.disk
  pub store : after.store ≡ before.store
  pub deletes : left.deletes ≡ beyond.deletes

-- a deletion leaves the journal of the service, and the link
pub record IsDeletionAlone {D E L : Type 0} (before after : OneThread D E) (beyond left : Beyond L D) (tally : Tally) : Type 0 where
  pub away : StaysAway before after tally
  pub disk : after.disk ≡ before.disk
  pub link : left.link ≡ beyond.link
  pub faults : left.faults ≡ beyond.faults

-- a standby leaves the input, the store and the deletions
pub record IsStandbyAlone {D E L : Type 0} (before after : OneThread D E) (beyond left : Beyond L D) (tally : Tally) : Type 0 where
  pub away : StaysAway before after tally
  pub input : after.input ≡ before.input
  pub store : after.store ≡ before.store
  pub deletes : left.deletes ≡ beyond.deletes

-- the end of a run that was a client's command, a deletion, or a standby's, which ended so
abbrev pub end_of_client : ClientEnd → RunEnd
end_of_client end = Errand (Client end)

abbrev pub end_of_deletion : DeleteEnd → RunEnd
end_of_deletion end = Errand (Deletion end)

abbrev pub end_of_standby : FollowRunEnd → RunEnd
end_of_standby end = Errand (Standby end)

-- an errand that ended so was this
abbrev pub EndsAs : {X : Type 0} → (X → RunEnd) → RunEnd → (X → Type 0) → Type 0
EndsAs {X = X} end_of end Is = (errand : X) × ((end ≡ end_of errand) × Is errand)

module _ {D E L : Type 0} (disks : disk.Ghosts D) (stores : store.Ghosts E) (lines_read : source.Ghosts L) (lines_written : sink.Ghosts L)
    (end : RunEnd) (tally : Tally) (text : Option (List ℕ)) (before after : OneThread D E) (beyond left : Beyond L D) where
  -- what `submit` did
  abbrev pub IsSubmission : ℕ → ℕ → Type 0
  IsSubmission port tries = WantsMemory before after beyond left end tally
      ⊎ (EndsAs end_of_client end (IsSubmitRun (read_side lines_read) (written_side lines_written) port tries before.input.left after.input.left
      beyond.link left.link beyond.faults left.faults before.output after.output)
      × IsClientAlone before after beyond left tally)

  -- what `query` did
  abbrev pub IsQuery : ℕ → ℕ → ℕ → Type 0
  IsQuery port job tries = WantsMemory before after beyond left end tally
      ⊎ (EndsAs end_of_client end (IsQueryRun (read_side lines_read) (written_side lines_written) port job tries
      beyond.link left.link beyond.faults left.faults before.output after.output)
      × (IsClientAlone before after beyond left tally × (after.input ≡ before.input)))

  -- the settings of the text were read, and a deletion ran under them
  pub record RunsDeletion : Type 0 where
    pub settings : SettingsData
    pub kept : IsSettings settings
    pub read : AreRead text settings
    pub ran : EndsAs end_of_deletion end (λ errand. OverDisks beyond.deletes left.deletes (λ disk now.
        IsDeleteRun disks stores settings (around disk before.store before.input.left before.output) (around now after.store after.input.left after.output) errand))
    pub alone : IsDeletionAlone before after beyond left tally

  -- what `delete` did: it stopped at its settings, or at its words, or ran
  abbrev pub IsDeletion : Type 0
  IsDeletion = (HasNoSettings text end × CallsNothing before after beyond left tally) ⊎ RunsDeletion

  -- what `follow` did
  abbrev pub IsFollowing : ℕ → ℕ → Type 0
  IsFollowing port tries = WantsMemory before after beyond left end tally
      ⊎ (EndsAs end_of_standby end (IsFollowRun disks (read_side lines_read) (written_side lines_written) port tries before.disk after.disk
      beyond.link left.link beyond.faults left.faults before.output after.output)
      × IsStandbyAlone before after beyond left tally)
