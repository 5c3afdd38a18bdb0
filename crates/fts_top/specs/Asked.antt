-- What a run of one thread does, by what its words ask for.
use Rattle.std.specs.Prelude.{◌≡◌, ℕ, List, Option, Some, None}
use Rattle.fts_words.specs.declared.asked.Asked.{Asked}
use Rattle.fts_words.specs.declared.asked.Asked.TheVariants as asks
use Rattle.fts_top.specs.Errands.{Beyond, IsSubmission, IsQuery, IsDeletion, IsFollowing}
use Rattle.fts_top.specs.Loads.{IsLoad}
use Rattle.fts_top.specs.Looks.{IsLook, LooksOnly}
use Rattle.fts_top.specs.Runs.{OneThread, StopsEarly, IsSessionRun}
use Rattle.fts_top.specs.declared.ends.RunEnd.{RunEnd}
use Rattle.fts_top.specs.declared.ends.RunEnd.TheVariants.{NoCommand}
use Rattle.fts_top.specs.declared.tally.Tally.{Tally}
use Rattle.fts_disk.specs.declared.disk.Disk as disk
use Rattle.fts_store.specs.declared.store.Store as store
use Rattle.fts_wire.specs.declared.outside.Source as source
use Rattle.fts_wire.specs.declared.outside.Sink as sink

module _ {D E L : Type 0} (disks : disk.Ghosts D) (stores : store.Ghosts E) (lines_read : source.Ghosts L) (lines_written : sink.Ghosts L) where
  -- Words that are not accepted ask for nothing; `serve` is not for one thread. What is beyond a session is as it was where no errand is asked for.
  abbrev pub DoesAsked : Option Asked → RunEnd → Tally → Option (List ℕ) → OneThread D E → OneThread D E → Beyond L D → Beyond L D → Type 0
  DoesAsked None end tally text before after beyond left = ((end ≡ NoCommand) × StopsEarly disks stores text before after end tally) × (left ≡ beyond)
  DoesAsked (Some asks.Session) end tally text before after beyond left = IsSessionRun disks stores end tally text before after × (left ≡ beyond)
  DoesAsked (Some asks.Show) end tally text before after beyond left =
      (IsLook disks end tally text before.disk after.disk before.output after.output × LooksOnly before after) × (left ≡ beyond)
  DoesAsked (Some (asks.Load number)) end tally text before after beyond left = IsLoad disks stores number end tally text before after × (left ≡ beyond)
  DoesAsked (Some (asks.Serve port lanes connections)) end tally text before after beyond left = ⊥
  DoesAsked (Some (asks.Submit port tries)) end tally text before after beyond left =
      IsSubmission disks stores lines_read lines_written end tally text before after beyond left port tries
  DoesAsked (Some (asks.Query port job tries)) end tally text before after beyond left =
      IsQuery disks stores lines_read lines_written end tally text before after beyond left port job tries
  DoesAsked (Some asks.Delete) end tally text before after beyond left = IsDeletion disks stores lines_read lines_written end tally text before after beyond left
  DoesAsked (Some (asks.Follow port tries)) end tally text before after beyond left =
      IsFollowing disks stores lines_read lines_written end tally text before after beyond left port tries

-- a run does one thing where the words ask to serve, by the lanes and the connections that they name, and another where they don't
abbrev pub DoesOrServes : Option Asked → Type 0 → (ℕ → Option ℕ → Type 0) → Type 0
DoesOrServes None alone serves = alone
DoesOrServes (Some asks.Session) alone serves = alone
DoesOrServes (Some asks.Show) alone serves = alone
DoesOrServes (Some (asks.Load number)) alone serves = alone
DoesOrServes (Some (asks.Serve port lanes connections)) alone serves = serves lanes connections
DoesOrServes (Some (asks.Submit port tries)) alone serves = alone
DoesOrServes (Some (asks.Query port job tries)) alone serves = alone
DoesOrServes (Some asks.Delete) alone serves = alone
DoesOrServes (Some (asks.Follow port tries)) alone serves = alone

-- whether words ask for deletions
abbrev pub IsToDelete : Option Asked → Type 0
IsToDelete None = ⊥
IsToDelete (Some asks.Session) = ⊥
IsToDelete (Some asks.Show) = ⊥
IsToDelete (Some (asks.Load number)) = ⊥
IsToDelete (Some (asks.Serve port lanes connections)) = ⊥
IsToDelete (Some (asks.Submit port tries)) = ⊥
IsToDelete (Some (asks.Query port job tries)) = ⊥
IsToDelete (Some asks.Delete) = Unit {0}
IsToDelete (Some (asks.Follow port tries)) = ⊥
