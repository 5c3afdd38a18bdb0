-- What is done to a shop within one turn.
use Rattle.std.specs.Prelude.{◌≡◌, ℕ, Bool, false, Option, None, IsSome, option_map, Result, Ok, Err}
use Rattle.std.specs.Option.{option_map_or}
use Rattle.fts_tables.specs.Tables.{Tables, row_at}
use Rattle.fts_tables.specs.declared.commands.Command.{Command}
use Rattle.fts_tables.specs.declared.commands.Answer.{Answer}
use Rattle.fts_tables.specs.declared.commands.Answer.TheVariants.{Restarted, Submitted, Cancelled, PrioritySet, Claimed, Reported, Banned, Unbanned, Expired}
use Rattle.fts_copy.specs.Copy.{Order}
use Rattle.fts_turnstile.specs.Passes.{Appends}
use Rattle.fts_keep.specs.Keeps.{IsKeep}
use Rattle.fts_keep.specs.Applied.{Applied, entry_by}
use Rattle.fts_keep.specs.declared.fault.KeepFault.{KeepFault}
use Rattle.fts_workers.specs.Copies.{job_id_of, order_in}
use Rattle.fts_workers.specs.ClaimSteps.{IsClaimStep}
use Rattle.fts_shop.specs.Shops.{ShopData, KeepsDisk, shop_entries, writer_of}
use Rattle.fts_disk.specs.declared.disk.Disk as disk

-- a command of a writer was tried: what it came to, by its answer, what it added, and the lanes left, which stay
pub record TriesIn {D : Type 0} (disks : disk.Ghosts D) (writer : ℕ) (command : Command) (old new : ShopData D)
    (answer : Result Answer KeepFault) (lanes : ℕ) : Type 0 where
  -- what a keep's type keeps
  pub kept : IsKeep disks.state old.keep
  pub keeps : IsKeep disks.state new.keep
  pub applied : Applied disks.state disks.faults old.keep new.keep (entry_by writer command) answer
  pub disk : KeepsDisk disks writer old.keep new.keep
  pub appends : Appends shop_entries writer_of writer old new
  pub left : lanes ≡ old.lanes
  pub stay : new.lanes ≡ old.lanes

-- an expiry and a claim of a writer were tried as one step: what both came to, by their answers, what they added, and the lanes left, which stay
pub record StepsIn {D : Type 0} (disks : disk.Ghosts D) (writer now word : ℕ) (old new : ShopData D) (expiry : Result Answer KeepFault)
    (claim : Option (Result Answer KeepFault)) (lanes : ℕ) : Type 0 where
  pub kept : IsKeep disks.state old.keep
  pub keeps : IsKeep disks.state new.keep
  pub stepped : IsClaimStep disks.state disks.faults writer old.keep new.keep now word expiry claim
  pub disk : KeepsDisk disks writer old.keep new.keep
  pub appends : Appends shop_entries writer_of writer old new
  pub left : lanes ≡ old.lanes
  pub stay : new.lanes ≡ old.lanes

-- what the copy of a claimed file is asked for, by the answer to the claim
abbrev pub order_claimed : Tables → Result Answer KeepFault → Option Order
order_claimed tables (Ok (Claimed file attempt)) = option_map (order_in tables) (row_at tables.rows file)
order_claimed tables _ = None

-- the id of the job of a claimed file, by the answer to the claim
abbrev pub job_claimed : Tables → Result Answer KeepFault → Option ℕ
job_claimed tables (Ok (Claimed file attempt)) = job_id_of tables file
job_claimed tables _ = None

-- an order comes with a claimed file
abbrev pub HasOrder : Result Answer KeepFault → Option Order → Type 0
HasOrder (Ok (Claimed file attempt)) order = IsSome order
HasOrder (Ok (Restarted released)) order = Unit {0}
HasOrder (Ok (Submitted job id)) order = Unit {0}
HasOrder (Ok (Cancelled job)) order = Unit {0}
HasOrder (Ok (PrioritySet job)) order = Unit {0}
HasOrder (Ok (Reported file state)) order = Unit {0}
HasOrder (Ok (Banned cancelled)) order = Unit {0}
HasOrder (Ok Unbanned) order = Unit {0}
HasOrder (Ok (Expired cancelled)) order = Unit {0}
HasOrder (Err fault) order = Unit {0}

-- whether cancel was asked of a file
abbrev pub is_cancel_asked : Tables → ℕ → Bool
is_cancel_asked tables file = option_map_or (λ row. row.cancel_asked) (row_at tables.rows file) false

-- a look whether cancel was asked of a file, which changes nothing
pub record IsLookIn {D : Type 0} (disks : disk.Ghosts D) (file : ℕ) (old new : ShopData D) (asked : Bool) : Type 0 where
  pub kept : IsKeep disks.state old.keep
  pub same : new ≡ old
  pub is : asked ≡ is_cancel_asked old.keep.tables file
