-- What a look at a journal makes of a view: it goes on behind what was folded, or begins anew.
use Rattle.std.specs.Prelude.{◌≡◌, ◌⊎◌, ℕ, [], Option, Some, None, Result, Ok, Err, OnOk, IfErr}
use Rattle.fts_disk.specs.Disk.{DiskState}
use Rattle.fts_watch.specs.Monitor.{MonitorData, IsFoldOf, GoesOn, IsAll, LookFault, OnlyLooks, OpenFault}
use Rattle.fts_watch.specs.declared.fault.MonitorFault.{MonitorFault}
use Rattle.fts_watch.specs.declared.fault.MonitorFault.TheVariants.{DiskFailed, Damaged, Changed, Memory}
use Rattle.fts_panel.specs.declared.view.View.{View}
use Rattle.fts_panel.specs.declared.view.View.TheVariants.{Shown, Unread, Shut}

-- the view behind a look that found this, of a journal that was opened at a moment: damage is shown with what stands before it
abbrev pub seen_by : {D : Type 0} → MonitorData D → ℕ → Result (Unit {0}) MonitorFault → View D
seen_by monitor began (Ok done) = Shown monitor began None
seen_by monitor began (Err (Damaged offset)) = Shown monitor began (Some offset)
seen_by monitor began (Err DiskFailed) = Unread monitor began DiskFailed
seen_by monitor began (Err Changed) = Unread monitor began Changed
seen_by monitor began (Err Memory) = Unread monitor began Memory

-- why the last look wasn't done
abbrev pub fault_in : {D : Type 0} → View D → Option MonitorFault
fault_in (Shown monitor began damage) = None
fault_in (Unread monitor began fault) = Some fault
fault_in (Shut disk fault) = Some fault

module _ {D : Type 0} (state : D → DiskState) (faults : D → ℕ) where
  -- One look at the journal: its tables are those of a legal list, which goes on with entries behind it; at `Ok` with all of them.
  pub record Folds (before after : MonitorData D) (found : Result (Unit {0}) MonitorFault) : Type 0 where
    pub goes_on : GoesOn state before after
    pub looks : OnlyLooks state faults before.disk after.disk
    pub all : OnOk found (IsAll state after)
    pub cause : IfErr found (LookFault state faults before after)

  -- a look from these tables on, which were begun at a moment, found this, and left this view
  pub record IsSeen (began : ℕ) (before : MonitorData D) (found : Result (Unit {0}) MonitorFault) (view : View D) : Type 0 where
    pub after : MonitorData D
    pub folds : Folds before after found
    pub is : view ≡ seen_by after began found

  -- the journal of a disk was opened now, with nothing folded, and looked at
  pub record OpensAndSees (now : ℕ) (disk : D) (view : View D) : Type 0 where
    pub opened : MonitorData D
    pub looks : OnlyLooks state faults disk opened.disk
    pub none : IsFoldOf state opened []
    pub found : Result (Unit {0}) MonitorFault
    pub seen : IsSeen now opened found view

  -- it couldn't be opened
  pub record IsShut (disk : D) (view : View D) : Type 0 where
    pub after : D
    pub fault : MonitorFault
    pub looks : OnlyLooks state faults disk after
    pub cause : OpenFault state faults disk after fault
    pub is : view ≡ Shut after fault

  -- the journal of a disk was opened, or couldn't be
  abbrev pub Opens : ℕ → D → View D → Type 0
  Opens now disk view = OpensAndSees now disk view ⊎ IsShut disk view

  -- what was folded last no longer stands there, and the journal was opened anew
  pub record IsSeenAnew (now : ℕ) (before : MonitorData D) (view : View D) : Type 0 where
    pub changed : MonitorData D
    pub folds : Folds before changed (Err Changed)
    pub opens : Opens now changed.disk view

  -- what follows of what a look found: its view, or where what was folded no longer stands there an opening
  abbrev pub LooksBy : Result (Unit {0}) MonitorFault → ℕ → ℕ → MonitorData D → View D → Type 0
  LooksBy (Ok done) now began before view = IsSeen began before (Ok done) view
  LooksBy (Err DiskFailed) now began before view = IsSeen began before (Err DiskFailed) view
  LooksBy (Err (Damaged offset)) now began before view = IsSeen began before (Err (Damaged offset)) view
  LooksBy (Err Changed) now began before view = IsSeenAnew now before view
  LooksBy (Err Memory) now began before view = IsSeen began before (Err Memory) view

  -- a look behind what was folded since a moment
  abbrev pub LooksOn : ℕ → ℕ → MonitorData D → View D → Type 0
  LooksOn now began before view = (found : Result (Unit {0}) MonitorFault) × LooksBy found now began before view

  -- a look at a moment, from a view to the next one
  abbrev pub Looks : ℕ → View D → View D → Type 0
  Looks now (Shown monitor began damage) next = LooksOn now began monitor next
  Looks now (Unread monitor began fault) next = LooksOn now began monitor next
  Looks now (Shut disk fault) next = Opens now disk next
