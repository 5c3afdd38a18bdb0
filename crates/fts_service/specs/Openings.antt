-- Lanes whose doors are opened: nothing is taken of them, and of a failure their counts tell.
use Rattle.std.specs.Prelude.{◌≡◌, ℕ, zero, suc, ◌≤◌, ◌⊎◌, IsTrue, List, [], ◌∷◌}
use Rattle.fts_tables.specs.Counts.{Rose}
use Rattle.fts_service.specs.declared.lane.Lane.{Lane}
use Rattle.fts_service.specs.declared.doors.Doors as doors

-- a lane whose doors were opened, or tried: it has its clock, its lines to come and those that came back
pub record IsOpened {A C L : Type 0} (all_doors : doors.Ghosts A L) (old new : Lane A C L) : Type 0 where
  pub untaken : all_doors.doors new.doors ≡ all_doors.doors old.doors
  pub clock : new.clock ≡ old.clock
  pub counts : all_doors.faults old.doors ≤ all_doors.faults new.doors

-- each of the first ones, so many; the others stay
abbrev pub AreOpened : {A C L : Type 0} → doors.Ghosts A L → ℕ → List (Lane A C L) → List (Lane A C L) → Type 0
AreOpened all_doors zero olds news = news ≡ olds
AreOpened all_doors (suc more) [] [] = Unit {0}
AreOpened all_doors (suc more) [] (new ∷ news) = ⊥
AreOpened all_doors (suc more) (old ∷ olds) [] = ⊥
AreOpened all_doors (suc more) (old ∷ olds) (new ∷ news) = IsOpened all_doors old new × AreOpened all_doors more olds news

-- each of the first ones, so many, has a listener
abbrev pub FirstListen : {A C L : Type 0} → doors.Ghosts A L → ℕ → List (Lane A C L) → Type 0
FirstListen all_doors zero lanes = Unit {0}
FirstListen all_doors (suc more) [] = Unit {0}
FirstListen all_doors (suc more) (lane ∷ lanes) = IsTrue (all_doors.listens lane.doors) × FirstListen all_doors more lanes

-- the doors of one of these failed
abbrev pub SomeRose : {A C L : Type 0} → doors.Ghosts A L → List (Lane A C L) → List (Lane A C L) → Type 0
SomeRose all_doors [] news = ⊥
SomeRose all_doors (old ∷ olds) [] = ⊥
SomeRose all_doors (old ∷ olds) (new ∷ news) = Rose (all_doors.faults old.doors) (all_doors.faults new.doors) ⊎ SomeRose all_doors olds news
