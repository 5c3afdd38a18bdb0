-- Moments in order that are counted: what stands there, what doesn't, and how many there are where a file's moment changes.
use Rattle.std.proofs.Common.{◌≡◌, ℕ, ◌+◌, ◌<◌, ◌≤◌, true, false, cond, List, [], ◌∷◌, length, Option, Some, None, refl, ap, arith}
use Rattle.std.specs.Prelude.{not, ◌==◌, count_by, is_some, IfSome}
use Rattle.std.proofs.lemmas.Bool.{or_from, eq-eqb, false_from_ne_true}
use Rattle.fts_tables.specs.Dues.{Due, is_due_before, AreInOrder}
use Rattle.ordered.specs.Orders.{AreSortedBy, differs, has_key}
use Rattle.ordered.proofs.Members.{one_of}
use Rattle.fts_index.specs.DueOrder.{dues_are_ordered}
use Rattle.fts_index.specs.DueLists.{DueList, due_at, counted, MayChange}
use Rattle.fts_index.proofs.TableLists.{count_by-cons}

-- sorted moments are in order, and the other way round
pub in_order : (dues : List Due) → AreSortedBy is_due_before dues → AreInOrder dues
in_order [] sorted = tt
in_order (due ∷ dues) sorted = (sorted.0, in_order dues sorted.1)

pub sorted_of : (dues : List Due) → AreInOrder dues → AreSortedBy is_due_before dues
sorted_of [] ordered = tt
sorted_of (due ∷ dues) ordered = (ordered.0, sorted_of dues ordered.1)

-- a file that has no moment there isn't there with one
pub absent_due : (file moment : ℕ) (dues : List Due) → count_by (λ (due : Due). due.file == file) dues ≡ 0
    → has_key is_due_before (due_at file moment) dues ≡ false
absent_due file moment [] none = refl
absent_due file moment (due ∷ dues) none =
    let split = count_by-cons (λ (other : Due). other.file == file) due dues in
    or_from (not (differs is_due_before due (due_at file moment))) (has_key is_due_before (due_at file moment) dues)
    (false_from_ne_true (not (differs is_due_before due (due_at file moment))) (λ is.
    let same : due ≡ due_at file moment = one_of is_due_before dues_are_ordered due (due_at file moment) is in
    let here : ◌≡◌ {A = ℕ} (cond (due.file == file) 1 0) 1 =
    ap (λ answer. cond answer 1 0) (eq-eqb due.file file (ap (λ (some : Due). some.file) same)) in
    omega (arith, none, split, here)))
    (absent_due file moment dues (omega (arith, none, split)))

-- all are as many as there are
pub count_all : {Item : Type 0} (items : List Item) → count_by (λ item. true) items ≡ length items
count_all [] = refl
count_all (item ∷ items) = omega (arith, count_by-cons (λ other. true) item items, count_all items)

-- a file with a moment is one, and without none
counted_all : (file : ℕ) (moment : Option ℕ) → counted (λ due. true) file moment ≡ cond (is_some moment) 1 0
counted_all file None = refl
counted_all file (Some from) = refl

-- a file that has gone leaves room for itself
pub room_after : (file : ℕ) (was is : Option ℕ) (list : DueList) (dues : List Due) (room : ℕ) → MayChange file was is list → list.files ≤ room
    → count_by (λ (due : Due). true) dues + counted (λ due. true) file was ≡ count_by (λ (due : Due). true) list.dues
    → IfSome is (λ from. length dues < room)
room_after file was None list dues room may inside counts = tt
room_after file was (Some from) list dues room may inside counts =
    omega (arith, may.fewer, inside, counts, counted_all file was, count_all dues, count_all list.dues)

-- and where it comes in again, no more files have a moment than may
pub few_after : (file : ℕ) (was is : Option ℕ) (list : DueList) (left dues : List Due) → MayChange file was is list → length list.dues ≤ list.files
    → count_by (λ (due : Due). true) left + counted (λ due. true) file was ≡ count_by (λ (due : Due). true) list.dues
    → count_by (λ (due : Due). true) dues ≡ count_by (λ (due : Due). true) left + counted (λ due. true) file is
    → length dues ≤ list.files
few_after file was None list left dues may few less more =
    omega (arith, few, less, more, count_all left, count_all dues, count_all list.dues)
few_after file was (Some from) list left dues may few less more =
    omega (arith, room_after file was (Some from) list left list.files may (omega arith) less, more, count_all left, count_all dues)
