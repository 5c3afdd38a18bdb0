-- Queues stand in the order of their sources, so those up to a source are the first of all.
use Rattle.std.proofs.Common.{◌≡◌, ℕ, zero, suc, ◌<◌, ◌≤◌, Bool, true, false, List, [], ◌∷◌, length, sym, arith}
use Rattle.std.specs.Prelude.{nat_le, slice_index_or}
use Rattle.std.specs.List.{AllByRecursion, prefix_len}
use Rattle.std.specs.List.Sorted.{IsPartitionPoint}
use Rattle.std.proofs.lemmas.Bool.Decides.{nat_tests}
use Rattle.std.proofs.lemmas.List.Sums.{prefix_len_is}
use Rattle.fts_queue.specs.declared.rooms.QueueRoom.{QueueRoom}
use Rattle.fts_queue.specs.WaitingData.{is_first_by, is_queue_before, AreQueuesInOrder}

-- a queue before one from a source up to one is from such a source
lesser : (one other source : ℕ) (rest : Bool) → is_first_by one other rest ≡ true → nat_le other source ≡ true → nat_le one source ≡ true
lesser one other source rest before is = grind (arith, nat_tests)

-- of two queues the first is from no greater source
rises : (one other : ℕ) (rest : Bool) → is_first_by one other rest ≡ true → one ≤ other
rises one other rest before = grind (arith, nat_tests)

at_place : (P : QueueRoom → Type 0) (rooms : List QueueRoom) (i : ℕ) (d : QueueRoom) → AllByRecursion P rooms → i < length rooms → P (slice_index_or rooms i d)
at_place P [] i d all inside = absurd (omega (arith, inside))
at_place P (first ∷ rest) zero d all inside = all.0
at_place P (first ∷ rest) (suc i) d all inside = at_place P rest i d all.1 (omega (arith, inside))

-- the sources never fall
pub sources_rise : (rooms : List QueueRoom) → AreQueuesInOrder rooms → (i j : ℕ) (d : QueueRoom) → i < j → j < length rooms
    → (slice_index_or rooms i d).link.source ≤ (slice_index_or rooms j d).link.source
sources_rise [] sorted i j d less inside = absurd (omega (arith, inside))
sources_rise (first ∷ rest) sorted i zero d less inside = absurd (omega (arith, less))
sources_rise (first ∷ rest) sorted zero (suc j) d less inside =
    let later = slice_index_or rest j d in
    let before : is_queue_before first.link first.activity later.link later.activity ≡ true =
    at_place (λ later. is_queue_before first.link first.activity later.link later.activity ≡ true) rest j d sorted.0 (omega (arith, inside)) in
    rises first.link.source later.link.source _ before
sources_rise (first ∷ rest) sorted (suc i) (suc j) d less inside = sources_rise rest sorted.1 i j d (omega (arith, less)) (omega (arith, inside))

-- so whatever stands in front of a queue up to a source is up to it
pub up_to : (source : ℕ) (rooms : List QueueRoom) → AreQueuesInOrder rooms → (i j : ℕ) (d : QueueRoom) → i ≤ j → j < length rooms
    → nat_le (slice_index_or rooms j d).link.source source ≡ true → nat_le (slice_index_or rooms i d).link.source source ≡ true
up_to source [] sorted i j d least inside is = absurd (omega (arith, inside))
up_to source (first ∷ rest) sorted zero zero d least inside is = is
up_to source (first ∷ rest) sorted zero (suc j) d least inside is =
    let later = slice_index_or rest j d in
    let before : is_queue_before first.link first.activity later.link later.activity ≡ true =
    at_place (λ later. is_queue_before first.link first.activity later.link later.activity ≡ true) rest j d sorted.0 (omega (arith, inside)) in
    lesser first.link.source later.link.source source _ before is
up_to source (first ∷ rest) sorted (suc i) zero d least inside is = absurd (omega (arith, least))
up_to source (first ∷ rest) sorted (suc i) (suc j) d least inside is = up_to source rest sorted.1 i j d (omega (arith, least)) (omega (arith, inside)) is

-- where a test parts the queues is how many pass it from the front
pub parted_at : (passes : QueueRoom → Bool) (rooms : List QueueRoom) (number : ℕ) → number ≤ length rooms
    → IsPartitionPoint (λ room. passes room ≡ true) (λ room. passes room ≡ false) rooms number → number ≡ prefix_len passes rooms
parted_at passes rooms number inside point =
    sym (prefix_len_is passes rooms number none inside (λ k less. point.0 k none (omega arith) less) (λ less. point.1 number none (omega arith) less))
  where
    none : QueueRoom
    none = record { link = record { source = 0; dest = 0 }; activity = 0; room = 0 }
