-- Queues that a walk need not look at: those from a source that ranks behind, where the best link so far holds nothing.
use Rattle.std.proofs.Common.{◌≡◌, ℕ, zero, suc, ◌+◌, ◌<◌, ◌≤◌, ◌⊎◌, inl, inr, Bool, true, false, List, length, take, map, Option, Some, None, refl, ap, sym, ◌∙◌, subst, arith}
use Rattle.std.specs.Prelude.{◌&&◌, nat_le, filter, slice_get, slice_index_or, option_map}
use Rattle.std.specs.List.{prefix_len}
use Rattle.std.proofs.lemmas.Bool.{le-leb, leb-true, leb-false, and_right}
use Rattle.std.proofs.lemmas.List.{take_all}
use Rattle.std.proofs.lemmas.List.Sums.{prefix_len_passes, prefix_len_stops}
use Rattle.std.proofs.lemmas.Option.{same_Some, slice_get_cases, slice_get_within, get_or_from_slice_get}
use Rattle.fts_tables.specs.Choice.{least}
use Rattle.fts_tables.specs.declared.settings.LinkAt.{LinkAt}
use Rattle.fts_queue.specs.declared.rooms.QueueRoom.{QueueRoom}
use Rattle.fts_queue.specs.WaitingData.{AreQueuesInOrder}
use Rattle.fts_line.proofs.Sources.{sources_rise, up_to}
use Rattle.fts_claims.specs.declared.links.Standing.{Standing}
use Rattle.fts_claims.specs.Ties.{ClaimData}
use Rattle.fts_claims.specs.Claims.{is_inside, has_chance, chances, is_link_before, standing_of, stands_before, ArePassed}
use Rattle.fts_claims.proofs.Picked.{next_best}
use Rattle.fts_claims.proofs.Standings.{as_links}

-- how many queues are from sources up to one
abbrev pub count_up_to : ℕ → List QueueRoom → ℕ
count_up_to source rooms = prefix_len (λ room. nat_le room.link.source source) rooms

module _ (rooms : List QueueRoom) (sorted : AreQueuesInOrder rooms) (number : ℕ) (first : QueueRoom) (at : slice_get rooms number ≡ Some first) where
  here : slice_index_or rooms number first ≡ first
  here = get_or_from_slice_get rooms number first first at

  -- a queue is among those up to its own source
  pub further : number < count_up_to first.link.source rooms
  further = by_case (slice_get_cases rooms (count_up_to first.link.source rooms)).1
    where
      passes : QueueRoom → Bool
      passes room = nat_le room.link.source first.link.source

      own : passes (slice_index_or rooms number first) ≡ true
      own = le-leb _ _ (omega (arith, ap (λ (room : QueueRoom). room.link.source) here))

      by_case : ((x : QueueRoom) × (count_up_to first.link.source rooms < length rooms) × (slice_get rooms (count_up_to first.link.source rooms) ≡ Some x)
          × (slice_index_or rooms (count_up_to first.link.source rooms) x ≡ x))
          ⊎ ((length rooms ≤ count_up_to first.link.source rooms) × (slice_get rooms (count_up_to first.link.source rooms) ≡ None))
          → number < count_up_to first.link.source rooms
      by_case (inr past) = omega (arith, past.0, slice_get_within rooms number first at)
      by_case (inl inside) = by_order (nat_le (count_up_to first.link.source rooms) number) refl
        where
          stops : passes (slice_index_or rooms (count_up_to first.link.source rooms) first) ≡ false
          stops = prefix_len_stops passes rooms first inside.1

          by_order : (answer : Bool) → nat_le (count_up_to first.link.source rooms) number ≡ answer → number < count_up_to first.link.source rooms
          by_order false not_past = leb-false (count_up_to first.link.source rooms) number not_past
          by_order true past = absurd (never (sym (up_to first.link.source rooms sorted (count_up_to first.link.source rooms) number first
              (leb-true _ _ past) (slice_get_within rooms number first at) own) ∙ stops))
            where
              never : true ≡ false → ⊥
              never is = cc

  -- and all behind it there are from that source
  pub same_source : (other : ℕ) (room : QueueRoom) → number + 1 ≤ other → other < count_up_to first.link.source rooms → slice_get rooms other ≡ Some room
      → room.link.source ≡ first.link.source
  same_source other room behind before found =
      let there = get_or_from_slice_get rooms other room first found in
      let least = sources_rise rooms sorted number other first (omega (arith, behind)) (slice_get_within rooms other room found) in
      let most = leb-true _ _ (prefix_len_passes (λ (some : QueueRoom). nat_le some.link.source first.link.source) rooms other first before) in
      omega (
        arith,
        least,
        most,
        ap (λ (some : QueueRoom). some.link.source) here,
        ap (λ (some : QueueRoom). some.link.source) there,
      )

-- no link from a source that ranks behind is better
pub sources_passed : (flags : List Bool) (view : ClaimData) (best : Standing) → AreQueuesInOrder view.line.waiting.rooms → best ≡ standing_of view best.link
    → is_inside view.settings best.link ≡ true → (number : ℕ) (first : QueueRoom) → slice_get view.line.waiting.rooms number ≡ Some first
    → ((other : LinkAt) → other.source ≡ first.link.source → stands_before (standing_of view other) best ≡ false)
    → ArePassed flags view (Some best.link) (number + 1) (count_up_to first.link.source view.line.waiting.rooms)
sources_passed flags view best sorted own inside number first at past other room behind before found =
    by_ends (is_inside view.settings room.link) refl
  where
    no_better : stands_before (standing_of view room.link) (standing_of view best.link) ≡ false
    no_better =
        ap (stands_before (standing_of view room.link)) (sym own)
        ∙ past room.link (same_source view.line.waiting.rooms sorted number first at other room behind before found)

    by_ends : (answer : Bool) → is_inside view.settings room.link ≡ answer
        → (has_chance flags view room.link room.activity && is_link_before view room.link best.link) ≡ false
    by_ends true ends =
        and_right (has_chance flags view room.link room.activity) (is_link_before view room.link best.link)
        (sym (as_links view room.link best.link ends inside) ∙ no_better)
    by_ends false ends = outside (is_inside view.settings room.link) _ _ _ _ ends
      where
        outside : (ends slots free waits better : Bool) → ends ≡ false → ((((ends && slots) && free) && waits) && better) ≡ false
        outside false slots free waits better is = refl
        outside true slots free waits better is = cc

-- the best link of the queues in front of a number
abbrev pub best_of : List Bool → ClaimData → ℕ → Option LinkAt
best_of flags view number = least (is_link_before view)
    (map (λ (room : QueueRoom). room.link) (filter (λ (room : QueueRoom). has_chance flags view room.link room.activity) (take number view.line.waiting.rooms)))

-- in front of the end stand all queues
pub best_of_all : (flags : List Bool) (view : ClaimData) (number : ℕ) → length view.line.waiting.rooms ≤ number
    → best_of flags view number ≡ least (is_link_before view) (chances flags view)
best_of_all flags view number all =
    ap (λ (rooms : List QueueRoom). least (is_link_before view)
    (map (λ (room : QueueRoom). room.link) (filter (λ (room : QueueRoom). has_chance flags view room.link room.activity) rooms)))
    (take_all number view.line.waiting.rooms all)

-- it stays over queues that are passed
pub best_stays : (flags : List Bool) (view : ClaimData) (best : Option LinkAt) (from more : ℕ) → from + more ≤ length view.line.waiting.rooms
    → ArePassed flags view best from (from + more) → best ≡ best_of flags view from → best ≡ best_of flags view (from + more)
best_stays flags view best from zero inside passed so_far = so_far ∙ ap (best_of flags view) (omega arith)
best_stays flags view best from (suc more) inside passed so_far =
    by_case (best_stays flags view best from more (omega (arith, inside))
    (λ number room least most found. passed number room least (omega (arith, most)) found) so_far) (slice_get_cases view.line.waiting.rooms (from + more)).1
  where
    by_case : best ≡ best_of flags view (from + more) → ((x : QueueRoom) × (from + more < length view.line.waiting.rooms) × (slice_get view.line.waiting.rooms (from + more) ≡ Some x)
        × (slice_index_or view.line.waiting.rooms (from + more) x ≡ x))
        ⊎ ((length view.line.waiting.rooms ≤ from + more) × (slice_get view.line.waiting.rooms (from + more) ≡ None))
        → best ≡ best_of flags view (from + suc more)
    by_case before (inr past) = absurd (omega (arith, past.0, inside))
    by_case before (inl found) =
        next_best flags view (from + more) best best found.0.link found.0.activity false (ap (option_map (λ (room : QueueRoom). room.link)) found.2)
        (ap (option_map (λ (room : QueueRoom). room.activity)) found.2) (sym (passed (from + more) found.0 (omega arith) (omega arith) found.2)) refl before
        ∙ ap (best_of flags view) (omega arith)

-- the same by the link of a queue at a number
record IsAt (found : Option QueueRoom) (link : LinkAt) : Type 0 where
  pub room : QueueRoom
  pub is : found ≡ Some room
  pub same : room.link ≡ link

room_at : (found : Option QueueRoom) (link : LinkAt) → option_map (λ (room : QueueRoom). room.link) found ≡ Some link → IsAt found link
room_at None link at = cc
room_at (Some room) link at = record { room = room; is = refl; same = same_Some room.link link at }

pub further_on : (rooms : List QueueRoom) → AreQueuesInOrder rooms → (number : ℕ) (link : LinkAt)
    → option_map (λ (room : QueueRoom). room.link) (slice_get rooms number) ≡ Some link → number < count_up_to link.source rooms
further_on rooms sorted number link at =
    let found = room_at (slice_get rooms number) link at in
    subst (λ (link : LinkAt). number < count_up_to link.source rooms) found.same (further rooms sorted number found.room found.is)

pub passed_on : (flags : List Bool) (view : ClaimData) (best : Standing) → AreQueuesInOrder view.line.waiting.rooms → best ≡ standing_of view best.link
    → is_inside view.settings best.link ≡ true → (number : ℕ) (link : LinkAt)
    → option_map (λ (room : QueueRoom). room.link) (slice_get view.line.waiting.rooms number) ≡ Some link
    → ((other : LinkAt) → other.source ≡ link.source → stands_before (standing_of view other) best ≡ false)
    → ArePassed flags view (Some best.link) (number + 1) (count_up_to link.source view.line.waiting.rooms)
passed_on flags view best sorted own inside number link at past =
    let found = room_at (slice_get view.line.waiting.rooms number) link at in
    subst (λ (link : LinkAt). ArePassed flags view (Some best.link) (number + 1) (count_up_to link.source view.line.waiting.rooms)) found.same
    (sources_passed flags view best sorted own inside number found.room found.is
    (λ other same. past other (same ∙ ap (λ (link : LinkAt). link.source) found.same)))
