-- The first of the files that wait that may start is the first in line.
use Rattle.std.proofs.Common.{◌≡◌, ◌⊎◌, inl, inr, ℕ, ◌+◌, ◌*◌, ◌<◌, ◌≤◌, Bool, true, false, cond, List, [], ◌∷◌, length, zero, suc, Some, None, refl, ap, sym, ◌∙◌, arith}
use Rattle.std.specs.Prelude.{◌&&◌, ◌==◌, nat_lt, find, option_map}
use Rattle.std.proofs.lemmas.Bool.{and_parts, eqb-true, eq-eqb, le-leb}
use Rattle.std.proofs.lemmas.Bool.Decides.{nat_tests}
use Rattle.ordered.specs.Orders.{has_key}
use Rattle.ordered.specs.ByNumbers.{is_first_by}
use Rattle.fts_tables.specs.declared.settings.LinkAt.{LinkAt}
use Rattle.fts_queue.specs.declared.waiter.Waiter.{Waiter}
use Rattle.fts_queue.specs.WaitingData.{WaitingData, AreSortedBy, goes_before, is_in, is_ripe}
use Rattle.fts_queue.specs.declared.rooms.QueueRoom.{QueueRoom}
use Rattle.fts_heads.specs.RipeFiles.{goes_by_group, goes_in_line}
use Rattle.fts_heads.specs.Heads.{HeadsData, IsFirstOf, is_free, is_open}
use Rattle.fts_heads.specs.declared.ripe_file.RipeFile.{RipeFile}
use Rattle.fts_line.specs.declared.key.TheConstants.{LATER}
use Rattle.fts_line.specs.LineData.{LineData, IsInside, IsKnown, dest_of, may_start, first_open}
use Rattle.fts_line.specs.Keys.{queue_of, rank_of, ripe_of, later_of, is_later, waiter_of, IsKeyed, AreKeyed, IsDue, AreDue}
use Rattle.fts_line.specs.Line.{waiting_of}
use Rattle.fts_line.proofs.Files.{IsOneOf, all_of}
use Rattle.fts_line.proofs.Lines.{both, stands_then, waits_so, of_key, waits_known}
use Rattle.fts_heads.specs.RipeFiles as files

to_false : (test : Bool) → (test ≡ true → true ≡ false) → test ≡ false
to_false true not_true = not_true refl
to_false false not_true = refl

no : {A : Type 0} → true ≡ false → A
no is = absurd (never is)
  where
    never : true ≡ false → ⊥
    never is = cc

-- a known destination is open where it is free, and an unknown one is not
pub open_is_free : (busy : List Bool) (dest : ℕ) → dest < length busy → is_open busy dest ≡ is_free busy dest
open_is_free [] dest inside = absurd (omega (arith, inside))
open_is_free (first ∷ rest) zero inside = refl
open_is_free (first ∷ rest) (suc dest) inside = open_is_free rest dest (omega (arith, inside))

pub unknown_is_shut : (busy : List Bool) (dest : ℕ) → length busy ≤ dest → is_open busy dest ≡ false
unknown_is_shut [] dest past = refl
unknown_is_shut (first ∷ rest) zero past = absurd (omega (arith, past))
unknown_is_shut (first ∷ rest) (suc dest) past = unknown_is_shut rest dest (omega (arith, past))

-- of files in order the first that passes is the one that none that passes goes before
pub find_least : (passes : Waiter → Bool) (waiters : List Waiter) (waiter : Waiter) → AreSortedBy goes_before waiters → IsOneOf waiter waiters
    → passes waiter ≡ true → ((other : Waiter) → IsOneOf other waiters → passes other ≡ true → goes_before other waiter ≡ false)
    → find passes waiters ≡ Some waiter
find_least passes [] waiter sorted among is least = absurd among
find_least passes (first ∷ rest) waiter sorted among is least =
    by_test (λ there. find_least passes rest waiter sorted.1 there is (λ other later. least other (inr later))) (passes first) refl among
  where
    by_test : (IsOneOf waiter rest → find passes rest ≡ Some waiter) → (answer : Bool) → passes first ≡ answer → (first ≡ waiter) ⊎ IsOneOf waiter rest
        → cond (passes first) (Some first) (find passes rest) ≡ Some waiter
    by_test behind true here (inl same) = ap (λ (test : Bool). cond test (Some first) (find passes rest)) here ∙ ap (λ (some : Waiter). Some some) same
    by_test behind true here (inr later) =
        no (sym (all_of (λ other. goes_before first other ≡ true) rest waiter sorted.0 later) ∙ least first (inl refl) here)
    by_test behind false here (inl same) = no (sym is ∙ (ap passes (sym same) ∙ here))
    by_test behind false here (inr later) = ap (λ (test : Bool). cond test (Some first) (find passes rest)) here ∙ behind later

pub find_none : (passes : Waiter → Bool) (waiters : List Waiter) → ((other : Waiter) → IsOneOf other waiters → passes other ≡ false)
    → find passes waiters ≡ None
find_none passes [] none = refl
find_none passes (first ∷ rest) none =
    ap (λ (test : Bool). cond test (Some first) (find passes rest)) (none first (inl refl)) ∙ find_none passes rest (λ other later. none other (inr later))

-- queues with one number are one
record AreOne (source dest activity other_source other_dest other_activity : ℕ) : Type 0 where
  source_same : source ≡ other_source
  dest_same : dest ≡ other_dest
  activity_same : activity ≡ other_activity

one_queue : (source dest activity other_source other_dest other_activity : ℕ) → dest < 256 → activity < 256 → other_dest < 256 → other_activity < 256
    → (source * 256 + dest) * 256 + activity ≡ (other_source * 256 + other_dest) * 256 + other_activity
    → AreOne source dest activity other_source other_dest other_activity
one_queue source dest activity other_source other_dest other_activity d a od oa same = record {
  source_same = omega (arith, d, a, od, oa, same);
  dest_same = omega (arith, d, a, od, oa, same);
  activity_same = omega (arith, d, a, od, oa, same);
}

-- what a priority lacks
lacks : (priority : ℕ) → priority < 4294967296 → rank_of priority + priority ≡ 4294967295
lacks priority small = omega (arith, small)

-- a file that goes before another of its queue does so in line
goes_too : (queue other_queue rank other_rank file other_file dest other_dest priority other_priority : ℕ) → queue ≡ other_queue → rank + priority ≡ 4294967295
    → other_rank + other_priority ≡ 4294967295 → is_first_by other_priority priority (nat_lt file other_file) ≡ true
    → is_first_by queue other_queue (is_first_by rank other_rank (is_first_by file other_file (nat_lt dest other_dest))) ≡ true
goes_too queue other_queue rank other_rank file other_file dest other_dest priority other_priority same one two goes = grind (arith, nat_tests)

same_first : (one other : ℕ) (rest : Bool) → one ≡ other → is_first_by one other rest ≡ rest
same_first one other rest same = grind (arith, nat_tests)

module _ (heads : HeadsData) (rests : List ℕ) (rooms : List QueueRoom) (dests : List ℕ) (moment : ℕ)
    (are : AreKeyed dests (length heads.busy) rests heads.files) (due : AreDue moment moment rests heads.files) (row_room : ℕ) (link : LinkAt) (activity : ℕ)
    (inside : IsInside link activity) where
  abbrev pub waiting : WaitingData
  waiting = waiting_of heads rests rooms moment

  abbrev pub view : LineData
  view = record { waiting = waiting; dests = dests; busy = heads.busy; room = heads.room; row_room = row_room }

  abbrev pub stands_open : RipeFile → Bool
  stands_open file = files.is_in (queue_of link activity) file && is_open heads.busy file.dest

  known : (waiter : Waiter) → IsOneOf waiter waiting.waiters → IsKnown dests (length heads.busy) waiter
  known waiter among = waits_known dests (length heads.busy) rests moment heads.files are due waiter among

  -- a file that may start is ripe, and stands open in the queue
  record StandsOpen (waiter : Waiter) : Type 0 where
    ripe : has_key goes_by_group (ripe_of dests waiter) heads.files ≡ true
    opens : stands_open (ripe_of dests waiter) ≡ true
    source : waiter.link.source ≡ link.source
    dest : waiter.link.dest ≡ link.dest
    under : waiter.activity ≡ activity

  to_stand : (waiter : Waiter) → IsOneOf waiter waiting.waiters → may_start view link activity waiter ≡ true → StandsOpen waiter
  to_stand waiter among may =
      let parts = and_parts (is_in link activity waiter && is_ripe moment waiter) (is_free heads.busy (dest_of dests waiter.file)) may in
      let ready = and_parts (is_in link activity waiter) (is_ripe moment waiter) parts.0 in
      let queued = and_parts ((waiter.link.source == link.source) && (waiter.link.dest == link.dest)) (waiter.activity == activity) ready.0 in
      let linked = and_parts (waiter.link.source == link.source) (waiter.link.dest == link.dest) queued.0 in
      let source : waiter.link.source ≡ link.source = eqb-true waiter.link.source link.source linked.0 in
      let dest : waiter.link.dest ≡ link.dest = eqb-true waiter.link.dest link.dest linked.1 in
      let under : waiter.activity ≡ activity = eqb-true waiter.activity activity queued.1 in
      let queue : queue_of waiter.link waiter.activity ≡ queue_of link activity = omega (arith, source, dest, under) in
      record {
        ripe = stands_then dests (length heads.busy) rests moment heads.files are due waiter among ready.1;
        opens = both _ _ (eq-eqb (queue_of waiter.link waiter.activity) (queue_of link activity) queue)
            (open_is_free heads.busy (dest_of dests waiter.file) (known waiter among).dest ∙ parts.1);
        source = source;
        dest = dest;
        under = under;
      }

  -- the first in line
  module _ (first : RipeFile) (is : IsFirstOf stands_open heads.files first) (sorted : AreSortedBy goes_before waiting.waiters) where
    abbrev mine : Waiter
    mine = waiter_of rests first

    among : IsOneOf mine waiting.waiters
    among = waits_so rests first heads.files is.there

    keyed : IsKeyed dests (length heads.busy) rests first
    keyed = of_key (IsKeyed dests (length heads.busy) rests) first heads.files are.keyed is.there

    opens : (files.is_in (queue_of link activity) first ≡ true) × (is_open heads.busy first.dest ≡ true)
    opens = and_parts (files.is_in (queue_of link activity) first) (is_open heads.busy first.dest) is.passing

    not_later : is_later first ≡ false
    not_later = to_false (is_later first) (λ later.
        sym opens.1 ∙ unknown_is_shut heads.busy first.dest (omega (arith, eqb-true first.dest LATER later, are.few)))

    own : first ≡ ripe_of dests mine
    own = keyed.own ∙ ap (λ (test : Bool). cond test (later_of mine) (ripe_of dests mine)) not_later

    past : is_ripe moment mine ≡ true
    past = le-leb mine.not_before moment ((of_key (IsDue moment moment rests) first heads.files due is.there).past not_later)

    passing : may_start view link activity mine ≡ true
    passing =
        let number : queue_of mine.link mine.activity ≡ queue_of link activity =
        ap (λ (some : RipeFile). some.queue) (sym own) ∙ eqb-true first.queue (queue_of link activity) opens.0 in
        let one = one_queue mine.link.source mine.link.dest mine.activity link.source link.dest activity keyed.known.queue.to keyed.known.queue.under
        inside.to inside.under number in
        both _ _
        (both _ _
        (both _ _
        (both _ _ (eq-eqb mine.link.source link.source one.source_same) (eq-eqb mine.link.dest link.dest one.dest_same))
        (eq-eqb mine.activity activity one.activity_same))
        past)
        (sym (open_is_free heads.busy (dest_of dests mine.file) keyed.known.dest)
        ∙ (ap (λ (some : RipeFile). is_open heads.busy some.dest) (sym own) ∙ opens.1))

    least : (other : Waiter) → IsOneOf other waiting.waiters → may_start view link activity other ≡ true → goes_before other mine ≡ false
    least other there may = to_false (goes_before other mine) (λ goes.
        let one = to_stand mine among passing in
        let two = to_stand other there may in
        let source : other.link.source ≡ mine.link.source = two.source ∙ sym one.source in
        let dest : other.link.dest ≡ mine.link.dest = two.dest ∙ sym one.dest in
        let under : other.activity ≡ mine.activity = two.under ∙ sym one.under in
        let queue : queue_of other.link other.activity ≡ queue_of mine.link mine.activity = omega (arith, source, dest, under) in
        let by_file : is_first_by mine.priority other.priority (nat_lt other.file mine.file) ≡ true =
        sym (same_first other.link.source mine.link.source _ source
        ∙ (same_first other.link.dest mine.link.dest _ dest
        ∙ same_first other.activity mine.activity _ under)) ∙ goes in
        sym (ap (goes_in_line (ripe_of dests other)) own
        ∙ goes_too (queue_of other.link other.activity) (queue_of mine.link mine.activity) (rank_of other.priority) (rank_of mine.priority)
        other.file mine.file (dest_of dests other.file) (dest_of dests mine.file) other.priority mine.priority queue
        (lacks other.priority (known other there).priority) (lacks mine.priority (known mine among).priority) by_file)
        ∙ is.least (ripe_of dests other) two.ripe two.opens)

    pub first_is : Some first.file ≡ first_open view link activity
    first_is =
        sym (ap (option_map (λ (waiter : Waiter). waiter.file))
        (find_least (may_start view link activity) waiting.waiters mine sorted among passing least)
        ∙ ap (λ (file : RipeFile). Some file.file) (sym own))

  pub none_is : ((file : RipeFile) → has_key goes_by_group file heads.files ≡ true → stands_open file ≡ false) → None ≡ first_open view link activity
  none_is none =
      sym (ap (option_map (λ (waiter : Waiter). waiter.file)) (find_none (may_start view link activity) waiting.waiters (λ waiter among.
      to_false (may_start view link activity waiter) (λ may.
      let stands = to_stand waiter among may in
      sym stands.opens ∙ none (ripe_of dests waiter) stands.ripe))))
