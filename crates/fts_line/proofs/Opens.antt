-- A file of a link may start where a key of the link's block of queues is open.
use Rattle.std.proofs.Common.{◌≡◌, ℕ, ◌+◌, ◌*◌, ◌<◌, ◌/◌, Bool, true, false, cond, List, [], ◌∷◌, length, refl, ap, sym, ◌∙◌, arith}
use Rattle.std.specs.Prelude.{◌&&◌, ◌||◌, ◌==◌, nat_le, map}
use Rattle.std.specs.List.{AllByRecursion, list_any}
use Rattle.std.proofs.lemmas.Bool.{and_left, and_right, eqb-true, le-leb}
use Rattle.std.proofs.lemmas.Bool.Decides.{nat_tests}
use Rattle.fts_tables.specs.declared.settings.LinkAt.{LinkAt}
use Rattle.fts_queue.specs.declared.waiter.Waiter.{Waiter}
use Rattle.fts_queue.specs.declared.rooms.QueueRoom.{QueueRoom}
use Rattle.fts_queue.specs.WaitingData.{goes_before, is_ripe}
use Rattle.fts_queue.proofs.Sorting.{any_sorted}
use Rattle.fts_heads.specs.Blocks.{is_in_block}
use Rattle.fts_heads.specs.Heads.{HeadsData, is_free, is_open}
use Rattle.fts_heads.specs.declared.ripe_file.RipeFile.{RipeFile}
use Rattle.fts_line.specs.declared.key.TheConstants.{LATER}
use Rattle.fts_line.specs.LineData.{LineData, IsInside, dest_of, is_on, may_start_on}
use Rattle.fts_line.specs.Keys.{ripe_of, later_of, is_later, waiter_of, IsKeyed, AreKeyed, IsDue, AreDue}
use Rattle.fts_line.specs.Line.{waiting_of}
use Rattle.fts_line.proofs.Firsts.{open_is_free, unknown_is_shut}

-- two tests of which one is that of what an item is made, and which agree on each item that two things are known of, pass alike
any_made : {A B : Type 0} (P Q : A → Type 0) (test : A → Bool) (other : B → Bool) (f : A → B)
    → ((item : A) → P item → Q item → test item ≡ other (f item)) → (items : List A) → AllByRecursion P items → AllByRecursion Q items
    → list_any test items ≡ list_any other (map f items)
any_made P Q test other f alike [] one two = refl
any_made P Q test other f alike (first ∷ rest) one two =
    ap (λ (answer : Bool). answer || list_any test rest) (alike first one.0 two.0)
    ∙ ap (λ (answer : Bool). other (f first) || answer) (any_made P Q test other f alike rest one.1 two.1)

-- the block of a queue's number is that of its link
block_is : (source dest activity : ℕ) → dest < 256 → activity < 256 → ((source * 256 + dest) * 256 + activity) / 256 ≡ source * 256 + dest
block_is source dest activity d a = omega (arith, d, a)

-- and links have the same block where they are the same
same_block : (source dest other_source other_dest : ℕ) → dest < 256 → other_dest < 256
    → ((source * 256 + dest) == (other_source * 256 + other_dest)) ≡ ((source == other_source) && (dest == other_dest))
same_block source dest other_source other_dest d od = grind (arith, nat_tests)

-- a moment that is still to come is none that came
not_yet : (moment not_before : ℕ) → moment < not_before → nat_le not_before moment ≡ false
not_yet moment not_before less = grind (arith, nat_tests)

-- two tests that fail for one part each
neither : (block on ripe opens free : Bool) → opens ≡ false → ripe ≡ false → (block && opens) ≡ ((on && ripe) && free)
neither block on ripe opens free shut not_ripe =
    and_right block opens shut ∙ sym (and_left (on && ripe) free (and_right on ripe not_ripe))

-- and two whose parts agree
alike_parts : (block on ripe opens free : Bool) → block ≡ on → ripe ≡ true → opens ≡ free → (block && opens) ≡ ((on && ripe) && free)
alike_parts true true true opens free same is agree = agree
alike_parts false false ripe opens free same is agree = refl
alike_parts block on ripe opens free same is agree = cc

module _ (heads : HeadsData) (rests : List ℕ) (rooms : List QueueRoom) (dests : List ℕ) (moment : ℕ)
    (are : AreKeyed dests (length heads.busy) rests heads.files) (due : AreDue moment moment rests heads.files) (row_room : ℕ) (link : LinkAt)
    (inside : IsInside link 0) where
  abbrev view : LineData
  view = record { waiting = waiting_of heads rests rooms moment; dests = dests; busy = heads.busy; room = heads.room; row_room = row_room }

  abbrev stands_open : RipeFile → Bool
  stands_open key = is_in_block (link.source * 256 + link.dest) key && is_open heads.busy key.dest

  -- a key stands open in the block exactly where its file may start on the link
  module _ (key : RipeFile) (keyed : IsKeyed dests (length heads.busy) rests key) (is_due : IsDue moment moment rests key) where
    abbrev mine : Waiter
    mine = waiter_of rests key

    later_alike : is_later key ≡ true → stands_open key ≡ may_start_on view link mine
    later_alike later =
        neither (is_in_block (link.source * 256 + link.dest) key) (is_on link mine) (is_ripe moment mine) (is_open heads.busy key.dest)
        (is_free heads.busy (dest_of dests mine.file))
        (unknown_is_shut heads.busy key.dest (omega (arith, eqb-true key.dest LATER later, are.few)))
        (not_yet moment mine.not_before (is_due.later later))

    ripe_alike : is_later key ≡ false → stands_open key ≡ may_start_on view link mine
    ripe_alike ripe =
        let own : key ≡ ripe_of dests mine = keyed.own ∙ ap (λ (test : Bool). cond test (later_of mine) (ripe_of dests mine)) ripe in
        alike_parts (is_in_block (link.source * 256 + link.dest) key) (is_on link mine) (is_ripe moment mine) (is_open heads.busy key.dest)
        (is_free heads.busy (dest_of dests mine.file))
        (ap (λ (some : RipeFile). is_in_block (link.source * 256 + link.dest) some) own
        ∙ (ap (λ (block : ℕ). block == (link.source * 256 + link.dest))
        (block_is mine.link.source mine.link.dest mine.activity keyed.known.queue.to keyed.known.queue.under)
        ∙ same_block mine.link.source mine.link.dest link.source link.dest keyed.known.queue.to inside.to))
        (le-leb mine.not_before moment (is_due.past ripe))
        (ap (λ (some : RipeFile). is_open heads.busy some.dest) own ∙ open_is_free heads.busy (dest_of dests mine.file) keyed.known.dest)

    open_alike : stands_open key ≡ may_start_on view link mine
    open_alike = by_test (is_later key) refl
      where
        by_test : (answer : Bool) → is_later key ≡ answer → stands_open key ≡ may_start_on view link mine
        by_test true later = later_alike later
        by_test false ripe = ripe_alike ripe

  -- so one does where a file that waits may start
  pub opens_is : list_any stands_open heads.files ≡ list_any (may_start_on view link) view.waiting.waiters
  opens_is =
      any_made (IsKeyed dests (length heads.busy) rests) (IsDue moment moment rests) stands_open (may_start_on view link) (waiter_of rests)
      open_alike heads.files are.keyed due
      ∙ sym (any_sorted goes_before (may_start_on view link) (map (waiter_of rests) heads.files))
