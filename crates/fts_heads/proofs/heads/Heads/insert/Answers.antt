use Rattle.std.proofs.Common.{◌≡◌, Bool, ◌<◌, ◌+◌, true, false, List, ap, sym, ◌∙◌, subst, arith}
use Rattle.ordered.specs.Orders.{KeySet, AreSortedBy, put_by, has_key}
use Rattle.fts_heads.specs.declared.heads.TheConstants.{MOST_QUEUES, MOST_DESTS}
use Rattle.fts_heads.specs.declared.ripe_file.RipeFile.{RipeFile}
use Rattle.fts_heads.specs.declared.ripe_file.Lined.{Lined}
use Rattle.fts_heads.specs.RipeFiles.{goes_by_group}
use Rattle.fts_heads.specs.Keys.{is_line_before}
use Rattle.fts_heads.specs.Heads.{AreKept, is_open, is_lined, is_within, leads}
use Rattle.fts_heads.proofs.Ranges.{leader}
use Rattle.fts_heads.proofs.Walks.{fewer_lined}
use Rattle.fts_heads.proofs.Leads.{sole_entered}
use Rattle.fts_heads.proofs.Upkeep.{leads_put, kept_same, kept_apart, heads_again, group_left, left_waits, below_put, own_range}
use Rattle.fts_heads.proofs.heads.Heads.insert.Goals as goal
use Rattle.fts_heads.proofs.heads.Heads.insert.Goals.{After-insert-then-make_way}

pub invariant_of-self : goal.invariant_of-self
invariant_of-self c =
    let files = c.self.inside.files in
    let shut : is_open c.self.inside.busy.items c.args.file.dest ≡ false =
    ap (λ (busy : List Bool). is_open busy c.args.file.dest) (sym c.as_slice.ensures.value)
    ∙ (sym c.is_open.ensures.open ∙ c.if-not-is_open.true) in
    subst (λ (set : KeySet RipeFile). AreKept MOST_QUEUES MOST_DESTS c.self.inside.busy.items set c.self.inside.line) (sym c.insert.ensures.keys)
    (kept_apart c.self.inside.busy.items files c.self.inside.line MOST_QUEUES MOST_DESTS c.args.file.dest c.args.file.queue
    (put_by goes_by_group c.args.file files.keys) c.self.invariant shut (leads_put c.args.file files.keys)
    (below_put c.args.file files.keys MOST_QUEUES MOST_DESTS c.requires.queue c.self.invariant.below))

-- the files with one more, which leads, and the line that its group has left
module _ (c : After-insert-then-make_way) where
  opens : is_open c.self.inside.busy.items c.args.file.dest ≡ true
  opens =
      ap (λ (busy : List Bool). is_open busy c.args.file.dest) (sym c.as_slice.ensures.value)
      ∙ (sym c.is_open.ensures.open ∙ c.if-not-is_open.false)

  changed : (waiter : RipeFile) → is_within c.args.file.dest c.args.file.queue (c.args.file.queue + 1) waiter ≡ false
      → leads c.insert-then-make_way.new.self.keys waiter ≡ leads c.self.inside.files.keys waiter
  changed waiter apart =
      ap (λ (set : KeySet RipeFile). leads set.keys waiter) c.insert-then-make_way.ensures.keys ∙ leads_put c.args.file c.self.inside.files.keys waiter apart

  leading : leads c.insert-then-make_way.new.self.keys c.args.file ≡ true
  leading =
      ap (λ (set : KeySet RipeFile). leads set.keys c.args.file) c.insert-then-make_way.ensures.keys ∙ c.make_way.ensures.leads c.if-make_way.true

pub insert-requires-then-make_way-2-clause-absent : goal.insert-requires-then-make_way-2-clause-absent
insert-requires-then-make_way-2-clause-absent c =
    let here = (goal.at.insert-requires-then-make_way-2-clause-absent c).After-insert-then-make_way in
    group_left c.self.inside.busy.items c.self.inside.files.keys c.self.inside.line.keys c.self.invariant.heads c.args.file.dest c.args.file.queue
    c.insert-then-make_way.new.self.keys (changed here) c.make_way.new.line.keys (opens here) (c.make_way.ensures.left c.if-make_way.true) c.args.file
    (own_range c.args.file.dest c.args.file.queue)

pub insert-requires-then-make_way-2-clause-room : goal.insert-requires-then-make_way-2-clause-room
insert-requires-then-make_way-2-clause-room c =
    let here = (goal.at.insert-requires-then-make_way-2-clause-room c).After-insert-then-make_way in
    let files = c.self.inside.files.keys in
    let left = c.make_way.ensures.left c.if-make_way.true in
    let lines = subst (λ (set : KeySet Lined). AreSortedBy is_line_before set.keys) c.files.ensures.files c.len-then-make_way-2.ensures.order in
    let fewer =
    fewer_lined c.make_way.new.line.keys c.insert-then-make_way.new.self.keys c.args.file lines c.len-then-make_way.ensures.order
    (left_waits c.self.inside.busy.items files c.self.inside.line.keys c.self.invariant.heads c.args.file.dest c.args.file.queue
    c.insert-then-make_way.new.self.keys (changed here) c.make_way.new.line.keys (opens here) left)
    (leader c.insert-then-make_way.new.self.keys c.args.file (leading here)).there
    (group_left c.self.inside.busy.items files c.self.inside.line.keys c.self.invariant.heads c.args.file.dest c.args.file.queue
    c.insert-then-make_way.new.self.keys (changed here) c.make_way.new.line.keys (opens here) left c.args.file
    (own_range c.args.file.dest c.args.file.queue)) in
    omega (
      arith,
      fewer,
      c.len-then-make_way.ensures.room,
      ap (λ (set : KeySet RipeFile). set.room) c.insert-then-make_way.ensures.keys,
      c.self.invariant.room,
      c.make_way.ensures.room,
    )

pub invariant_of-self-then-make_way : goal.invariant_of-self-then-make_way
invariant_of-self-then-make_way c =
    let here = (goal.at.invariant_of-self-then-make_way c).After-insert-then-make_way in
    let files = c.self.inside.files.keys in
    record {
      heads = heads_again c.self.inside.busy.items files c.self.inside.line.keys c.self.invariant.heads c.args.file.dest c.args.file.queue
          c.insert-then-make_way.new.self.keys (changed here) c.make_way.new.line.keys (opens here) (c.make_way.ensures.left c.if-make_way.true)
          c.insert-then-make_way-2.new.self.keys
          (λ waiter. ap (λ (set : KeySet Lined). is_lined set.keys waiter) c.insert-then-make_way-2.ensures.keys
          ∙ sole_entered c.args.file c.insert-then-make_way.new.self.keys c.make_way.new.line.keys (leading here) waiter);
      few = c.self.invariant.few;
      below = subst
          (λ (set : KeySet RipeFile). (waiter : RipeFile) → has_key goes_by_group waiter set.keys ≡ true → waiter.dest < MOST_DESTS → waiter.queue < MOST_QUEUES)
          (sym c.insert-then-make_way.ensures.keys) (below_put c.args.file files MOST_QUEUES MOST_DESTS c.requires.queue c.self.invariant.below);
      room = omega (
        arith,
        c.self.invariant.room,
        c.make_way.ensures.room,
        ap (λ (set : KeySet Lined). set.room) c.insert-then-make_way-2.ensures.keys,
        ap (λ (set : KeySet RipeFile). set.room) c.insert-then-make_way.ensures.keys,
      );
    }

pub invariant_of-self-else-make_way : goal.invariant_of-self-else-make_way
invariant_of-self-else-make_way c =
    let files = c.self.inside.files in
    let same = sym (c.make_way.ensures.stays c.if-make_way.false) in
    subst (λ (set : KeySet RipeFile). AreKept MOST_QUEUES MOST_DESTS c.self.inside.busy.items set c.make_way.new.line) (sym c.insert-else-make_way.ensures.keys)
    (subst (λ line. AreKept MOST_QUEUES MOST_DESTS c.self.inside.busy.items (record files { keys = put_by goes_by_group c.args.file files.keys }) line) same
    (kept_same c.self.inside.busy.items files c.self.inside.line MOST_QUEUES MOST_DESTS (put_by goes_by_group c.args.file files.keys) c.self.invariant
    (c.make_way.ensures.settled c.if-make_way.false)
    (below_put c.args.file files.keys MOST_QUEUES MOST_DESTS c.requires.queue c.self.invariant.below)))
