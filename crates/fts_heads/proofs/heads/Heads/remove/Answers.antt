use Rattle.std.proofs.Common.{◌≡◌, Bool, ◌<◌, ◌+◌, true, false, List, refl, ap, sym, ◌∙◌, subst, arith}
use Rattle.std.specs.Prelude.{not, ◌&&◌}
use Rattle.std.proofs.lemmas.Bool.{and_parts}
use Rattle.ordered.specs.Orders.{KeySet, without, has_key}
use Rattle.fts_heads.specs.declared.heads.TheConstants.{MOST_QUEUES, MOST_DESTS}
use Rattle.fts_heads.specs.declared.ripe_file.RipeFile.{RipeFile}
use Rattle.fts_heads.specs.declared.ripe_file.Lined.{Lined}
use Rattle.fts_heads.specs.RipeFiles.{goes_by_group}
use Rattle.fts_heads.specs.Heads.{HeadsData, AreKept, is_open, is_lined, is_within, leads}
use Rattle.fts_heads.proofs.Upkeep.{leads_without, kept_same, kept_apart, heads_again, left_apart, left_waits, below_without}
use Rattle.fts_heads.proofs.Firsts.{leads_less}
use Rattle.fts_heads.proofs.Leads.{sole_left}
use Rattle.fts_heads.proofs.heads.Heads.remove.Goals as goal
use Rattle.fts_heads.proofs.heads.Heads.remove.Goals.{After-remove-else-not-take}

pub invariant_of-self : goal.invariant_of-self
invariant_of-self c =
    let files = c.self.inside.files in
    subst (λ (set : KeySet RipeFile). AreKept MOST_QUEUES MOST_DESTS c.self.inside.busy.items set c.self.inside.line) (sym c.remove.ensures.keys)
    (kept_apart c.self.inside.busy.items files c.self.inside.line MOST_QUEUES MOST_DESTS c.args.file.dest c.args.file.queue
    (without goes_by_group c.args.file files.keys) c.self.invariant
    (ap (λ (busy : List Bool). is_open busy c.args.file.dest) (sym c.as_slice.ensures.value) ∙ (sym c.is_open.ensures.open ∙ c.if-not-is_open.true))
    (leads_without c.args.file files.keys) (below_without c.args.file files.keys MOST_QUEUES MOST_DESTS c.self.invariant.below))

-- a file less that led, and the line that it has left
module _ (c : After-remove-else-not-take) where
  opens : is_open c.self.inside.busy.items c.args.file.dest ≡ true
  opens =
      ap (λ (busy : List Bool). is_open busy c.args.file.dest) (sym c.as_slice.ensures.value)
      ∙ (sym c.is_open.ensures.open ∙ c.if-not-is_open.false)

  changed : (waiter : RipeFile) → is_within c.args.file.dest c.args.file.queue (c.args.file.queue + 1) waiter ≡ false
      → leads c.remove-else-not-take.new.self.keys waiter ≡ leads c.self.inside.files.keys waiter
  changed waiter apart =
      ap (λ (set : KeySet RipeFile). leads set.keys waiter) c.remove-else-not-take.ensures.keys
      ∙ leads_without c.args.file c.self.inside.files.keys waiter apart

  leading : leads c.self.inside.files.keys c.args.file ≡ true
  leading =
      (and_parts (is_open c.self.inside.busy.items c.args.file.dest) (leads c.self.inside.files.keys c.args.file)
      (sym (c.self.invariant.heads.lined c.args.file) ∙ sym c.if-not-take.ensures.answer)).1

  left : (waiter : RipeFile) → is_lined c.take.new.self.keys waiter
      ≡ (is_lined c.self.inside.line.keys waiter
      && not (is_within c.args.file.dest c.args.file.queue (c.args.file.queue + 1) waiter && leads c.self.inside.files.keys waiter))
  left waiter =
      ap (λ (set : KeySet Lined). is_lined set.keys waiter) (c.if-not-take.ensures.taken refl)
      ∙ sole_left c.args.file c.self.inside.files.keys c.self.inside.line.keys leading waiter

pub follow-requires-clause-apart : goal.follow-requires-clause-apart
follow-requires-clause-apart c =
    let here = (goal.at.follow-requires-clause-apart c).After-remove-else-not-take in
    left_apart c.self.inside.busy.items c.self.inside.files.keys c.self.inside.line.keys c.self.invariant.heads c.args.file.dest c.args.file.queue
    c.remove-else-not-take.new.self.keys (changed here) c.take.new.self.keys (opens here) (left here)

pub follow-requires-clause-wait : goal.follow-requires-clause-wait
follow-requires-clause-wait c =
    let here = (goal.at.follow-requires-clause-wait c).After-remove-else-not-take in
    left_waits c.self.inside.busy.items c.self.inside.files.keys c.self.inside.line.keys c.self.invariant.heads c.args.file.dest c.args.file.queue
    c.remove-else-not-take.new.self.keys (changed here) c.take.new.self.keys (opens here) (left here)

pub invariant_of-self-else-not-take : goal.invariant_of-self-else-not-take
invariant_of-self-else-not-take c =
    let here = (goal.at.invariant_of-self-else-not-take c).After-remove-else-not-take in
    let files = c.self.inside.files.keys in
    record {
      heads = heads_again c.self.inside.busy.items files c.self.inside.line.keys c.self.invariant.heads c.args.file.dest c.args.file.queue
          c.remove-else-not-take.new.self.keys (changed here) c.take.new.self.keys (opens here) (left here) c.follow.new.line.keys c.follow.ensures.lined;
      few = c.self.invariant.few;
      below = subst
          (λ (set : KeySet RipeFile). (waiter : RipeFile) → has_key goes_by_group waiter set.keys ≡ true → waiter.dest < MOST_DESTS → waiter.queue < MOST_QUEUES)
          (sym c.remove-else-not-take.ensures.keys) (below_without c.args.file files MOST_QUEUES MOST_DESTS c.self.invariant.below);
      room = omega (
        arith,
        c.self.invariant.room,
        c.follow.ensures.room,
        ap (λ (set : KeySet Lined). set.room) (c.if-not-take.ensures.taken refl),
        ap (λ (set : KeySet RipeFile). set.room) c.remove-else-not-take.ensures.keys,
      );
    }

pub invariant_of-self-then-not-take : goal.invariant_of-self-then-not-take
invariant_of-self-then-not-take c =
    let files = c.self.inside.files in
    let opens : is_open c.self.inside.busy.items c.args.file.dest ≡ true =
    ap (λ (busy : List Bool). is_open busy c.args.file.dest) (sym c.as_slice.ensures.value)
    ∙ (sym c.is_open.ensures.open ∙ c.if-not-is_open.false) in
    let there : has_key goes_by_group c.args.file files.keys ≡ true =
    ap (λ (waiting : HeadsData). has_key goes_by_group c.args.file waiting.files) c.self.view_is ∙ c.requires.there in
    let behind : leads files.keys c.args.file ≡ false =
    ap (λ (test : Bool). test && leads files.keys c.args.file) (sym opens)
    ∙ (sym (c.self.invariant.heads.lined c.args.file) ∙ sym c.if-not-take.ensures.answer) in
    subst (λ (set : KeySet RipeFile). AreKept MOST_QUEUES MOST_DESTS c.self.inside.busy.items set c.take.new.self) (sym c.remove-then-not-take.ensures.keys)
    (subst (AreKept MOST_QUEUES MOST_DESTS c.self.inside.busy.items (record files { keys = without goes_by_group c.args.file files.keys }))
    (sym (c.if-not-take.ensures.left refl))
    (kept_same c.self.inside.busy.items files c.self.inside.line MOST_QUEUES MOST_DESTS (without goes_by_group c.args.file files.keys) c.self.invariant
    (leads_less c.args.file files.keys c.len.ensures.order there behind)
    (below_without c.args.file files.keys MOST_QUEUES MOST_DESTS c.self.invariant.below)))
