use Rattle.std.proofs.Common.{◌≡◌, suc, ◌+◌, ◌-◌, ◌<◌, [], length, ap, sym, ◌∙◌, subst, arith}
use Rattle.std.proofs.lemmas.List.{get_or_read}
use Rattle.ordered.specs.declared.chunk.TheConstants.{CHUNK_HALF}
use Rattle.ordered.specs.Chunks.{joined, chunk_at, AreFit}
use Rattle.ordered.proofs.Fits.{lost_half, fit_taken, fit_given, fit_merged_next, fit_merged_front}
use Rattle.ordered.proofs.Places.{joined_parted, joined_merged}
use Rattle.ordered.proofs.Edits.{next_read}
use Rattle.ordered.proofs.chunks.close_up.Goals as goal
use Rattle.ordered.proofs.chunks.close_up.Goals.{Else-len-eq1, Then-here-lt-CHUNK_HALF, Then-at-len, Else-at-len}

-- there are several chunks, and this one is too small
several : (g : _) (c : Else-len-eq1 g) → length c.args.chunks.now.items ≡ 1 → ⊥
several g c is = omega (arith, is, c.if-len-eq1.false, c.len.ensures, c.args.chunks.now.ok.0)

less : (g : _) (c : Then-here-lt-CHUNK_HALF g) → length (chunk_at c.args.chunks.now.items c.args.at) < CHUNK_HALF
less g c =
    omega (
      arith,
      c.if-here-lt-CHUNK_HALF.true,
      c.len-here.ensures.len,
      ap length (get_or_read c.args.chunks.now.items c.args.at c.index.result.now c.requires.inside c.index.ensures []),
    )

-- one is behind it, or it is the last
next : (g : _) (c : Then-at-len g) → c.args.at + 1 < length c.args.chunks.now.items
next g c = omega (arith, c.if-at-len.true, c.len-then-here-lt-CHUNK_HALF.ensures, c.args.chunks.now.ok.0)

last : (g : _) (c : Else-at-len g) → c.args.at ≡ suc (c.args.at - 1)
last g c =
    omega (
      arith,
      c.requires.inside,
      c.if-at-len.false,
      c.if-len-eq1.false,
      c.len.ensures,
      c.len-then-here-lt-CHUNK_HALF.ensures,
      c.args.chunks.now.ok.0,
    )

pub returns-then-len-gt-CHUNK_HALF-clause-keys : goal.returns-then-len-gt-CHUNK_HALF-clause-keys
returns-then-len-gt-CHUNK_HALF-clause-keys g c =
    let there = (goal.at.returns-then-len-gt-CHUNK_HALF-clause-keys g c).Then-at-len in
    ap joined c.take_from_next.ensures.chunks
    ∙ joined_parted c.args.chunks.now.items c.args.at (length (chunk_at c.args.chunks.now.items c.args.at) + 1) (omega (arith, next g there))

pub returns-then-len-gt-CHUNK_HALF-clause-fit : goal.returns-then-len-gt-CHUNK_HALF-clause-fit
returns-then-len-gt-CHUNK_HALF-clause-fit g c =
    let at = goal.at.returns-then-len-gt-CHUNK_HALF-clause-fit g c in
    let behind = ap length (next_read c.args.chunks.now.items c.args.at c.index-then-at-len.result.now (next g at.Then-at-len) c.index-then-at-len.ensures) in
    subst (λ chunks. AreFit chunks) (sym c.take_from_next.ensures.chunks)
    (fit_taken c.args.chunks.now.items c.args.at c.requires.inside c.requires.lost (several g at.Else-len-eq1) (less g at.Then-here-lt-CHUNK_HALF)
    (omega (arith, next g at.Then-at-len)) (omega (arith, c.if-len-gt-CHUNK_HALF.true, c.len-then-at-len.ensures.len, behind)))

pub returns-else-len-gt-CHUNK_HALF-clause-keys : goal.returns-else-len-gt-CHUNK_HALF-clause-keys
returns-else-len-gt-CHUNK_HALF-clause-keys g c =
    ap joined c.merge.ensures.chunks
    ∙ joined_merged c.args.chunks.now.items c.args.at (omega (arith, next g (goal.at.returns-else-len-gt-CHUNK_HALF-clause-keys g c).Then-at-len))

pub returns-else-len-gt-CHUNK_HALF-clause-fit : goal.returns-else-len-gt-CHUNK_HALF-clause-fit
returns-else-len-gt-CHUNK_HALF-clause-fit g c =
    let at = goal.at.returns-else-len-gt-CHUNK_HALF-clause-fit g c in
    let behind = ap length (next_read c.args.chunks.now.items c.args.at c.index-then-at-len.result.now (next g at.Then-at-len) c.index-then-at-len.ensures) in
    subst (λ chunks. AreFit chunks) (sym c.merge.ensures.chunks)
    (fit_merged_next c.args.chunks.now.items c.args.at c.requires.inside c.requires.lost (several g at.Else-len-eq1) (less g at.Then-here-lt-CHUNK_HALF)
    (omega (arith, next g at.Then-at-len)) (omega (arith, c.if-len-gt-CHUNK_HALF.false, c.len-then-at-len.ensures.len, behind)))

pub returns-then-len-gt-CHUNK_HALF-2-clause-keys : goal.returns-then-len-gt-CHUNK_HALF-2-clause-keys
returns-then-len-gt-CHUNK_HALF-2-clause-keys g c =
    let there = (goal.at.returns-then-len-gt-CHUNK_HALF-2-clause-keys g c).Else-at-len in
    ap joined c.give_to_next.ensures.chunks
    ∙ joined_parted c.args.chunks.now.items (c.args.at - 1) (length (chunk_at c.args.chunks.now.items (c.args.at - 1)) - 1)
    (omega (arith, last g there, c.requires.inside))

pub returns-then-len-gt-CHUNK_HALF-2-clause-fit : goal.returns-then-len-gt-CHUNK_HALF-2-clause-fit
returns-then-len-gt-CHUNK_HALF-2-clause-fit g c =
    let at = goal.at.returns-then-len-gt-CHUNK_HALF-2-clause-fit g c in
    let front =
    ap length
    (get_or_read c.args.chunks.now.items (c.args.at - 1) c.index-else-at-len.result.now (omega (arith, c.requires.inside)) c.index-else-at-len.ensures []) in
    subst (λ chunks. AreFit chunks) (sym c.give_to_next.ensures.chunks)
    (fit_given c.args.chunks.now.items c.args.at c.requires.inside c.requires.lost (several g at.Else-len-eq1) (less g at.Then-here-lt-CHUNK_HALF)
    (c.args.at - 1) (last g at.Else-at-len) (omega (arith, c.if-len-gt-CHUNK_HALF-2.true, c.len-else-at-len.ensures.len, front)))

pub returns-else-len-gt-CHUNK_HALF-2-clause-keys : goal.returns-else-len-gt-CHUNK_HALF-2-clause-keys
returns-else-len-gt-CHUNK_HALF-2-clause-keys g c =
    let there = (goal.at.returns-else-len-gt-CHUNK_HALF-2-clause-keys g c).Else-at-len in
    ap joined c.merge-else-len-gt-CHUNK_HALF-2.ensures.chunks
    ∙ joined_merged c.args.chunks.now.items (c.args.at - 1) (omega (arith, last g there, c.requires.inside))

pub returns-else-len-gt-CHUNK_HALF-2-clause-fit : goal.returns-else-len-gt-CHUNK_HALF-2-clause-fit
returns-else-len-gt-CHUNK_HALF-2-clause-fit g c =
    let at = goal.at.returns-else-len-gt-CHUNK_HALF-2-clause-fit g c in
    let front =
    ap length
    (get_or_read c.args.chunks.now.items (c.args.at - 1) c.index-else-at-len.result.now (omega (arith, c.requires.inside)) c.index-else-at-len.ensures []) in
    subst (λ chunks. AreFit chunks) (sym c.merge-else-len-gt-CHUNK_HALF-2.ensures.chunks)
    (fit_merged_front c.args.chunks.now.items c.args.at c.requires.inside c.requires.lost (several g at.Else-len-eq1) (less g at.Then-here-lt-CHUNK_HALF)
    (c.args.at - 1) (last g at.Else-at-len) (omega (arith, c.if-len-gt-CHUNK_HALF-2.false, c.len-else-at-len.ensures.len, front)))

pub returns-else-here-lt-CHUNK_HALF-clause-fit : goal.returns-else-here-lt-CHUNK_HALF-clause-fit
returns-else-here-lt-CHUNK_HALF-clause-fit g c =
    lost_half c.args.chunks.now.items c.args.at c.requires.inside c.requires.lost
    (several g (goal.at.returns-else-here-lt-CHUNK_HALF-clause-fit g c).Else-len-eq1)
    (omega (
      arith,
      c.if-here-lt-CHUNK_HALF.false,
      c.len-here.ensures.len,
      ap length (get_or_read c.args.chunks.now.items c.args.at c.index.result.now c.requires.inside c.index.ensures []),
    ))
