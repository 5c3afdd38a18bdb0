-- The part grows by pieces of the source.
use Rattle.std.proofs.Common.{◌≡◌, ℕ, ◌+◌, ◌-◌, ◌*◌, ◌<◌, ◌≤◌, false, Option, IsSome, Ok, List, [], ◌++◌, length, take, drop, sym, ◌∙◌, ap, subst, append_assoc, arith}
use Rattle.std.specs.Prelude.{min}
use Rattle.std.proofs.Math.Seq.{take-add}
use Rattle.std.proofs.lemmas.List.{take_all, length-take, length-drop, append-nil}
use Rattle.md5.specs.Md5.{md5, Holds}
use Rattle.md5.specs.declared.Md5.{Md5}
use Rattle.fts_tables.specs.declared.places.Place.{Place}
use Rattle.fts_tables.specs.Places.{is_same_place}
use Rattle.fts_store.specs.Store.{StoreState, IsFaithful, Stays, SameBut, bytes_of}
use Rattle.fts_copy.specs.Copy.{Order, part_of}
use Rattle.fts_copy.specs.Steps.{source_bytes, part_bytes, piece_at, KnowsSource, PutsPiece, PutSoFar}

-- no file but one changed, in two steps
pub but_more : (at : Place) (one two three : Place → Option (List ℕ)) → SameBut at one two → SameBut at two three → SameBut at one three
but_more at one two three first second place apart = second place apart ∙ first place apart

-- a change of the part leaves the source
pub same_source : (order : Order) (old new : StoreState) → is_same_place order.source (part_of order) ≡ false → SameBut (part_of order) old.files new.files → source_bytes order new ≡ source_bytes order old
same_source order old new apart others = ap bytes_of (others order.source apart)

-- nothing was put so far
pub none_put : (order : Order) (store : StoreState) (hasher : Md5) → Holds hasher [] → PutSoFar order store store hasher 0
none_put order store hasher empty = record { there = λ is. is; appended = λ faithful. sym (append-nil (part_bytes order store)); hashed = empty }

-- a piece more
pub more_put : (order : Order) (old now new : StoreState) (before after : Md5) (offset wanted count : ℕ) → is_same_place order.source (part_of order) ≡ false
    → Stays old now → SameBut (part_of order) old.files now.files → PutSoFar order old now before offset → PutsPiece order now new before after offset wanted (Ok count)
    → PutSoFar order old new after (offset + wanted)
more_put order old now new before after offset wanted count apart stays others so_far puts =
    let same : source_bytes order now ≡ source_bytes order old = same_source order old now apart others in
    let piece : piece_at (source_bytes order now) offset wanted ≡ piece_at (source_bytes order old) offset wanted = ap (λ s. piece_at s offset wanted) same in
    let joined : take offset (source_bytes order old) ++ piece_at (source_bytes order old) offset wanted ≡ take (offset + wanted) (source_bytes order old) = sym (take-add offset wanted (source_bytes order old)) in
    record {
      there = λ is. puts.there;
      appended = λ faithful.
          puts.appended (stays.faithful ∙ faithful)
          ∙ ap (λ p. part_bytes order now ++ p) piece
          ∙ ap (λ p. p ++ piece_at (source_bytes order old) offset wanted) (so_far.appended faithful)
          ∙ append_assoc (part_bytes order old) (take offset (source_bytes order old)) (piece_at (source_bytes order old) offset wanted)
          ∙ ap (λ p. part_bytes order old ++ p) joined;
      hashed = subst (Holds after) (ap (λ p. take offset (source_bytes order old) ++ p) piece ∙ joined) (puts.hashed (take offset (source_bytes order old)) so_far.hashed);
    }

-- the pieces put so far are all
pub all_put : (order : Order) (old new : StoreState) (hasher : Md5) (done size : ℕ) (digest : List ℕ) → size ≤ done → PutSoFar order old new hasher done
    → ((message : List ℕ) → Holds hasher message → digest ≡ md5 message) → KnowsSource order old size
    → (digest ≡ md5 (source_bytes order old)) × (IsSome (old.files (part_of order)) → IsSome (new.files (part_of order)))
    × (IsFaithful old → part_bytes order new ≡ part_bytes order old ++ source_bytes order old)
all_put order old new hasher done size digest enough so_far digests knows =
    let whole : take done (source_bytes order old) ≡ source_bytes order old = take_all done (source_bytes order old) (omega (arith, knows.whole)) in
    (digests (source_bytes order old) (subst (Holds hasher) whole so_far.hashed), so_far.there, λ faithful. so_far.appended faithful ∙ ap (λ p. part_bytes order old ++ p) whole)

-- a piece of a source that has this size is whole
pub piece_is_whole : (order : Order) (old now new : StoreState) (before after : Md5) (offset wanted size count : ℕ) → is_same_place order.source (part_of order) ≡ false
    → SameBut (part_of order) old.files now.files → KnowsSource order old size → offset + wanted ≤ size → PutsPiece order now new before after offset wanted (Ok count) → count ≡ wanted
piece_is_whole order old now new before after offset wanted size count apart others knows inside puts =
    let same : source_bytes order now ≡ source_bytes order old = same_source order old now apart others in
    let long : length (source_bytes order now) ≡ size = ap length same ∙ knows.whole in
    let left : length (drop offset (source_bytes order now)) ≡ length (source_bytes order now) - offset = length-drop offset (source_bytes order now) in
    let some : length (take wanted (drop offset (source_bytes order now))) ≡ min wanted (length (drop offset (source_bytes order now))) = length-take wanted (drop offset (source_bytes order now)) in
    omega (arith, puts.count)

-- the end of a piece, by its start and its length
pub piece_end : (piece size offset wanted : ℕ) → offset ≡ piece * 65536 → offset < size → wanted ≡ min 65536 (size - offset) → min ((piece + 1) * 65536) size ≡ offset + wanted
piece_end piece size offset wanted start inside long = omega arith

-- the start of a piece is inside the file
pub piece_at_start : (piece size offset : ℕ) → offset ≡ piece * 65536 → offset < size → min (piece * 65536) size ≡ offset
piece_at_start piece size offset start inside = omega arith
