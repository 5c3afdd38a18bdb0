-- The part is compared with the source by pieces.
use Rattle.std.proofs.Common.{◌≡◌, ℕ, ◌+◌, ◌<◌, ◌≤◌, Bool, true, Some, Err, List, ◌++◌, length, take, sym, ◌∙◌, ap, subst, arith, tests}
use Rattle.std.specs.Prelude.{min, nat_lt}
use Rattle.std.proofs.Math.Seq.{take-add}
use Rattle.std.proofs.lemmas.List.{length-take}
use Rattle.md5.specs.Md5.{Holds}
use Rattle.md5.specs.declared.Md5.{Md5}
use Rattle.fts_tables.specs.declared.rows.Outcome.{Outcome}
use Rattle.fts_tables.specs.declared.rows.Outcome.TheVariants.{Verified, SourceMissing, DestinationExists, SourceSize, SourceDigest, ReadBackDiffers, StoreFailed, Stopped}
use Rattle.fts_store.specs.Store.{StoreState}
use Rattle.fts_copy.specs.Copy.{Order}
use Rattle.fts_copy.specs.Differences.{first_difference}
use Rattle.fts_copy.specs.Steps.{source_bytes, part_bytes, piece_at, KnowsSource, MatchesPiece, MatchesPieces, MatchedSoFar}
use Rattle.fts_copy.proofs.Differing.{in_pieces, ends_first}

-- a piece more
pub more_matched : (order : Order) (store : StoreState) (before after : Md5) (offset wanted : ℕ) → MatchedSoFar order store before offset
    → piece_at (part_bytes order store) offset wanted ≡ piece_at (source_bytes order store) offset wanted
    → ((message : List ℕ) → Holds before message → Holds after (message ++ piece_at (part_bytes order store) offset wanted))
    → MatchedSoFar order store after (offset + wanted)
more_matched order store before after offset wanted so_far same hashed =
    let joined : take offset (source_bytes order store) ++ piece_at (source_bytes order store) offset wanted ≡ take (offset + wanted) (source_bytes order store) = sym (take-add offset wanted (source_bytes order store)) in
    record {
      same = take-add offset wanted (part_bytes order store) ∙ ap (λ l. l ++ piece_at (part_bytes order store) offset wanted) so_far.same
          ∙ ap (λ l. take offset (source_bytes order store) ++ l) same ∙ joined;
      hashed = subst (Holds after) (ap (λ l. take offset (source_bytes order store) ++ l) same ∙ joined) (hashed (take offset (source_bytes order store)) so_far.hashed);
    }

-- equal beginnings reach as far into both
reaches : (one other : List ℕ) (n : ℕ) → n ≤ length one → take n other ≡ take n one → n ≤ length other
reaches one other n inside same =
    let here : length (take n one) ≡ min n (length one) = length-take n one in
    let there : length (take n other) ≡ min n (length other) = length-take n other in
    let equal : length (take n other) ≡ length (take n one) = ap length same in
    omega arith

-- a difference in a piece is one of the contents
piece_differs : (order : Order) (store : StoreState) (before : Md5) (offset wanted size at n : ℕ) → offset ≤ size → KnowsSource order store size → MatchedSoFar order store before offset
    → first_difference (piece_at (source_bytes order store) offset wanted) (piece_at (part_bytes order store) offset wanted) ≡ Some n → at ≡ offset + n
    → first_difference (source_bytes order store) (part_bytes order store) ≡ Some at
piece_differs order store before offset wanted size at n inside knows so_far differs is =
    let long : offset ≤ length (source_bytes order store) = omega (arith, knows.whole) in
    in_pieces (source_bytes order store) (part_bytes order store) offset wanted n long (reaches (source_bytes order store) (part_bytes order store) offset long so_far.same) (sym so_far.same) differs
    ∙ ap Some (sym is)

-- a piece at which the comparison ends
pub matching_ends : (order : Order) (store : StoreState) (before after : Md5) (offset wanted size : ℕ) (outcome : Outcome) → offset ≤ size
    → (KnowsSource order store size → MatchedSoFar order store before offset) → MatchesPiece order store before after offset wanted (Err outcome) → MatchesPieces order store size (Err outcome)
matching_ends order store before after offset wanted size (ReadBackDiffers at) inside so_far is =
    λ knows. piece_differs order store before offset wanted size at (is knows.told).0 inside knows (so_far knows) (is knows.told).1 (is knows.told).2
matching_ends order store before after offset wanted size StoreFailed inside so_far is = tt
matching_ends order store before after offset wanted size Stopped inside so_far is = tt
matching_ends order store before after offset wanted size _ inside so_far is = is

-- a source of this size is no longer
pub no_longer : (source : List ℕ) (size : ℕ) (longer : Bool) → length source ≡ size → longer ≡ nat_lt size (length source) → longer ≡ true → ⊥
no_longer source size longer whole is true_ = grind (arith, tests)

-- a part that is longer differs at its end
pub longer_part : (source part : List ℕ) (size : ℕ) (longer : Bool) → length source ≡ size → take size part ≡ source → longer ≡ nat_lt size (length part) → longer ≡ true
    → first_difference source part ≡ Some size
longer_part source part size longer whole same is true_ =
    let more : size < length part = grind (arith, tests) in
    ends_first source part (ap (λ n. take n part) whole ∙ same) (omega arith) ∙ ap Some whole
