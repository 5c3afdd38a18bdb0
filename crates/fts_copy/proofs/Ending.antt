-- How a copy ends once its part is written.
use Rattle.std.proofs.Common.{◌≡◌, ℕ, Bool, true, false, Option, Some, None, IsSome, Ok, Err, List, length, refl, sym, ◌∙◌, ap, subst, inl, inr}
use Rattle.std.specs.Prelude.{if◌then◌else◌}
use Rattle.md5.specs.Md5.{md5}
use Rattle.fts_tables.specs.declared.places.Place.{Place}
use Rattle.fts_tables.specs.declared.rows.Outcome.{Outcome}
use Rattle.fts_tables.specs.declared.rows.Outcome.TheVariants.{Verified, SourceMissing, DestinationExists, SourceSize, SourceDigest, ReadBackDiffers, StoreFailed, Stopped}
use Rattle.fts_tables.specs.Places.{is_same_place}
use Rattle.fts_store.specs.Store.{StoreState, IsTold, IsFaithful, Stays, Same, SameBut, SameButTwo, bytes_of, with_move}
use Rattle.fts_copy.specs.Differences.{first_difference}
use Rattle.fts_copy.specs.Copy.{Order, part_of, is_in_the_way, is_other_size, is_other_digest, read_back_of, copied_from, copied_of, faithful_of, verified_files, IsVerified, IsCopy}
use Rattle.fts_copy.specs.Steps.{source_bytes, part_bytes, KnowsSource, IsLook, IsWritten, IsReadBack, IsPutInPlace}
use Rattle.fts_copy.proofs.Differing.{no_difference}
use Rattle.fts_copy.proofs.Putting.{same_source}

-- a file that is there holds its bytes
there : (file : Option (List ℕ)) → IsSome file → file ≡ Some (bytes_of file)
there (Some bytes) is = refl
there None is = cc

-- where no check fails the part decides
chosen : (way size digest : Bool) (a b c d : Outcome) → way ≡ false → size ≡ false → digest ≡ false → (if way then a else if size then b else if digest then c else d) ≡ d
chosen false false false a b c d one two three = refl
chosen false false true a b c d one two three = cc
chosen false true digest a b c d one two three = cc
chosen true size digest a b c d one two three = cc

-- what is known once the part is written and no check has failed
pub record Ready (order : Order) (old now : StoreState) (size : ℕ) (digest : List ℕ) : Type 0 where
  pub told : IsTold old
  pub whole : length (source_bytes order old) ≡ size
  pub present : IsSome (old.files order.source)
  pub free : is_in_the_way order old.files ≡ false
  pub fits : is_other_size order.size size ≡ false
  pub apart : is_same_place order.source (part_of order) ≡ false
  pub stays : Stays old now
  pub others : SameBut (part_of order) old.files now.files
  pub summed : digest ≡ md5 (source_bytes order old)
  pub right : is_other_digest order.wanted digest ≡ false
  pub written : IsSome (now.files (part_of order))
  pub faithful : IsFaithful old → part_bytes order now ≡ source_bytes order old

-- by the steps that led there
pub make_ready : (order : Order) (old looked now : StoreState) (size : ℕ) (digest : List ℕ) → looked ≡ old → IsTold old → IsLook order old (Ok size) → is_same_place order.source (part_of order) ≡ false
    → Stays looked now → (IsTold looked → SameBut (part_of order) looked.files now.files) → IsWritten order looked now size (Ok digest) → Ready order old now size digest
make_ready order old looked now size digest same told look apart stays others written =
    let seen : (length (source_bytes order old) ≡ size) × IsSome (old.files order.source) × (is_in_the_way order old.files ≡ false) × (is_other_size order.size size ≡ false) = look told in
    let done : (digest ≡ md5 (source_bytes order old)) × (is_other_digest order.wanted digest ≡ false) × IsSome (now.files (part_of order)) × (IsFaithful old → part_bytes order now ≡ source_bytes order old) =
    subst (λ (store : StoreState). IsWritten order store now size (Ok digest)) same written (record { told = told; whole = seen.0 }) in
    record {
      told = told;
      whole = seen.0;
      present = seen.1;
      free = seen.2;
      fits = seen.3;
      apart = apart;
      stays = subst (λ (store : StoreState). Stays store now) same stays;
      others = subst (λ (store : StoreState). IsTold store → SameBut (part_of order) store.files now.files) same others told;
      summed = done.0;
      right = done.1;
      written = done.2;
      faithful = done.3;
    }

-- then the outcome is what reading back finds
copied_reads : (order : Order) (old now : StoreState) (size : ℕ) (digest part : List ℕ) → Ready order old now size digest
    → copied_of order old.files part ≡ read_back_of (source_bytes order old) (first_difference (source_bytes order old) part)
copied_reads order old now size digest part ready =
    ap (λ o. copied_from order old.files o part) (there (old.files order.source) ready.present)
    ∙ chosen (is_in_the_way order old.files) (is_other_size order.size (length (source_bytes order old))) (is_other_digest order.wanted (md5 (source_bytes order old)))
    DestinationExists (SourceSize (length (source_bytes order old))) (SourceDigest (md5 (source_bytes order old))) (read_back_of (source_bytes order old) (first_difference (source_bytes order old) part))
    ready.free (subst (λ n. is_other_size order.size n ≡ false) (sym ready.whole) ready.fits) (subst (λ d. is_other_digest order.wanted d ≡ false) ready.summed ready.right)

-- over a part that holds what the source does it is verified
faithful_reads : (order : Order) (old now : StoreState) (size : ℕ) (digest : List ℕ) → Ready order old now size digest → faithful_of order old.files ≡ Verified size digest
faithful_reads order old now size digest ready =
    copied_reads order old now size digest (source_bytes order old) ready
    ∙ ap (read_back_of (source_bytes order old)) (no_difference (source_bytes order old))
    ∙ ap (λ n. Verified n (md5 (source_bytes order old))) ready.whole ∙ ap (Verified size) (sym ready.summed)

-- the source is known where the part is written
pub knows_now : (order : Order) (old now : StoreState) (size : ℕ) (digest : List ℕ) → Ready order old now size digest → KnowsSource order now size
knows_now order old now size digest ready = record {
  told = ready.stays.told ∙ ready.told;
  whole = ap length (same_source order old now ready.apart ready.others) ∙ ready.whole;
}

-- how reading back ends
pub read_ends : (order : Order) (old now new : StoreState) (size : ℕ) (digest : List ℕ) (outcome : Outcome) → Ready order old now size digest → new ≡ now → IsReadBack order now size (Err outcome)
    → IsCopy order old new outcome
read_ends order old now new size digest (ReadBackDiffers at) ready same is =
    let source : source_bytes order now ≡ source_bytes order old = same_source order old now ready.apart ready.others in
    let differs : first_difference (source_bytes order old) (part_bytes order now) ≡ Some at =
    subst (λ s. first_difference s (part_bytes order now) ≡ Some at) source (is (knows_now order old now size digest ready)) in
    let outcome : ReadBackDiffers at ≡ copied_of order old.files (part_bytes order now) =
    sym (copied_reads order old now size digest (part_bytes order now) ready ∙ ap (read_back_of (source_bytes order old)) differs) in
    subst (λ (store : StoreState). IsCopy order old store (ReadBackDiffers at)) (sym same) (record {
      ends = (outcome, ready.others);
      faithful = λ faithful n eq.
          let none : first_difference (source_bytes order old) (part_bytes order now) ≡ None =
          subst (λ p. first_difference (source_bytes order old) p ≡ None) (sym (ready.faithful faithful)) (no_difference (source_bytes order old)) in
          clash (first_difference (source_bytes order old) (part_bytes order now)) none differs;
    })
  where
    clash : (o : Option ℕ) → o ≡ None → o ≡ Some at → ⊥
    clash o none some = cc
read_ends order old now new size digest StoreFailed ready same is =
    subst (λ (store : StoreState). IsCopy order old store StoreFailed) (sym same) (record { ends = inl ready.others; faithful = λ faithful n eq. cc })
read_ends order old now new size digest Stopped ready same is =
    subst (λ (store : StoreState). IsCopy order old store Stopped) (sym same) (record { ends = ready.others; faithful = λ faithful n eq. cc })
read_ends order old now new size digest SourceMissing ready same is = absurd is
read_ends order old now new size digest DestinationExists ready same is = absurd is
read_ends order old now new size digest (SourceSize seen) ready same is = absurd is
read_ends order old now new size digest (SourceDigest seen) ready same is = absurd is
read_ends order old now new size digest (Verified n d) ready same is = absurd is

-- how putting the part in its place ends, where it does
pub put_ends : (order : Order) (old now read new : StoreState) (size : ℕ) (digest : List ℕ) (outcome : Outcome) → Ready order old now size digest → read ≡ now → IsPutInPlace order read new (Err outcome)
    → IsCopy order old new outcome
put_ends order old now read new size digest StoreFailed ready same is =
    let told : IsTold now = ready.stays.told ∙ ready.told in
    let moved : SameButTwo (part_of order) order.dest now.files new.files = subst (λ (store : StoreState). IsPutInPlace order store new (Err StoreFailed)) same is told in
    record {
      ends = inr (subst IsVerified (sym (faithful_reads order old now size digest ready)) tt, λ place one other. moved place one other ∙ ready.others place one);
      faithful = λ faithful n eq. cc;
    }
put_ends order old now read new size digest Stopped ready same is =
    let told : IsTold now = ready.stays.told ∙ ready.told in
    let kept : Same new.files now.files = subst (λ (store : StoreState). IsPutInPlace order store new (Err Stopped)) same is told in
    record { ends = λ place apart. kept place ∙ ready.others place apart; faithful = λ faithful n eq. cc }
put_ends order old now read new size digest (ReadBackDiffers at) ready same is = absurd is
put_ends order old now read new size digest SourceMissing ready same is = absurd is
put_ends order old now read new size digest DestinationExists ready same is = absurd is
put_ends order old now read new size digest (SourceSize seen) ready same is = absurd is
put_ends order old now read new size digest (SourceDigest seen) ready same is = absurd is
put_ends order old now read new size digest (Verified n d) ready same is = absurd is

-- how a copy is verified
pub verified_ends : (order : Order) (old now read new : StoreState) (size : ℕ) (digest again : List ℕ) → Ready order old now size digest → read ≡ now → IsReadBack order now size (Ok again)
    → IsPutInPlace order read new (Ok tt) → IsCopy order old new (Verified size digest)
verified_ends order old now read new size digest again ready same is put =
    let told : IsTold now = ready.stays.told ∙ ready.told in
    let moved : Same new.files (with_move now.files (part_of order) order.dest) = subst (λ (store : StoreState). IsPutInPlace order store new (Ok tt)) same put told in
    let bytes : part_bytes order now ≡ source_bytes order old = (is (knows_now order old now size digest ready)).0 ∙ same_source order old now ready.apart ready.others in
    let file : now.files (part_of order) ≡ old.files order.source =
    there (now.files (part_of order)) ready.written ∙ ap Some bytes ∙ sym (there (old.files order.source) ready.present) in
    record {
      ends = (sym (faithful_reads order old now size digest ready), λ place. moved place ∙ placed place file (is_same_place place (part_of order)) refl);
      faithful = λ faithful n eq. cc;
    }
  where
    placed : (place : Place) → now.files (part_of order) ≡ old.files order.source → (b : Bool) → is_same_place place (part_of order) ≡ b
        → with_move now.files (part_of order) order.dest place ≡ verified_files order old.files place
    placed place file true at = rw (at, file)
    placed place file false at = rw (at, file, ready.others place at)
