-- Images through several calls, and before the first.
use Rattle.std.proofs.Common.{◌≡◌, ◌⊎◌, inl, inr, sym, ◌∙◌, ap, subst, ℕ, Option, None, List, [], ◌++◌, append_assoc}
use Rattle.std.proofs.lemmas.List.{append-nil}
use Rattle.fts_disk.specs.Disk.{DiskState, IsTold, IsLawful}
use Rattle.fts_journal.proofs.Moments.{started, joins, weakened}
use Rattle.fts_delete.specs.declared.events.Event.{Event}
use Rattle.fts_delete.specs.Laws.{AreNumbered}
use Rattle.fts_delete.specs.Journals.{DeletesData, StandsFor, with_doubt, IsLegal, IsImageSince, IsDeletes, KeepsImages}
use Rattle.fts_delete.proofs.Forming.{legal_rows_are_formed}

-- an image of a list is one of a longer one
pub image_more : (opening list more : List Event) (content : List ℕ) → IsImageSince opening list content → IsImageSince opening (list ++ more) content
image_more opening list more content image = record {
  since = image.since;
  later = image.later ++ more;
  parts = ap (λ l. l ++ more) image.parts ∙ append_assoc (opening ++ image.since) image.later more;
  doubt = image.doubt;
  legal = image.legal;
  stands = image.stands;
}

module _ {D : Type 0} (state : D → DiskState) where
  -- calls that add these events, and calls that add those
  pub images_more : (old mid new : DeletesData D) (xs ys : List Event) → (state mid.disk).told ≡ (state old.disk).told
      → (IsTold (state old.disk) → mid.events ≡ old.events ++ xs) → (IsTold (state mid.disk) → new.events ≡ mid.events ++ ys)
      → KeepsImages state old mid → KeepsImages state mid new → KeepsImages state old new
  images_more old mid new xs ys same first second one two = λ opening since parts told.
      let told_then : IsTold (state mid.disk) = same ∙ told in
      let parts_then : mid.events ≡ opening ++ (since ++ xs) = first told ∙ ap (λ l. l ++ xs) parts ∙ append_assoc opening since xs in
      joins (state old.disk) (state mid.disk) (state new.disk) (IsImageSince opening new.events)
      (weakened (state old.disk) (state mid.disk) (IsImageSince opening mid.events) (IsImageSince opening new.events) (one opening since parts told)
      (λ content image. subst (λ l. IsImageSince opening l content) (sym (second told_then)) (image_more opening mid.events ys content image)))
      (two opening (since ++ xs) parts_then told_then)

  -- an image of what is held
  pub image_now : (events opening since : List Event) (doubt : Option Event) (content : List ℕ) → events ≡ opening ++ since → IsLegal events → IsLegal (with_doubt events doubt)
      → StandsFor content events ⊎ StandsFor content (with_doubt events doubt) → IsImageSince opening events content
  image_now events opening since doubt content parts legal legal_too (inl stands) = record {
    since = since;
    later = [];
    parts = parts ∙ sym (append-nil (opening ++ since));
    doubt = None;
    legal = subst IsLegal parts legal;
    stands = subst (StandsFor content) parts stands;
  }
  image_now events opening since doubt content parts legal legal_too (inr stands) = record {
    since = since;
    later = [];
    parts = parts ∙ sym (append-nil (opening ++ since));
    doubt = doubt;
    legal = subst (λ l. IsLegal (with_doubt l doubt)) parts legal_too;
    stands = subst (λ l. StandsFor content (with_doubt l doubt)) parts stands;
  }

  -- before any call each image is one of the list
  pub images_start : (old : DeletesData D) → IsDeletes state old → (IsTold (state old.disk) → IsLawful (state old.disk)) → KeepsImages state old old
  images_start old kept lawful = λ opening since parts told.
      let holds = kept.holds told in
      started (state old.disk) (lawful told) (IsImageSince opening old.events) (λ content left. image_now old.events opening since old.doubt content parts
      (record { rows = old.rows; are = holds.folded }) holds.legal (holds.images content left))

  -- the rows of what is kept are numbered
  pub rows_numbered : (old : DeletesData D) → IsDeletes state old → AreNumbered 1 old.rows
  rows_numbered old kept = (legal_rows_are_formed kept.some.0 old.rows kept.some.1.folded).numbered
