-- Journals that grow: by no call, by one part and then another, and by each call of a journal.
use Rattle.std.proofs.Common.{◌≡◌, inl, inr, refl, sym, ◌∙◌, ap, subst, ℕ, ◌+◌, ◌≤◌, Option, None, List, [], ◌∷◌, ◌++◌, length, map, append_assoc, length-append, arith}
use Rattle.std.proofs.lemmas.List.{append-nil, map-append}
use Rattle.fts_disk.specs.Disk.{DiskState, IsTold, LeavesOnly, IsLawful}
use Rattle.fts_journal.specs.Format.{Stands}
use Rattle.fts_journal.specs.Journal.{JournalData, IsImageOf, IsSound}
use Rattle.fts_journal.proofs.Moments.{started, joins, weakened}
use Rattle.fts_standby.specs.Following.{IsMoment, used_after, Grows, IsSure}

-- ---- lists and numbers

used_more : (used : ℕ) (xs ys : List (List ℕ)) → used_after used (xs ++ ys) ≡ used_after (used_after used xs) ys
used_more used [] ys = refl
used_more used (x ∷ xs) ys = used_more (used + 5 + length x) xs ys

-- ---- moments

-- more may come than came
moment_more : (list : List (List ℕ)) (doubt : Option (List ℕ)) (came more : List (List ℕ)) (content : List ℕ) → IsMoment list doubt came content
    → IsMoment list doubt (came ++ more) content
moment_more list doubt came more content (inl image) = inl image
moment_more list doubt came more content (inr with) = inr (record {
  since = with.since;
  later = with.later ++ more;
  parts = ap (λ l. l ++ more) with.parts ∙ append_assoc with.since with.later more;
  stands = with.stands;
})

-- a moment of a journal that has grown by some, with nothing in doubt, is one of the journal before
moment_behind : (list : List (List ℕ)) (doubt : Option (List ℕ)) (xs came : List (List ℕ)) (now : List (List ℕ)) (doubt_then : Option (List ℕ)) (content : List ℕ)
    → now ≡ list ++ xs → doubt_then ≡ None → IsMoment now doubt_then came content → IsMoment list doubt (xs ++ came) content
moment_behind list doubt xs came now doubt_then content is sure (inl image) = inr (record {
  since = xs;
  later = came;
  parts = refl;
  stands = subst (λ l. Stands content l) is (subst (λ d. IsImageOf now d content) sure image);
})
moment_behind list doubt xs came now doubt_then content is sure (inr with) = inr (record {
  since = xs ++ with.since;
  later = with.later;
  parts = ap (λ l. xs ++ l) with.parts ∙ sym (append_assoc xs with.since with.later);
  stands = subst (λ l. Stands content l) (ap (λ l. l ++ with.since) is ∙ append_assoc list xs with.since) with.stands;
})

-- ---- journals

module _ {D : Type 0} (state : D → DiskState) (faults : D → ℕ) where
  -- no call
  pub grown_none : (lawful : (disk : D) → IsTold (state disk) → IsLawful (state disk)) (journal : JournalData D) → IsSound (state journal.disk) journal.bodies journal.doubt
      → Grows state faults journal journal [] []
  grown_none lawful journal sound = record {
    told = refl;
    counts = omega arith;
    count = omega arith;
    used = refl;
    sizes = sym (append-nil journal.sizes);
    listed = λ told. sym (append-nil journal.bodies);
    moments = λ told. started (state journal.disk) (lawful journal.disk told) (IsMoment journal.bodies journal.doubt []) (λ content left. inl (sound told content left));
  }

  -- some were appended, all that came, and nothing was left in doubt; and then others
  pub grown_more : (old mid new : JournalData D) (xs came ys : List (List ℕ)) → Grows state faults old mid xs xs → IsSure state mid
      → Grows state faults mid new came ys → Grows state faults old new (xs ++ came) (xs ++ ys)
  grown_more old mid new xs came ys first sure second =
      let told_mid = λ (told : IsTold (state old.disk)). first.told ∙ told in
      record {
        told = second.told ∙ first.told;
        counts = omega (arith, first.counts, second.counts);
        count = let longer = length-append xs ys in omega (arith, first.count, second.count, longer);
        used = second.used ∙ (ap (λ used. used_after used ys) first.used ∙ sym (used_more old.used xs ys));
        sizes = second.sizes ∙ (ap (λ l. l ++ map (λ entry. length entry) ys) first.sizes
            ∙ (append_assoc old.sizes (map (λ entry. length entry) xs) (map (λ entry. length entry) ys)
            ∙ ap (λ l. old.sizes ++ l) (sym (map-append (λ (entry : List ℕ). length entry) xs ys))));
        listed = λ told. second.listed (told_mid told) ∙ (ap (λ l. l ++ ys) (first.listed told) ∙ append_assoc old.bodies xs ys);
        moments = λ told. joins (state old.disk) (state mid.disk) (state new.disk) (IsMoment old.bodies old.doubt (xs ++ came))
            (weakened (state old.disk) (state mid.disk) (IsMoment old.bodies old.doubt xs) (IsMoment old.bodies old.doubt (xs ++ came)) (first.moments told)
            (λ content there. moment_more old.bodies old.doubt xs came content there))
            (weakened (state mid.disk) (state new.disk) (IsMoment mid.bodies mid.doubt came) (IsMoment old.bodies old.doubt (xs ++ came)) (second.moments (told_mid told))
            (λ content there. moment_behind old.bodies old.doubt xs came mid.bodies mid.doubt content (first.listed told) (sure.none (told_mid told)) there));
      }

  -- a journal that was only looked at, or whose doubt was ended or not
  pub grown_kept : (old new : JournalData D) → (state new.disk).told ≡ (state old.disk).told → faults old.disk ≤ faults new.disk → new.count ≡ old.count
      → new.used ≡ old.used → new.sizes ≡ old.sizes → (IsTold (state old.disk) → new.bodies ≡ old.bodies)
      → (IsTold (state old.disk) → LeavesOnly (state old.disk) (state new.disk) (IsImageOf old.bodies old.doubt)) → Grows state faults old new [] []
  grown_kept old new told counts count used sizes bodies moments = record {
    told = told;
    counts = counts;
    count = omega (arith, count);
    used = used;
    sizes = sizes ∙ sym (append-nil old.sizes);
    listed = λ is. bodies is ∙ sym (append-nil old.bodies);
    moments = λ is. weakened (state old.disk) (state new.disk) (IsImageOf old.bodies old.doubt) (IsMoment old.bodies old.doubt []) (moments is)
        (λ content there. inl there);
  }
