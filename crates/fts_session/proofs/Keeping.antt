-- How a keep's list grows, call by call: its entries, its images, and its doubt.
use Rattle.std.proofs.Common.{◌≡◌, inl, inr, ⊎_elim, refl, ap, sym, ◌∙◌, subst, ℕ, ◌≤◌, List, [], ◌∷◌, ◌++◌, Option, Some, None, arith, append_assoc}
use Rattle.fts_tables.specs.Counts.{Rose}
use Rattle.fts_tables.specs.Tables.{Tables, empty_tables}
use Rattle.fts_tables.specs.Step.{step}
use Rattle.fts_tables.specs.History.{tables_from, tables_after, IsLegalFrom, IsLegal}
use Rattle.fts_tables.specs.declared.commands.Entry.{Entry}
use Rattle.fts_disk.specs.Disk.{DiskState, IsTold, LeavesOnly, IsLawful}
use Rattle.fts_keep.specs.Keeps.{KeepData, IsKeep, IsImageOf, IsImageSince, KeepsImagesSinceAny, with_doubt}
use Rattle.fts_routes.specs.Replies.{DoubtHasCause}
use Rattle.fts_session.specs.Sessions.{Extends}
use Rattle.fts_disk.specs.declared.disk.Disk as disk

-- nothing more
pub none_more : {A : Type 0} (items : List A) → items ++ [] ≡ items
none_more [] = refl
none_more (item ∷ items) = ap (λ rest. item ∷ rest) (none_more items)

-- a list of commands, and then another one
pub tables_from-append : (tables : Tables) (entries more : List Entry) → tables_from tables (entries ++ more) ≡ tables_from (tables_from tables entries) more
tables_from-append tables [] more = refl
tables_from-append tables (entry ∷ entries) more = tables_from-append (tables_after tables (step tables entry.command)) entries more

-- a legal list, and entries that are legal behind it
pub legal_behind : (tables : Tables) (entries more : List Entry) → IsLegalFrom tables entries → IsLegalFrom (tables_from tables entries) more
    → IsLegalFrom tables (entries ++ more)
legal_behind tables [] more first second = second
legal_behind tables (entry ∷ entries) more first second = (first.0, legal_behind (tables_after tables (step tables entry.command)) entries more first.1 second)

-- the front of a legal list is legal
legal_front : (tables : Tables) (entries more : List Entry) → IsLegalFrom tables (entries ++ more) → IsLegalFrom tables entries
legal_front tables [] more legal = tt
legal_front tables (entry ∷ entries) more legal = (legal.0, legal_front (tables_after tables (step tables entry.command)) entries more legal.1)

-- a list is legal without its doubt
legal_list : (entries : List Entry) (doubt : Option Entry) → IsLegal (with_doubt entries doubt) → IsLegal entries
legal_list entries None legal = legal
legal_list entries (Some entry) legal = legal_front empty_tables entries (entry ∷ []) legal

-- a count that rose later rose
pub rose_later : (old mid new : ℕ) → old ≤ mid → Rose mid new → Rose old new
rose_later old mid new keeps rose = ⊎_elim (λ more. inl (omega arith)) (λ most. inr most) rose

-- before the first call of a disk
begun : (disk : DiskState) (P : List ℕ → Type 0) → IsLawful disk → ((content : List ℕ) → disk.may_leave content → P content) → LeavesOnly disk disk P
begun disk P lawful here = record { later = omega arith; each = λ c left. here c (lawful.only_now c left); before = λ t c le left. inl left }

-- two runs of calls, one after the other
pub joined : (old mid new : DiskState) (P : List ℕ → Type 0) → LeavesOnly old mid P → LeavesOnly mid new P → LeavesOnly old new P
joined old mid new P first second = record {
  later = omega (arith, first.later, second.later);
  each = λ c left. ⊎_elim (first.each c) (λ there. there) (second.before old.moment c first.later left);
  before = λ t c le left. ⊎_elim (first.before t c le) (λ there. inr there) (second.before t c (omega (arith, le, first.later)) left);
}

-- what is left has P, and so Q
pub weakened : (old new : DiskState) (P Q : List ℕ → Type 0) → LeavesOnly old new P → ((content : List ℕ) → P content → Q content) → LeavesOnly old new Q
weakened old new P Q only implies = record {
  later = only.later;
  each = λ c left. implies c (only.each c left);
  before = λ t c le left. ⊎_elim (λ past. inl past) (λ there. inr (implies c there)) (only.before t c le left);
}

-- an image since an opening is one since it of a longer list
pub since_more : (opening final more : List Entry) (content : List ℕ) → IsImageSince opening final content → IsImageSince opening (final ++ more) content
since_more opening final more content image = record {
  since = image.since;
  later = image.later ++ more;
  parts = ap (λ l. l ++ more) image.parts ∙ append_assoc (opening ++ image.since) image.later more;
  doubt = image.doubt;
  legal = image.legal;
  stands = image.stands;
}

-- an image of a list is one since any opening of it
since_now : (opening since entries : List Entry) (doubt : Option Entry) (content : List ℕ) → entries ≡ opening ++ since
    → IsLegal (with_doubt entries doubt) → IsImageOf entries doubt content → IsImageSince opening entries content
since_now opening since entries doubt content is legal (inl stands) = record {
  since = since;
  later = [];
  parts = is ∙ sym (none_more (opening ++ since));
  doubt = None;
  legal = subst IsLegal is (legal_list entries doubt legal);
  stands = rw is at stands;
}
since_now opening since entries doubt content is legal (inr stands) = record {
  since = since;
  later = [];
  parts = is ∙ sym (none_more (opening ++ since));
  doubt = doubt;
  legal = subst (λ l. IsLegal (with_doubt l doubt)) is legal;
  stands = rw is at stands;
}

module _ {D : Type 0} (disks : disk.Ghosts D) where
  -- each image of a keep is one of its list
  pub images_none : (keep : KeepData D) → IsKeep disks.state keep → (IsTold (disks.state keep.disk) → IsLawful (disks.state keep.disk)) → KeepsImagesSinceAny disks.state keep keep
  images_none keep kept lawful = λ opening since is told. begun (disks.state keep.disk) (IsImageSince opening keep.entries) (lawful told)
      (λ c left. since_now opening since keep.entries keep.doubt c is (kept.fold.holds told).legal ((kept.fold.holds told).images c left))

  -- images of one call and of one behind it
  images_more : (old mid new : KeepData D) (first second : List Entry) → (disks.state mid.disk).told ≡ (disks.state old.disk).told
      → mid.entries ≡ old.entries ++ first → new.entries ≡ mid.entries ++ second
      → KeepsImagesSinceAny disks.state old mid → KeepsImagesSinceAny disks.state mid new → KeepsImagesSinceAny disks.state old new
  images_more old mid new first second tells one two before behind = λ opening since is told.
      joined (disks.state old.disk) (disks.state mid.disk) (disks.state new.disk) (IsImageSince opening new.entries)
      (weakened (disks.state old.disk) (disks.state mid.disk) (IsImageSince opening mid.entries) (IsImageSince opening new.entries) (before opening since is told)
      (λ c image. subst (λ l. IsImageSince opening l c) (sym two) (since_more opening mid.entries second c image)))
      (behind opening (since ++ first) (one ∙ ap (λ l. l ++ first) is ∙ append_assoc opening since first) (tells ∙ told))

  -- a doubt behind both calls was there before, or came by a failure
  doubt_more : (old mid new : KeepData D) → (disks.state mid.disk).told ≡ (disks.state old.disk).told → disks.faults old.disk ≤ disks.faults mid.disk
      → disks.faults mid.disk ≤ disks.faults new.disk → DoubtHasCause disks.state disks.faults old mid → DoubtHasCause disks.state disks.faults mid new
      → DoubtHasCause disks.state disks.faults old new
  doubt_more old mid new tells first second before behind = λ told. ⊎_elim (λ none. inl none)
      (λ some. ⊎_elim
      (λ same. ⊎_elim (λ none. inl (same ∙ none)) (λ known. inr (⊎_elim (λ was. inl (same ∙ was)) (λ rose. inr (sooner rose)) known)) (before told))
      (λ rose. inr (inr (later rose)))
      some)
      (behind (tells ∙ told))
    where
      sooner : Rose (disks.faults old.disk) (disks.faults mid.disk) → Rose (disks.faults old.disk) (disks.faults new.disk)
      sooner rose = ⊎_elim (λ more. inl (omega (arith, more, second))) (λ most. inr (omega (arith, most, second))) rose

      later : Rose (disks.faults mid.disk) (disks.faults new.disk) → Rose (disks.faults old.disk) (disks.faults new.disk)
      later rose = ⊎_elim (λ more. inl (omega (arith, more, first))) (λ most. inr most) rose

  -- nothing was added
  pub extends_none : (keep : KeepData D) → IsKeep disks.state keep → (IsTold (disks.state keep.disk) → IsLawful (disks.state keep.disk)) → Extends disks keep keep []
  extends_none keep kept lawful = record {
    tables = refl;
    listed = sym (none_more keep.entries);
    told = refl;
    counts = omega arith;
    images = images_none keep kept lawful;
    doubt = λ told. inr (inl refl);
  }

  -- entries were added, and then others
  pub extends_more : (old mid new : KeepData D) (first second : List Entry) → Extends disks old mid first → Extends disks mid new second
      → Extends disks old new (first ++ second)
  extends_more old mid new first second before behind = record {
    tables = behind.tables ∙ ap (λ t. tables_from t second) before.tables ∙ sym (tables_from-append old.tables first second);
    listed = behind.listed ∙ ap (λ l. l ++ second) before.listed ∙ append_assoc old.entries first second;
    told = behind.told ∙ before.told;
    counts = omega (arith, before.counts, behind.counts);
    images = images_more old mid new first second before.told before.listed behind.listed before.images behind.images;
    doubt = doubt_more old mid new before.told before.counts behind.counts before.doubt behind.doubt;
  }
