-- One asking of the watch is a turn that adds nothing.
use Rattle.std.proofs.Common.{◌≡◌, ◌≢◌, refl, sym, ap, ◌∙◌, subst, inl, ℕ, ◌+◌, ◌≤◌, ◌<◌, ◌&&◌, Bool, true, false, cond, List, [], ◌∷◌, ◌++◌, append-nil, append_assoc, eq-eqb, arith}
use Rattle.fts_tables.specs.History.{tables_of}
use Rattle.fts_tables.specs.declared.commands.Entry.{Entry}
use Rattle.fts_turnstile.specs.declared.turn.LoggedTurn.{LoggedTurn}
use Rattle.fts_turnstile.specs.History.{items_of, shown_after, turn_of, AllName, AllNamed, NoneBy}
use Rattle.fts_turnstile.specs.Passes.{PassView, IsSame, TookTurn, seen_list, own_items}
use Rattle.fts_shop.specs.Shops.{ShopData, shop_entries, writer_of, shop_shows, doubt_shown, lanes_shown, ShowsOn}
use Rattle.fts_shop.specs.Within.{is_cancel_asked, IsLookIn}
use Rattle.fts_shop.specs.Looking.{looks_in, is_empty, Unasked, LeaveDoubt, LeaveLanes, NoneOf, IsWatched}
use Rattle.fts_shop.specs.Looked.{items_on, looks_on, unasked_on, shown_on, doubt_on, lanes_on, none_on}
use Rattle.fts_shop.proofs.Took.{nothing_added, list_left, shows_same}
use Rattle.fts_disk.specs.declared.disk.Disk as disk

-- the entries of a turn are of none but its writer
none_named : (number other : ℕ) (entries : List Entry) → AllName writer_of other entries → other ≢ number → NoneOf number entries
none_named number other [] named apart = tt
none_named number other (entry ∷ entries) named apart = ((λ is. apart (sym named.0 ∙ is)), none_named number other entries named.1 apart)

-- the entries of others' turns are none of a writer's
pub others_none : (number : ℕ) (joined : List ℕ) (turns : List (LoggedTurn Entry)) → AllNamed writer_of turns → NoneBy (number ∷ joined) turns
    → NoneOf number (items_of turns)
others_none number joined [] named others = tt
others_none number joined (turn ∷ turns) named others =
    none_on number turn.items (items_of turns) (none_named number turn.number turn.items named.0 (λ is. others.0 (inl is)))
    (others_none number joined turns named.1 others.1)

-- turns behind others, whose entries name their turns
pub named_behind : (first turns : List (LoggedTurn Entry)) → AllNamed writer_of (first ++ turns) → AllNamed writer_of turns
named_behind [] turns named = named
named_behind (turn ∷ first) turns named = named_behind first turns named.1

-- others' turns are not the pass's, whatever it does in its own
others_unasked : (number file : ℕ) (joined : List ℕ) (entries : List Entry) (turns : List (LoggedTurn Entry)) → NoneBy (number ∷ joined) turns
    → Unasked number file entries turns
others_unasked number file joined entries [] others = tt
others_unasked number file joined entries (turn ∷ turns) others =
    ((λ mine. absurd (others.0 (inl mine))), others_unasked number file joined (entries ++ turn.items) turns others.1)

others_lanes : (number : ℕ) (joined shown : List ℕ) (turns : List (LoggedTurn Entry)) → NoneBy (number ∷ joined) turns → LeaveLanes number shown turns
others_lanes number joined shown [] others = tt
others_lanes number joined shown (turn ∷ turns) others = ((λ mine. absurd (others.0 (inl mine))), others_lanes number joined turn.shows turns others.1)

others_doubt : (number : ℕ) (joined shown : List ℕ) (turns : List (LoggedTurn Entry)) → NoneBy (number ∷ joined) turns → LeaveDoubt number shown turns
others_doubt number joined shown [] others = tt
others_doubt number joined shown (turn ∷ turns) others = ((λ mine. absurd (others.0 (inl mine))), others_doubt number joined turn.shows turns others.1)

module _ {D : Type 0} (disks : disk.Ghosts D) (work : ShopData D → ShopData D → Type 0) (old new : PassView Entry) (same : IsSame old new)
    (took : TookTurn shop_entries writer_of (shop_shows disks) work old new) (file : ℕ) (asked : Bool)
    (looked : IsLookIn disks file took.before took.after asked) where
  abbrev last : LoggedTurn Entry
  last = turn_of old.number took.added (shop_shows disks took.after)

  none : took.added ≡ []
  none = nothing_added disks work old new same took (ap (λ (s : ShopData D). s.keep.entries) looked.same)

  -- it is one look
  one_look : looks_in old.number (last ∷ []) ≡ 1
  one_look =
      ap (λ (b : Bool). cond {A = ℕ} (b && is_empty took.added) 1 0 + 0) (eq-eqb old.number old.number refl)
      ∙ ap (λ (l : List Entry). cond {A = ℕ} (is_empty l) 1 0 + 0) none

  -- the list before it
  met : took.before.keep.entries ≡ seen_list old ++ items_of took.between
  met =
      took.began ∙ ap (λ list. old.opening ++ list) (items_on old.seen took.between)
      ∙ sym (append_assoc old.opening (items_of old.seen) (items_of took.between))

  -- what was asked is so of that list
  asked_there : is_cancel_asked (tables_of (seen_list old ++ items_of took.between)) file ≡ asked
  asked_there =
      ap (λ list. is_cancel_asked (tables_of list) file) (sym met)
      ∙ ap (λ tables. is_cancel_asked tables file) (sym looked.kept.fold.filled.list.folded) ∙ sym looked.is

  pub watched_once : (askings askings_now noes noes_now : ℕ) → askings_now ≤ askings + 1 → noes ≤ noes_now
      → (asked ≡ true → noes < 18446744073709551615 → noes_now ≢ noes) → (noes < noes_now → asked ≡ true)
      → IsWatched file old new askings askings_now noes noes_now
  watched_once askings askings_now noes noes_now few no_fewer on_yes on_no = record {
    same = same;
    only_looks = took.own_is ∙ ap (λ list. own_items old ++ list) none ∙ append-nil (own_items old);
    since = took.between ++ last ∷ [];
    seen = took.seen ∙ append_assoc old.seen took.between (last ∷ []);
    others = subst (λ list. NoneOf old.number list) (sym (items_on took.between (last ∷ [])))
        (none_on old.number (items_of took.between) (items_of (last ∷ []))
        (others_none old.number old.joined took.between (named_behind old.seen took.between took.all_named) took.others)
        (subst (λ list. NoneOf old.number (list ++ [])) (sym none) tt));
    lanes = lanes_on old.number (shown_after old.opening_shows old.seen) took.between (last ∷ [])
        (others_lanes old.number old.joined (shown_after old.opening_shows old.seen) took.between took.others) (
          (λ mine. (
            ap lanes_shown shows_still,
            subst (λ shown. ShowsOn old.number (shown_after (shown_after old.opening_shows old.seen) took.between) shown) (sym shows_still)
                (shows_same old.number _),
          )),
          tt,
        );
    doubt = doubt_on old.number (shown_after old.opening_shows old.seen) took.between (last ∷ [])
        (others_doubt old.number old.joined (shown_after old.opening_shows old.seen) took.between took.others)
        ((λ mine. ap doubt_shown shows_still), tt);
    looks = omega (arith, few, looks_on old.number took.between (last ∷ []), one_look);
    no_fewer = no_fewer;
    unasked = λ still low. unasked_on old.number file (seen_list old) took.between (last ∷ [])
        (others_unasked old.number file old.joined (seen_list old) took.between took.others)
        ((λ mine. asked_there ∙ is_no asked refl still low), tt);
    asked = λ rose. subst (λ list. is_cancel_asked (tables_of list) file ≡ true)
        (sym met_again)
        (asked_there ∙ on_no rose);
  }
    where
      shows_still : shop_shows disks took.after ≡ shown_after (shown_after old.opening_shows old.seen) took.between
      shows_still = ap (shop_shows disks) looked.same ∙ took.showed ∙ shown_on old.opening_shows old.seen took.between

      is_no : (answer : Bool) → asked ≡ answer → noes_now ≡ noes → noes < 18446744073709551615 → asked ≡ false
      is_no true is still low = absurd (on_yes is low still)
      is_no false is still low = is

      met_again : seen_list new ≡ seen_list old ++ items_of took.between
      met_again = sym (list_left disks work old new same took) ∙ ap (λ (s : ShopData D). s.keep.entries) looked.same ∙ met
