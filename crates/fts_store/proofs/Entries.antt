-- What an entry that is found, changed or appended makes of the files.
use Rattle.std.proofs.Common.{◌≡◌, ℕ, ◌+◌, ◌<◌, ◌≤◌, nat_lt, Bool, true, false, Option, Some, None, Result, Ok, Err, OnOk, OnErr, List, [], ◌∷◌, ◌++◌, length, refl, sym, ◌∙◌, ap, subst, cond, arith}
use Rattle.std.proofs.Math.ListN.{get_or, set}
use Rattle.std.specs.Prelude.{Vec}
use Rattle.std.specs.declared.alloc.Global.{Global}
use Rattle.std.specs.List.{find, position, position_or_len, slice_get}
use Rattle.std.specs.Option.{option_or}
use Rattle.std.proofs.lemmas.List.Folds.{find_at, find-append, find_past, position_or_len-set, position_or_len_push}
use Rattle.std.proofs.lemmas.List.Quantifiers.{position-Some}
use Rattle.std.proofs.lemmas.Option.{slice_get-get_or, slice_get_past}
use Rattle.std.proofs.lemmas.List.{get_or-set_same, length-set, length-append}
use Rattle.fts_tables.specs.declared.places.Place.{Place}
use Rattle.fts_tables.specs.Places.{is_same_place}
use Rattle.fts_store.specs.Store.{Same, with_file}
use Rattle.fts_store.specs.Held.{made_over, kept_file, is_entry_at, entry_place, IsEntryOf, Takes, EntryTakes}
use Rattle.fts_store.specs.declared.held.Entry.{Entry}
use Rattle.fts_store.proofs.Places.{same_place-Decides, same_place-itself}

-- the number in an option that a test chose
chosen : (b : Bool) (m n : ℕ) → cond b (Some m) None ≡ Some n → m ≡ n
chosen true m n is = cc
chosen false m n is = cc

-- what is found is the element at the position
find-position : {X : Type 0} (p : X → Bool) (xs : List X) (n : ℕ) → position p xs ≡ Some n → find p xs ≡ slice_get xs n
find-position p xs n is = find_at p xs ∙ ap (slice_get xs) (chosen (nat_lt (position_or_len p xs) (length xs)) (position_or_len p xs) n is)

-- an element that passes as the one before did leaves the position
position-set : {X : Type 0} (p : X → Bool) (xs : List X) (n : ℕ) (y d : X) → p y ≡ p (get_or xs n d) → position p (set xs n y) ≡ position p xs
position-set p xs n y d is = rw (position_or_len-set p xs n y d is, length-set)

-- the file at the place of an entry is what it keeps
pub over-entry : (given : Place → Option (List ℕ)) (made : List Entry) (n : ℕ) (d : Entry) (place : Place)
    → n < length made → IsEntryOf made n place → made_over given (find (is_entry_at place) made) place ≡ kept_file (get_or made n d).file
over-entry given made n d place inside is = ap (λ o. made_over given o place) (find-position (is_entry_at place) made n is ∙ slice_get-get_or made n d inside)

-- an entry is inside the list
pub entry_inside : (made : List Entry) (n : ℕ) (place : Place) → IsEntryOf made n place → n < length made
entry_inside made n place is = elim made as (λ made. IsEntryOf made n place → n < length made) [
  | [] ↦ λ is. cc
  | e ∷ es ↦ λ is. (position-Some (is_entry_at place) (e ∷ es) n e is).0
] is

-- another entry for the same place in its stead changes the file there, and no other
pub over-set : (given : Place → Option (List ℕ)) (made : List Entry) (n : ℕ) (d entry : Entry) (place : Place)
    → IsEntryOf made n place → entry_place entry ≡ entry_place (get_or made n d)
    → Same (λ q. made_over given (find (is_entry_at q) (set made n entry)) q) (with_file (λ q. made_over given (find (is_entry_at q) made) q) place (kept_file entry.file))
over-set given made n d entry place is same q = by_test (is_same_place q place) refl
  where
    parts : (n < length made) × (is_entry_at place (get_or made n d) ≡ true) × ((k : ℕ) → k < n → is_entry_at place (get_or made k d) ≡ false)
    parts = position-Some (is_entry_at place) made n d is

    there : place ≡ entry_place (get_or made n d)
    there = (same_place-Decides place (entry_place (get_or made n d))).0 parts.1

    here : find (is_entry_at place) (set made n entry) ≡ Some entry
    here = find-position (is_entry_at place) (set made n entry) n (position-set (is_entry_at place) made n entry d (ap (is_same_place place) same) ∙ is)
        ∙ slice_get-get_or (set made n entry) n d (rw length-set parts.0) ∙ ap Some (get_or-set_same made n entry d parts.0)

    by_test : (b : Bool) → is_same_place q place ≡ b → made_over given (find (is_entry_at q) (set made n entry)) q ≡ cond b (kept_file entry.file) (made_over given (find (is_entry_at q) made) q)
    by_test true at = subst (λ r. made_over given (find (is_entry_at r) (set made n entry)) r ≡ kept_file entry.file) (sym ((same_place-Decides q place).0 at)) (ap (λ o. made_over given o place) here)
    by_test false at =
        let apart : is_same_place q (entry_place (get_or made n d)) ≡ false = subst (λ r. is_same_place q r ≡ false) there at in
        ap (λ o. made_over given o q) (find_past (is_entry_at q) made n entry d apart (subst (λ r. is_same_place q r ≡ false) (sym same) apart))

-- a test that chose none
unchosen : (b : Bool) (m : ℕ) → cond b (Some m) None ≡ None → b ≡ false
unchosen true m is = cc
unchosen false m is = refl

-- the first place that passes is at most the end
at_most : {X : Type 0} (p : X → Bool) (xs : List X) → position_or_len p xs ≤ length xs
at_most p [] = omega arith
at_most p (x ∷ xs) = grind (arith, at_most p xs)

-- where none passes, that place is the end
none_at_end : {X : Type 0} (p : X → Bool) (xs : List X) → position p xs ≡ None → position_or_len p xs ≡ length xs
none_at_end p xs is =
    let past : nat_lt (position_or_len p xs) (length xs) ≡ false = unchosen (nat_lt (position_or_len p xs) (length xs)) (position_or_len p xs) is in
    let most : position_or_len p xs ≤ length xs = at_most p xs in
    grind (arith, past, most)

-- where none passes, none is found
find-none : {X : Type 0} (p : X → Bool) (xs : List X) → position p xs ≡ None → find p xs ≡ None
find-none p xs is = find_at p xs ∙ ap (slice_get xs) (none_at_end p xs is) ∙ slice_get_past xs (length xs) (omega arith)

-- the file that was taken out of an entry with room takes as much
pub room_there : (made made_now : List Entry) (n : ℕ) (place : Place) (count : ℕ) (file : Option (Vec ℕ Global))
    → ((d : Entry) → file ≡ (get_or made_now n d).file)
    → EntryTakes (find (is_entry_at place) made) count → made_now ≡ made → IsEntryOf made_now n place → Takes file count
room_there made made_now n place count file taken takes same is = by_found (find (is_entry_at place) made) refl takes
  where
    by_found : (found : Option Entry) → find (is_entry_at place) made ≡ found → EntryTakes found count → Takes file count
    by_found None there takes = absurd takes
    by_found (Some entry) there takes =
        let found : find (is_entry_at place) made ≡ Some (get_or made_now n entry) =
        ap (find (is_entry_at place)) (sym same) ∙ find-position (is_entry_at place) made_now n is
        ∙ slice_get-get_or made_now n entry (entry_inside made_now n place is) in
        let has : EntryTakes (Some (get_or made_now n entry)) count = subst (λ o. EntryTakes o count) (sym there ∙ found) takes in
        subst (λ f. Takes f count) (sym (taken entry)) has

-- an element that passes behind those that don't
position-push : {X : Type 0} (p : X → Bool) (xs : List X) (y : X) → position p xs ≡ None → p y ≡ true → position p (xs ++ y ∷ []) ≡ Some (length xs)
position-push p xs y is passes =
    let end : position_or_len p xs ≡ length xs = none_at_end p xs is in
    let there : position_or_len p (xs ++ y ∷ []) ≡ length xs = position_or_len_push p xs y ∙ grind (arith, end, passes) in
    let longer : length (xs ++ y ∷ []) ≡ length xs + 1 = length-append xs (y ∷ []) in
    grind (arith, there, longer)

-- an entry for a place that had none is found there
pub entry-push : (made : List Entry) (entry : Entry) → position (is_entry_at (entry_place entry)) made ≡ None → IsEntryOf (made ++ entry ∷ []) (length made) (entry_place entry)
entry-push made entry none = position-push (is_entry_at (entry_place entry)) made entry none (same_place-itself (entry_place entry))

-- such an entry that keeps what was given there changes no file
pub over-push : (given : Place → Option (List ℕ)) (made : List Entry) (entry : Entry)
    → position (is_entry_at (entry_place entry)) made ≡ None → kept_file entry.file ≡ given (entry_place entry)
    → Same (λ q. made_over given (find (is_entry_at q) (made ++ entry ∷ [])) q) (λ q. made_over given (find (is_entry_at q) made) q)
over-push given made entry none keeps q =
    ap (λ o. made_over given o q) (find-append (is_entry_at q) made (entry ∷ [])) ∙ by_test (is_same_place q (entry_place entry)) refl
  where
    nothing_else : (o : Option Entry) → option_or o None ≡ o
    nothing_else (Some e) = refl
    nothing_else None = refl

    by_test : (b : Bool) → is_same_place q (entry_place entry) ≡ b
        → made_over given (option_or (find (is_entry_at q) made) (cond (is_entry_at q entry) (Some entry) None)) q ≡ made_over given (find (is_entry_at q) made) q
    by_test false at = rw at (ap (λ o. made_over given o q) (nothing_else (find (is_entry_at q) made)))
    by_test true at =
        let there : q ≡ entry_place entry = (same_place-Decides q (entry_place entry)).0 at in
        let absent : find (is_entry_at q) made ≡ None = subst (λ r. find (is_entry_at r) made ≡ None) (sym there) (find-none (is_entry_at (entry_place entry)) made none) in
        rw (at, absent) (keeps ∙ ap given (sym there))

-- an entry that was added where there was room for it
pub over-added : (given : Place → Option (List ℕ)) (made new : List Entry) (entry : Entry) (at : Place) {E : Type 0} (result : Result ℕ E)
    → OnOk result (new ≡ made ++ entry ∷ []) → OnErr result (new ≡ made) → position (is_entry_at at) made ≡ None → entry_place entry ≡ at → kept_file entry.file ≡ given at
    → Same (λ q. made_over given (find (is_entry_at q) new) q) (λ q. made_over given (find (is_entry_at q) made) q)
over-added given made new entry at (Err e) added err none there keeps q = ap (λ l. made_over given (find (is_entry_at q) l) q) err
over-added given made new entry at (Ok n) added err none there keeps q =
    ap (λ l. made_over given (find (is_entry_at q) l) q) added
    ∙ over-push given made entry (subst (λ p. position (is_entry_at p) made ≡ None) (sym there) none) (keeps ∙ ap given (sym there)) q
