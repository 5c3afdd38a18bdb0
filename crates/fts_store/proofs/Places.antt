-- Places that are the same are equal, and what that makes of files with one changed.
use Rattle.std.proofs.Common.{◌≡◌, ℕ, Bool, true, false, Option, None, List, refl, sym, ◌∙◌, ap, subst, cond}
use Rattle.std.specs.Bool.{Decides}
use Rattle.std.specs.Prelude.{bytes_eq}
use Rattle.std.proofs.lemmas.Bool.Decides.{Decides-like, Decides-and}
use Rattle.std.proofs.lemmas.Slice.Eq.{bytes_eq-Decides}
use Rattle.fts_tables.specs.declared.places.Place.{Place}
use Rattle.fts_tables.specs.Places.{is_same_place}
use Rattle.fts_store.specs.Store.{Same, SameBut, with_file, with_move}

-- a place of these two texts
abbrev place_of : List ℕ → List ℕ → Place
place_of endpoint path = record { endpoint = endpoint; path = path }

-- places of equal texts are equal
by_texts : (e f p q : List ℕ) → e ≡ f → p ≡ q → place_of e p ≡ place_of f q
by_texts e f p q one other = cc

-- the test of two places is true exactly where they are equal
pub same_place-Decides : (one other : Place) → Decides (is_same_place one other) (one ≡ other)
same_place-Decides one other = Decides-like (is_same_place one other)
    (λ both. by_texts one.endpoint other.endpoint one.path other.path both.0 both.1)
    (λ is. (ap (λ (p : Place). p.endpoint) is, ap (λ (p : Place). p.path) is))
    (Decides-and (bytes_eq one.endpoint other.endpoint) (bytes_eq one.path other.path)
    (bytes_eq-Decides one.endpoint other.endpoint) (bytes_eq-Decides one.path other.path))

-- a place is the same as itself
pub same_place-itself : (place : Place) → is_same_place place place ≡ true
same_place-itself place = (same_place-Decides place place).1 refl

-- files with one changed, over files that are the same
pub with_file-Same : (one other : Place → Option (List ℕ)) (at : Place) (file : Option (List ℕ)) → Same one other → Same (with_file one at file) (with_file other at file)
with_file-Same one other at file same place = ap (cond (is_same_place place at) file) (same place)

-- the later of two changes at one place counts
pub with_file-twice : (files : Place → Option (List ℕ)) (at : Place) (file later : Option (List ℕ)) → Same (with_file (with_file files at file) at later) (with_file files at later)
with_file-twice files at file later place = elim (is_same_place place at) as (λ b. cond b later (cond b file (files place)) ≡ cond b later (files place)) [ true ↦ refl | false ↦ refl ]

-- a file that is put where it is
pub with_file-itself : (files : Place → Option (List ℕ)) (at : Place) → Same (with_file files at (files at)) files
with_file-itself files at place = at_test (is_same_place place at) (same_place-Decides place at).0
  where
    at_test : (b : Bool) → (b ≡ true → place ≡ at) → cond b (files at) (files place) ≡ files place
    at_test true is = ap files (sym (is refl))
    at_test false is = refl

-- a change over files that are the same as before
pub put_over : (old middle new : Place → Option (List ℕ)) (at : Place) (file : Option (List ℕ)) → Same middle old → Same new (with_file middle at file) → Same new (with_file old at file)
put_over old middle new at file same put place = put place ∙ with_file-Same middle old at file same place

-- a file that is taken out and put back changed
pub change_over : (old middle taken new : Place → Option (List ℕ)) (at : Place) (file : Option (List ℕ))
    → Same middle old → Same taken (with_file middle at None) → Same new (with_file taken at file) → Same new (with_file old at file)
change_over old middle taken new at file same takes puts place =
    puts place ∙ with_file-Same taken (with_file middle at None) at file takes place
    ∙ with_file-twice middle at None file place ∙ with_file-Same middle old at file same place

-- a file that is taken out and put back as it was
pub restore_over : (old middle taken new : Place → Option (List ℕ)) (at : Place) (file : Option (List ℕ)) → file ≡ middle at
    → Same middle old → Same taken (with_file middle at None) → Same new (with_file taken at file) → Same new old
restore_over old middle taken new at file is same takes puts place =
    change_over middle middle taken new at file (λ q. refl) takes puts place
    ∙ subst (λ f. with_file middle at f place ≡ middle place) (sym is) (with_file-itself middle at place) ∙ same place

-- a file that is taken out at one place and put at another
pub move_over : (old one middle taken new : Place → Option (List ℕ)) (from to : Place) (file : Option (List ℕ)) → file ≡ middle from
    → Same one old → Same middle one → Same taken (with_file middle from None) → Same new (with_file taken to file) → Same new (with_move old from to)
move_over old one middle taken new from to file is first second takes puts place =
    let same : Same middle old = λ q. second q ∙ first q in
    puts place ∙ with_file-Same taken (with_file middle from None) to file takes place
    ∙ with_file-Same (with_file middle from None) (with_file old from None) to file (with_file-Same middle old from None same) place
    ∙ ap (λ f. with_file (with_file old from None) to f place) (is ∙ same from)

-- what is at the place of a change
pub put_there : (old new : Place → Option (List ℕ)) (at : Place) (file : Option (List ℕ)) → Same new (with_file old at file) → new at ≡ file
put_there old new at file put = put at ∙ ap (λ b. cond b file (old at)) (same_place-itself at)

-- and elsewhere
pub put_elsewhere : (old new : Place → Option (List ℕ)) (at : Place) (file : Option (List ℕ)) → Same new (with_file old at file) → SameBut at old new
put_elsewhere old new at file put place apart = put place ∙ ap (λ b. cond b file (old place)) apart
