-- Names that are read, and lists of names that are gone through one by one.
use Rattle.std.proofs.Common.{◌≡◌, ◌⊎◌, inl, inr, ℕ, zero, suc, ◌+◌, ◌<◌, ◌≤◌, Bool, true, false, Option, Result, Ok, Err, IsErr, List, [], ◌∷◌, ◌++◌, length, take, drop, filter, map, get_or, drop-cons, refl, sym, ◌∙◌, ap, subst, arith}
use Rattle.std.specs.Prelude.{if◌then◌else◌}
use Rattle.std.specs.Str.{IsUtf8, is_utf8}
use Rattle.std.proofs.lemmas.Str.{IsUtf8-from_is_utf8, is_utf8-from_IsUtf8}
use Rattle.std.proofs.lemmas.List.{map-append}
use Rattle.std.proofs.lemmas.List.Elements.{filter-append}
use Rattle.fts_files.specs.Calls.{Call, Answer, Names, with_call}
use Rattle.fts_files.specs.Script.{Script, LeadsTo, fails}
use Rattle.fts_files.proofs.Playing.{then_leads, does_leads}
use Rattle.fts_store.specs.FolderCalls.{UpToMemory}
use Rattle.fts_store.specs.Listing.{names_told, lists}

-- it stopped where memory was missing
pub stops : {T E : Type 0} {one two : Script} {a b : Option (List Call)} (result : Result T E) (next : T → Script)
    → LeadsTo one a two b → IsErr result → UpToMemory result one next a b
stops (Ok value) next leads is = cc
stops {one = one} {two = two} (Err memory) next leads is = (two, leads)

-- it didn't
pub goes_on : {one two : Script} {a b : Option (List Call)} → LeadsTo one a two b → (rest : Script) × LeadsTo one a two b
goes_on leads = (fails, leads)

-- steps before it
pub up_to : {T E : Type 0} {one two : Script} {a b c : Option (List Call)} (result : Result T E) (next : T → Script)
    → LeadsTo one a two b → UpToMemory result two next b c → UpToMemory result one next a c
up_to result next first second = (second.0, then_leads first second.1)

-- the names in a folder were read
pub listed_leads : (folder want : List ℕ) (next : List (List ℕ) → Script) (names : List (List ℕ)) (old new : Option (List Call)) (answer : Answer)
    → folder ≡ want → new ≡ with_call old (Names folder) answer → names ≡ names_told answer → LeadsTo (lists want next) old (next names) new
listed_leads folder want next names old new answer is call told =
    subst (λ f. LeadsTo (lists f next) old (next names) new) is
    (subst (λ n. LeadsTo (lists folder next) old (next n) new) (sym told) (does_leads (Names folder) (λ a. next (names_told a)) old new answer call))

-- or memory was missing, behind that or before
pub unlisted : {one : Script} {start : Option (List Call)} (folder : List ℕ) (next : List (List ℕ) → Script) (old new : Option (List Call))
    → LeadsTo one start (lists folder next) old
    → ((new ≡ old) ⊎ ((answer : Answer) × (new ≡ with_call old (Names folder) answer))) → (rest : Script) × LeadsTo one start rest new
unlisted {one} {start} folder next old new first (inl none) = (lists folder next, subst (λ log. LeadsTo one start (lists folder next) log) (sym none) first)
unlisted folder next old new first (inr told) =
    (next (names_told told.0), then_leads first (does_leads (Names folder) (λ a. next (names_told a)) old new told.0 told.1))

-- the names in a list: the next one, and those behind it
pub behind : {T : Type 0} (names : List T) (i : ℕ) (name : T) → name ≡ get_or names i name → i < length names → drop i names ≡ name ∷ drop (i + 1) names
behind names i name is more =
    let one : suc i ≡ i + 1 = omega arith in
    drop-cons names i name more ∙ ap (λ n. n ∷ drop (suc i) names) (sym is) ∙ ap (λ n. name ∷ drop n names) one

-- nothing is left
pub none_behind : {T : Type 0} (names : List T) (i : ℕ) → length names ≤ i → drop i names ≡ []
none_behind [] zero le = refl
none_behind [] (suc i) le = refl
none_behind (name ∷ names) zero le = absurd (omega arith)
none_behind (name ∷ names) (suc i) le = none_behind names i (omega arith)

-- one of two, behind a test
by_test : {S T : Type 0} (f : S → T) (b : Bool) (one other : S) → f (if b then one else other) ≡ (if b then f one else f other)
by_test f true one other = refl
by_test f false one other = refl

-- the first of a list, where it passes a test
pub first_passes : {S T : Type 0} (f : List S → T) (test : S → Bool) (x : S) (xs : List S)
    → f (filter test (x ∷ xs)) ≡ (if test x then f (x ∷ filter test xs) else f (filter test xs))
first_passes f test x xs = by_test f (test x) (x ∷ filter test xs) (filter test xs)

-- a test that can't hold
untested : {S : Type 0} (b : Bool) → ¬ (b ≡ true) → (xs : List S) → (if b then xs else []) ≡ []
untested true none xs = absurd (none refl)
untested false none xs = refl

-- what is no text, and what is one
pub no_text : (bytes : List ℕ) → ¬ (IsUtf8 bytes) → filter is_utf8 (bytes ∷ []) ≡ []
no_text bytes none = untested (is_utf8 bytes) (λ is. none (IsUtf8-from_is_utf8 bytes is)) (bytes ∷ [])

pub a_text : (bytes : List ℕ) → IsUtf8 bytes → filter is_utf8 (bytes ∷ []) ≡ bytes ∷ []
a_text bytes is = ap (λ b. if b then bytes ∷ [] else []) (is_utf8-from_IsUtf8 bytes is)

-- nothing behind
pub nothing_more : {T : Type 0} (xs : List T) → xs ++ [] ≡ xs
nothing_more [] = refl
nothing_more (x ∷ xs) = ap (λ l. x ∷ l) (nothing_more xs)

take_whole : {T : Type 0} (xs : List T) (i : ℕ) → length xs ≤ i → take i xs ≡ xs
take_whole [] zero le = refl
take_whole [] (suc i) le = refl
take_whole (x ∷ xs) zero le = absurd (omega arith)
take_whole (x ∷ xs) (suc i) le = ap (λ l. x ∷ l) (take_whole xs i (omega arith))

take_one : {T : Type 0} (xs : List T) (i : ℕ) (x : T) → x ≡ get_or xs i x → i < length xs → take (suc i) xs ≡ take i xs ++ x ∷ []
take_one [] i x here more = absurd (omega arith)
take_one (y ∷ xs) zero x here more = ap (λ z. z ∷ []) (sym here)
take_one (y ∷ xs) (suc i) x here more = ap (λ l. y ∷ l) (take_one xs i x here (omega arith))

-- what stands inside a list stands there whatever would stand behind it
pub in_place : {T : Type 0} (xs : List T) (i : ℕ) (d : T) → i < length xs → get_or xs i d ≡ get_or xs i (get_or xs i d)
in_place [] i d more = absurd (omega arith)
in_place (x ∷ xs) zero d more = refl
in_place (x ∷ xs) (suc i) d more = in_place xs i d (omega arith)

-- the next of some pieces, where it is a text
pub one_more : {T : Type 0} (piece : T → List ℕ) (pieces : List T) (i : ℕ) (x : T) (names : List (List ℕ)) → x ≡ get_or pieces i x → i < length pieces
    → names ≡ filter is_utf8 (map piece (take i pieces)) → names ++ filter is_utf8 (piece x ∷ []) ≡ filter is_utf8 (map piece (take (i + 1) pieces))
one_more piece pieces i x names here more is =
    let one : suc i ≡ i + 1 = omega arith in
    ap (λ l. l ++ filter is_utf8 (piece x ∷ [])) is ∙ sym (filter-append is_utf8 (map piece (take i pieces)) (piece x ∷ []))
    ∙ ap (filter is_utf8) (sym (map-append piece (take i pieces) (x ∷ [])))
    ∙ ap (λ l. filter is_utf8 (map piece l)) (sym (ap (λ n. take n pieces) (sym one) ∙ take_one pieces i x here more))

-- all of them
pub all_pieces : {T : Type 0} (piece : T → List ℕ) (pieces : List T) (i : ℕ) (names all : List (List ℕ)) → length pieces ≤ i
    → names ≡ filter is_utf8 (map piece (take i pieces)) → map piece pieces ≡ all → names ≡ filter is_utf8 all
all_pieces piece pieces i names all past is pieces_are =
    is ∙ ap (λ l. filter is_utf8 (map piece l)) (take_whole pieces i past) ∙ ap (filter is_utf8) pieces_are
