-- What one file more does to a store, and to what is said of it.
use Rattle.std.proofs.Common.{◌≡◌, ℕ, ◌+◌, ◌≤◌, Bool, true, false, List, [], ◌∷◌, ◌++◌, Option, Some, None, ap, refl, sym, ◌∙◌, inl, inr, arith}
use Rattle.std.specs.Prelude.{if◌then◌else◌}
use Rattle.std.specs.List.{flat_map}
use Rattle.std.specs.Bool.{Decides}
use Rattle.std.specs.Prelude.{bytes_eq}
use Rattle.std.proofs.lemmas.Bool.Decides.{Decides-like, Decides-and}
use Rattle.std.proofs.lemmas.Slice.Eq.{bytes_eq-Decides}
use Rattle.std.proofs.lemmas.List.{append_assoc, append-nil}
use Rattle.std.proofs.lemmas.Grind.{flat_map-append}
use Rattle.std.proofs.lemmas.List.FromFn.{map-range_with_len_more}
use Rattle.fts_tables.specs.Counts.{Rose}
use Rattle.fts_tables.specs.Places.{is_same_place}
use Rattle.fts_tables.specs.declared.places.Place.{Place}
use Rattle.fts_store.specs.Calls.{Call, Created, Appended, with_call}
use Rattle.fts_store.specs.Store.{Same, SameBut, bytes_of, with_file}
use Rattle.fts_store.specs.declared.held.StoredFile.{StoredFile}
use Rattle.fts_load.specs.Sources.{source_file, source_place, first_sources}
use Rattle.fts_load.specs.Made.{with_sources, calls_of, with_calls_of, IsNoSource, SameButSources}

-- a place of these two texts
abbrev place_of : List ℕ → List ℕ → Place
place_of endpoint path = record { endpoint = endpoint; path = path }

-- places of equal texts are equal
by_texts : (e f p q : List ℕ) → e ≡ f → p ≡ q → place_of e p ≡ place_of f q
by_texts e f p q one other = cc

-- the test of two places is true exactly where they are equal
same_place-Decides : (one other : Place) → Decides (is_same_place one other) (one ≡ other)
same_place-Decides one other = Decides-like (is_same_place one other)
    (λ both. by_texts one.endpoint other.endpoint one.path other.path both.0 both.1)
    (λ is. (ap (λ (p : Place). p.endpoint) is, ap (λ (p : Place). p.path) is))
    (Decides-and (bytes_eq one.endpoint other.endpoint) (bytes_eq one.path other.path)
    (bytes_eq-Decides one.endpoint other.endpoint) (bytes_eq-Decides one.path other.path))

-- a place is the same as itself
same_place-itself : (place : Place) → is_same_place place place ≡ true
same_place-itself place = (same_place-Decides place place).1 refl

-- a file that was created and then got its bytes
pub file_made : (old mid new : Place → Option (List ℕ)) (at : Place) (bytes : List ℕ) → Same mid (with_file old at (Some []))
    → new at ≡ Some (bytes_of (mid at) ++ bytes) → SameBut at mid new → Same new (with_file old at (Some bytes))
file_made old mid new at bytes created appended others = λ place. by_test place (is_same_place place at) refl
  where
    empty : mid at ≡ Some []
    empty = created at ∙ ap (λ (b : Bool). if b then Some [] else old at) (same_place-itself at)

    by_test : (place : Place) (b : Bool) → is_same_place place at ≡ b → new place ≡ (if b then Some bytes else old place)
    by_test place true is = ap new ((same_place-Decides place at).0 is) ∙ appended ∙ ap (λ (f : Option (List ℕ)). Some (bytes_of f ++ bytes)) empty
    by_test place false is = others place is ∙ created place ∙ ap (λ (b : Bool). if b then Some [] else old place) is

-- a file over files that are the same
pub file_over : (files old : Place → Option (List ℕ)) (at : Place) (file : Option (List ℕ)) → Same files old → Same (with_file files at file) (with_file old at file)
file_over files old at file same = λ place. ap (λ (f : Option (List ℕ)). if is_same_place place at then file else f) (same place)

-- the last of some files
pub with_last : (files : Place → Option (List ℕ)) (sources : List StoredFile) (source : StoredFile)
    → with_sources files (sources ++ source ∷ []) ≡ with_file (with_sources files sources) source.place (Some source.bytes)
with_last files [] source = refl
with_last files (first ∷ sources) source = with_last (with_file files first.place (Some first.bytes)) sources source

-- the first files, and one more
pub sources_more : (endpoint : List ℕ) (number made : ℕ) → first_sources endpoint number (made + 1) ≡ first_sources endpoint number made ++ source_file endpoint number (made + 1) ∷ []
sources_more endpoint number made = map-range_with_len_more (source_file endpoint number) 1 made (made + 1) (omega arith)

-- a store with one file more
pub files_more : (endpoint : List ℕ) (number made : ℕ) (old now new : Place → Option (List ℕ)) (bytes : List ℕ)
    → Same now (with_sources old (first_sources endpoint number made)) → bytes ≡ (source_file endpoint number (made + 1)).bytes
    → Same new (with_file now (source_place endpoint (made + 1)) (Some bytes))
    → Same new (with_sources old (first_sources endpoint number (made + 1)))
files_more endpoint number made old now new bytes so_far is one = λ place.
    one place ∙ file_over now (with_sources old (first_sources endpoint number made)) (source_place endpoint (made + 1)) (Some bytes) so_far place
    ∙ ap (λ (b : List ℕ). with_file (with_sources old (first_sources endpoint number made)) (source_place endpoint (made + 1)) (Some b) place) is
    ∙ sym (ap (λ (f : Place → Option (List ℕ)). f place) (with_last old (first_sources endpoint number made) (source_file endpoint number (made + 1))))
    ∙ sym (ap (λ (l : List StoredFile). with_sources old l place) (sources_more endpoint number made))

-- only the places of sources changed
pub others_more : (endpoint : List ℕ) (made : ℕ) (old now new : Place → Option (List ℕ)) → ((place : Place) → IsNoSource endpoint place → is_same_place place (source_place endpoint made) ≡ false)
    → SameButSources endpoint old now → SameBut (source_place endpoint made) now new → SameButSources endpoint old new
others_more endpoint made old now new apart so_far one = λ place none. one place (apart place none) ∙ so_far place none

-- the calls of one file more
calls_one : (calls : Option (List Call)) (made : List StoredFile) (source : StoredFile)
    → with_call (with_call (with_calls_of calls made) (Created source.place (Some tt))) (Appended source.place source.bytes (Some tt))
    ≡ with_calls_of calls (made ++ source ∷ [])
calls_one None made source = refl
calls_one (Some calls) made source = ap (λ (l : List Call). Some l)
    (append_assoc (calls ++ flat_map calls_of made) (Created source.place (Some tt) ∷ []) (Appended source.place source.bytes (Some tt) ∷ [])
    ∙ append_assoc calls (flat_map calls_of made) (calls_of source)
    ∙ sym (ap (λ (l : List Call). calls ++ l) (flat_map-append calls_of made (source ∷ []))))

pub calls_more : (endpoint : List ℕ) (number made : ℕ) (old now new : Option (List Call)) (bytes : List ℕ)
    → now ≡ with_calls_of old (first_sources endpoint number made) → bytes ≡ (source_file endpoint number (made + 1)).bytes
    → new ≡ with_call (with_call now (Created (source_place endpoint (made + 1)) (Some tt))) (Appended (source_place endpoint (made + 1)) bytes (Some tt))
    → new ≡ with_calls_of old (first_sources endpoint number (made + 1))
calls_more endpoint number made old now new bytes so_far is one =
    one ∙ ap (λ (l : Option (List Call)). with_call (with_call l (Created (source_place endpoint (made + 1)) (Some tt))) (Appended (source_place endpoint (made + 1)) bytes (Some tt))) so_far
    ∙ ap (λ (b : List ℕ). with_call (with_call (with_calls_of old (first_sources endpoint number made)) (Created (source_place endpoint (made + 1)) (Some tt)))
    (Appended (source_place endpoint (made + 1)) b (Some tt))) is
    ∙ calls_one old (first_sources endpoint number made) (source_file endpoint number (made + 1))
    ∙ sym (ap (with_calls_of old) (sources_more endpoint number made))

-- no call
pub calls_none : (calls : Option (List Call)) → calls ≡ with_calls_of calls []
calls_none None = refl
calls_none (Some calls) = ap (λ (l : List Call). Some l) (sym (append-nil calls))

-- a count that rose after it had not fallen
pub rose_from : (old now new : ℕ) → old ≤ now → Rose now new → Rose old new
rose_from old now new kept (inl less) = inl (omega (arith, kept, less))
rose_from old now new kept (inr most) = inr most
