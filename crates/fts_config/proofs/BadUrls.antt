-- Lists of URLs, one after the other: the first fault of both.
use Rattle.std.proofs.Common.{◌≡◌, ◌<◌, ◌+◌, ℕ, List, [], ◌∷◌, ◌++◌, length, get_or, take, drop, map, Option, Some, None, Result, Ok, Err, refl, sym, ap, ◌∙◌, inl, inr}
use Rattle.std.proofs.lemmas.List.{take_more, drop_more, map-append}
use Rattle.std.specs.List.{flat_map}
use Rattle.toml.specs.Data.{Data}
use Rattle.toml.specs.View.{view}
use Rattle.toml.specs.declared.value.Value.{Value}
use Rattle.fts_tables.specs.FirstFault.{unless}
use Rattle.fts_config.specs.Faults.{Gives}
use Rattle.fts_joburl.specs.declared.fault.UrlFault.{UrlFault}
use Rattle.fts_config.specs.declared.fault.SettingsFault.{SettingsFault}
use Rattle.fts_config.specs.Reading.{endpoint_by, bad_or, first_bad}

good_first : (r : Result (List ℕ) UrlFault) (here all rest : Option SettingsFault) → bad_or r here ≡ None → (here ≡ None → all ≡ rest) → bad_or r all ≡ rest
good_first (Ok name) here all rest good further = further good
good_first (Err fault) here all rest good further = cc

bad_first : (r : Result (List ℕ) UrlFault) (here all : Option SettingsFault) (fault : SettingsFault) → bad_or r here ≡ Some fault
    → (here ≡ Some fault → all ≡ Some fault) → bad_or r all ≡ Some fault
bad_first (Ok name) here all fault bad further = further bad
bad_first (Err refused) here all fault bad further = bad

-- behind good URLs the others decide
pub first_bad-append_good : (urls more : List (List ℕ)) → first_bad urls ≡ None → first_bad (urls ++ more) ≡ first_bad more
first_bad-append_good [] more good = refl
first_bad-append_good (url ∷ urls) more good = good_first (endpoint_by url) (first_bad urls) (first_bad (urls ++ more)) (first_bad more) good
    (first_bad-append_good urls more)

-- before others a bad URL stays the first
pub first_bad-append_bad : (urls more : List (List ℕ)) (fault : SettingsFault) → first_bad urls ≡ Some fault → first_bad (urls ++ more) ≡ Some fault
first_bad-append_bad [] more fault bad = cc
first_bad-append_bad (url ∷ urls) more fault bad = bad_first (endpoint_by url) (first_bad urls) (first_bad (urls ++ more)) fault bad
    (first_bad-append_bad urls more fault)

-- the entries that are left begin with this one
rest_is : (entries : List Value) (i : ℕ) (entry : Value) → i < length entries → entry ≡ get_or entries i entry → drop i entries ≡ entry ∷ drop (i + 1) entries
rest_is entries i entry inside is = drop_more entries i entry inside ∙ ap (λ (first : Value). first ∷ drop (i + 1) entries) (sym is)

-- a bad URL of the entry at hand is the first of all
pub bad_here : (urls : Data → List (List ℕ)) (entries : List Value) (i : ℕ) (entry : Value) (fault : SettingsFault)
    → i < length entries → entry ≡ get_or entries i entry
    → first_bad (flat_map urls (map view (drop i entries))) ≡ first_bad (flat_map urls (map view entries))
    → first_bad (urls (view entry)) ≡ Some fault → first_bad (flat_map urls (map view entries)) ≡ Some fault
bad_here urls entries i entry fault inside is left bad =
    let rest : drop i entries ≡ entry ∷ drop (i + 1) entries = rest_is entries i entry inside is in
    sym left ∙ rw rest (first_bad-append_bad (urls (view entry)) (flat_map urls (map view (drop (i + 1) entries))) fault bad)

-- behind an entry of good URLs those that are left decide
pub good_here : (urls : Data → List (List ℕ)) (entries : List Value) (i : ℕ) (entry : Value)
    → i < length entries → entry ≡ get_or entries i entry
    → first_bad (flat_map urls (map view (drop i entries))) ≡ first_bad (flat_map urls (map view entries))
    → first_bad (urls (view entry)) ≡ None → first_bad (flat_map urls (map view (drop (i + 1) entries))) ≡ first_bad (flat_map urls (map view entries))
good_here urls entries i entry inside is left good =
    let rest : drop i entries ≡ entry ∷ drop (i + 1) entries = rest_is entries i entry inside is in
    sym (first_bad-append_good (urls (view entry)) (flat_map urls (map view (drop (i + 1) entries))) good) ∙ rw rest at left

-- one more item is read
pub read_here : {A : Type 0} (value : Data → A) (entries : List Value) (i : ℕ) (entry : Value) (items read : List A) (item : A)
    → i < length entries → entry ≡ get_or entries i entry → items ≡ map value (map view (take i entries)) → item ≡ value (view entry) → read
    ≡ items ++ item ∷ []
    → read ≡ map value (map view (take (i + 1) entries))
read_here value entries i entry items read item inside is so_far same pushed =
    let next : take (i + 1) entries ≡ take i entries ++ get_or entries i entry ∷ [] = take_more entries i entry inside in
    pushed ∙ rw (next, map-append, map-append, ← is, ← same, so_far) refl

-- a refusal of what is read here is one of the whole, where the fault is
pub gives_bad : {A B : Type 0} (here all : Option SettingsFault) (value : A) (whole : B) (fault : SettingsFault)
    → Gives (Err fault) (unless here value) → ((f : SettingsFault) → here ≡ Some f → all ≡ Some f) → Gives (Err fault) (unless all whole)
gives_bad None all value whole fault (inl e) further = cc
gives_bad (Some f) all value whole fault (inl e) further = inl (rw (further f refl) (cc e))
gives_bad here all value whole fault (inr e) further = inr (cc e)

-- what is read here has no bad URL, and is the value
pub gives_good : {A : Type 0} (here : Option SettingsFault) (value read : A) → Gives (Ok read) (unless here value) → (here ≡ None) × (read ≡ value)
gives_good None value read (inl e) = (refl, cc e)
gives_good (Some f) value read (inl e) = cc
gives_good here value read (inr e) = cc
