-- Reading URLs one after the other: what was read, put before what is read of the rest.
use Rattle.std.proofs.Common.{◌≡◌, inl, inr, ℕ, List, [], ◌∷◌, ◌++◌, map, Option, Some, None, Result, Ok, Err, refl, ap, sym, ◌∙◌, append_assoc, append-nil}
use Rattle.std.specs.List.{flat_map}
use Rattle.std.specs.Option.{option_or}
use Rattle.serde_json.specs.Data.{Data}
use Rattle.fts_tables.specs.declared.places.Place.{Place}
use Rattle.fts_joburl.specs.declared.fault.UrlFault.{UrlFault}
use Rattle.fts_tables.specs.FirstFault.{unless}
use Rattle.fts_jobdoc.specs.Checks.{Gives}
use Rattle.fts_jobdoc.specs.Ends.{bad_url, place_read, places_of, fault_or, first_url_fault, urls_of, ends_of, url_refused, url_rule, places_read, ends_read, all_ends_read}
use Rattle.fts_jobdoc.specs.declared.ends.FileEnds.{FileEnds}
use Rattle.fts_jobdoc.specs.declared.fault.DocFault.{DocFault}
use Rattle.fts_jobdoc.specs.declared.fault.DocFault.TheVariants.{BadUrl}

-- some items before those of a result
abbrev pub extend : {T : Type 0} → List T → Result (List T) DocFault → Result (List T) DocFault
extend front (Ok rest) = Ok (front ++ rest)
extend front (Err fault) = Err fault

-- none before it
pub extend-nothing : {T : Type 0} (read : Result (List T) DocFault) → extend [] read ≡ read
extend-nothing (Ok rest) = refl
extend-nothing (Err fault) = refl

-- one more before it
pub extend-more : {T : Type 0} (front : List T) (x : T) (read : Result (List T) DocFault) → extend (front ++ x ∷ []) read ≡ extend front (extend (x ∷ []) read)
extend-more front x (Ok rest) = ap Ok (append_assoc front (x ∷ []) rest)
extend-more front x (Err fault) = refl

-- an item that is kept, unless it is refused
kept_first : {T : Type 0} (x : T) (xs : List T) (later : Option UrlFault) → unless (url_refused later) (x ∷ xs)
    ≡ extend (x ∷ []) (unless (url_refused later) xs)
kept_first x xs None = refl
kept_first x xs (Some fault) = refl

-- texts of which the first is a URL
places_read-Ok : (text : List ℕ) (texts : List (List ℕ)) (place : Place) → place_read text ≡ Ok place → places_read (text ∷ texts)
    ≡ extend (place ∷ []) (places_read texts)
unfolding first_url_fault places_of
places_read-Ok text texts place e = rw e (kept_first place (places_of texts) (first_url_fault texts))

-- texts of which the first is none
places_read-Err : (text : List ℕ) (texts : List (List ℕ)) (fault : UrlFault) → place_read text ≡ Err fault → places_read (text ∷ texts) ≡ Err (BadUrl fault)
unfolding first_url_fault places_of
places_read-Err text texts fault e = rw e refl

-- a value that was read, or that memory ran out: the second is no value
pub gives-Ok : {T : Type 0} (expected : Result T DocFault) (value : T) → Gives (Ok value) expected → expected ≡ Ok value
gives-Ok expected value (inl e) = sym e
gives-Ok expected value (inr e) = absurd (cc)

-- a place that is no refusal was read
read_as : (read : Result Place UrlFault) (place : Place) → bad_url read ≡ Ok place → read ≡ Ok place
read_as (Ok other) place e = cc
read_as (Err fault) place e = absurd (cc)

-- one URL more was read
pub places_read-step : (front : List Place) (text : List ℕ) (texts : List (List ℕ)) (place : Place) (whole : Result (List Place) DocFault)
    → Gives (Ok place) (bad_url (place_read text)) → extend front (places_read (text ∷ texts)) ≡ whole → extend (front ++ place ∷ []) (places_read texts)
    ≡ whole
places_read-step front text texts place whole read left =
    extend-more front place (places_read texts)
    ∙ sym (ap (extend front) (places_read-Ok text texts place (read_as (place_read text) place (gives-Ok (bad_url (place_read text)) place read)))) ∙ left

-- a URL was refused
refused_as : (read : Result Place UrlFault) (fault : DocFault) → Err fault ≡ bad_url read → (f : UrlFault) × (read ≡ Err f) × (fault ≡ BadUrl f)
refused_as (Ok place) fault e = absurd (cc)
refused_as (Err f) fault e = (f, refl, cc)

-- so the whole is
pub places_read-refused : (front : List Place) (text : List ℕ) (texts : List (List ℕ)) (fault : DocFault) (whole : Result (List Place) DocFault)
    → Gives (Err fault) (bad_url (place_read text)) → extend front (places_read (text ∷ texts)) ≡ whole → Gives (Err fault) whole
places_read-refused front text texts fault whole (inl e) left =
    let r = refused_as (place_read text) fault e in
    inl (ap Err r.2 ∙ sym (ap (extend front) (places_read-Err text texts r.0 r.1)) ∙ left)
places_read-refused front text texts fault whole (inr e) left = inr (ap Err (cc))

-- the end of the texts
pub places_read-end : (places : List Place) (whole : Result (List Place) DocFault) → extend places (places_read []) ≡ whole → Ok places ≡ whole
unfolding first_url_fault places_of
places_read-end places whole left = ap Ok (sym (append-nil places)) ∙ left

-- the first fault of two lists is that of the first, or else that of the second
pub first_url_fault-append : (xs ys : List (List ℕ)) → first_url_fault (xs ++ ys) ≡ option_or (first_url_fault xs) (first_url_fault ys)
unfolding first_url_fault
first_url_fault-append [] ys = refl
first_url_fault-append (x ∷ xs) ys =
    elim (place_read x) as (λ r. fault_or r (first_url_fault (xs ++ ys)) ≡ option_or (fault_or r (first_url_fault xs)) (first_url_fault ys)) [
      | Ok place ↦ first_url_fault-append xs ys
      | Err fault ↦ refl
    ]

-- two values of which none is refused
both_kept : {A B C : Type 0} (f g : Option UrlFault) (a : A) (b : B) (both : A → B → C) (x : A) (y : B)
    → unless (url_refused f) a ≡ Ok x → unless (url_refused g) b ≡ Ok y → unless (url_refused (option_or f g)) (both a b) ≡ Ok (both x y)
both_kept None None a b both x y e h = cc
both_kept None (Some fault) a b both x y e h = absurd (cc)
both_kept (Some fault) g a b both x y e h = absurd (cc)

-- two values of which the first is refused
first_refused : {A C : Type 0} (f g : Option UrlFault) (a : A) (c : C) (fault : DocFault)
    → Err fault ≡ unless (url_refused f) a → Err fault ≡ unless (url_refused (option_or f g)) c
first_refused None g a c fault e = absurd (cc)
first_refused (Some other) g a c fault e = ap Err (cc)

-- two values of which the second is refused
second_refused : {A B C : Type 0} (f g : Option UrlFault) (a : A) (x : A) (b : B) (c : C) (fault : DocFault)
    → unless (url_refused f) a ≡ Ok x → Err fault ≡ unless (url_refused g) b → Err fault ≡ unless (url_refused (option_or f g)) c
second_refused None None a x b c fault e h = absurd (cc)
second_refused None (Some other) a x b c fault e h = ap Err (cc)
second_refused (Some other) g a x b c fault e h = absurd (cc)

-- the ends of a file, of its two lists
abbrev pub ends_made : List Place → List Place → FileEnds
ends_made sources dests = record { sources = sources; dests = dests }

-- a file of which both lists were read
pub ends_read-both : (xs ys : List (List ℕ)) (sources dests : List Place) → places_read xs ≡ Ok sources → places_read ys ≡ Ok dests
    → unless (url_refused (first_url_fault (xs ++ ys))) (ends_made (places_of xs) (places_of ys)) ≡ Ok (ends_made sources dests)
ends_read-both xs ys sources dests e h = rw (first_url_fault-append xs ys) (both_kept (first_url_fault xs) (first_url_fault ys) _ _ ends_made sources dests e h)

-- a file of which a source was refused
pub ends_read-source : (xs ys : List (List ℕ)) (ends : FileEnds) (fault : DocFault)
    → Gives (Err fault) (places_read xs) → Gives (Err fault) (unless (url_refused (first_url_fault (xs ++ ys))) ends)
ends_read-source xs ys ends fault (inl e) = inl (rw (first_url_fault-append xs ys) (first_refused (first_url_fault xs) (first_url_fault ys) _ ends fault e))
ends_read-source xs ys ends fault (inr e) = inr (ap Err (cc))

-- a file of which the destination was refused
pub ends_read-dest : (xs ys : List (List ℕ)) (sources : List Place) (ends : FileEnds) (fault : DocFault) → places_read xs ≡ Ok sources
    → Gives (Err fault) (places_read ys) → Gives (Err fault) (unless (url_refused (first_url_fault (xs ++ ys))) ends)
ends_read-dest xs ys sources ends fault e (inl h) = inl
    (rw (first_url_fault-append xs ys) (second_refused (first_url_fault xs) (first_url_fault ys) _ sources _ ends fault e h))
ends_read-dest xs ys sources ends fault e (inr h) = inr (ap Err (cc))

-- a file that was kept is put first
kept_before : {T : Type 0} (f later : Option UrlFault) (x y : T) (ys : List T) → unless (url_refused f) x ≡ Ok y
    → unless (url_refused (option_or f later)) (x ∷ ys) ≡ extend (y ∷ []) (unless (url_refused later) ys)
kept_before None None x y ys e = ap (λ z. Ok (z ∷ ys)) (cc)
kept_before None (Some fault) x y ys e = refl
kept_before (Some fault) later x y ys e = absurd (cc)

-- one file more was read
pub all_ends_read-step : (front : List FileEnds) (file : Data) (files : List Data) (ends : FileEnds) (whole : Result (List FileEnds) DocFault)
    → Gives (Ok ends) (ends_read file) → extend front (all_ends_read (file ∷ files)) ≡ whole → extend (front ++ ends ∷ []) (all_ends_read files) ≡ whole
unfolding url_rule
all_ends_read-step front file files ends whole read left =
    let first = kept_before (first_url_fault (urls_of file)) (first_url_fault (flat_map urls_of files)) (ends_of file) ends (map ends_of files)
    (gives-Ok (ends_read file) ends read) in
    extend-more front ends (all_ends_read files)
    ∙ sym (ap (extend front) (rw (first_url_fault-append (urls_of file) (flat_map urls_of files)) first)) ∙ left

-- one file was refused, so all are
pub all_ends_read-refused : (front : List FileEnds) (file : Data) (files : List Data) (fault : DocFault) (whole : Result (List FileEnds) DocFault)
    → Gives (Err fault) (ends_read file) → extend front (all_ends_read (file ∷ files)) ≡ whole → Gives (Err fault) whole
unfolding url_rule
all_ends_read-refused front file files fault whole (inl e) left =
    let first : Err fault ≡ unless (url_refused (option_or (first_url_fault (urls_of file)) (first_url_fault (flat_map urls_of files))))
    (map ends_of (file ∷ files)) = first_refused _ _ _ _ fault e in
    let all : Err fault ≡ all_ends_read (file ∷ files) = rw (first_url_fault-append (urls_of file) (flat_map urls_of files)) first in
    inl (ap (extend front) all ∙ left)
all_ends_read-refused front file files fault whole (inr e) left = inr (ap Err (cc))

-- the end of the files
pub all_ends_read-end : (all : List FileEnds) (whole : Result (List FileEnds) DocFault) → extend all (all_ends_read []) ≡ whole → Ok all ≡ whole
unfolding url_rule first_url_fault
all_ends_read-end all whole left = ap Ok (sym (append-nil all)) ∙ left
