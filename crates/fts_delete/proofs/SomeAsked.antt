-- A document that is accepted asks for as many places as its list has items.
use Rattle.std.proofs.Common.{◌≡◌, ℕ, suc, Bool, true, false, List, [], ◌∷◌, length, Option, Some, None, is_some, Result, Ok, Err, refl, ap, nat_lt, ◌==◌, ◌&&◌, arith}
use Rattle.std.specs.List.{list_all, cons_option}
use Rattle.std.proofs.lemmas.Bool.{eqb-false, ltb-false}
use Rattle.serde_json.specs.Data.{Data}
use Rattle.serde_json.specs.Find.{as_str}
use Rattle.fts_tables.specs.FirstFault.{fault_if, fault_unless, first_fault, unless}
use Rattle.fts_tables.specs.SettingsData.{SettingsData}
use Rattle.fts_tables.specs.declared.places.Place.{Place}
use Rattle.fts_joburl.specs.declared.fault.UrlFault.{UrlFault}
use Rattle.fts_delete.specs.declared.document.DeleteDocFault.{DeleteDocFault}
use Rattle.fts_delete.specs.declared.document.DeleteDocFault.TheVariants.{NotObject, NoDeletes, TooMany, NotText}
use Rattle.fts_delete.specs.Rows.{most_asked}
use Rattle.fts_jobdoc.specs.Json.{value_of, is_object, is_text}
use Rattle.fts_jobdoc.specs.Ends.{place_read, place_kept, fault_or, places_of, first_url_fault}
use Rattle.fts_delete.specs.Documents.{asked_items, rules_of, texts_of, url_refused, asked_by, deletes_in, AsksForSome, AskedAreSome}

-- rules that are all kept
record AreKept {T : Type 0} (none many texts : Bool) (url : Option DeleteDocFault) (found places : T) : Type 0 where
  some : none ≡ false
  few : many ≡ false
  are_texts : texts ≡ true
  no_fault : url ≡ None
  same : found ≡ places

kept_all : {T : Type 0} (object none many texts : Bool) (url far : Option DeleteDocFault) (found places : T)
    → unless (first_fault (fault_unless object NotObject ∷ fault_if none NoDeletes ∷ fault_if many TooMany ∷ fault_unless texts NotText ∷ url ∷ far ∷ [])) found ≡ Ok places
    → AreKept none many texts url found places
kept_all false none many texts url far found places e = absurd cc
kept_all true true many texts url far found places e = absurd cc
kept_all true false true texts url far found places e = absurd cc
kept_all true false false false url far found places e = absurd cc
kept_all true false false true (Some fault) far found places e = absurd cc
kept_all true false false true None (Some fault) found places e = absurd cc
kept_all true false false true None None found places e = record { some = refl; few = refl; are_texts = refl; no_fault = refl; same = cc }

-- an item that is a text, in front of others
one_more : {T : Type 0} (item : Option T) (rest : List T) (n : ℕ) (b : Bool) → (is_some item && b) ≡ true → (b ≡ true → length rest ≡ n) → length (cons_option item rest) ≡ suc n
one_more (Some x) rest n b e later = omega (arith, later e)
one_more None rest n b e later = absurd cc

-- items that are all texts are as many
all_texts : (items : List Data) → list_all is_text items ≡ true → length (texts_of items) ≡ length items
all_texts [] e = refl
all_texts (item ∷ items) e = one_more (as_str item) (texts_of items) (length items) (list_all is_text items) e (all_texts items)

-- a URL that was read, in front of others
url_more : (read : Result Place UrlFault) (later : Option UrlFault) (rest : List Place) (n : ℕ) → url_refused (fault_or read later) ≡ None
    → (url_refused later ≡ None → length rest ≡ n) → length (cons_option (place_kept read) rest) ≡ suc n
url_more (Ok place) later rest n e behind = omega (arith, behind e)
url_more (Err fault) later rest n e behind = absurd cc

-- texts that are all URLs are as many
all_places : (texts : List (List ℕ)) → url_refused (first_url_fault texts) ≡ None → length (places_of texts) ≡ length texts
unfolding first_url_fault places_of
all_places [] e = refl
all_places (text ∷ texts) e = url_more (place_read text) (first_url_fault texts) (places_of texts) (length texts) e (all_places texts)

-- by the document's value
some_asked : (settings : SettingsData) (value : Option Data) (places : List Place) → asked_by settings value ≡ Ok places → AsksForSome places
unfolding rules_of
some_asked settings None places e = absurd cc
some_asked settings (Some document) places e =
    let kept = kept_all (is_object document) (length (asked_items document) == 0) (nat_lt most_asked (length (asked_items document))) (list_all is_text (asked_items document))
    (url_refused (first_url_fault (texts_of (asked_items document)))) _ (places_of (texts_of (asked_items document))) places e in
    let texts = all_texts (asked_items document) kept.are_texts in
    let found = all_places (texts_of (asked_items document)) kept.no_fault in
    let same = ap length kept.same in
    let some : ¬ (length (asked_items document) ≡ 0) = eqb-false (length (asked_items document)) 0 kept.some in
    let few = ltb-false most_asked (length (asked_items document)) kept.few in
    record { some = omega (arith, texts, found, same, some); most = omega (arith, texts, found, same, few) }

pub asked_are_some : AskedAreSome
unfolding deletes_in
asked_are_some body settings places e = some_asked settings (value_of body) places e
