-- The answer to a document by its rules: each is broken where those before it are kept, and a document that breaks none asks for its places.
use Rattle.std.proofs.Common.{◌≡◌, ◌⊎◌, inl, inr, refl, sym, ap, subst, ◌∙◌, ◌<◌, ◌≤◌, arith, Bool, true, false, List, length, map, Result, Ok, Err, Some, None, nat_lt, ◌==◌}
use Rattle.std.proofs.lemmas.Bool.{lt-ltb}
use Rattle.std.proofs.lemmas.List.{length-map}
use Rattle.std.specs.List.{list_any, list_all}
use Rattle.serde_json.specs.Data.{Data}
use Rattle.serde_json.specs.View.{view}
use Rattle.serde_json.specs.declared.value.Value.{Value}
use Rattle.fts_tables.specs.SettingsData.{SettingsData}
use Rattle.fts_tables.specs.declared.places.Place.{Place}
use Rattle.fts_delete.specs.declared.document.DeleteDocFault.{DeleteDocFault}
use Rattle.fts_delete.specs.declared.document.DeleteDocFault.TheVariants.{NotObject, NoDeletes, TooMany, NotText, UnknownEndpoint, Memory}
use Rattle.fts_delete.specs.Rows.{most_asked}
use Rattle.fts_jobdoc.specs.Json.{is_object, is_text}
use Rattle.fts_jobdoc.specs.Ends.{places_of, first_url_fault, is_elsewhere}
use Rattle.fts_delete.specs.Documents.{Reads, asked_items, rules_of, texts_of, url_refused, places_read, asked_by}
use Rattle.fts_delete.proofs.AskExits.{not_more}
use Rattle.fts_delete.proofs.UrlLemmas.{gives-Ok, all_read, none_read}

pub no_object : (document : Data) (settings : SettingsData) → is_object document ≡ false → asked_by settings (Some document) ≡ Err NotObject
unfolding rules_of
no_object document settings object = rw object refl

-- of a document whose list of items are the data of these values
module _ (document : Data) (settings : SettingsData) (items : List Value) (list : map view items ≡ asked_items document) where
  counted : length (asked_items document) ≡ length items
  counted = ap length (sym list) ∙ length-map items view

  is_none : (b : Bool) → (length items == 0) ≡ b → (length (asked_items document) == 0) ≡ b
  is_none b is = ap (λ n. n == 0) counted ∙ is

  are_few : length items ≤ most_asked → nat_lt most_asked (length (asked_items document)) ≡ false
  are_few few = not_more most_asked (length (asked_items document)) (omega (arith, counted, few))

  are_texts : (b : Bool) → list_all is_text (map view items) ≡ b → list_all is_text (asked_items document) ≡ b
  are_texts b is = ap (list_all is_text) (sym list) ∙ is

  module _ (object : is_object document ≡ true) where
    pub no_deletes : (length items == 0) ≡ true → asked_by settings (Some document) ≡ Err NoDeletes
    unfolding rules_of
    no_deletes none = rw (object, is_none true none) refl

    module _ (some : (length items == 0) ≡ false) where
      pub too_many : most_asked < length items → asked_by settings (Some document) ≡ Err TooMany
      unfolding rules_of
      too_many many =
          let more : nat_lt most_asked (length (asked_items document)) ≡ true = lt-ltb most_asked (length (asked_items document)) (omega (arith, counted, many)) in
          rw (object, is_none false some, more) refl

      module _ (few : length items ≤ most_asked) where
        pub no_texts : list_all is_text (map view items) ≡ false → asked_by settings (Some document) ≡ Err NotText
        unfolding rules_of
        no_texts other = rw (object, is_none false some, are_few few, are_texts false other) refl

        module _ (texts : list_all is_text (map view items) ≡ true) where
          -- a URL that is none, or no memory to tell
          pub broken_url : (fault : DeleteDocFault) (result : Result (List Place) DeleteDocFault) → Reads (Err fault) (places_read (texts_of (map view items)))
              → result ≡ Err fault → (result ≡ asked_by settings (Some document)) ⊎ (result ≡ Err Memory)
          unfolding rules_of
          broken_url fault result broken is = by_cause (subst (λ l. Reads (Err fault) (places_read (texts_of l))) list broken)
            where
              by_cause : Reads (Err fault) (places_read (texts_of (asked_items document))) → (result ≡ asked_by settings (Some document)) ⊎ (result ≡ Err Memory)
              by_cause (inl e) = inl (is
                  ∙ rw (object, is_none false some, are_few few, are_texts true texts, none_read (first_url_fault (texts_of (asked_items document))) _ fault e) refl)
              by_cause (inr e) = inr (is ∙ e)

          module _ (places : List Place) (read : Reads (Ok places) (places_read (texts_of (map view items)))) where
            fine_urls : (url_refused (first_url_fault (texts_of (asked_items document))) ≡ None) × (places_of (texts_of (asked_items document)) ≡ places)
            fine_urls = all_read (first_url_fault (texts_of (asked_items document))) (places_of (texts_of (asked_items document))) places
                (gives-Ok (places_read (texts_of (asked_items document))) places (subst (λ l. Reads (Ok places) (places_read (texts_of l))) list read))

            pub elsewhere : list_any (is_elsewhere settings) places ≡ true → asked_by settings (Some document) ≡ Err UnknownEndpoint
            unfolding rules_of
            elsewhere far = rw (object, is_none false some, are_few few, are_texts true texts, fine_urls.0, fine_urls.1, far) refl

            pub all_fine : list_any (is_elsewhere settings) places ≡ false → asked_by settings (Some document) ≡ Ok places
            unfolding rules_of
            all_fine near = rw (object, is_none false some, are_few few, are_texts true texts, fine_urls.0, fine_urls.1, near) refl
