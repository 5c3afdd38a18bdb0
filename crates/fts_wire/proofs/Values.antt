-- The values of a head's fields, a field at a time.
use Rattle.std.proofs.Common.{◌≡◌, ℕ, ◌+◌, ◌<◌, ◌⊎◌, inl, inr, Bool, true, false, cond, List, [], ◌∷◌, ◌++◌, length, take, drop, map, Option, Some, None, Err, get_or, refl, ap, sym, ◌∙◌, arith, append-nil}
use Rattle.std.specs.Prelude.{◌||◌, filter, is_some}
use Rattle.std.specs.List.{list_any}
use Rattle.std.proofs.lemmas.Bool.{or_left, or_right, or_from, true≢false}
use Rattle.std.proofs.lemmas.List.{map_more, map-append, length-map, get_or-map, take-append-drop, drop_more}
use Rattle.std.proofs.lemmas.List.Elements.{filter-append}
use Rattle.std.proofs.lemmas.List.Folds.{list_any-append, list_any_at}
use Rattle.httparse.specs.Spans.{header_bytes, span_bytes, IsWithin}
use Rattle.httparse.specs.declared.spans.Span.{Span}
use Rattle.httparse.specs.declared.spans.HeaderSpan.{HeaderSpan}
use Rattle.fts_wire.specs.Fields.{NameValue, is_named, values_of, body_length}
use Rattle.fts_wire.specs.declared.fault.WireFault.TheVariants.{BadLength}

-- one value alone was found, or none yet
pub record IsOneValue (head : List ℕ) (values : List (List ℕ)) (span : Span) : Type 0 where
  pub within : IsWithin (length head) span
  pub is : values ≡ span_bytes head span ∷ []

abbrev pub IsOnly : List ℕ → List (List ℕ) → Option Span → Type 0
IsOnly head values None = values ≡ []
IsOnly head values (Some span) = IsOneValue head values span

pub any_here : (p : NameValue → Bool) (f : HeaderSpan → NameValue) (hs : List HeaderSpan) (i : ℕ) (d : HeaderSpan) → i < length hs
    → p (f (get_or hs i d)) ≡ true
    → list_any p (map f hs) ≡ true
any_here p f hs i d h e =
    list_any_at p (map f hs) i (f d) (omega (arith, length-map hs f)) (ap p (get_or-map f hs i d (f d) h) ∙ e)

values_yes : (name : List ℕ) (x : NameValue) (xs : List NameValue) → is_named name x ≡ true → values_of name (x ∷ xs) ≡ x.1 ∷ values_of name xs
values_yes name x xs e = ap (λ t. map (λ (g : NameValue). g.1) (cond t (x ∷ filter (is_named name) xs) (filter (is_named name) xs))) e

values_no : (name : List ℕ) (x : NameValue) (xs : List NameValue) → is_named name x ≡ false → values_of name (x ∷ xs) ≡ values_of name xs
values_no name x xs e = ap (λ t. map (λ (g : NameValue). g.1) (cond t (x ∷ filter (is_named name) xs) (filter (is_named name) xs))) e

values_append : (name : List ℕ) (xs ys : List NameValue) → values_of name (xs ++ ys) ≡ values_of name xs ++ values_of name ys
values_append name xs ys =
    ap (map (λ (g : NameValue). g.1)) (filter-append (is_named name) xs ys)
    ∙ map-append (λ (g : NameValue). g.1) (filter (is_named name) xs) (filter (is_named name) ys)

-- the values up to a field, its own, and those behind it
values_cut : (name : List ℕ) (f : HeaderSpan → NameValue) (hs : List HeaderSpan) (i : ℕ) (d : HeaderSpan) → i < length hs
    → values_of name (map f hs) ≡ values_of name (map f (take i hs)) ++ values_of name (f (get_or hs i d) ∷ map f (drop (i + 1) hs))
values_cut name f hs i d h =
    ap (λ xs. values_of name (map f xs)) (sym (take-append-drop i hs) ∙ ap (λ xs. take i hs ++ xs) (drop_more hs i d h))
    ∙ ap (values_of name) (map-append f (take i hs) (get_or hs i d ∷ drop (i + 1) hs))
    ∙ values_append name (map f (take i hs)) (f (get_or hs i d) ∷ map f (drop (i + 1) hs))

-- a field more
values_more : (name : List ℕ) (f : HeaderSpan → NameValue) (hs : List HeaderSpan) (i : ℕ) (d : HeaderSpan) → i < length hs
    → values_of name (map f (take (i + 1) hs)) ≡ values_of name (map f (take i hs)) ++ values_of name (f (get_or hs i d) ∷ [])
values_more name f hs i d h = ap (values_of name) (map_more f hs i d h) ∙ values_append name (map f (take i hs)) (f (get_or hs i d) ∷ [])

-- a field of another name
pub values_past : (name : List ℕ) (f : HeaderSpan → NameValue) (hs : List HeaderSpan) (i : ℕ) (d : HeaderSpan) → i < length hs
    → is_named name (f (get_or hs i d)) ≡ false
    → values_of name (map f (take (i + 1) hs)) ≡ values_of name (map f (take i hs))
values_past name f hs i d h e =
    values_more name f hs i d h ∙ ap (λ xs. values_of name (map f (take i hs)) ++ xs) (values_no name (f (get_or hs i d)) [] e)
    ∙ append-nil (values_of name (map f (take i hs)))

-- the first field of the name
pub values_first : (name : List ℕ) (f : HeaderSpan → NameValue) (hs : List HeaderSpan) (i : ℕ) (d : HeaderSpan) → i < length hs
    → is_named name (f (get_or hs i d)) ≡ true
    → values_of name (map f (take i hs)) ≡ [] → values_of name (map f (take (i + 1) hs)) ≡ (f (get_or hs i d)).1 ∷ []
values_first name f hs i d h e none =
    values_more name f hs i d h ∙ ap (λ xs. xs ++ values_of name (f (get_or hs i d) ∷ [])) none ∙ values_yes name (f (get_or hs i d)) [] e

-- a second one
pub length_twice : (name : List ℕ) (f : HeaderSpan → NameValue) (hs : List HeaderSpan) (i : ℕ) (d : HeaderSpan) (value : List ℕ) → i < length hs
    → is_named name (f (get_or hs i d)) ≡ true → values_of name (map f (take i hs)) ≡ value ∷ [] → body_length (values_of name (map f hs)) ≡ Err BadLength
length_twice name f hs i d value h e one =
    ap body_length (values_cut name f hs i d h ∙ ap (λ xs. xs ++ values_of name (f (get_or hs i d) ∷ map f (drop (i + 1) hs))) one
    ∙ ap (λ xs. value ∷ xs) (values_yes name (f (get_or hs i d)) (map f (drop (i + 1) hs)) e))

-- a field of the name whose value passes
pub value_here : (q : List ℕ → Bool) (name : List ℕ) (f : HeaderSpan → NameValue) (hs : List HeaderSpan) (i : ℕ) (d : HeaderSpan) → i < length hs
    → is_named name (f (get_or hs i d)) ≡ true → q ((f (get_or hs i d)).1) ≡ true → list_any q (values_of name (map f hs)) ≡ true
value_here q name f hs i d h e pass =
    let front = values_of name (map f (take i hs)) in
    let back = values_of name (map f (drop (i + 1) hs)) in
    let value = (f (get_or hs i d)).1 in
    ap (list_any q) (values_cut name f hs i d h ∙ ap (λ xs. front ++ xs) (values_yes name (f (get_or hs i d)) (map f (drop (i + 1) hs)) e))
    ∙ list_any-append q front (value ∷ back) ∙ or_right (list_any q front) (q value || list_any q back) (or_left (q value) (list_any q back) pass)

-- a field more without such a value
pub value_past : (q : List ℕ → Bool) (name : List ℕ) (f : HeaderSpan → NameValue) (hs : List HeaderSpan) (i : ℕ) (d : HeaderSpan) → i < length hs
    → (is_named name (f (get_or hs i d)) ≡ false) ⊎ (q ((f (get_or hs i d)).1) ≡ false) → list_any q (values_of name (map f (take i hs))) ≡ false
    → list_any q (values_of name (map f (take (i + 1) hs))) ≡ false
value_past q name f hs i d h (inl other) none = ap (list_any q) (values_past name f hs i d h other) ∙ none
value_past q name f hs i d h (inr fails) none =
    let x = f (get_or hs i d) in
    let front = values_of name (map f (take i hs)) in
    ap (list_any q) (values_more name f hs i d h) ∙ list_any-append q front (values_of name (x ∷ []))
    ∙ or_from (list_any q front) (list_any q (values_of name (x ∷ []))) none (one_fails (is_named name x) x fails)
  where
    one_fails : (t : Bool) (x : NameValue) → q (x.1) ≡ false → list_any q (map (λ (g : NameValue). g.1) (cond t (x ∷ []) [])) ≡ false
    one_fails true x e = or_from (q (x.1)) false e refl
    one_fails false x e = refl

-- what stands for a field past the last
abbrev pub no_header : HeaderSpan
no_header = record { name = record { start = 0; end = 0 }; value = record { start = 0; end = 0 } }

-- what is found with a field of the name, where one value was found at most
pub only_first : (name head : List ℕ) (hs : List HeaderSpan) (i : ℕ) (found : Option Span) → i < length hs
    → is_named name (header_bytes head (get_or hs i no_header)) ≡ true
    → IsWithin (length head) (get_or hs i no_header).value → is_some found ≡ false
    → IsOnly head (values_of name (map (header_bytes head) (take i hs))) found
    → IsOnly head (values_of name (map (header_bytes head) (take (i + 1) hs))) (Some (get_or hs i no_header).value)
only_first name head hs i None h e within none only = record { within = within; is = values_first name (header_bytes head) hs i no_header h e only }
only_first name head hs i (Some span) h e within none only = absurd (true≢false none)

-- a second field of the name
pub only_twice : (name head : List ℕ) (hs : List HeaderSpan) (i : ℕ) (found : Option Span) → i < length hs
    → is_named name (header_bytes head (get_or hs i no_header)) ≡ true
    → is_some found ≡ true → IsOnly head (values_of name (map (header_bytes head) (take i hs))) found
    → Err BadLength ≡ body_length (values_of name (map (header_bytes head) hs))
only_twice name head hs i None h e some only = absurd (true≢false (sym some))
only_twice name head hs i (Some span) h e some only = sym (length_twice name (header_bytes head) hs i no_header (span_bytes head span) h e only.is)
