-- Lists that grow item by item, and what is kept of them.
use Rattle.std.proofs.Common.{◌≡◌, ◌∙◌, ℕ, zero, suc, ◌+◌, ◌<◌, Bool, true, false, cond, List, [], ◌∷◌, ◌++◌, length, get_or, take, Option, Some, None, refl, ap, sym, arith, append_assoc, append-nil}
use Rattle.std.specs.Prelude.{◌&&◌, map, filter}
use Rattle.std.specs.List.{flat_map, list_all, last_or}
use Rattle.std.proofs.lemmas.Bool.{and_parts}
use Rattle.std.proofs.lemmas.List.{take_more, map-append}
use Rattle.std.proofs.lemmas.List.Concat.{flat_map-append}
use Rattle.std.proofs.lemmas.List.Elements.{filter_more}
use Rattle.fts_tables.specs.SettingsData.{is_listed}
use Rattle.fts_tables.specs.declared.settings.Endpoint.{Endpoint}
use Rattle.fts_tables.specs.declared.settings.LinkRule.{LinkRule}
use Rattle.fts_counts.specs.Listed.{AreKnown}
use Rattle.fts_board.proofs.Tallied.{last_more}

-- what an item more gives
pub more_of : {Item Out : Type 0} (given : Item → List Out) (items : List Item) (i : ℕ) (item : Item) → i < length items → get_or items i item ≡ item
    → (begun before after : List Out) → before ≡ begun ++ flat_map given (take i items) → after ≡ before ++ given item
    → after ≡ begun ++ flat_map given (take (i + 1) items)
more_of {Item} {Out} given items i item inside is begun before after so_far grown =
    grown ∙ ap (λ (l : List Out). l ++ given item) so_far
    ∙ append_assoc begun (flat_map given (take i items)) (given item)
    ∙ ap (λ (l : List Out). begun ++ l)
    (ap (λ (l : List Out). flat_map given (take i items) ++ l) (ap given (sym is) ∙ sym (append-nil (given (get_or items i item))))
    ∙ sym (flat_map-append given (take i items) (get_or items i item ∷ [])) ∙ ap (flat_map given) (sym (take_more items i item inside)))

-- what is read of an item more
pub read_more : {Item Out : Type 0} (read : Item → Out) (items : List Item) (i : ℕ) (item : Item) → i < length items → get_or items i item ≡ item
    → (before after : List Out) → before ≡ map read (take i items) → after ≡ before ++ read item ∷ []
    → after ≡ map read (take (i + 1) items)
read_more {Item} {Out} read items i item inside is before after so_far grown =
    grown ∙ ap (λ (l : List Out). l ++ read item ∷ []) so_far
    ∙ ap (λ (one : Item). map read (take i items) ++ read one ∷ []) (sym is)
    ∙ sym (map-append read (take i items) (get_or items i item ∷ []))
    ∙ ap (map read) (sym (take_more items i item inside))

-- reads that agree give the same
pub read_alike : {Item Out : Type 0} (one other : Item → Out) → ((item : Item) → one item ≡ other item) → (items : List Item) → map one items ≡ map other items
read_alike one other alike [] = refl
read_alike one other alike (item ∷ items) = λ i. alike item i ∷ read_alike one other alike items i

-- the ends of a link that stands among known ones are listed
pub known_at : (endpoints : List Endpoint) (links : List LinkRule) (i : ℕ) (link : LinkRule) → i < length links → get_or links i link ≡ link
    → AreKnown endpoints links → (is_listed endpoints link.source ≡ true) × (is_listed endpoints link.dest ≡ true)
known_at endpoints [] i link inside at known = absurd (omega arith)
known_at endpoints (first ∷ links) zero link inside at known =
    let ends = and_parts (is_listed endpoints first.source) (is_listed endpoints first.dest)
    (and_parts (is_listed endpoints first.source && is_listed endpoints first.dest)
    (list_all (λ (link : LinkRule). is_listed endpoints link.source && is_listed endpoints link.dest) links) known).0 in
    (ap (λ (link : LinkRule). is_listed endpoints link.source) (sym at) ∙ ends.0, ap (λ (link : LinkRule). is_listed endpoints link.dest) (sym at) ∙ ends.1)
known_at endpoints (first ∷ links) (suc i) link inside at known =
    known_at endpoints links i link (omega arith) at
    (and_parts (is_listed endpoints first.source && is_listed endpoints first.dest)
    (list_all (λ (link : LinkRule). is_listed endpoints link.source && is_listed endpoints link.dest) links) known).1

module _ {Item : Type 0} (test : Item → Bool) (items : List Item) (i : ℕ) (default : Item) (inside : i < length items) where
  -- an item that passes is the last that does
  pub last_passes : test (get_or items i default) ≡ true → Some (get_or items i default) ≡ last_or None (filter test (take (i + 1) items))
  last_passes passes = sym (
      ap (last_or None) (filter_more test items i default inside
      ∙ ap (λ answer. filter test (take i items) ++ cond answer (get_or items i default ∷ []) []) passes)
      ∙ last_more None (filter test (take i items)) (get_or items i default))

  -- one that doesn't leaves the last that did
  pub last_stays : test (get_or items i default) ≡ false → (before : Option Item) → before ≡ last_or None (filter test (take i items))
      → before ≡ last_or None (filter test (take (i + 1) items))
  last_stays fails before so_far = so_far ∙ sym (ap (last_or None) (filter_more test items i default inside
      ∙ ap (λ answer. filter test (take i items) ++ cond answer (get_or items i default ∷ []) []) fails
      ∙ append-nil (filter test (take i items))))

-- seven lists, one behind the other
pub seven : {Item : Type 0} (a b c d e f g : List Item) → ((((((a ++ b) ++ c) ++ d) ++ e) ++ f) ++ g) ≡ a ++ (b ++ (c ++ (d ++ (e ++ (f ++ (g ++ []))))))
seven a b c d e f g = simp (append_assoc, append-nil)
