-- Texts that grow part by part, and line by line.
use Rattle.std.proofs.Common.{◌≡◌, ap, sym, ◌∙◌, ℕ, ◌+◌, ◌<◌, List, [], ◌∷◌, ◌++◌, length, get_or, take, append_assoc, append-nil, Bor}
use Rattle.std.specs.Prelude.{map}
use Rattle.std.proofs.lemmas.List.{take_more, map-append}
use Rattle.std.proofs.lemmas.Grind.{flat_map-append}
use Rattle.std.proofs.lemmas.List.Folds.{concat-append}
use Rattle.std.specs.List.{concat, flat_map}

-- two parts
pub goes_on : (old mid new x y : List ℕ) → mid ≡ old ++ x → new ≡ mid ++ y → new ≡ old ++ (x ++ y)
goes_on old mid new x y first rest = rest ∙ ap (λ (l : List ℕ). l ++ y) first ∙ append_assoc old x y

-- a line more
pub line_more : {Item : Type 0} (line : Item → List ℕ) (items : List Item) (i : ℕ) (item : Item) → i < length items → get_or items i item ≡ item
    → (text before after : List ℕ) → before ≡ text ++ flat_map line (take i items) → after ≡ before ++ line item
    → after ≡ text ++ flat_map line (take (i + 1) items)
line_more line items i item inside is text before after so_far grown =
    grown ∙ ap (λ (l : List ℕ). l ++ line item) so_far
    ∙ append_assoc text (flat_map line (take i items)) (line item)
    ∙ ap (λ (l : List ℕ). text ++ l)
    (ap (λ (l : List ℕ). flat_map line (take i items) ++ l) (ap line (sym is) ∙ sym (append-nil (line (get_or items i item))))
    ∙ sym (flat_map-append line (take i items) (get_or items i item ∷ [])) ∙ ap (flat_map line) (sym (take_more items i item inside)))

-- what parts are, joined
abbrev pub joined : List (Bor (List ℕ)) → List ℕ
joined parts = concat (map (λ part. part.now) parts)

-- a part more
joined_more : (parts : List (Bor (List ℕ))) (i : ℕ) (other : Bor (List ℕ)) → i < length parts
    → joined (take (i + 1) parts) ≡ joined (take i parts) ++ (get_or parts i other).now
joined_more parts i other inside =
    ap joined (take_more parts i other inside)
    ∙ ap concat (map-append (λ (part : Bor (List ℕ)). part.now) (take i parts) (get_or parts i other ∷ []))
    ∙ concat-append (map (λ part. part.now) (take i parts)) (map (λ part. part.now) (get_or parts i other ∷ []))
    ∙ ap (λ (l : List ℕ). joined (take i parts) ++ l) (append-nil (get_or parts i other).now)

-- a text with a part more
pub part_more : (parts : List (Bor (List ℕ))) (i : ℕ) (other : Bor (List ℕ)) (text before after : List ℕ) → i < length parts
    → before ≡ text ++ joined (take i parts) → after ≡ before ++ (get_or parts i other).now → after ≡ text ++ joined (take (i + 1) parts)
part_more parts i other text before after inside so_far grown =
    grown ∙ ap (λ (l : List ℕ). l ++ (get_or parts i other).now) so_far
    ∙ append_assoc text (joined (take i parts)) (get_or parts i other).now
    ∙ ap (λ (l : List ℕ). text ++ l) (sym (joined_more parts i other inside))
