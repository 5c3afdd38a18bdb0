-- The lines of rows, sent one after another, and a text that was written.
use Rattle.std.proofs.Common.{◌≡◌, ℕ, ◌+◌, ◌<◌, List, [], ◌∷◌, ◌++◌, length, get_or, take, drop, Bool, true, false, Option, Ok, Err, ap, sym, ◌∙◌, subst, append-nil}
use Rattle.std.specs.List.{flat_map}
use Rattle.std.proofs.lemmas.List.{take_more, take-append-drop}
use Rattle.std.proofs.lemmas.Grind.{flat_map-append}
use Rattle.fts_wire.specs.Response.{Sends}
use Rattle.fts_wire.specs.declared.outside.SinkFailed.{SinkFailed}
use Rattle.fts_wire.proofs.Sent.{sends_then, sends_no_more}
use Rattle.fts_deleting.specs.Runs.{WritesText}

module _ {Item : Type 0} (E : Type 0) (line : Item → List ℕ) (items : List Item) (i : ℕ) (other item : Item) (inside : i < length items) (is : get_or items i other ≡ item)
    (old mid new : Option (List ℕ))
    (so_far : Sends {E = E} old mid (flat_map line (take i items)) (Ok tt)) where
  one_more : flat_map line (take (i + 1) items) ≡ flat_map line (take i items) ++ line item
  one_more = ap (flat_map line) (take_more items i other inside) ∙ flat_map-append line (take i items) (get_or items i other ∷ [])
      ∙ ap (λ (text : List ℕ). flat_map line (take i items) ++ text) (append-nil (line (get_or items i other)) ∙ ap line is)

  all_lines : (flat_map line (take i items) ++ line item) ++ flat_map line (drop (i + 1) items) ≡ flat_map line items
  all_lines = ap (λ (text : List ℕ). text ++ flat_map line (drop (i + 1) items)) (sym one_more)
      ∙ sym (flat_map-append line (take (i + 1) items) (drop (i + 1) items)) ∙ ap (flat_map line) (take-append-drop (i + 1) items)

  -- a line more
  pub line_sent : Sends {E = E} mid new (line item) (Ok tt) → Sends {E = E} old new (flat_map line (take (i + 1) items)) (Ok tt)
  line_sent sent = subst (λ (text : List ℕ). Sends {E = E} old new text (Ok tt)) (sym one_more)
      (sends_then old mid new (flat_map line (take i items)) (line item) (Ok tt) so_far sent)

  -- a line that was cut short
  pub line_cut : (failed : E) → Sends {E = E} mid new (line item) (Err failed) → Sends {E = E} old new (flat_map line items) (Err failed)
  line_cut failed sent = subst (λ (text : List ℕ). Sends {E = E} old new text (Err failed)) all_lines
      (sends_no_more old new (flat_map line (take i items) ++ line item) (flat_map line (drop (i + 1) items)) failed
      (sends_then old mid new (flat_map line (take i items)) (line item) (Err failed) so_far sent))

-- a text that was written whole, and one of which a part was
pub told_whole : (text other : List ℕ) (held now : Option (List ℕ)) (whole : Bool) → text ≡ other → whole ≡ true → Sends {E = SinkFailed} held now text (Ok tt)
    → WritesText other held now whole
told_whole text other held now whole same is sent =
    subst (λ w. WritesText other held now w) (sym is) (subst (λ t. Sends {E = SinkFailed} held now t (Ok tt)) same sent)

pub told_part : (text other : List ℕ) (held now : Option (List ℕ)) (whole : Bool) (failed : SinkFailed) → text ≡ other → whole ≡ false → Sends held now text (Err failed)
    → WritesText other held now whole
told_part text other held now whole failed same is sent =
    subst (λ w. WritesText other held now w) (sym is) (failed, subst (λ t. Sends held now t (Err failed)) same sent)
