-- One more item of a list whose keys go into a set: its key is new, or it is there already.
use Rattle.std.proofs.Common.{◌≡◌, ◌<◌, ◌+◌, ℕ, Bool, true, false, not, ◌&&◌, ◌||◌, cond, List, [], ◌∷◌, ◌++◌, length, take, get_or, String, string_bytes, refl, sym, ap, ◌∙◌, Global, arith}
use Rattle.std.proofs.lemmas.List.{take_more}
use Rattle.std.proofs.lemmas.List.Folds.{list_all-append, list_any-append}
use Rattle.std.proofs.lemmas.Map.Text.{btree_set_updates_text}
use Rattle.std.specs.Prelude.{bytes_eq}
use Rattle.std.specs.String.{string_cmp}
use Rattle.std.specs.List.{list_all, list_any}
use Rattle.std.specs.BTreeSet.{BTreeSet, contains, contains_text, Updates}
use Rattle.std.proofs.lemmas.Bool.Decides.{nat_tests}
use Rattle.fts_tables.specs.SettingsData.{are_apart}
use Rattle.fts_config.specs.Distinct.{is_same_key, IsDistinct, IsTwice}

-- four tests, in two orders
regrouped : (a b c d : Bool) → (not (a || (b || false)) && (c && not d)) ≡ ((not a && c) && not (b || d))
regrouped a b c d = grind (arith, nat_tests)

-- a list with one more at its end
apart-push : {T : Type 0} (same : T → T → Bool) (items : List T) (last : T) → are_apart same (items ++ last ∷ [])
    ≡ (are_apart same items && not (list_any (λ item. same item last) items))
apart-push same [] last = refl
apart-push same (item ∷ items) last =
    ap (λ found. not found && are_apart same (items ++ last ∷ [])) (list_any-append (same item) items (last ∷ []))
    ∙ ap (λ rest. not (list_any (same item) items || (same item last || false)) && rest) (apart-push same items last)
    ∙ regrouped (list_any (same item) items) (same item last) (are_apart same items) (list_any (λ other. same other last) items)

-- what a test says, where its contrary is told
told_true : (b : Bool) → false ≡ not b → b ≡ true
told_true true told = refl
told_true false told = cc

told_false : (b : Bool) → true ≡ not b → b ≡ false
told_false true told = cc
told_false false told = refl

either : (b x : Bool) → cond b true x ≡ (x || (b || false))
either b x = grind (arith, nat_tests)

module _ {T : Type 0} (key : T → List ℕ) (proper : T → Bool) (items : List T) (i : ℕ) (item : T) (keys : BTreeSet (String Global)) (text : String Global)
    (inside : i < length items) (is : item ≡ get_or items i item) (so_far : IsDistinct key proper (take i items) keys)
    (copied : string_bytes text ≡ key item) (named : proper item ≡ true) where
  next : take (i + 1) items ≡ take i items ++ item ∷ []
  next = take_more items i item inside ∙ ap (λ (one : T). take i items ++ one ∷ []) (sym is)

  all_named : list_all proper (take (i + 1) items) ≡ true
  all_named = rw (next, list_all-append, so_far.all_proper, named) refl

  found : contains_text keys (string_bytes text) ≡ list_any (λ other. is_same_key key other item) (take i items)
  found = so_far.holds (string_bytes text) ∙ rw copied refl

  apart_next : are_apart (is_same_key key) (take (i + 1) items) ≡ not (contains_text keys (string_bytes text))
  apart_next = rw next (apart-push (is_same_key key) (take i items) item ∙ rw (so_far.apart, ← found) refl)

  -- its key is there already
  pub twice_here : false ≡ not (contains string_cmp keys text) → IsTwice key proper items
  twice_here told = record {
    count = i + 1;
    all_proper = all_named;
    twice = apart_next ∙ sym told;
  }

  -- its key is new
  pub distinct_here : (new : BTreeSet (String Global)) → true ≡ not (contains string_cmp keys text) → Updates string_cmp keys new text true
      → IsDistinct key proper (take (i + 1) items) new
  distinct_here new told updates = record {
    all_proper = all_named;
    apart = apart_next ∙ sym told;
    holds = λ query. btree_set_updates_text (string_bytes text) keys new true updates query
        ∙ either (bytes_eq (string_bytes text) query) (contains_text keys query)
        ∙ rw (next, list_any-append, copied, so_far.holds query) refl;
  }
