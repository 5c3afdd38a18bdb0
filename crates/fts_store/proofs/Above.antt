-- The folders that a path lies in, one by one.
use Rattle.std.proofs.Common.{◌≡◌, ℕ, suc, ◌==◌, true, false, arith, Option, Some, None, List, [], ◌∷◌, ◌++◌, length, codes, refl, sym, ◌∙◌, ap, append_assoc}
use Rattle.std.specs.Path.{path_parent}
use Rattle.std.proofs.lemmas.Bool.{eqb-true}
use Rattle.fts_store.specs.Paths.{from_folder, folders_above}

-- nothing behind
nothing_more : (l : List (List ℕ)) → l ++ [] ≡ l
nothing_more [] = refl
nothing_more (x ∷ l) = ap (λ r. x ∷ r) (nothing_more l)

-- one step
above_step : (times rest : ℕ) (below : List ℕ) (found : Option (List ℕ)) → times ≡ suc rest → found ≡ path_parent below
    → folders_above times below ≡ from_folder (λ folder. folders_above rest folder) found
unfolding folders_above
above_step times rest below found more is = ap (λ n. folders_above n below) more ∙ ap (from_folder (λ folder. folders_above rest folder)) (sym is)

-- no time is left
pub above_none : (front all : List (List ℕ)) (times : ℕ) (below : List ℕ) → times ≡ 0 → front ++ folders_above times below ≡ all → front ≡ all
unfolding folders_above
above_none front all times below none is = sym (nothing_more front) ∙ ap (λ n. front ++ folders_above n below) (sym none) ∙ is

-- the path names none
pub above_end : (front all : List (List ℕ)) (times rest : ℕ) (below : List ℕ) → times ≡ suc rest → None ≡ path_parent below → front ++ folders_above times below ≡ all → front ≡ all
above_end front all times rest below more none is = sym (nothing_more front) ∙ ap (λ l. front ++ l) (sym (above_step times rest below None more none)) ∙ is

-- a text of no bytes
pub no_bytes : (text : List ℕ) → (length text == 0) ≡ true → text ≡ []
no_bytes [] is = refl
no_bytes (byte ∷ bytes) is = let none : length (byte ∷ bytes) ≡ 0 = eqb-true (length (byte ∷ bytes)) 0 is in absurd (omega (arith, none))

-- and one of some
pub some_bytes : (text : List ℕ) → (length text == 0) ≡ false → ¬ (text ≡ [])
some_bytes [] is = cc
some_bytes (byte ∷ bytes) is = λ none. cc

-- it is a name alone
pub above_here : (front all new : List (List ℕ)) (times rest : ℕ) (below folder : List ℕ) → times ≡ suc rest → Some folder ≡ path_parent below → folder ≡ []
    → front ++ folders_above times below ≡ all → new ≡ front ++ codes "." ∷ [] → new ≡ all
above_here front all new times rest below folder more found empty is put =
    put ∙ ap (λ l. front ++ l) (sym (above_step times rest below (Some []) more (ap Some (sym empty) ∙ found))) ∙ is

-- it names one
pub above_more : (front all new : List (List ℕ)) (times rest : ℕ) (below folder : List ℕ) → times ≡ suc rest → Some folder ≡ path_parent below → ¬ (folder ≡ [])
    → front ++ folders_above times below ≡ all → new ≡ front ++ folder ∷ [] → new ++ folders_above rest folder ≡ all
above_more front all new times rest below [] more found some is put = absurd (some refl)
above_more front all new times rest below (byte ∷ bytes) more found some is put =
    ap (λ l. l ++ folders_above rest (byte ∷ bytes)) put
    ∙ append_assoc front ((byte ∷ bytes) ∷ []) (folders_above rest (byte ∷ bytes))
    ∙ ap (λ l. front ++ l) (sym (above_step times rest below (Some (byte ∷ bytes)) more found))
    ∙ is
