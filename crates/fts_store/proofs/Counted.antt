-- A failure that is counted: what is said of the answer holds of what is given on.
use Rattle.std.proofs.Common.{◌≡◌, ◌⊎◌, inl, inr, ℕ, Bool, true, false, Option, Result, Ok, Err, IfOk, IsErr, List, refl, sym, ap}
use Rattle.fts_files.specs.Calls.{Call}
use Rattle.fts_files.specs.Script.{Script, LeadsTo, either, fails}
use Rattle.fts_files.proofs.Playing.{then_leads, same_leads, chosen}
use Rattle.fts_tables.specs.declared.places.Place.{Place}
use Rattle.fts_store.specs.declared.folders.Met.{Met}
use Rattle.fts_store.specs.FolderCalls.{IsUnasked, looks_for_good, looks_in}

-- no failure is answered Ok
no_way : (one other : Script) → false ≡ true → one ≡ other
no_way one other never = cc

-- the way on is the same
same_way : {T E : Type 0} (result answer : Result T E) → IfOk answer (λ value. result ≡ Ok value) → (IsErr answer → IsErr result) → (next : T → Script)
    → either next fails answer ≡ either next fails result
same_way result (Ok value) is failed next = ap (either next fails) (sym is)
same_way (Ok value) (Err error) is failed next = no_way fails (next value) (failed refl)
same_way (Err other) (Err error) is failed next = refl

-- memory was missing, or the calls are those of a script
pub counted : {E : Type 0} (result answer : Result (Unit {0}) E) (old new : Option (List Call)) (from : Script → Script) → IfOk answer (λ done. result ≡ Ok done)
    → (IsErr answer → IsErr result) → IsUnasked answer old new ⊎ ((next : Script) → LeadsTo (from next) old (either (λ done. next) fails answer) new)
    → IsUnasked result old new ⊎ ((next : Script) → LeadsTo (from next) old (either (λ done. next) fails result) new)
counted result answer old new from is failed (inl unasked) = inl (failed unasked.0, unasked.1)
counted result answer old new from is failed (inr leads) = inr (λ next. then_leads (leads next) (same_leads _ _ new (same_way result answer is failed (λ done. next))))

-- the same of a look by a store for deletions
pub counted_look : {E : Type 0} (deleting : Bool) (root : List ℕ) (met : List Met) (place : Place) (result answer : Result (Option ℕ) E) (old new : Option (List Call))
    → deleting ≡ true → IfOk answer (λ value. result ≡ Ok value) → (IsErr answer → IsErr result)
    → IsUnasked answer old new ⊎ ((next : Option ℕ → Script) → LeadsTo (looks_for_good root met place next) old (either next fails answer) new)
    → IsUnasked result old new ⊎ ((next : Option ℕ → Script) → LeadsTo (looks_in deleting root met place next) old (either next fails result) new)
counted_look deleting root met place result answer old new for_good is failed (inl unasked) = inl (failed unasked.0, unasked.1)
counted_look deleting root met place result answer old new for_good is failed (inr leads) =
    inr (λ next. then_leads (chosen _ _ _ old for_good) (then_leads (leads next) (same_leads _ _ new (same_way result answer is failed next))))
