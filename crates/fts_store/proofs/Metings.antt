-- Folders that are looked for, and made where they are missing.
use Rattle.std.proofs.Common.{◌≡◌, ℕ, zero, suc, ◌<◌, true, false, Option, Some, None, is_some, List, [], ◌∷◌, ◌++◌, length, map, take, get_or, refl, sym, ◌∙◌, ap, arith}
use Rattle.fts_files.specs.Calls.{Call}
use Rattle.fts_files.specs.Script.{Script, LeadsTo, with_value}
use Rattle.fts_files.proofs.Playing.{leads_same, same_leads}
use Rattle.fts_store.specs.Folders.{if_there, with_lowest, makes_one, makes_down}

-- it is there
pub there_leads : (there absent : Script) (device : Option ℕ) (log : Option (List Call)) → is_some device ≡ true → LeadsTo (if_there there absent device) log there log
there_leads there absent (Some d) log is = leads_same there log
there_leads there absent None log is = cc

-- it isn't
pub absent_leads : (there absent : Script) (device : Option ℕ) (log : Option (List Call)) → is_some device ≡ false → LeadsTo (if_there there absent device) log absent log
absent_leads there absent (Some d) log is = cc
absent_leads there absent None log is = leads_same absent log

-- a value that is given by an equation
pub value_same : {T : Type 0} (next : T → Script) (ended : Script) (made value : Option T) (log : Option (List Call)) → value ≡ made → LeadsTo (with_value next ended made) log (with_value next ended value) log
value_same next ended made value log is = same_leads _ _ log (ap (with_value next ended) (sym is))

-- the last of these folders is made first
makes_last : (folders : List (List ℕ)) (last : List ℕ) (next : Script) → makes_down (folders ++ last ∷ []) next ≡ makes_one last (makes_down folders next)
unfolding makes_down
makes_last [] last next = refl
makes_last (lowest ∷ above) last next = makes_last above last (makes_one lowest next)

-- one folder more in front of the last
pub take_last : (folders : List (List ℕ)) (n : ℕ) (d : List ℕ) → n < length folders → take (suc n) folders ≡ take n folders ++ get_or folders n d ∷ []
take_last [] n d inside = absurd (omega arith)
take_last (f ∷ folders) zero d inside = refl
take_last (f ∷ folders) (suc n) d inside = ap (λ l. f ∷ l) (take_last folders n d (omega arith))

-- the next one is made
pub down_leads : (folders : List (List ℕ)) (left rest : ℕ) (folder : List ℕ) (next : Script) (log : Option (List Call)) → left ≡ suc rest → rest < length folders → folder ≡ get_or folders rest folder
    → LeadsTo (makes_down (take left folders) next) log (makes_one folder (makes_down (take rest folders) next)) log
down_leads folders left rest folder next log more inside is =
    same_leads _ _ log (ap (λ n. makes_down (take n folders) next) more ∙ ap (λ l. makes_down l next) (take_last folders rest folder inside)
    ∙ makes_last (take rest folders) (get_or folders rest folder) next ∙ ap (λ f. makes_one f (makes_down (take rest folders) next)) (sym is))

-- all are made
pub down_end : (folders : List (List ℕ)) (left : ℕ) (next : Script) (log : Option (List Call)) → left ≡ 0 → LeadsTo (makes_down (take left folders) next) log next log
unfolding makes_down
down_end folders zero next log none = leads_same next log
down_end folders (suc left) next log none = absurd (omega arith)

-- what an element stands for
pub mapped : {T S : Type 0} (f : T → S) (xs : List T) (n : ℕ) (x : T) → x ≡ get_or xs n x → n < length xs → f x ≡ get_or (map f xs) n (f x)
mapped f [] n x is inside = absurd (omega arith)
mapped f (y ∷ ys) zero x is inside = ap f is
mapped f (y ∷ ys) (suc n) x is inside = mapped f ys n x is (omega arith)

-- the lowest of some folders, and none of none
pub lowest_leads : (none : Script) (some : List ℕ → Script) (made : Option (List ℕ)) (lowest : List ℕ) (log : Option (List Call)) → Some lowest ≡ made → LeadsTo (with_lowest none some made) log (some lowest) log
lowest_leads none some made lowest log is = same_leads _ _ log (ap (with_lowest none some) (sym is))

pub none_leads : (none : Script) (some : List ℕ → Script) (made : Option (List ℕ)) (log : Option (List Call)) → None ≡ made → LeadsTo (with_lowest none some made) log none log
none_leads none some made log is = same_leads _ _ log (ap (with_lowest none some) (sym is))
