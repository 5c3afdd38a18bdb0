-- Folders that are synced one after the other.
use Rattle.std.proofs.Common.{◌≡◌, ℕ, zero, suc, ◌+◌, ◌<◌, ◌≤◌, Option, List, [], ◌∷◌, length, map, drop, get_or, drop-cons, refl, sym, ◌∙◌, ap, subst, arith}
use Rattle.fts_files.specs.declared.files.Way.TheVariants.{Read}
use Rattle.fts_files.specs.Calls.{Call, SyncAll}
use Rattle.fts_files.specs.Script.{Script, Does, LeadsTo, unless_failed, with_open}
use Rattle.fts_files.specs.Opening.{opens_when_free}
use Rattle.fts_files.specs.Moving.{syncs}
use Rattle.fts_files.proofs.Playing.{leads_same}

-- the next one
pub folder_leads : {T : Type 0} (path : T → List ℕ) (folders : List T) (i : ℕ) (folder : T) (next ended : Script) (log : Option (List Call)) → folder ≡ get_or folders i folder → i < length folders
    → LeadsTo (syncs (map path (drop i folders)) next ended) log
    (opens_when_free (path folder) Read (with_open (λ file. Does (SyncAll file) (unless_failed (syncs (map path (drop (i + 1) folders)) next ended) ended)) ended)) log
unfolding syncs
folder_leads path folders i folder next ended log is more =
    let one : suc i ≡ i + 1 = omega arith in
    let split : drop i folders ≡ folder ∷ drop (i + 1) folders = drop-cons folders i folder more ∙ ap (λ f. f ∷ drop (suc i) folders) (sym is) ∙ ap (λ n. folder ∷ drop n folders) one in
    subst (λ l. LeadsTo (syncs (map path l) next ended) log
    (opens_when_free (path folder) Read (with_open (λ file. Does (SyncAll file) (unless_failed (syncs (map path (drop (i + 1) folders)) next ended) ended)) ended)) log) (sym split)
    (leads_same _ log)

-- nothing is left
none_left : {T : Type 0} (xs : List T) (n : ℕ) → length xs ≤ n → drop n xs ≡ []
none_left [] zero le = refl
none_left [] (suc n) le = refl
none_left (x ∷ xs) zero le = absurd (omega arith)
none_left (x ∷ xs) (suc n) le = none_left xs n (omega arith)

-- all were synced
pub folders_end : {T : Type 0} (path : T → List ℕ) (folders : List T) (i : ℕ) (next ended : Script) (log : Option (List Call)) → length folders ≤ i
    → LeadsTo (syncs (map path (drop i folders)) next ended) log next log
unfolding syncs
folders_end path folders i next ended log past = subst (λ l. LeadsTo (syncs (map path l) next ended) log next log) (sym (none_left folders i past)) (leads_same next log)
