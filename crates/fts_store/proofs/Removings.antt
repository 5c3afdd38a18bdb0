-- Folders that are gone down, one behind the other.
use Rattle.std.proofs.Common.{◌≡◌, ℕ, zero, suc, ◌<◌, Bool, true, false, Option, List, [], ◌∷◌, ◌++◌, length, take, get_or, refl, sym, ◌∙◌, ap, subst, arith}
use Rattle.std.specs.Prelude.{if◌then◌else◌}
use Rattle.fts_tables.specs.declared.places.Place.{Place}
use Rattle.fts_files.specs.Calls.{Call}
use Rattle.fts_files.specs.Script.{Script, LeadsTo}
use Rattle.fts_files.proofs.Playing.{leads_same, then_leads, same_leads, chosen, left}
use Rattle.fts_store.specs.declared.folders.Met.{Met}
use Rattle.fts_store.specs.Folder.{stays_inside, is_among_parts}
use Rattle.fts_store.specs.Folders.{meets}
use Rattle.fts_store.specs.FolderCalls.{apart_from_parts}
use Rattle.fts_store.specs.Paths.{endpoint_in}
use Rattle.fts_store.specs.Removing.{sees_folder, goes_down}
use Rattle.fts_store.proofs.Metings.{take_last}

-- the highest of these folders is looked at first
goes_first : (top : List ℕ) (folders : List (List ℕ)) (highest : List ℕ) (next : List ℕ → Bool → Script)
    → goes_down top (folders ++ highest ∷ []) next ≡ sees_folder highest (λ is_there. if is_there then goes_down highest folders next else next top false)
unfolding goes_down
goes_first top [] highest next = refl
goes_first top (lowest ∷ above) highest next =
    goes_first top above highest (λ folder is_last. if is_last then sees_folder lowest (λ is_there. if is_there then next lowest true else next folder false) else next folder false)

-- the next one is looked at
pub down_on : (top : List ℕ) (folders : List (List ℕ)) (left rest : ℕ) (folder : List ℕ) (next : List ℕ → Bool → Script) (log : Option (List Call))
    → left ≡ suc rest → rest < length folders → folder ≡ get_or folders rest folder
    → LeadsTo (goes_down top (take left folders) next) log (sees_folder folder (λ is_there. if is_there then goes_down folder (take rest folders) next else next top false)) log
down_on top folders left rest folder next log more inside is =
    same_leads _ _ log (ap (λ n. goes_down top (take n folders) next) more ∙ ap (λ l. goes_down top l next) (take_last folders rest folder inside)
    ∙ goes_first top (take rest folders) (get_or folders rest folder) next
    ∙ ap (λ f. sees_folder f (λ is_there. if is_there then goes_down f (take rest folders) next else next top false)) (sym is))

-- all are there
pub down_all : (top : List ℕ) (folders : List (List ℕ)) (left : ℕ) (next : List ℕ → Bool → Script) (log : Option (List Call)) → left ≡ 0
    → LeadsTo (goes_down top (take left folders) next) log (next top true) log
unfolding goes_down
down_all top folders zero next log none = leads_same (next top true) log
down_all top folders (suc left) next log none = absurd (omega arith)

-- what is not false
surely : (b : Bool) → (b ≡ false → false ≡ true) → b ≡ true
surely true never = refl
surely false never = never refl

-- a place that lies inside, and in no folder of parts, whose endpoint's own folder is met
pub apart_leads : (root : List ℕ) (met : List Met) (place : Place) (folder : List ℕ) (next rest : Script) (old new : Option (List Call))
    → is_among_parts place.path ≡ false → (stays_inside place ≡ false → false ≡ true) → folder ≡ endpoint_in root place.endpoint
    → LeadsTo (meets met folder (λ was_there. next)) old rest new → LeadsTo (apart_from_parts root met place next) old rest new
apart_leads root met place folder next rest old new parts inside is leads =
    then_leads (left _ _ _ old parts) (then_leads (chosen _ _ _ old (surely (stays_inside place) inside))
    (subst (λ f. LeadsTo (meets met f (λ was_there. next)) old rest new) is leads))

-- the same file of the same folders
pub same_file : (f : List ℕ → List (List ℕ) → List ℕ → Script) (top top' : List ℕ) (folders folders' : List (List ℕ)) (path path' : List ℕ) (log : Option (List Call))
    → top ≡ top' → folders ≡ folders' → path ≡ path' → LeadsTo (f top' folders' path') log (f top folders path) log
same_file f top top' folders folders' path path' log one two three =
    same_leads _ _ log (sym (ap (λ t. f t folders path) one ∙ ap (λ l. f top' l path) two ∙ ap (λ p. f top' folders' p) three))
