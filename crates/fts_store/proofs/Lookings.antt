-- Looks at folders below the root, one behind the other.
use Rattle.std.proofs.Common.{◌≡◌, ◌⊎◌, inl, inr, codes, ℕ, ◌+◌, ◌<◌, ◌≤◌, Option, Result, Ok, Err, IsErr, IsOk, List, [], ◌++◌, length, map, drop, filter, get_or, refl, sym, ◌∙◌, ap, subst}
use Rattle.std.specs.Prelude.{if◌then◌else◌}
use Rattle.fts_files.specs.Calls.{Call, Answer, Look, Names, with_call}
use Rattle.fts_files.specs.Script.{Script, LeadsTo}
use Rattle.fts_files.proofs.Playing.{same_leads, does_leads}
use Rattle.fts_store.specs.Folders.{device_seen}
use Rattle.fts_store.specs.Listing.{below_in, names_told}
use Rattle.fts_store.specs.Sweep.{stays_below}
use Rattle.fts_store.specs.Meeting.{Known, known_of, there_of, known_at, looks_at, looks_each, Meets}
use Rattle.fts_store.specs.declared.folders.Met.{Met}
use Rattle.fts_store.proofs.Listings.{behind, none_behind, first_passes}

-- what failed is not done
pub none_done : {T E S : Type 0} {left right : S} (result : Result T E) → IsErr result → IsOk result → left ≡ right
none_done (Ok value) failed done = cc
none_done (Err error) failed done = cc

-- memory was missing before any look
pub met_none : {T E : Type 0} (root : List ℕ) (old new : Option (List Call)) (met : List Met) (result : Result T E) → IsErr result
    → ((new ≡ old) ⊎ ((answer : Answer) × (new ≡ with_call old (Names (root ++ codes "/")) answer))) → Meets root result old new met met
met_none root old new met result failed (inl none) = inl ((failed, none), refl)
met_none root old new met result failed (inr told) = inr (
  filter stays_below (names_told told.0),
  none_done result failed,
  λ next. does_leads (Names (root ++ codes "/")) (λ a. looks_each root (filter stays_below (names_told a)) (map known_of met) next) old new told.0 told.1,
)

-- nothing was asked, and nothing is known more
pub stayed : (root : List ℕ) (names : List (List ℕ)) (next : List Known → Script) (old new : Option (List Call)) (met met_now : List Met)
    → new ≡ old → met_now ≡ met → LeadsTo (looks_each root names (map known_of met) next) old (looks_each root names (map known_of met_now) next) new
stayed root names next old new met met_now unasked same =
    subst (λ log. LeadsTo (looks_each root names (map known_of met) next) old (looks_each root names (map known_of met_now) next) log) (sym unasked)
    (same_leads _ _ old (ap (λ m. looks_each root names (map known_of m) next) (sym same)))

-- one look, and what it let know
pub look_leads : (root name folder : List ℕ) (known known_now : List Known) (next : List Known → Script) (old new : Option (List Call)) (answer : Answer)
    → folder ≡ below_in root name → new ≡ with_call old (Look folder) answer → known_now ≡ known ++ known_at folder (there_of (device_seen answer))
    → LeadsTo (looks_at root name known next) old (next known_now) new
look_leads root name folder known known_now next old new answer is call now =
    subst (λ k. LeadsTo (looks_at root name known next) old (next k) new) (sym (now ∙ ap (λ f. known ++ known_at f (there_of (device_seen answer))) is))
    (does_leads (Look (below_in root name)) (λ a. next (known ++ known_at (below_in root name) (there_of (device_seen a)))) old new answer
    (call ∙ ap (λ f. with_call old (Look f) answer) is))

module _ {T : Type 0} (text : T → List ℕ) (root : List ℕ) (names : List T) (i : ℕ) (known : List Known) (next : List Known → Script)
    (log : Option (List Call)) where
  -- the next folder
  pub folder_seen : (name : T) → name ≡ get_or names i name → i < length names
      → LeadsTo (looks_each root (filter stays_below (map text (drop i names))) known next) log
      (if stays_below (text name) then looks_at root (text name) known (λ more. looks_each root (filter stays_below (map text (drop (i + 1) names))) more next)
      else looks_each root (filter stays_below (map text (drop (i + 1) names))) known next) log
  unfolding looks_each
  folder_seen name is more = same_leads _ _ log (ap (λ l. looks_each root (filter stays_below (map text l)) known next) (behind names i name is more)
      ∙ first_passes (λ l. looks_each root l known next) stays_below (text name) (map text (drop (i + 1) names)))

  -- no folder is left
  pub none_seen : length names ≤ i → LeadsTo (looks_each root (filter stays_below (map text (drop i names))) known next) log (looks_each root [] known next) log
  none_seen past = same_leads _ _ log (ap (λ l. looks_each root (filter stays_below (map text l)) known next) (none_behind names i past))
