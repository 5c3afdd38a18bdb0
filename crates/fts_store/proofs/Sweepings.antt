-- Steps of a sweep, one after the other.
use Rattle.std.proofs.Common.{◌≡◌, ℕ, ◌+◌, ◌<◌, ◌≤◌, Option, Result, Ok, Err, List, length, map, drop, filter, get_or, refl, ◌∙◌, ap, subst}
use Rattle.std.specs.Prelude.{if◌then◌else◌}
use Rattle.fts_files.specs.Calls.{Call}
use Rattle.fts_files.specs.Making.{removes_stale}
use Rattle.fts_files.specs.Script.{Script, LeadsTo, either}
use Rattle.fts_files.proofs.Playing.{then_leads, same_leads}
use Rattle.fts_store.specs.Listing.{below_in}
use Rattle.fts_store.specs.Sweep.{is_part_name, stays_below, clears_each, sweeps_one, sweeps_each}
use Rattle.fts_store.proofs.Listings.{behind, none_behind, first_passes}

-- both ways on are one
one_way : {T E : Type 0} (next : Script) (result : Result T E) → either (λ done. next) next result ≡ next
one_way next (Ok done) = refl
one_way next (Err failed) = refl

-- a part was taken away, or left
pub clear_leads : {T E : Type 0} (path want : List ℕ) (next : Script) (old new : Option (List Call)) (result : Result T E) → path ≡ want
    → ((next ended : Script) → LeadsTo (removes_stale path next ended) old (either (λ done. next) ended result) new)
    → LeadsTo (removes_stale want next next) old next new
clear_leads path want next old new result is leads =
    subst (λ p. LeadsTo (removes_stale p next next) old next new) is (then_leads (leads next next) (same_leads _ _ new (one_way next result)))

module _ {T : Type 0} (text : T → List ℕ) (root : List ℕ) (names : List T) (i : ℕ) (next : Script) (log : Option (List Call)) where
  -- the next part
  pub part_leads : (name : T) → name ≡ get_or names i name → i < length names
      → LeadsTo (clears_each root (filter is_part_name (map text (drop i names))) next) log
      (if is_part_name (text name)
      then removes_stale (below_in root (text name)) (clears_each root (filter is_part_name (map text (drop (i + 1) names))) next)
      (clears_each root (filter is_part_name (map text (drop (i + 1) names))) next)
      else clears_each root (filter is_part_name (map text (drop (i + 1) names))) next) log
  unfolding clears_each
  part_leads name is more = same_leads _ _ log (ap (λ l. clears_each root (filter is_part_name (map text l)) next) (behind names i name is more)
      ∙ first_passes (λ l. clears_each root l next) is_part_name (text name) (map text (drop (i + 1) names)))

  -- no part is left
  pub parts_end : length names ≤ i → LeadsTo (clears_each root (filter is_part_name (map text (drop i names))) next) log next log
  unfolding clears_each
  parts_end past = same_leads _ _ log (ap (λ l. clears_each root (filter is_part_name (map text l)) next) (none_behind names i past))

  -- the next folder
  pub folder_leads : (name : T) → name ≡ get_or names i name → i < length names
      → LeadsTo (sweeps_each root (filter stays_below (map text (drop i names))) next) log
      (if stays_below (text name) then sweeps_one root (text name) (sweeps_each root (filter stays_below (map text (drop (i + 1) names))) next)
      else sweeps_each root (filter stays_below (map text (drop (i + 1) names))) next) log
  unfolding sweeps_each
  folder_leads name is more = same_leads _ _ log (ap (λ l. sweeps_each root (filter stays_below (map text l)) next) (behind names i name is more)
      ∙ first_passes (λ l. sweeps_each root l next) stays_below (text name) (map text (drop (i + 1) names)))

  -- no folder is left
  pub folders_end : length names ≤ i → LeadsTo (sweeps_each root (filter stays_below (map text (drop i names))) next) log next log
  unfolding sweeps_each
  folders_end past = same_leads _ _ log (ap (λ l. sweeps_each root (filter stays_below (map text l)) next) (none_behind names i past))
