use Rattle.std.proofs.Common.{sym, ◌∙◌, rules}
use Rattle.fts_files.proofs.Playing.{then_leads, leads_same, chosen, left}
use Rattle.fts_store.proofs.Listings.{stops, goes_on}
use Rattle.fts_store.proofs.Sweepings.{clear_leads}
use Rattle.fts_store.proofs.sweep.clear_part.Goals as goal

pub returns-then-not-is_part_name : goal.returns-then-not-is_part_name
returns-then-not-is_part_name g c next = goes_on (left _ _ next _ (sym (rw c.as_bytes.ensures.value at c.is_part_name.ensures) ∙ c.if-not-is_part_name.true))

pub returns-in_err-path : goal.returns-in_err-path
returns-in_err-path g c next = stops c.from_residual.result (λ done. next) (leads_same _ _) (search rules)

pub returns : goal.returns
returns g c next = goes_on (then_leads (chosen _ _ next _ (sym (rw c.as_bytes.ensures.value at c.is_part_name.ensures) ∙ c.if-not-is_part_name.false))
    (clear_leads c.as_str.result.now _ next _ _ c.remove_stale-left.result (c.as_str.ensures.value ∙ c.in_ok-path.ensures) c.remove_stale-left.ensures))
