use Rattle.std.proofs.Common.{inr, sym, ◌∙◌}
use Rattle.fts_files.proofs.Playing.{then_leads, chosen, left}
use Rattle.fts_store.proofs.folder.FolderStore.read.Goals as goal

pub returns-then-is_at-clause-script : goal.returns-then-is_at-clause-script
returns-then-is_at-clause-script g c = inr (λ next.
    then_leads (chosen _ _ _ _ (sym c.stays_inside.ensures ∙ c.if-not-stays_inside.false)) (then_leads (chosen _ _ _ _ (sym c.is_at.ensures ∙ c.if-is_at.true)) (c.read_part.ensures.script next)))

pub returns-then-is_at-2-clause-script : goal.returns-then-is_at-2-clause-script
returns-then-is_at-2-clause-script g c = inr (λ next.
    then_leads (chosen _ _ _ _ (sym c.stays_inside.ensures ∙ c.if-not-stays_inside.false)) (then_leads (left _ _ _ _ (sym c.is_at.ensures ∙ c.if-is_at.false))
    (then_leads (chosen _ _ _ _ (sym c.is_at-2.ensures ∙ c.if-is_at-2.true)) (c.read_opened.ensures.script next))))
