use Rattle.std.proofs.Common.{sym, ◌∙◌}
use Rattle.fts_files.specs.Script.{fails}
use Rattle.fts_files.specs.Moving.{links, takes_back}
use Rattle.fts_files.proofs.Playing.{then_leads, does_leads, failed, chosen, left}
use Rattle.fts_files.proofs.moving.link.Goals as goal

pub returns-in-Ok-settle : goal.returns-in-Ok-settle
unfolding links
returns-in-Ok-settle g c next = then_leads (does_leads _ _ _ _ _ c.in-Ok.ensures) (c.in-Ok-settle.ensures next (takes_back c.args.dest.now))

pub returns-in-Err-settle : goal.returns-in-Err-settle
unfolding links
returns-in-Err-settle g c next = failed (λ done. next) fails c.take_back.result
    (then_leads (does_leads _ _ _ _ _ c.in-Ok.ensures) (then_leads (c.in-Err-settle.ensures next (takes_back c.args.dest.now)) c.take_back.ensures.script)) c.take_back.ensures.failed

pub returns-in-Err-look_at_name : goal.returns-in-Err-look_at_name
unfolding links
returns-in-Err-look_at_name g c next =
    then_leads (does_leads _ _ _ _ _ c.in-Err.ensures) (then_leads (chosen _ _ _ _ (sym c.lacks_links.ensures ∙ c.if-lacks_links.true))
    (then_leads (does_leads _ _ _ _ _ c.in-Err-look_at_name.ensures) (then_leads (chosen _ _ _ _ (sym c.is_missing.ensures ∙ c.if-is_missing.true)) (c.replace.ensures next))))

pub returns-in_default : goal.returns-in_default
unfolding links
returns-in_default g c next =
    then_leads (does_leads _ _ _ _ _ c.in-Err.ensures) (then_leads (chosen _ _ _ _ (sym c.lacks_links.ensures ∙ c.if-lacks_links.true))
    (then_leads (does_leads _ _ _ _ _ c.in-Err-look_at_name.ensures) (left _ _ _ _ (sym c.is_missing.ensures ∙ c.if-is_missing.false))))

pub returns-in_default-2 : goal.returns-in_default-2
unfolding links
returns-in_default-2 g c next =
    then_leads (does_leads _ _ _ _ _ c.in-Err.ensures) (then_leads (chosen _ _ _ _ (sym c.lacks_links.ensures ∙ c.if-lacks_links.true))
    (does_leads _ _ _ _ _ c.in_default.ensures))

pub returns-in-Err-2 : goal.returns-in-Err-2
unfolding links
returns-in-Err-2 g c next =
    then_leads (does_leads _ _ _ _ _ c.in-Err.ensures) (left _ _ _ _ (sym c.lacks_links.ensures ∙ c.if-lacks_links.false))
