-- Two links of one pair, or none.
use Rattle.std.proofs.Common.{◌∙◌, ap, sym, inl}
use Rattle.fts_tables.specs.SettingsData.{SettingsData}
use Rattle.fts_config.specs.declared.fault.SettingsFault.TheVariants.{TwiceLink}
use Rattle.fts_tables.specs.FirstFault.{fault_unless, unless}
use Rattle.fts_config.specs.Rules.{twice_link}
use Rattle.fts_config.proofs.Apart.{links_decided}
use Rattle.fts_config.proofs.rules.check_links.Goals as goal

pub returns : goal.returns
unfolding twice_link
returns c = inl (c.verdict.ensures
    ∙ ap (λ kept. unless (fault_unless kept TwiceLink) tt)
    (c.is_some.ensures ∙ sym
    (links_decided c.args.draft.now c.as_slice.result.now c.in_ok-keys.keys (c.as_slice.ensures ∙ ap (λ (s : SettingsData). s.links) c.draft.view_is)
    c.in_ok-keys.ensures)))
