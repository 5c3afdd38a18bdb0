-- Two storages of one name.
use Rattle.std.proofs.Common.{◌∙◌, ap, inr, is_some}
use Rattle.fts_tables.specs.SettingsData.{SettingsData}
use Rattle.fts_config.specs.declared.fault.SettingsFault.TheVariants.{TwiceEndpoint}
use Rattle.fts_tables.specs.FirstFault.{fault_unless}
use Rattle.fts_config.specs.Rules.{twice_endpoint}
use Rattle.fts_config.proofs.Apart.{endpoints_decided}
use Rattle.fts_config.proofs.rules.check_endpoints.Goals as goal

pub returns-in-None : goal.returns-in-None
unfolding twice_endpoint
returns-in-None c = inr
    (ap (λ kept. fault_unless kept TwiceEndpoint)
    (endpoints_decided c.args.draft.now c.as_slice.result.now c.in_ok-names.field-0
    (c.as_slice.ensures ∙ ap (λ (s : SettingsData). s.endpoints) c.draft.view_is) c.in_ok-names.ensures ∙ ap is_some c.in-None.is))
