use Rattle.fts_tables.specs.FirstFault.{first_fault}
use Rattle.fts_config.specs.Rules.{faults_of}
use Rattle.fts_config.proofs.KeptRules.{settings_kept, none_broken}
use Rattle.fts_config.proofs.rules.settled.Goals as goal

pub into_settings-requires : goal.into_settings-requires
into_settings-requires c = settings_kept c.args.draft (none_broken (first_fault (faults_of c.args.draft)) c.in_ok-check_values.ensures)
