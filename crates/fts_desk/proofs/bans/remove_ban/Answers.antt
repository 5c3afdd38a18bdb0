-- What is kept are the other storages.
use Rattle.std.proofs.Common.{rules}
use Rattle.std.specs.Prelude.{not, bytes_eq}
use Rattle.std.proofs.lemmas.Fn.{filter_same}
use Rattle.fts_desk.proofs.bans.remove_ban.Goals as goal

pub returns : goal.returns
returns c = record {
  banned = filter_same _ (λ other. not (bytes_eq c.args.storage.now other)) _ (λ x b f' called. search rules) _ _ c.retain.ensures.filtered;
}
