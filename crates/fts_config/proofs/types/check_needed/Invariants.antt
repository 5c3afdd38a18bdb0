-- The loop over the keys.
use Rattle.std.proofs.Common.{◌≡◌, drop, find}
use Rattle.std.specs.List.{list_any}
use Rattle.toml.specs.View.{view}
use Rattle.fts_config.specs.Keys.{all_keys}
use Rattle.fts_config.specs.Tables.{tables_with}
use Rattle.fts_config.specs.Types.{lacks}
use Rattle.fts_config.proofs.types.check_needed.Given as goal

-- the keys that are left decide
abbrev pub invariant-loop-key : goal.invariant-loop-key
invariant-loop-key l = find (λ key. list_any (lacks key) (tables_with key (view l.document))) (drop l.key-index l.key-items)
    ≡ find (λ key. list_any (lacks key) (tables_with key (view l.document))) all_keys
