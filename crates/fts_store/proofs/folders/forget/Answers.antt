use Rattle.std.proofs.Common.{◌≡◌, not, map, string_bytes, sym, subst, rules}
use Rattle.std.proofs.lemmas.Fn.{filter_same}
use Rattle.fts_store.specs.Folders.{is_lowest, still_stable}
use Rattle.fts_store.proofs.folders.forget.Goals as goal

pub returns-in-Lowest : goal.returns-in-Lowest
returns-in-Lowest c =
    subst (λ m. c.retain.new.self.items ≡ still_stable m (map string_bytes c.args.folders.now) c.args.stable.now.items) (sym c.in-Lowest.is)
    (filter_same _ (λ known. not (is_lowest (map string_bytes c.args.folders.now) (string_bytes known))) _ (λ x b f' k. search rules) _ _ c.retain.ensures.filtered)
