use Rattle.std.proofs.Common.{string_bytes, length, nat_le, sym, ◌∙◌}
use Rattle.fts_store.proofs.Prefixes.{found-before, none-before}
use Rattle.fts_store.proofs.folders.below.Goals as goal

pub returns-in-Some : goal.returns-in-Some
returns-in-Some c = found-before string_bytes (λ folder. nat_le (length folder) (length c.args.top.now)) c.args.folders.now c.in-Some.count (sym c.first_above.ensures.first ∙ c.in-Some.is)

pub returns-in-None : goal.returns-in-None
returns-in-None c = none-before string_bytes (λ folder. nat_le (length folder) (length c.args.top.now)) c.args.folders.now (sym c.first_above.ensures.first ∙ c.in-None.is)
