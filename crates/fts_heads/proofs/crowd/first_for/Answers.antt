use Rattle.std.proofs.Common.{sym, ◌∙◌}
use Rattle.fts_heads.proofs.Leasts.{from_first, from_other, from_none}
use Rattle.fts_heads.proofs.crowd.first_for.Goals as goal

pub returns-then-found-start : goal.returns-then-found-start
returns-then-found-start c = record {
  least = from_first c.args.files.now.keys c.args.start.now c.in-Some.found c.len.ensures.order (sym c.first_from.ensures.key ∙ c.in-Some.is) c.if-found-start.true;
}

pub returns-else-found-start : goal.returns-else-found-start
returns-else-found-start c = record {
  least = from_other c.args.files.now.keys c.args.start.now c.in-Some.found c.len.ensures.order (sym c.first_from.ensures.key ∙ c.in-Some.is) c.if-found-start.false;
}

pub returns-in-None : goal.returns-in-None
returns-in-None c = record {
  least = from_none c.args.files.now.keys c.args.start.now (sym c.first_from.ensures.key ∙ c.in-None.is);
}
