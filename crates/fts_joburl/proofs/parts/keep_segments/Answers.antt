-- The chain goes over the parts of the split, and keeps those that name something.
use Rattle.std.proofs.Common.{rules, tests, lit<}
use Rattle.std.proofs.lemmas.Iterator.Consumers.{map_from_collect, YieldsList-from_filter}
use Rattle.std.proofs.lemmas.Iterator.Splits.{YieldsList-from_str_split}
use Rattle.fts_joburl.specs.Urls.{is_kept}
use Rattle.fts_joburl.proofs.parts.keep_segments.Goals as goal

pub returns : goal.returns
returns c = map_from_collect _ c.collect.ensures.ran
    (YieldsList-from_filter _ is_kept
    (rw (← c.filter.ensures.source) at
    (YieldsList-from_str_split {s = c.split.result} 0x2f c.args.path.now (lit< tt) c.split.ensures.text c.split.ensures.has_more c.split.ensures.pattern))
    c.filter.ensures.closure (λ x b q k. search (rules, tests)))
