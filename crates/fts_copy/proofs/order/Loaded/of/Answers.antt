use Rattle.std.proofs.Common.{◌≤◌, List, ℕ, length, subst, sym, arith, lit<}
use Rattle.fts_copy.specs.Copy.{HasSegments}
use Rattle.fts_copy.proofs.Parts.{part_path_short, key_has_segments}
use Rattle.fts_copy.proofs.order.Loaded.of.Goals as goal

pub text-requires-5 : goal.text-requires-5
text-requires-5 c = (lit< tt, subst (λ (p : List ℕ). length p ≤ 20) (sym c.part-part.ensures.path) (part_path_short c.args.row.now.id (omega arith)))

pub returns-clause-inside : goal.returns-clause-inside
returns-clause-inside c = record {
  source = key_has_segments c.args.row.now.source.path c.as_str-3.ensures.key;
  dest = key_has_segments c.args.row.now.dest.path c.as_str-5.ensures.key;
  part = subst HasSegments c.part-part.ensures.path c.part-part.ensures.segments;
}
