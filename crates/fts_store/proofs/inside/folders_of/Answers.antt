use Rattle.std.proofs.Common.{◌+◌, ◌-◌, length, map, string_bytes, sym, ◌∙◌, arith, rules}
use Rattle.fts_store.proofs.Above.{above_none, above_end, above_here, above_more, no_bytes, some_bytes}
use Rattle.fts_store.proofs.inside.folders_of.Goals as goal

pub returns-in_default : goal.returns-in_default
returns-in_default c =
    above_end (map string_bytes c.folders.folders.items) _ (length c.args.path.now - c.folders.i) (length c.args.path.now - (c.folders.i + 1)) c.folders.below.now (omega arith) c.in_default.ensures c.folders.invariant.0

pub returns-then-is_empty : goal.returns-then-is_empty
returns-then-is_empty c =
    above_here (map string_bytes c.folders.folders.items) _ _ (length c.args.path.now - c.folders.i) (length c.args.path.now - (c.folders.i + 1)) c.folders.below.now c.in-Some.folder.now (omega arith) c.in-Some.ensures
    (no_bytes c.in-Some.folder.now (sym c.is_empty.ensures ∙ c.if-is_empty.true)) c.folders.invariant.0 c.in_ok-put.ensures

pub folders-preserved : goal.folders-preserved
folders-preserved c = (
  above_more (map string_bytes c.folders.folders.items) _ _ (length c.args.path.now - c.folders.i) (length c.args.path.now - (c.folders.i + 1)) c.folders.below.now c.in-Some.folder.now (omega arith) c.in-Some.ensures
      (some_bytes c.in-Some.folder.now (sym c.is_empty.ensures ∙ c.if-is_empty.false)) c.folders.invariant.0 c.in_ok-put-2.ensures,
  search rules,
)

pub returns : goal.returns
returns c = above_none (map string_bytes c.folders.folders.items) _ (length c.args.path.now - c.folders.i) c.folders.below.now (omega arith) c.folders.invariant.0
