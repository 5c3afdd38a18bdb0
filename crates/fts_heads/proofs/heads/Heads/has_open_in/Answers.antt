use Rattle.std.proofs.Common.{ap, ◌∙◌}
use Rattle.std.specs.Prelude.{◌&&◌}
use Rattle.std.specs.List.{list_any}
use Rattle.fts_heads.specs.Heads.{HeadsData, is_open}
use Rattle.fts_heads.specs.Blocks.{is_in_block}
use Rattle.fts_heads.proofs.Blocks.{open_in}
use Rattle.fts_heads.proofs.heads.Heads.has_open_in.Goals as goal

pub returns : goal.returns
returns c = record {
  answer = c.has_block.ensures.answer
      ∙ (open_in c.self.inside.busy.items c.self.inside.files.keys c.self.inside.line.keys c.args.block c.self.invariant.heads c.len.ensures.order
      ∙ ap (λ (heads : HeadsData). list_any (λ waiter. is_in_block c.args.block waiter && is_open heads.busy waiter.dest) heads.files) c.self.view_is);
}
