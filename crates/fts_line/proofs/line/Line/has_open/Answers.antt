use Rattle.std.proofs.Common.{ap, subst, ◌≡◌, ◌∙◌}
use Rattle.std.specs.Prelude.{◌&&◌}
use Rattle.std.specs.List.{list_any}
use Rattle.fts_heads.specs.Blocks.{is_in_block}
use Rattle.fts_heads.specs.Heads.{is_open}
use Rattle.fts_line.specs.LineData.{LineData, may_start_on}
use Rattle.fts_line.proofs.Opens.{opens_is}
use Rattle.fts_line.proofs.line.Line.has_open.Goals as goal

pub returns : goal.returns
returns c =
    let inside = c.self.inside in
    let line = c.self.invariant in
    record {
      answer = subst (λ block. c.has_open_in.result ≡ list_any (λ waiter. is_in_block block waiter && is_open inside.heads.busy waiter.dest) inside.heads.files)
          c.block_of.ensures.block c.has_open_in.ensures.answer
          ∙ (opens_is inside.heads inside.rests.items inside.rooms.items inside.dests.items inside.moment line.keys line.due 0
          c.args.link c.requires.inside
          ∙ ap (λ (view : LineData). list_any (may_start_on view c.args.link) view.waiting.waiters) c.self.view_is);
    }
