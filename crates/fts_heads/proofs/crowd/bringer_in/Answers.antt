use Rattle.std.proofs.Common.{◌≡◌, ◌<◌, ◌≤◌, true, Option, sym, ◌∙◌, subst}
use Rattle.std.specs.Prelude.{IfSome}
use Rattle.ordered.specs.Orders.{has_key}
use Rattle.fts_heads.specs.declared.ripe_file.RipeFile.{RipeFile}
use Rattle.fts_heads.specs.RipeFiles.{goes_by_group}
use Rattle.fts_heads.proofs.Passed.{left, next_there, fewer_left}
use Rattle.fts_heads.proofs.Brought.{IsAhead, start_ahead, start_dest, start_there, step_ahead, step_dest}
use Rattle.fts_heads.proofs.crowd.bringer_in.Goals as goal

pub loop-next-init : goal.loop-next-init
loop-next-init c =
    let files = c.args.files.now.keys in
    let is = c.first_from-next.ensures.key in
    record {
      there = start_there c.args.dest files c.first_from-next.result c.len.ensures.order is;
      dest = start_dest c.args.dest files c.first_from-next.result c.len.ensures.order is;
      ahead = start_ahead c.args.dest files c.first_from-next.result c.len.ensures.order is;
    }

pub loop-next-smaller : goal.loop-next-smaller
loop-next-smaller c =
    let files = c.args.files.now.keys in
    subst (λ (some : Option RipeFile). left c.next_after-next.result files < left some files) (sym c.in-Some.is)
    (fewer_left files c.len.ensures.order c.in-Some.found c.next_after-next.result c.next_after-next.ensures.key
    (subst (λ (some : Option RipeFile). IfSome some (λ file. has_key goes_by_group file files ≡ true)) c.in-Some.is c.loop-next.invariant.there))

pub loop-next-preserved : goal.loop-next-preserved
loop-next-preserved c =
    let files = c.args.files.now.keys in
    let found = c.in-Some.found in
    let is = c.next_after-next.ensures.key in
    record {
      there = next_there files c.len.ensures.order found c.next_after-next.result is;
      dest = step_dest c.args.dest files found c.next_after-next.result c.len.ensures.order is
          (subst (λ (some : Option RipeFile). IfSome some (λ file. file.dest ≤ c.args.dest)) c.in-Some.is c.loop-next.invariant.dest);
      ahead = step_ahead c.args.dest files found c.next_after-next.result c.len.ensures.order is
          (subst (IsAhead c.args.dest files) c.in-Some.is c.loop-next.invariant.ahead) (sym c.brought.ensures.answer ∙ c.if-brought.false);
    }
