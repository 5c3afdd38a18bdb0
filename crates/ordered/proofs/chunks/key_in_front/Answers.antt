use Rattle.std.proofs.Common.{◌-◌, [], length, ap, sym, ◌∙◌, arith}
use Rattle.std.specs.Prelude.{slice_get}
use Rattle.std.proofs.lemmas.List.{get_or_read}
use Rattle.ordered.proofs.Fits.{fit_some}
use Rattle.ordered.proofs.Places.{last_within, last_before_chunk}
use Rattle.ordered.proofs.chunks.key_in_front.Goals as goal

pub returns-then-spot-gt0 : goal.returns-then-spot-gt0
returns-then-spot-gt0 g c =
    let same = get_or_read c.args.chunks.now c.args.spot.chunk c.index-chunks-spot.result c.requires.chunk c.index-chunks-spot.is [] in
    record {
      key = sym c.get.ensures.key
          ∙ (ap (λ keys. slice_get keys (c.args.spot.at - 1)) same
          ∙ sym (last_within c.args.chunks.now c.args.spot.chunk c.args.spot.at c.if-spot-gt0.true c.requires.at));
    }

pub returns-then-spot-gt0-2 : goal.returns-then-spot-gt0-2
returns-then-spot-gt0-2 g c =
    let same = get_or_read c.args.chunks.now (c.args.spot.chunk - 1) c.index-chunks-spot-then-spot-gt0-2.result
    (omega (arith, c.requires.chunk)) c.index-chunks-spot-then-spot-gt0-2.is [] in
    record {
      key = c.last.ensures.last
          ∙ (ap (λ keys. slice_get keys (length keys - 1)) same
          ∙ sym (last_before_chunk c.args.chunks.now c.args.spot.chunk c.args.spot.at (fit_some c.args.chunks.now c.requires.fit) c.if-spot-gt0-2.true
          c.requires.chunk (omega (arith, c.if-spot-gt0.false))));
    }
