use Rattle.std.proofs.Common.{suc, ◌+◌, ◌<◌, ◌≤◌, [], length, ap, sym, ◌∙◌, subst, arith}
use Rattle.std.specs.Prelude.{slice_get}
use Rattle.std.proofs.lemmas.List.{get_or_read}
use Rattle.ordered.specs.Chunks.{chunk_at}
use Rattle.ordered.proofs.Fits.{fit_some, fit_filled}
use Rattle.ordered.proofs.Places.{first_within, first_behind, none_behind}
use Rattle.ordered.proofs.chunks.key_at.Goals as goal

pub get-requires-then-spot-chunks : goal.get-requires-then-spot-chunks
get-requires-then-spot-chunks g c =
    let same = get_or_read c.args.chunks.now (c.args.spot.chunk + 1) c.index-chunks-spot-then-spot-chunks.result c.if-spot-chunks.true
    c.index-chunks-spot-then-spot-chunks.is [] in
    record {
      inside = subst (λ keys. 0 < length keys) (sym same)
          (fit_filled c.args.chunks.now (c.args.spot.chunk + 1) c.requires.fit c.if-spot-chunks.true);
    }

pub returns-then-spot-len : goal.returns-then-spot-len
returns-then-spot-len g c =
    let here = get_or_read c.args.chunks.now c.args.spot.chunk c.index-chunks-spot.result c.requires.chunk c.index-chunks-spot.is [] in
    let same = get_or_read c.args.chunks.now c.args.spot.chunk c.index-chunks-spot-then-spot-len.result c.requires.chunk
    c.index-chunks-spot-then-spot-len.is [] in
    let less : c.args.spot.at < length (chunk_at c.args.chunks.now c.args.spot.chunk) =
    omega (arith, c.if-spot-len.true, c.len.ensures.len, ap length here) in
    record {
      key = sym c.get.ensures.key
          ∙ (ap (λ keys. slice_get keys c.args.spot.at) same
          ∙ sym (first_within (chunk_at c.args.chunks.now c.args.spot.chunk) _ c.args.spot.at less));
    }

pub returns-then-spot-chunks : goal.returns-then-spot-chunks
returns-then-spot-chunks g c =
    let here = get_or_read c.args.chunks.now c.args.spot.chunk c.index-chunks-spot.result c.requires.chunk c.index-chunks-spot.is [] in
    let same = get_or_read c.args.chunks.now (c.args.spot.chunk + 1) c.index-chunks-spot-then-spot-chunks.result c.if-spot-chunks.true
    c.index-chunks-spot-then-spot-chunks.is [] in
    let past : length (chunk_at c.args.chunks.now c.args.spot.chunk) ≤ c.args.spot.at =
    omega (arith, c.if-spot-len.false, c.len.ensures.len, ap length here) in
    record {
      key = sym c.get-then-spot-chunks.ensures.key
          ∙ (ap (λ keys. slice_get keys 0) same
          ∙ (ap (λ n. slice_get (chunk_at c.args.chunks.now n) 0) {x = c.args.spot.chunk + 1} {y = suc c.args.spot.chunk} (omega arith)
          ∙ sym (first_behind c.args.chunks.now c.args.spot.chunk c.args.spot.at (fit_some c.args.chunks.now c.requires.fit) (omega (arith, c.if-spot-chunks.true)) past)));
    }

pub returns-else-spot-chunks : goal.returns-else-spot-chunks
returns-else-spot-chunks g c =
    let here = get_or_read c.args.chunks.now c.args.spot.chunk c.index-chunks-spot.result c.requires.chunk c.index-chunks-spot.is [] in
    let past : length (chunk_at c.args.chunks.now c.args.spot.chunk) ≤ c.args.spot.at =
    omega (arith, c.if-spot-len.false, c.len.ensures.len, ap length here) in
    record {
      key = sym (ap (λ keys. slice_get keys 0)
          (none_behind c.args.chunks.now c.args.spot.chunk c.args.spot.at (omega (arith, c.if-spot-chunks.false)) past));
    }
