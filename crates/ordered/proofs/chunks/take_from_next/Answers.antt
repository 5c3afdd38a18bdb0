use Rattle.std.proofs.Common.{◌≡◌, suc, ◌+◌, ◌<◌, Some, [], length, drop, insert, ap, sym, ◌∙◌, subst, arith}
use Rattle.std.specs.Prelude.{slice_get}
use Rattle.std.proofs.Math.Seq.{drop-append-add}
use Rattle.std.proofs.lemmas.List.{get_or_read}
use Rattle.ordered.specs.Chunks.{chunk_at}
use Rattle.ordered.proofs.Edits.{next_read, next_read_behind, parted_is, first_taken}
use Rattle.ordered.proofs.chunks.take_from_next.Goals as goal

pub returns-clause-chunks : goal.returns-clause-chunks
returns-clause-chunks g c =
    let one = chunk_at c.args.chunks.now.items c.args.at in
    let other = chunk_at c.args.chunks.now.items (suc c.args.at) in
    let inside : c.args.at < length c.args.chunks.now.items = omega (arith, c.requires.inside) in
    let end : c.len-end.result ≡ length one =
    c.len-end.ensures.len ∙ ap length (get_or_read c.args.chunks.now.items c.args.at c.index-2.result.now inside c.index-2.ensures []) in
    let key : slice_get other 0 ≡ Some c.get-key.result =
    subst (λ keys. slice_get keys 0 ≡ Some c.get-key.result)
    (next_read c.args.chunks.now.items c.args.at c.index.result.now c.requires.inside c.index.ensures) c.get-key.ensures.key in
    parted_is c.args.chunks.now.items c.args.at (length one + 1) c.insert.new.self c.remove.new.self
    (c.insert.ensures.keys
    ∙ (ap (λ keys. insert keys c.len-end.result c.get-key.result)
    (get_or_read c.args.chunks.now.items c.args.at c.index_mut.result.now inside c.index_mut.ensures.value [])
    ∙ (ap (λ n. insert one n c.get-key.result) end ∙ first_taken one other c.get-key.result key)))
    (c.remove.ensures.keys
    ∙ (ap (drop 1)
    (next_read_behind c.args.chunks.now.items c.args.at c.insert.new.self c.index_mut-2.result.now c.requires.inside c.index_mut-2.ensures.value)
    ∙ sym (drop-append-add one other 1)))
