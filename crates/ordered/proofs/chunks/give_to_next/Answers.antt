use Rattle.std.proofs.Common.{◌≡◌, suc, ◌-◌, ◌<◌, Some, [], ◌∷◌, length, ap, ◌∙◌, subst, arith}
use Rattle.std.specs.Prelude.{slice_get, remove}
use Rattle.std.proofs.lemmas.List.{get_or_read}
use Rattle.ordered.specs.Chunks.{chunk_at}
use Rattle.ordered.proofs.Edits.{next_read_behind, parted_is, last_given}
use Rattle.ordered.proofs.chunks.give_to_next.Goals as goal

pub returns-clause-chunks : goal.returns-clause-chunks
returns-clause-chunks g c =
    let one = chunk_at c.args.chunks.now.items c.args.at in
    let other = chunk_at c.args.chunks.now.items (suc c.args.at) in
    let inside : c.args.at < length c.args.chunks.now.items = omega (arith, c.requires.inside) in
    let last : c.len-last.result - 1 ≡ length one - 1 =
    ap (λ n. n - 1)
    (c.len-last.ensures.len ∙ ap length (get_or_read c.args.chunks.now.items c.args.at c.index.result.now inside c.index.ensures [])) in
    let key : slice_get one (length one - 1) ≡ Some c.get-key.result =
    subst (λ n. slice_get one n ≡ Some c.get-key.result) last
    (subst (λ keys. slice_get keys (c.len-last.result - 1) ≡ Some c.get-key.result)
    (get_or_read c.args.chunks.now.items c.args.at c.index-2.result.now inside c.index-2.ensures []) c.get-key.ensures.key) in
    let given = last_given (length one - 1) one other c.get-key.result (omega (arith, c.requires.some)) key in
    parted_is c.args.chunks.now.items c.args.at (length one - 1) c.remove.new.self c.insert.new.self
    (c.remove.ensures.keys
    ∙ (ap (λ keys. remove keys (c.len-last.result - 1))
    (get_or_read c.args.chunks.now.items c.args.at c.index_mut.result.now inside c.index_mut.ensures.value [])
    ∙ (ap (remove one) last ∙ given.0)))
    (c.insert.ensures.keys
    ∙ (ap (λ keys. c.get-key.result ∷ keys)
    (next_read_behind c.args.chunks.now.items c.args.at c.remove.new.self c.index_mut-2.result.now c.requires.inside c.index_mut-2.ensures.value)
    ∙ given.1))
