use Rattle.std.proofs.Common.{◌≡◌, ◌<◌, [], length, ap, sym, ◌∙◌, subst}
use Rattle.std.specs.Prelude.{remove}
use Rattle.std.proofs.Math.ListN.{set}
use Rattle.std.proofs.lemmas.List.{get_or_read}
use Rattle.ordered.specs.Chunks.{joined, chunk_at, HasLostOne}
use Rattle.ordered.proofs.Edits.{lost_one}
use Rattle.ordered.proofs.chunks.take_at.Goals as goal
use Rattle.ordered.proofs.chunks.take_at.Goals.{After-index_mut}

pub remove-requires : goal.remove-requires
remove-requires g c =
    let same = get_or_read c.args.chunks.now.items c.args.spot.chunk c.index_mut.result.now c.requires.chunk c.index_mut.ensures.value [] in
    record { inside = subst (λ keys. c.args.spot.at < length keys) (sym same) c.requires.at }

-- what the chunk is then
new_of : (g : _) (c : After-index_mut g) (new : _) → new ≡ remove c.index_mut.result.now c.args.spot.at
    → new ≡ remove (chunk_at c.args.chunks.now.items c.args.spot.chunk) c.args.spot.at
new_of g c new is =
    is
    ∙ ap (λ chunk. remove chunk c.args.spot.at)
    (get_or_read c.args.chunks.now.items c.args.spot.chunk c.index_mut.result.now c.requires.chunk c.index_mut.ensures.value [])

pub close_up-requires-clause-lost : goal.close_up-requires-clause-lost
close_up-requires-clause-lost g c =
    let here = (goal.at.close_up-requires-clause-lost g c).After-index_mut in
    subst (λ new. HasLostOne (set c.args.chunks.now.items c.args.spot.chunk new) c.args.spot.chunk)
    (sym (new_of g here c.remove.new.self c.remove.ensures.keys))
    (lost_one c.args.chunks.now.items c.args.spot.chunk c.args.spot.at c.requires.fit c.requires.chunk c.requires.at)

pub returns-clause-keys : goal.returns-clause-keys
returns-clause-keys g c =
    let here = (goal.at.returns-clause-keys g c).After-index_mut in
    c.close_up.ensures.keys
    ∙ ap (λ new. joined (set c.args.chunks.now.items c.args.spot.chunk new)) (new_of g here c.remove.new.self c.remove.ensures.keys)
