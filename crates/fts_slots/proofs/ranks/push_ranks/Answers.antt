-- One rank more.
use Rattle.std.proofs.Common.{◌++◌, ◌∷◌, [], ℕ, length, map, take, ap, sym, ◌∙◌, arith, length-take-le}
use Rattle.std.proofs.lemmas.List.{length-map, map_more, take_all}
use Rattle.fts_tables.specs.declared.settings.Endpoint.{Endpoint}
use Rattle.fts_slots.specs.Ranks.{rank_of}
use Rattle.fts_slots.proofs.ranks.push_ranks.Goals as goal

pub loop-place-preserved : goal.loop-place-preserved
loop-place-preserved c =
    let endpoints = c.args.endpoints.now in
    let read : Endpoint → ℕ = λ endpoint. rank_of endpoints endpoint.name in
    let endpoint = c.index-endpoints-place.result in
    record {
      ranks = c.push_reserved.ensures.items
          ∙ (ap (λ ranks. ranks ++ c.rank_of.result ∷ []) c.loop-place.invariant.ranks
          ∙ (ap (λ rank. map read (take c.loop-place.place endpoints) ++ rank ∷ [])
          (c.rank_of.ensures.rank ∙ ap (rank_of endpoints) c.as_str.ensures.text)
          ∙ sym (map_more read endpoints c.loop-place.place endpoint c.loop-place-test.true)));
      room = omega (arith, c.loop-place.invariant.room, c.push_reserved.ensures.capacity);
    }

pub push_reserved-requires : goal.push_reserved-requires
push_reserved-requires c =
    let endpoints = c.args.endpoints.now in
    omega (
      arith,
      c.loop-place-test.true,
      c.loop-place.invariant.room,
      ap length c.loop-place.invariant.ranks,
      length-map (take c.loop-place.place endpoints) (λ (endpoint : Endpoint). rank_of endpoints endpoint.name),
      length-take-le c.loop-place.place endpoints (omega (arith, c.loop-place-test.true)),
    )

pub returns : goal.returns
returns c =
    let endpoints = c.args.endpoints.now in
    record {
      ranks = c.loop-place.invariant.ranks
          ∙ ap (map (λ (endpoint : Endpoint). rank_of endpoints endpoint.name)) (take_all c.loop-place.place endpoints c.loop-place-test.false);
    }
