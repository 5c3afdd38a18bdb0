-- A hand more, with words on the stream of its place.
use Rattle.std.proofs.Common.{◌≡◌, sym, ap, ◌∙◌, subst, ℕ, ◌+◌, [], ◌∷◌, ◌++◌, map, length, arith}
use Rattle.std.proofs.lemmas.List.{length-append, map-append}
use Rattle.rand_pcg.specs.Lcg.{increment_of, started}
use Rattle.rand_pcg.specs.Pcg.{multiplier_64}
use Rattle.fts_devices.specs.Hands.{AreOnStreams}
use Rattle.fts_devices.proofs.Streams.{behind_push, on_streams_more}
use Rattle.fts_devices.proofs.hands.hands_over.Goals as goal

pub loop-store-preserved : goal.loop-store-preserved
loop-store-preserved g c =
    let items = behind_push c.push.result c.push.new.self.items c.loop-store.hands.items _ (c.if-is_err.ensures).value c.push.ensures.items in
    let items_len : c.loop-store.hands.len ≡ 0 + length c.loop-store.hands.items = omega (arith, c.loop-store.hands.ok.0) in
    record {
      count = ap length items ∙ length-append c.loop-store.hands.items _ ∙ ap (λ (n : ℕ). n + 1) c.loop-store.invariant.count ∙ sym (length-append c.loop-store.yielded (c.in-Some.store ∷ []));
      stores = ap (map (λ hand. hand.store)) items ∙ map-append (λ hand. hand.store) c.loop-store.hands.items _ ∙ ap (λ stores. stores ++ c.in-Some.store ∷ []) c.loop-store.invariant.stores;
      words = subst (λ hands. AreOnStreams c.now-moment.result 0 (map (λ hand. hand.words) hands)) (sym items)
          (on_streams_more (λ hand. hand.words) c.now-moment.result 0 c.loop-store.hands.items _ c.loop-store.invariant.words
          (c.new-in-loop-store-2.ensures ∙ ap (λ n. started 64 multiplier_64 c.now-moment.result (increment_of 64 n)) (c.len.ensures ∙ items_len)));
    }
