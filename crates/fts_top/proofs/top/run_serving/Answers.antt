-- What a run that serves did, whether its words were taken or memory was wanting for them.
use Rattle.std.proofs.Common.{◌≡◌, ◌∙◌, inl, Some, ap, sym, map, string_bytes}
use Rattle.fts_words.specs.Words.{asked_in}
use Rattle.fts_service.specs.Worlds.{world_of}
use Rattle.fts_top.specs.Asked.{DoesOrServes}
use Rattle.fts_top.specs.Serves.{IsServingRun, many_threads}
use Rattle.fts_top.proofs.Chosen.{serves_asked, serves_any, over_both}
use Rattle.fts_top.proofs.Closing.{unasked_run}
use Rattle.fts_top.proofs.top.run_serving.Goals.{in-Ok-Some-Serve, in-Err}
use Rattle.fts_top.proofs.top.run_serving.Goals as goal

pub returns-clause-run : goal.returns-clause-run
returns-clause-run g c =
    let before = c.args.outside.now in
    let done = c.match-take_words.done in
    let after = c.match-take_words.outside in
    let asked = asked_in (map string_bytes c.args.words.now) in
    let world = world_of g.D.Disk g.E.Store g.A.Doors g.A.Line.Source g.A.Line.Sink g.C.Clock g.W.Words (g.G.Gate.closes before.gate) in
    let ran : DoesOrServes asked ⊥ (λ lanes connections. IsServingRun world lanes connections done.end done.tally (g.F.Source.left before.settings)
    (many_threads c.in-Some.disk before.lanes.items before.hands.items (g.C.Clock.moments before.clock))
    (many_threads done.disk after.lanes.items after.hands.items (g.C.Clock.moments after.clock))) =
    elim c.match-take_words.branch [
      | in-Ok-Some-Serve w ↦
          let serve = w.in-Ok-Some-Serve in
          rw w.done-is (rw w.outside-is
          (serves_asked asked serve.port serve.lanes serve.connections _
          (sym serve.ensures.taken ∙ (serve.field-0-is ∙ ap (λ it. Some it) serve.field-0-0-is)) w.serve-done.ensures.run))
      | in-Err w ↦
          rw w.done-is (rw w.outside-is
          (serves_any asked _ c.requires.asked
          (λ lanes connections. inl (unasked_run world (g.F.Source.left before.settings) before.lanes.items before.hands.items (g.C.Clock.moments before.clock)
          c.in-Some.disk w.stop-done.result.disk w.stop-done.result.end w.stop-done.result.tally w.stop-done.ensures.end w.stop-done.ensures.tally
          w.stop-done.ensures.disk))))
    ] in
    let notes : after.notes ≡ before.notes = elim c.match-take_words.branch [
      | in-Ok-Some-Serve w ↦ ap (λ outside. outside.notes) (w.outside-is ∙ w.serve-done.ensures.rest)
      | in-Err w ↦ ap (λ outside. outside.notes) w.outside-is
    ] in (
      done.end,
      (
        c.status.ensures,
        (over_both _ _ c.in-Some.disk done.disk _ (sym c.take.ensures.value ∙ c.in-Some.is) c.replace.ensures.after ran, rw notes at c.write_note.ensures),
      ),
    )
