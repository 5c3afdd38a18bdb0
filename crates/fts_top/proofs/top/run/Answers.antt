-- A run that serves meets the outside as it was, and leaves what no lane and no worker has.
use Rattle.std.proofs.Common.{◌≡◌, sym, map, string_bytes}
use Rattle.fts_words.specs.Words.{asked_in}
use Rattle.fts_service.specs.Worlds.{world_of}
use Rattle.fts_top.specs.Asked.{DoesAsked}
use Rattle.fts_top.specs.Errands.{beyond_at}
use Rattle.fts_top.specs.Runs.{OverHands, one_thread_at}
use Rattle.fts_top.specs.Serves.{IsServingRun, many_threads}
use Rattle.fts_top.proofs.Chosen.{serves_over}
use Rattle.fts_top.proofs.top.run.Goals as goal

pub returns-in-None-clause-run : goal.returns-in-None-clause-run
returns-in-None-clause-run g c =
    let before = c.run_alone.new.outside in
    let after = c.run_serving.new.outside in
    let same : before ≡ c.args.outside.now = c.run_alone.ensures.nothing c.in-None.is in
    let ran = c.run_serving.ensures.run in
    let nothing = c.run_serving.ensures.nothing in
    let asked = asked_in (map string_bytes c.args.words.now) in
    let tally = c.run_serving.result.tally in
    rw (sym same) (
      ran.0,
      (
        ran.1.0,
        (
          serves_over before.disk after.disk asked
              (λ disk left. OverHands before.hands.items after.hands.items
              (λ hand now. DoesAsked g.D.Disk g.E.Store g.L.Line.Source g.L.Line.Sink asked ran.0 tally (g.F.Source.left before.settings)
              (one_thread_at g.S.Source g.K.Sink g.C.Clock g.W.Words disk hand.store before.input before.output before.clock hand.words)
              (one_thread_at g.S.Source g.K.Sink g.C.Clock g.W.Words left now.store after.input after.output after.clock now.words)
              (beyond_at g.L.Link before.link before.deletes) (beyond_at g.L.Link after.link after.deletes)) × (after.lanes ≡ before.lanes))
              (λ disk left lanes connections. IsServingRun (world_of g.D.Disk g.E.Store g.A.Doors g.A.Line.Source g.A.Line.Sink g.C.Clock g.W.Words (g.G.Gate.closes before.gate))
              lanes connections ran.0 tally (g.F.Source.left before.settings)
              (many_threads disk before.lanes.items before.hands.items (g.C.Clock.moments before.clock))
              (many_threads left after.lanes.items after.hands.items (g.C.Clock.moments after.clock)))
              _ _ _ _ nothing.0 nothing.1 nothing.2 nothing.3 ran.1.1.0,
          ran.1.1.1,
        ),
      ),
    )
