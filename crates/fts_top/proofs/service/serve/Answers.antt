-- A keep that was started and served, and one that could not be started.
use Rattle.std.proofs.Common.{◌≡◌, ◌==◌, ◌≤◌, inl, inr, length, ap, sym, ◌∙◌, subst, arith}
use Rattle.fts_tables.specs.Coming.{Gives}
use Rattle.fts_tables.specs.SettingsData.{SettingsData, IsSettings}
use Rattle.fts_top.proofs.Closing.{unstarted_run}
use Rattle.fts_top.proofs.Endings.{start_status, start_settings, few_workers, not_eight}
use Rattle.fts_top.specs.Ends.{status_of, IsServingStatus}
use Rattle.fts_top.specs.declared.ends.RunEnd.{RunEnd}
use Rattle.fts_top.proofs.service.serve.Goals as goal
use Rattle.fts_service.specs.Worlds.{world_of}
use Rattle.fts_tables.specs.declared.limits.TheConstants.{MAX_WORKERS}

pub serve_keep-requires-clause-hands : goal.serve_keep-requires-clause-hands
serve_keep-requires-clause-hands g c κs within =
    let settings = subst IsSettings c.settings.view_is c.settings.invariant in
    let few : c.in-Ok.settings.workers ≤ MAX_WORKERS = few_workers c.in-Ok.settings settings.workers in
    let benches : length c.in-Ok-make_seats.seats.benches.items ≡ c.in-Ok.settings.workers =
    c.in-Ok-make_seats.ensures.many.1 ∙ ap (λ (s : SettingsData). s.workers) c.settings.view_is in
    (omega (arith, few, benches, c.requires.hands), omega (arith, c.requires.hands))

pub returns-in-Ok-start-clause-run : goal.returns-in-Ok-start-clause-run
returns-in-Ok-start-clause-run g c =
    let started = c.in-Ok-start.ensures.ok in
    inr (record {
      settings = c.in-Ok.settings;
      kept = subst IsSettings c.settings.view_is c.settings.invariant;
      read = c.in-Ok.ensures.read;
      now = c.now-now.result;
      moment = subst (λ clock. Gives (g.C.Clock.moments c.args.outside.now.clock) (g.C.Clock.moments clock) c.now-now.result)
          (sym (ap (λ outside. outside.clock) c.serve_keep.ensures.rest)) c.now-now.ensures;
      keep = c.in-Ok-start.keep;
      opening = started.0;
      starts = started.1;
      serves = rw (c.in-Ok-make_seats.ensures.many.1 ∙ ap (λ (s : SettingsData). s.workers) c.settings.view_is) at c.serve_keep.ensures.serves;
    })

pub returns-clause-run : goal.returns-clause-run
returns-clause-run g c =
    inl (unstarted_run (world_of g.D.Disk g.E.Store g.A.Doors g.A.Line.Source g.A.Line.Sink g.C.Clock g.W.Words (g.G.Gate.closes c.args.outside.now.gate))
    (g.F.Source.left c.args.outside.now.settings) c.args.outside.now.lanes.items c.args.outside.now.hands.items (g.C.Clock.moments c.args.outside.now.clock)
    (g.C.Clock.moments c.now-now.new.self) c.args.disk c.in-Err-start.disk c.stop-in-Err-start.result.disk c.in-Ok.settings c.now-now.result c.in-Err-start.fault
    c.stop-in-Err-start.result.end c.stop-in-Err-start.result.tally (subst IsSettings c.settings.view_is c.settings.invariant) c.in-Ok.ensures.read c.now-now.ensures
    c.in-Err-start.ensures.err (c.stop-in-Err-start.ensures.end ∙ c.of_start.ensures) c.stop-in-Err-start.ensures.tally c.stop-in-Err-start.ensures.disk)

pub returns-clause-settings : goal.returns-clause-settings
returns-clause-settings g c =
    not_eight _ (ap (λ (end : RunEnd). status_of end == 8) (c.stop-in-Err-start.ensures.end ∙ c.of_start.ensures) ∙ start_settings c.in-Err-start.fault)

pub returns-clause-status : goal.returns-clause-status
returns-clause-status g c =
    subst (λ (end : RunEnd). IsServingStatus (status_of end)) (sym (c.stop-in-Err-start.ensures.end ∙ c.of_start.ensures)) (start_status c.in-Err-start.fault)
