-- A request is answered by what it asks for.
use Rattle.std.proofs.Common.{sym, ◌∙◌, refl, subst, Bool}
use Rattle.fts_wire.specs.Answered.{request_data}
use Rattle.fts_panel.specs.declared.asked.Asked.TheVariants.{Page, Metrics, About, OtherMethod, Nothing}
use Rattle.fts_panel.specs.Responses.{Says, refusal_response, no_method, no_route}
use Rattle.fts_panel.specs.Lines.{seen}
use Rattle.fts_panel.proofs.Serving.{answered_for}
use Rattle.fts_panel.proofs.line.answer.Goals as goal

pub returns-in-Page-clause-answered : goal.returns-in-Page-clause-answered
returns-in-Page-clause-answered g c =
    answered_for g.D.Disk.state g.D.Disk.faults (seen c.args.view (g.C.Clock.moments c.args.clock.now)) (seen c.args.view (g.C.Clock.moments c.args.clock.now))
    (request_data c.args.request.now) (g.K.Sink.held c.args.sink.now) (g.K.Sink.held c.write_page.new.sink) (g.K.Sink.faults c.args.sink.now)
    (g.K.Sink.faults c.write_page.new.sink) Page 0 (sym c.in-Page.is ∙ c.asked_by.ensures)
    refl
    c.write_page.ensures.says

pub returns-in-Metrics-clause-answered : goal.returns-in-Metrics-clause-answered
returns-in-Metrics-clause-answered g c =
    answered_for g.D.Disk.state g.D.Disk.faults (seen c.args.view (g.C.Clock.moments c.args.clock.now)) (seen c.look-seen.result (g.C.Clock.moments c.now-now.new.self))
    (request_data c.args.request.now) (g.K.Sink.held c.args.sink.now) (g.K.Sink.held c.write_view.new.sink) (g.K.Sink.faults c.args.sink.now)
    (g.K.Sink.faults c.write_view.new.sink) Metrics c.now-now.result (sym c.in-Metrics.is ∙ c.asked_by.ensures)
    (record { given = c.now-now.ensures; looks = c.look-seen.ensures })
    c.write_view.ensures.says

pub returns-in-About-clause-answered : goal.returns-in-About-clause-answered
returns-in-About-clause-answered g c =
    answered_for g.D.Disk.state g.D.Disk.faults (seen c.args.view (g.C.Clock.moments c.args.clock.now)) (seen c.look-view.result (g.C.Clock.moments c.now-now-in-About.new.self))
    (request_data c.args.request.now) (g.K.Sink.held c.args.sink.now) (g.K.Sink.held c.write_topic.new.sink) (g.K.Sink.faults c.args.sink.now)
    (g.K.Sink.faults c.write_topic.new.sink) (About c.in-About.topic) c.now-now-in-About.result (sym c.in-About.is ∙ c.asked_by.ensures)
    (record { given = c.now-now-in-About.ensures; looks = c.look-view.ensures })
    c.write_topic.ensures.says

pub returns-in-OtherMethod-clause-answered : goal.returns-in-OtherMethod-clause-answered
returns-in-OtherMethod-clause-answered g c =
    answered_for g.D.Disk.state g.D.Disk.faults (seen c.args.view (g.C.Clock.moments c.args.clock.now)) (seen c.args.view (g.C.Clock.moments c.args.clock.now))
    (request_data c.args.request.now) (g.K.Sink.held c.args.sink.now) (g.K.Sink.held c.refuse_method.new.sink) (g.K.Sink.faults c.args.sink.now)
    (g.K.Sink.faults c.refuse_method.new.sink) OtherMethod 0 (sym c.in-OtherMethod.is ∙ c.asked_by.ensures)
    refl
    (subst (λ (h : Bool). Says (g.K.Sink.held c.args.sink.now) (g.K.Sink.held c.refuse_method.new.sink) (g.K.Sink.faults c.args.sink.now) (g.K.Sink.faults c.refuse_method.new.sink)
    (refusal_response no_method h)) c.eq-head_only.ensures c.refuse_method.ensures.says)

pub returns-in-Nothing-clause-answered : goal.returns-in-Nothing-clause-answered
returns-in-Nothing-clause-answered g c =
    answered_for g.D.Disk.state g.D.Disk.faults (seen c.args.view (g.C.Clock.moments c.args.clock.now)) (seen c.args.view (g.C.Clock.moments c.args.clock.now))
    (request_data c.args.request.now) (g.K.Sink.held c.args.sink.now) (g.K.Sink.held c.refuse_path.new.sink) (g.K.Sink.faults c.args.sink.now)
    (g.K.Sink.faults c.refuse_path.new.sink) Nothing 0 (sym c.in-Nothing.is ∙ c.asked_by.ensures)
    refl
    (subst (λ (h : Bool). Says (g.K.Sink.held c.args.sink.now) (g.K.Sink.held c.refuse_path.new.sink) (g.K.Sink.faults c.args.sink.now) (g.K.Sink.faults c.refuse_path.new.sink)
    (refusal_response no_route h)) c.eq-head_only.ensures c.refuse_path.ensures.says)
