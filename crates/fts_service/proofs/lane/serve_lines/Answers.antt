-- The loop over the lines of a lane.
use Rattle.std.proofs.Common.{[], ◌∷◌, ◌∙◌, refl, sym, subst, arith, ℕ, Option}
use Rattle.fts_service.specs.Doors.{DoorsData, PassThrough}
use Rattle.fts_service.specs.Lanes.{Sides, IsServed, standing}
use Rattle.fts_service.proofs.Lines.{same_still}
use Rattle.fts_service.proofs.Passing.{Serving, given_and_back, none_served, serves_more}
use Rattle.fts_service.proofs.lane.serve_lines.Goals as goal

pub loop-init : goal.loop-init
loop-init g c =
    let sides : Sides g.row.A-Line.Denot =
    record { left = g.A.Line.Source.left; reads = g.A.Line.Source.reads; held = g.A.Line.Sink.held; read_faults = g.A.Line.Source.faults; write_faults = g.A.Line.Sink.faults } in
    record {
      so_far = none_served sides c.args.connections (standing c.args.booth.now.pass (g.C.Clock.moments c.args.booth.now.lane.clock)) (g.A.Doors.doors c.args.booth.now.lane.doors);
      same = (refl, refl, refl, refl, refl, refl);
      keeps = omega arith;
    }

pub loop-preserved : goal.loop-preserved
loop-preserved g c =
    let sides : Sides g.row.A-Line.Denot =
    record { left = g.A.Line.Source.left; reads = g.A.Line.Source.reads; held = g.A.Line.Sink.held; read_faults = g.A.Line.Source.faults; write_faults = g.A.Line.Sink.faults } in
    let before = g.A.Doors.doors c.loop.booth.lane.doors in
    let old = standing c.loop.booth.pass (g.C.Clock.moments c.loop.booth.lane.clock) in
    let new = standing c.serve_connection.new.pass (g.C.Clock.moments c.serve_connection.new.clock) in
    let line : g.row.A-Line.Denot × g.row.A-Line.Denot = (c.in-Ok-Some.line, c.serve_connection.new.line) in
    let served : IsServed sides old line new = record {
      end = c.serve_connection.result;
      served = c.serve_connection.ensures.served;
      input = c.serve_connection.ensures.input;
      output = c.serve_connection.ensures.output;
    } in
    let through : PassThrough before (g.A.Doors.doors c.done.new.self) (line ∷ []) =
    subst (λ (d : DoorsData g.row.A-Line.Denot). PassThrough before d (line ∷ [])) (sym c.done.ensures.back)
    (given_and_back before (g.A.Doors.doors c.next-in-loop.new.self) c.in-Ok-Some.line c.serve_connection.new.line
    (rw c.in-Ok-Some.field-0-is at c.in-Ok-Some.ensures.gives)) in
    record {
      so_far = subst (λ (left : Option ℕ). Serving sides c.args.connections left (standing c.args.booth.now.pass (g.C.Clock.moments c.args.booth.now.lane.clock)) new (g.A.Doors.doors c.args.booth.now.lane.doors) (g.A.Doors.doors c.done.new.self))
          (sym c.one_less-left.ensures)
          (serves_more sides c.args.connections c.loop.left (standing c.args.booth.now.pass (g.C.Clock.moments c.args.booth.now.lane.clock)) old (g.A.Doors.doors c.args.booth.now.lane.doors) before c.loop.invariant.so_far new (g.A.Doors.doors c.done.new.self)
          line (sym c.is_enough.ensures ∙ c.if-is_enough.false) served through);
      same = same_still c.args.booth.now.pass c.loop.booth.pass c.serve_connection.new.pass c.loop.invariant.same c.serve_connection.ensures.same;
      keeps = omega (arith, c.loop.invariant.keeps, c.in-Ok-Some.ensures.cause.keeps, c.done.ensures.faults);
    }
