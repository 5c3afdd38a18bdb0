-- Doors more, as a service's are made.
use Rattle.std.proofs.Common.{sym, ap, ◌∙◌, subst, ℕ, ◌+◌, [], ◌∷◌, length, All}
use Rattle.std.proofs.lemmas.List.{length-append}
use Rattle.std.proofs.lemmas.List.Elements.{All-push}
use Rattle.std.specs.Option.{option_copied}
use Rattle.fts_devices.specs.Lanes.{IsClosed}
use Rattle.fts_devices.proofs.Streams.{behind_push}
use Rattle.fts_devices.proofs.lanes.closed_doors.Goals as goal

pub loop-preserved : goal.loop-preserved
loop-preserved g c =
    let items = behind_push c.push.result c.push.new.self.items c.loop.doors.items c.service_doors.result (c.if-is_err.ensures).value c.push.ensures.items in
    record {
      count = ap length items ∙ length-append c.loop.doors.items (c.service_doors.result ∷ []) ∙ ap (λ (n : ℕ). n + 1) c.loop.invariant.count;
      closed = subst (All (IsClosed (option_copied c.args.socket))) (sym items) (All-push (IsClosed (option_copied c.args.socket)) c.loop.doors.items c.service_doors.result c.loop.invariant.closed c.service_doors.ensures);
    }
