-- Doors as `new` makes them, with a service's limits, with this socket and this log.
use Rattle.std.proofs.Common.{sym, ap, ◌∙◌, subst}
use Rattle.fts_devices.specs.Limits.{IsOfService}
use Rattle.fts_devices.proofs.lanes.service_doors.Goals as goal

pub returns : goal.returns
returns g c =
    let telling = c.telling.ensures in
    let placed = c.at_socket.ensures in
    record {
      path = telling.path ∙ placed.path;
      listener = telling.same.1 ∙ (placed.same.1 ∙ ap (λ doors. doors.listener) c.new.ensures);
      relief = telling.same.2 ∙ (placed.same.2 ∙ ap (λ doors. doors.relief) c.new.ensures);
      out = telling.counts.0 ∙ (placed.counts.0 ∙ ap (λ doors. doors.out) c.new.ensures);
      faults = telling.counts.1 ∙ (placed.counts.1 ∙ ap (λ doors. doors.faults) c.new.ensures);
      limits = subst IsOfService (sym (telling.same.0 ∙ (placed.same.0 ∙ ap (λ doors. doors.limits) c.new.ensures))) c.of_service.ensures;
    }
