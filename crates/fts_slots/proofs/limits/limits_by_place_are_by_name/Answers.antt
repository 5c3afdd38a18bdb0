use Rattle.std.proofs.Common.{ap}
use Rattle.std.specs.Option.{option_map_or}
use Rattle.fts_tables.specs.declared.settings.Endpoint.{Endpoint}
use Rattle.fts_slots.proofs.NamedPlaces.{endpoint_by_place}
use Rattle.fts_slots.proofs.limits.limits_by_place_are_by_name.Goals as goal

pub returns-clause-outbound : goal.returns-clause-outbound
returns-clause-outbound c = λ settings place kept inside. ap (λ found. option_map_or (λ (endpoint : Endpoint). endpoint.outbound) found 0)
    (endpoint_by_place settings place kept inside)

pub returns-clause-inbound : goal.returns-clause-inbound
returns-clause-inbound c = λ settings place kept inside. ap (λ found. option_map_or (λ (endpoint : Endpoint). endpoint.inbound) found 0)
    (endpoint_by_place settings place kept inside)
