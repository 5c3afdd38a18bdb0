-- Each answer is what the text's faults say; without one, the parts are a name.
use Rattle.std.proofs.Common.{sym, inl, refl, Some}
use Rattle.fts_joburl.proofs.Reading.{was_parsed, endpoint_by, endpoint_has_name}
use Rattle.fts_joburl.proofs.read.read_endpoint.Goals as goal

pub returns-in-Some : goal.returns-in-Some
returns-in-Some c = inl
    (sym (endpoint_by c.args.text.now c.in_ok-url.url (Some c.in-Some.fault) _ (was_parsed _ _ c.in_ok-url.ensures) (sym c.in-Some.ensures) refl))

pub make_endpoint-requires : goal.make_endpoint-requires
make_endpoint-requires c = endpoint_has_name c.args.text.now c.in_ok-url.url c.path.ensures.valid (sym c.in_default.ensures)
    (sym c.in_default-find_endpoint_fault.ensures)
