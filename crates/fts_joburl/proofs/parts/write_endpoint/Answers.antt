-- The pieces that are written, in the order of the name.
use Rattle.std.proofs.Common.{◌≡◌, ◌++◌, ap, sym, ◌∙◌, append-nil}
use Rattle.std.specs.Prelude.{codes, Some, None}
use Rattle.fts_joburl.specs.Urls.{endpoint_text, host_of, port_text}
use Rattle.fts_joburl.proofs.EndpointNames.{name_by_parts}
use Rattle.fts_joburl.proofs.parts.write_endpoint.Goals as goal

pub returns-in-Some : goal.returns-in-Some
returns-in-Some c =
    let url = c.args.url.now in
    let pieces = c.scheme-scheme.result.now ++ (codes "://" ++ (c.host_text-host.result.now ++ port_text (Some c.in-Some.port))) in
    let port : Some c.in-Some.port ≡ url.port = sym c.in-Some.is ∙ c.port.ensures.value in
    let same : pieces ≡ endpoint_text url = rw (c.scheme-scheme.ensures.value, c.host_text-host.ensures)
    (ap (λ p. url.scheme ++ (codes "://" ++ (host_of url ++ port_text p))) port ∙ sym (name_by_parts url)) in
    rw same at c.format.ensures.ok

pub returns-in-None : goal.returns-in-None
returns-in-None c =
    let url = c.args.url.now in
    let pieces = c.scheme-scheme.result.now ++ (codes "://" ++ c.host_text-host.result.now) in
    let port : None ≡ url.port = sym c.in-None.is ∙ c.port.ensures.value in
    let same : pieces ≡ endpoint_text url = rw (c.scheme-scheme.ensures.value, c.host_text-host.ensures)
    (ap (λ host. url.scheme ++ (codes "://" ++ host)) (sym (append-nil (host_of url)))
    ∙ ap (λ p. url.scheme ++ (codes "://" ++ (host_of url ++ port_text p))) port ∙ sym (name_by_parts url)) in
    rw same at c.format-in-None.ensures.ok
