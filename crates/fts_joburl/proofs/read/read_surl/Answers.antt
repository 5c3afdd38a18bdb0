-- Each answer is what the text's faults say; without one, the parts are a name and a path.
use Rattle.std.proofs.Common.{◌≡◌, ◌∙◌, ap, sym, subst, inl, refl, Some, None}
use Rattle.std.proofs.Common.{map}
use Rattle.std.specs.List.{join_with_byte}
use Rattle.fts_tables.specs.Names.{IsPathKey}
use Rattle.fts_joburl.specs.Urls.{kept_segments, path_text, endpoint_text}
use Rattle.fts_joburl.proofs.Reading.{was_parsed, was_made, surl_by, file_has_endpoint, file_has_path}
use Rattle.fts_joburl.proofs.read.read_surl.Goals as goal

pub returns-in-Some : goal.returns-in-Some
returns-in-Some c = inl
    (sym (surl_by c.args.text.now c.in_ok-url.url (Some c.in-Some.fault) _ (was_parsed _ _ c.in_ok-url.ensures) (sym c.in-Some.ensures) refl))

pub returns-in-Some-find_file_fault : goal.returns-in-Some-find_file_fault
returns-in-Some-find_file_fault c =
    inl (sym (surl_by c.args.text.now c.in_ok-url.url None (Some c.in-Some-find_file_fault.fault) (was_parsed _ _ c.in_ok-url.ensures)
    (sym c.in_default.ensures) (sym c.in-Some-find_file_fault.ensures)))

pub make_endpoint-requires : goal.make_endpoint-requires
make_endpoint-requires c = file_has_endpoint c.args.text.now c.in_ok-url.url c.path.ensures.valid (sym c.in_default.ensures)
    (sym c.in_default-find_file_fault.ensures)

pub make_path-requires : goal.make_path-requires
make_path-requires c =
    let lent : map (λ s. s.now) c.deref-2.result.now ≡ kept_segments c.in_ok-url.url.path = ap (map (λ s. s.now)) c.deref-2.ensures.value
    ∙ c.in_ok-segments.ensures ∙ ap kept_segments c.path.ensures.value in
    subst (λ kept. IsPathKey (join_with_byte 0x2f kept)) (sym lent)
    (file_has_path c.args.text.now c.in_ok-url.url (sym c.in_default.ensures) (sym c.in_default-find_file_fault.ensures))

pub returns : goal.returns
returns c =
    let lent : map (λ s. s.now) c.deref-2.result.now ≡ kept_segments c.in_ok-url.url.path = ap (map (λ s. s.now)) c.deref-2.ensures.value
    ∙ c.in_ok-segments.ensures ∙ ap kept_segments c.path.ensures.value in
    let path : c.in_ok-path.path ≡ path_text c.in_ok-url.url = was_made _ _ c.in_ok-path.ensures ∙ ap (join_with_byte 0x2f) lent in
    let endpoint : c.in_ok-endpoint.endpoint ≡ endpoint_text c.in_ok-url.url = was_made _ _ c.in_ok-endpoint.ensures in
    let whole = surl_by c.args.text.now c.in_ok-url.url None None (was_parsed _ _ c.in_ok-url.ensures) (sym c.in_default.ensures)
    (sym c.in_default-find_file_fault.ensures) in
    rw (path, endpoint) (inl (sym whole))
