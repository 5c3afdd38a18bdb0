-- A bad URL of a storage, and then of a link; and the draft where all are good.
use Rattle.std.proofs.Common.{◌≡◌, None, ap, inl, ◌∙◌, Ok}
use Rattle.std.proofs.lemmas.Result.{err_from_is_err_and}
use Rattle.toml.specs.View.{view}
use Rattle.fts_config.specs.Reading.{bad_url}
use Rattle.fts_config.proofs.BadUrls.{gives_bad, gives_good}
use Rattle.fts_config.proofs.Drafts.{bad_storage, behind_storages, draft_is}
use Rattle.fts_config.proofs.draft.read_draft.Goals as goal

pub returns-in_err-endpoints : goal.returns-in_err-endpoints
returns-in_err-endpoints c =
    let p = err_from_is_err_and c.from_residual.result c.from_residual.ensures.1 in
    rw (p.1, p.2) (gives_bad _ _ _ _ _ c.in_err-endpoints.ensures (λ fault bad. bad_storage (view c.args.document.now) _ fault c.tables_of.ensures bad))

pub returns-in_err-links : goal.returns-in_err-links
returns-in_err-links c =
    let p = err_from_is_err_and c.from_residual-in_err-links.result c.from_residual-in_err-links.ensures.1 in
    let storages = gives_good _ _ _ c.in_ok-endpoints.ensures in
    rw (p.1, p.2) (gives_bad _ _ _ _ _ c.in_err-links.ensures
    (λ fault bad. behind_storages (view c.args.document.now) _ _ _ c.tables_of.ensures c.tables_of-2.ensures storages.0 bad))

pub returns : goal.returns
returns c =
    let storages = gives_good _ _ _ c.in_ok-endpoints.ensures in
    let links = gives_good _ _ _ c.in_ok-links.ensures in
    let weights = gives_good None _ _ c.in_ok-weights.ensures in
    let vo = gives_good None _ _ c.in_ok-vo.ensures in
    let good : bad_url (view c.args.document.now) ≡ None = behind_storages (view c.args.document.now) _ _ _ c.tables_of.ensures c.tables_of-2.ensures
    storages.0 links.0 in
    rw good (inl (ap Ok (draft_is (view c.args.document.now) _ _ _ _ _ _ _ _ (vo.1 ∙ c.text_or.ensures) c.number_or.ensures c.number_or-2.ensures
    c.tables_of.ensures c.tables_of-2.ensures storages.1 links.1 weights.1)))
