-- A file of which both lists were read, and one of which a URL was refused.
use Rattle.std.proofs.Common.{◌≡◌, Err, sym, inl, rules, codes}
use Rattle.serde_json.specs.View.{view}
use Rattle.fts_jobdoc.specs.Json.{texts_under}
use Rattle.fts_jobdoc.specs.Ends.{ends_of, places_read}
use Rattle.fts_jobdoc.proofs.EndsLemmas.{gives-Ok, ends_read-both, ends_read-source, ends_read-dest}
use Rattle.fts_jobdoc.proofs.ends.read_ends.Goals as goal

pub returns-in_err-sources : goal.returns-in_err-sources
returns-in_err-sources c =
    let is : c.from_residual.result ≡ Err c.in_err-sources.field-0.0 = search rules in
    let file = view c.args.file.now in
    rw is (ends_read-source (texts_under (codes "sources") file) (texts_under (codes "destinations") file) _ c.in_err-sources.field-0.0
    c.in_err-sources.ensures)

pub returns-in_err-dests : goal.returns-in_err-dests
returns-in_err-dests c =
    let is : c.from_residual-in_err-dests.result ≡ Err c.in_err-dests.field-0.0 = search rules in
    let file = view c.args.file.now in
    let sources = texts_under (codes "sources") file in
    rw is (ends_read-dest sources (texts_under (codes "destinations") file) c.in_ok-sources.sources _ c.in_err-dests.field-0.0
    (gives-Ok (places_read sources) c.in_ok-sources.sources c.in_ok-sources.ensures) c.in_err-dests.ensures)

pub returns : goal.returns
unfolding ends_of
returns c =
    let file = view c.args.file.now in
    let sources = texts_under (codes "sources") file in
    let dests = texts_under (codes "destinations") file in
    inl (sym (ends_read-both sources dests c.in_ok-sources.sources c.in_ok-dests.dests
    (gives-Ok (places_read sources) c.in_ok-sources.sources c.in_ok-sources.ensures) (gives-Ok (places_read dests) c.in_ok-dests.dests c.in_ok-dests.ensures)))
