-- What is read for a job is read for a deletion: the places, or the URL that is refused.
use Rattle.std.proofs.Common.{map, Err, subst}
use Rattle.std.specs.List.{filter_map}
use Rattle.serde_json.specs.Find.{as_str}
use Rattle.serde_json.specs.View.{view}
use Rattle.fts_jobdoc.specs.Checks.{Gives}
use Rattle.fts_jobdoc.specs.Ends.{places_of, places_read, first_url_fault}
use Rattle.fts_delete.proofs.UrlLemmas.{all_kept, refused_as}
use Rattle.fts_delete.proofs.document.read_asked.Goals as goal

pub returns-in-Ok : goal.returns-in-Ok
returns-in-Ok c =
    let texts = filter_map as_str (map view c.args.list.now) in all_kept (first_url_fault texts) (places_of texts) c.in-Ok.places c.in-Ok.ensures

pub returns-in-Err-BadUrl : goal.returns-in-Err-BadUrl
returns-in-Err-BadUrl c =
    let texts = filter_map as_str (map view c.args.list.now) in
    refused_as (first_url_fault texts) (places_of texts) c.in-Err-BadUrl.fault
    (subst (λ fault. Gives (Err fault) (places_read texts)) c.in-Err-BadUrl.field-0-is c.in-Err-BadUrl.ensures)
