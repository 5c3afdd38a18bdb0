-- Each part is made of the tables and the reports.
use Rattle.std.proofs.Common.{◌∙◌, ap}
use Rattle.fts_board.specs.Json.{array_of}
use Rattle.fts_counts.specs.Listed.{endpoints_of}
use Rattle.fts_board.specs.Snapshot.{files_object, storage_object}
use Rattle.fts_board.proofs.snapshots.parts_of.Goals as goal

pub returns : goal.returns
returns c =
    let rows = c.rows-rows.ensures.rows in
    let endpoints = c.endpoints_of-endpoints.ensures.endpoints ∙ ap endpoints_of c.settings.ensures in
    record {
      failures = c.in_ok-failures.ensures;
      files = c.in_ok-files.ensures ∙ ap files_object rows;
      jobs = c.in_ok-jobs.ensures;
      links = c.in_ok-links.ensures;
      storages = c.in_ok-storages.ensures ∙ (λ i. array_of (storage_object (rows i)) (endpoints i));
    }
