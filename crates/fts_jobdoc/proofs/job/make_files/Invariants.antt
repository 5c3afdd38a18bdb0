-- The loop over the files.
use Rattle.std.proofs.Common.{◌≡◌, ◌++◌, drop, map}
use Rattle.serde_json.specs.View.{view}
use Rattle.fts_jobdoc.specs.Documents.{files_from}
use Rattle.fts_jobdoc.proofs.job.make_files.Given as goal

-- what was made so far, before the other files, is all
abbrev pub invariant-loop-index : goal.invariant-loop-index
invariant-loop-index l = l.made ++ files_from l.verified l.index (map view (drop l.index l.files)) ≡ files_from l.verified 0 (map view l.files)
