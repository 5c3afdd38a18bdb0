-- The loop over the sources.
use Rattle.std.proofs.Common.{◌≡◌, ◌++◌, take, map}
use Rattle.serde_json.specs.View.{view}
use Rattle.fts_jobdoc.specs.Documents.{new_file}
use Rattle.fts_jobdoc.proofs.job.add_sources.Given as goal

-- the files of the sources so far were appended
abbrev pub invariant-loop-source : goal.invariant-loop-source
invariant-loop-source l = l.made ≡ l.initial.made ++ map (new_file l.verified l.index (view l.file) l.dest) (take l.source-index l.sources)
