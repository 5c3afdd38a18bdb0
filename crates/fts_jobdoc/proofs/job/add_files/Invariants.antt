-- The loop over the destinations.
use Rattle.std.proofs.Common.{◌≡◌, ◌++◌, drop, map}
use Rattle.std.specs.List.{flat_map}
use Rattle.serde_json.specs.View.{view}
use Rattle.fts_jobdoc.specs.Documents.{new_file}
use Rattle.fts_jobdoc.proofs.job.add_files.Given as goal

-- what was appended so far, before the files of the other destinations, is all
abbrev pub invariant-loop-dest : goal.invariant-loop-dest
invariant-loop-dest l =
    l.made ++ flat_map (λ dest. map (new_file l.verified l.index (view l.file) dest) l.ends.sources) (drop l.dest-index l.ends.dests)
    ≡ l.initial.made ++ flat_map (λ dest. map (new_file l.verified l.index (view l.file) dest) l.ends.sources) l.ends.dests
