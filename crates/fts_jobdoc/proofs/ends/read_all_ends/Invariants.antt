-- The loop over the files.
use Rattle.std.proofs.Common.{◌≡◌, drop, map}
use Rattle.serde_json.specs.View.{view}
use Rattle.fts_jobdoc.specs.Ends.{all_ends_read}
use Rattle.fts_jobdoc.proofs.EndsLemmas.{extend}
use Rattle.fts_jobdoc.proofs.ends.read_all_ends.Given as goal

-- the ends so far, before those of the rest, are those of the whole
abbrev pub invariant-loop-file : goal.invariant-loop-file
invariant-loop-file l = extend l.all (all_ends_read (map view (drop l.file-index l.files))) ≡ all_ends_read (map view l.files)
