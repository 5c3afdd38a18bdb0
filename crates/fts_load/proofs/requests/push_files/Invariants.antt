use Rattle.std.proofs.Common.{◌≡◌, ◌++◌}
use Rattle.fts_load.specs.Requests.{texts_behind}
use Rattle.fts_load.proofs.requests.push_files.Given as goal

-- the first file, and so many behind it
abbrev pub invariant-loop-made : goal.invariant-loop-made
invariant-loop-made l = l.bytes.items ≡ l.fn.bytes.items ++ texts_behind l.source l.dest l.first l.made
