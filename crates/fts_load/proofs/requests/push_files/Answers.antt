-- A comma and a file more.
use Rattle.std.proofs.Common.{◌+◌, ◌++◌, ◌∙◌, ℕ, List, [], ap, arith}
use Rattle.fts_load.proofs.Texts.{file_more}
use Rattle.fts_load.proofs.requests.push_files.Goals as goal

pub loop-made-preserved : goal.loop-made-preserved
loop-made-preserved c = file_more c.args.bytes.now.items c.loop-made.bytes.items c.push.new.bytes.items c.push_file-in-loop-made.new.bytes.items
    c.args.source.now c.args.dest.now c.args.first c.loop-made.made (c.args.first + 1 + c.loop-made.made) (omega arith) c.loop-made.invariant
    (c.in_ok-push.ensures ∙ ap (λ (text : List ℕ). c.loop-made.bytes.items ++ (text ++ [])) c.as_bytes.ensures.value) c.in_ok-push_file-2.ensures
