-- One file more was made.
use Rattle.std.proofs.Common.{◌<◌, length, arith}
use Rattle.fts_jobdoc.proofs.MadeFiles.{files_step}
use Rattle.fts_jobdoc.proofs.job.make_files.Goals as goal

pub loop-index-preserved : goal.loop-index-preserved
loop-index-preserved c =
    let inside : c.loop-index.index < length c.args.files.now = omega arith in
    rw c.in_ok-add_files.ensures
    (files_step c.args.verified c.args.files.now c.args.ends.now c.loop-index.index c.index-files-index.result c.index-ends-index.result
    c.loop-index.made _ c.requires.ends inside c.index-files-index.is c.index-ends-index.is c.loop-index.invariant)
