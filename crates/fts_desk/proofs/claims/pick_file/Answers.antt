-- What a claim needs of what stands beside the rows, once the files are ripe.
use Rattle.fts_heads.specs.Dests.{dests_of}
use Rattle.fts_desk.proofs.ClaimedParts.{may_be_claimed, ripe_line}
use Rattle.fts_desk.proofs.claims.pick_file.Goals as goal

pub pick_waiter-requires : goal.pick_waiter-requires
pick_waiter-requires c =
    let parts = c.args.parts.now in
    record {
      line = ripe_line (dests_of c.args.rows.now) parts _ _ c.ripen.ensures.line c.requires.line.line;
      tied = may_be_claimed c.args.jobs.now c.args.rows.now parts c.args.settings.now _ _ c.ripen.ensures.line c.requires.settings
          (c.tied_rows_may_be_claimed.ensures.tied c.args.jobs.now c.args.rows.now parts c.requires.numbered c.requires.tied);
    }
