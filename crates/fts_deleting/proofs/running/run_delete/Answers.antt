-- A run over a journal that was opened and is closed again.
use Rattle.std.proofs.Common.{inr, ◌∙◌}
use Rattle.fts_deleting.proofs.Listing.{run_lists, run_images}
use Rattle.fts_deleting.proofs.running.run_delete.Goals as goal

pub returns-clause-run : goal.returns-clause-run
returns-clause-run g c =
    let opened = c.in-Ok.deletes in
    let opens = c.in-Ok.ensures.ok in
    let closed = c.run_over-end.new.deletes in
    let runs = c.run_over-end.ensures.run c.args.disk c.close.result in
    inr (record {
      opened = opened;
      opens = opens;
      closed = closed;
      kept = c.close.ensures.kept;
      disk = c.close.ensures.disk;
      runs = runs;
      images = run_images g.D.Disk g.E.Store g.met.D.Disk.lawful c.args.settings.now opened closed _ _ c.run_over-end.result c.close.ensures.kept runs;
      lists = λ told. (
        opens.list told,
        run_lists g.D.Disk g.E.Store g.met.D.Disk.lawful c.args.settings.now opened closed _ _ c.run_over-end.result c.close.ensures.kept (opens.told ∙ told) (opens.no_doubt told)
            (opens.sound told) c.close.result c.close.ensures.disk runs,
      );
    })
