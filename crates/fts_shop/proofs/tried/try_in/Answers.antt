-- What was tried, over the keep that the shop lends.
use Rattle.std.proofs.Common.{◌≡◌, refl, subst, ◌++◌}
use Rattle.fts_keep.specs.Keeps.{KeepData, IsKeep}
use Rattle.fts_keep.specs.Applied.{Applied, entry_by}
use Rattle.fts_shop.specs.Shops.{KeepsDisk}
use Rattle.fts_shop.proofs.Rows.{all_name}
use Rattle.fts_shop.proofs.Took.{doubt_moved}
use Rattle.fts_shop.proofs.tried.try_in.Goals as goal

pub returns : goal.returns
returns g c =
    let value = c.keep-keep.ensures.value in
    let grows = c.apply-answer.ensures.grows in
    record {
      kept = subst (λ (k : KeepData g.row.D.Denot). IsKeep g.D.Disk.state k) value c.desk-desk.ensures.kept;
      keeps = c.desk-later.ensures.kept;
      applied = subst (λ (k : KeepData g.row.D.Denot). Applied g.D.Disk.state g.D.Disk.faults k c.apply-answer.new.self
          (entry_by c.args.writer c.args.command) c.apply-answer.result) value c.apply-answer.ensures.applied;
      disk = subst (λ (k : KeepData g.row.D.Denot). KeepsDisk g.D.Disk c.args.writer k c.apply-answer.new.self) value (record {
        told = grows.told;
        counts = grows.counts;
        doubt = doubt_moved (g.D.Disk.faults c.keep-keep.result.now.disk) (g.D.Disk.faults c.apply-answer.new.self.disk) c.keep-keep.result.now.doubt
            c.apply-answer.new.self.doubt (entry_by c.args.writer c.args.command) c.apply-answer.ensures.doubt_own;
      });
      appends = record {
        added = grows.added;
        appended = subst (λ (k : KeepData g.row.D.Denot). c.apply-answer.new.self.entries ≡ k.entries ++ grows.added) value grows.appended;
        named = all_name c.args.writer grows.added grows.by;
      };
      left = c.lanes-lanes.ensures;
      stay = refl;
    }
