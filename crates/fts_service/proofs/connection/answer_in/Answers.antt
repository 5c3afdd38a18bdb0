-- A request is answered over the keep that the shop lends.
use Rattle.std.proofs.Common.{◌≡◌, refl, subst, ◌++◌}
use Rattle.fts_wire.specs.RequestData.{RequestData}
use Rattle.fts_keep.specs.Keeps.{KeepData, IsKeep}
use Rattle.fts_routes.specs.Replies.{Answers}
use Rattle.fts_shop.specs.Shops.{KeepsDisk}
use Rattle.fts_shop.proofs.Rows.{all_name}
use Rattle.fts_service.proofs.Doubting.{doubt_answered}
use Rattle.fts_service.proofs.connection.answer_in.Goals as goal

pub returns : goal.returns
returns g c =
    let value = c.keep-keep.ensures.value in
    let grows = c.answer_read.ensures.grows in
    let old = c.keep-keep.result.now in
    let new = c.answer_read.new.keep in
    let request = c.args.room.now.request in
    let answers : Answers g.D.Disk.state g.D.Disk.faults old new c.args.writer request c.args.now c.answer_read.result =
    subst (λ (r : RequestData). Answers g.D.Disk.state g.D.Disk.faults old new c.args.writer r c.args.now c.answer_read.result) c.request.ensures
    c.answer_read.ensures.answers in
    record {
      kept = subst (λ (k : KeepData g.row.D.Denot). IsKeep g.D.Disk.state k) value c.desk-desk.ensures.kept;
      disk = subst (λ (k : KeepData g.row.D.Denot). KeepsDisk g.D.Disk c.args.writer k new) value (record {
        told = grows.told;
        counts = grows.counts;
        doubt = doubt_answered g.D.Disk old new c.args.writer request c.args.now c.answer_read.result answers;
      });
      answers = subst (λ (k : KeepData g.row.D.Denot). Answers g.D.Disk.state g.D.Disk.faults k new c.args.writer request c.args.now
          c.answer_read.result) value answers;
      appends = record {
        added = grows.added;
        appended = subst (λ (k : KeepData g.row.D.Denot). new.entries ≡ k.entries ++ grows.added) value grows.appended;
        named = all_name c.args.writer grows.added grows.by;
      };
      stay = refl;
      phrase = c.answer_read.ensures.phrase;
      methods = c.answer_read.ensures.methods;
    }
