-- The snapshot of what the monitor has.
use Rattle.std.proofs.Common.{◌≡◌, inl, ap, ◌∙◌}
use Rattle.fts_chronicle.specs.Chronicle.{ChronicleData}
use Rattle.fts_board.specs.Snapshot.{snapshot_text}
use Rattle.fts_panel.specs.Responses.{shows}
use Rattle.fts_panel.proofs.topics.snapshot_reply.Goals as goal

pub returns-in-Ok : goal.returns-in-Ok
returns-in-Ok g c =
    let told = c.chronicle-chronicle.ensures.told in
    let moment : c.moment.result ≡ c.args.monitor.now.chronicle.moment = c.moment.ensures ∙ ap (λ (t : ChronicleData). t.moment) told in
    let restart : c.restart.result ≡ c.args.monitor.now.chronicle.restart = c.restart.ensures ∙ ap (λ (t : ChronicleData). t.restart) told in
    let reports : c.reports.result.now ≡ c.args.monitor.now.chronicle.reports = c.reports.ensures ∙ ap (λ (t : ChronicleData). t.reports) told in
    inl (c.shows.ensures ∙ ap shows (c.in-Ok.ensures ∙ (λ i. snapshot_text (c.desk.ensures.tables i) (c.desk.ensures.commands i) (reports i) (record {
      now = c.args.now;
      fold_time = c.args.began;
      last_entry_time = moment i;
      restart_time = restart i;
      used = c.used.ensures i;
      damage = c.args.damage;
    }))))
