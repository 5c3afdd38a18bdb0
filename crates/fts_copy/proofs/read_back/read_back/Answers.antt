use Rattle.std.proofs.Common.{◌≡◌, true, false, Err, length, ap, ◌∙◌, rules}
use Rattle.std.specs.Prelude.{nat_lt, ◌||◌, if◌then◌else◌}
use Rattle.fts_tables.specs.declared.rows.Outcome.TheVariants.{StoreFailed, ReadBackDiffers}
use Rattle.fts_store.specs.Store.{IsTold, place_at}
use Rattle.fts_copy.specs.Copy.{part_of}
use Rattle.fts_copy.specs.Script.{Ends, log_of, reads_back, reads_behind, ends_there}
use Rattle.fts_copy.proofs.Playing.{then_leads, same_behind, by_test, by_else}
use Rattle.fts_copy.proofs.Following.{back_leads, behind_both}
use Rattle.fts_copy.specs.Steps.{source_bytes, part_bytes}
use Rattle.fts_copy.proofs.Matching.{no_longer, longer_part}
use Rattle.fts_copy.proofs.read_back.read_back.Goals as goal
use Rattle.fts_copy.proofs.read_back.read_back.Goals.{then-source_is_longer-via-then-source_is_longer, then-source_is_longer-via-else-source_is_longer+then-part_is_longer}

pub returns-then-source_is_longer-clause-read : goal.returns-then-source_is_longer-clause-read
returns-then-source_is_longer-clause-read g c knows =
    let told_one : IsTold (g.E.Store.state c.match_pieces.new.store) = rw c.match_pieces.ensures.same knows.told in
    let told_two : IsTold (g.E.Store.state c.is_longer.new.store) = rw (c.is_longer.ensures.same) told_one in
    let source : c.in-Ok.source_is_longer ≡ nat_lt c.args.size (length (source_bytes c.args.order.now (g.E.Store.state c.args.store.now))) =
    rw (c.match_pieces.ensures.same, c.source.ensures.place) at (c.in-Ok.ensures.longer told_one) in
    let part : c.in-Ok-is_longer.part_is_longer ≡ nat_lt c.args.size (length (part_bytes c.args.order.now (g.E.Store.state c.args.store.now))) =
    rw (c.is_longer.ensures.same, c.match_pieces.ensures.same, c.part.ensures) at (c.in-Ok-is_longer.ensures.longer told_two) in
    elim c.then-source_is_longer.branch [
      | then-source_is_longer-via-then-source_is_longer w ↦
          absurd (no_longer (source_bytes c.args.order.now (g.E.Store.state c.args.store.now)) c.args.size c.in-Ok.source_is_longer knows.whole source w.if-source_is_longer.true)
      | then-source_is_longer-via-else-source_is_longer+then-part_is_longer w ↦
          longer_part (source_bytes c.args.order.now (g.E.Store.state c.args.store.now)) (part_bytes c.args.order.now (g.E.Store.state c.args.store.now)) c.args.size c.in-Ok-is_longer.part_is_longer
          knows.whole (c.in_ok-digest.ensures.matches knows).0 part w.if-part_is_longer.true
    ]

pub returns-in_err-digest-clause-script : goal.returns-in_err-digest-clause-script
returns-in_err-digest-clause-script g c next =
    let is : c.from_residual.result ≡ Err c.in_err-digest.field-0.0 = search rules in
    rw is (then_leads (back_leads c.args.order.now c.args.size next (log_of (g.E.Store.calls c.args.store.now) (g.V.Watch.answers c.args.watch.now))) (c.in_err-digest.ensures.script (ends_there c.args.order.now c.args.size next)))

pub returns-in_default-clause-script : goal.returns-in_default-clause-script
returns-in_default-clause-script g c next =
    then_leads (then_leads (back_leads c.args.order.now c.args.size next (log_of (g.E.Store.calls c.args.store.now) (g.V.Watch.answers c.args.watch.now))) (then_leads (c.in_ok-digest.ensures.script (ends_there c.args.order.now c.args.size next))
    (behind_both c.args.order.now c.args.size next c.in_ok-digest.digest (log_of (g.E.Store.calls c.match_pieces.new.store) (g.V.Watch.answers c.match_pieces.new.watch)))))
    (same_behind (place_at c.source.result) c.args.order.now.source c.args.size (λ source. reads_behind (part_of c.args.order.now) c.args.size (λ part. if source || part then Ends (ReadBackDiffers c.args.size) else next c.in_ok-digest.digest)) (log_of (g.E.Store.calls c.match_pieces.new.store) (g.V.Watch.answers c.match_pieces.new.watch)) (log_of (g.E.Store.calls c.is_longer.new.store) (g.V.Watch.answers c.match_pieces.new.watch)) (Ends StoreFailed) c.source.ensures.place
    (c.in_default.ensures.script (g.V.Watch.answers c.match_pieces.new.watch) (λ source. reads_behind (part_of c.args.order.now) c.args.size (λ part. if source || part then Ends (ReadBackDiffers c.args.size) else next c.in_ok-digest.digest))))

pub returns-in_default-is_longer-clause-script : goal.returns-in_default-is_longer-clause-script
returns-in_default-is_longer-clause-script g c next =
    then_leads (then_leads (back_leads c.args.order.now c.args.size next (log_of (g.E.Store.calls c.args.store.now) (g.V.Watch.answers c.args.watch.now))) (then_leads (c.in_ok-digest.ensures.script (ends_there c.args.order.now c.args.size next))
    (behind_both c.args.order.now c.args.size next c.in_ok-digest.digest (log_of (g.E.Store.calls c.match_pieces.new.store) (g.V.Watch.answers c.match_pieces.new.watch))))) (then_leads (same_behind (place_at c.source.result) c.args.order.now.source c.args.size (λ source. reads_behind (part_of c.args.order.now) c.args.size (λ part. if source || part then Ends (ReadBackDiffers c.args.size) else next c.in_ok-digest.digest)) (log_of (g.E.Store.calls c.match_pieces.new.store) (g.V.Watch.answers c.match_pieces.new.watch)) (log_of (g.E.Store.calls c.is_longer.new.store) (g.V.Watch.answers c.match_pieces.new.watch)) (reads_behind (part_of c.args.order.now) c.args.size (λ part. if c.in-Ok.source_is_longer || part then Ends (ReadBackDiffers c.args.size) else next c.in_ok-digest.digest)) c.source.ensures.place
    (c.in-Ok.ensures.script (g.V.Watch.answers c.match_pieces.new.watch) (λ source. reads_behind (part_of c.args.order.now) c.args.size (λ part. if source || part then Ends (ReadBackDiffers c.args.size) else next c.in_ok-digest.digest))))
    (same_behind (place_at c.part.result) (part_of c.args.order.now) c.args.size (λ part. if c.in-Ok.source_is_longer || part then Ends (ReadBackDiffers c.args.size) else next c.in_ok-digest.digest) (log_of (g.E.Store.calls c.is_longer.new.store) (g.V.Watch.answers c.match_pieces.new.watch)) (log_of (g.E.Store.calls c.is_longer-2.new.store) (g.V.Watch.answers c.match_pieces.new.watch)) (Ends StoreFailed) c.part.ensures
    (c.in_default-is_longer.ensures.script (g.V.Watch.answers c.match_pieces.new.watch) (λ part. if c.in-Ok.source_is_longer || part then Ends (ReadBackDiffers c.args.size) else next c.in_ok-digest.digest))))

pub returns-then-source_is_longer-clause-script : goal.returns-then-source_is_longer-clause-script
returns-then-source_is_longer-clause-script g c next =
    let longer : (c.in-Ok.source_is_longer || c.in-Ok-is_longer.part_is_longer) ≡ true = elim c.then-source_is_longer.branch [
      | then-source_is_longer-via-then-source_is_longer w ↦ ap (λ b. b || c.in-Ok-is_longer.part_is_longer) w.if-source_is_longer.true
      | then-source_is_longer-via-else-source_is_longer+then-part_is_longer w ↦
          ap (λ b. b || c.in-Ok-is_longer.part_is_longer) w.if-source_is_longer.false ∙ ap (λ b. false || b) w.if-part_is_longer.true
    ] in
    by_test (reads_back c.args.order.now c.args.size next) (log_of (g.E.Store.calls c.args.store.now) (g.V.Watch.answers c.args.watch.now)) (log_of (g.E.Store.calls c.is_longer-2.new.store) (g.V.Watch.answers c.match_pieces.new.watch)) (c.in-Ok.source_is_longer || c.in-Ok-is_longer.part_is_longer) (Ends (ReadBackDiffers c.args.size)) (next c.in_ok-digest.digest)
    (then_leads (then_leads (back_leads c.args.order.now c.args.size next (log_of (g.E.Store.calls c.args.store.now) (g.V.Watch.answers c.args.watch.now))) (then_leads (c.in_ok-digest.ensures.script (ends_there c.args.order.now c.args.size next))
    (behind_both c.args.order.now c.args.size next c.in_ok-digest.digest (log_of (g.E.Store.calls c.match_pieces.new.store) (g.V.Watch.answers c.match_pieces.new.watch))))) (then_leads (same_behind (place_at c.source.result) c.args.order.now.source c.args.size (λ source. reads_behind (part_of c.args.order.now) c.args.size (λ part. if source || part then Ends (ReadBackDiffers c.args.size) else next c.in_ok-digest.digest)) (log_of (g.E.Store.calls c.match_pieces.new.store) (g.V.Watch.answers c.match_pieces.new.watch)) (log_of (g.E.Store.calls c.is_longer.new.store) (g.V.Watch.answers c.match_pieces.new.watch)) (reads_behind (part_of c.args.order.now) c.args.size (λ part. if c.in-Ok.source_is_longer || part then Ends (ReadBackDiffers c.args.size) else next c.in_ok-digest.digest)) c.source.ensures.place
    (c.in-Ok.ensures.script (g.V.Watch.answers c.match_pieces.new.watch) (λ source. reads_behind (part_of c.args.order.now) c.args.size (λ part. if source || part then Ends (ReadBackDiffers c.args.size) else next c.in_ok-digest.digest))))
    (same_behind (place_at c.part.result) (part_of c.args.order.now) c.args.size (λ part. if c.in-Ok.source_is_longer || part then Ends (ReadBackDiffers c.args.size) else next c.in_ok-digest.digest) (log_of (g.E.Store.calls c.is_longer.new.store) (g.V.Watch.answers c.match_pieces.new.watch)) (log_of (g.E.Store.calls c.is_longer-2.new.store) (g.V.Watch.answers c.match_pieces.new.watch)) (if c.in-Ok.source_is_longer || c.in-Ok-is_longer.part_is_longer then Ends (ReadBackDiffers c.args.size) else next c.in_ok-digest.digest) c.part.ensures
    (c.in-Ok-is_longer.ensures.script (g.V.Watch.answers c.match_pieces.new.watch) (λ part. if c.in-Ok.source_is_longer || part then Ends (ReadBackDiffers c.args.size) else next c.in_ok-digest.digest))))) longer

pub returns-clause-script : goal.returns-clause-script
returns-clause-script g c next =
    let neither : (c.in-Ok.source_is_longer || c.in-Ok-is_longer.part_is_longer) ≡ false = ap (λ b. b || c.in-Ok-is_longer.part_is_longer) c.if-source_is_longer.false ∙ ap (λ b. false || b) c.if-part_is_longer.false in
    by_else (reads_back c.args.order.now c.args.size next) (log_of (g.E.Store.calls c.args.store.now) (g.V.Watch.answers c.args.watch.now)) (log_of (g.E.Store.calls c.is_longer-2.new.store) (g.V.Watch.answers c.match_pieces.new.watch)) (c.in-Ok.source_is_longer || c.in-Ok-is_longer.part_is_longer) (Ends (ReadBackDiffers c.args.size)) (next c.in_ok-digest.digest)
    (then_leads (then_leads (back_leads c.args.order.now c.args.size next (log_of (g.E.Store.calls c.args.store.now) (g.V.Watch.answers c.args.watch.now))) (then_leads (c.in_ok-digest.ensures.script (ends_there c.args.order.now c.args.size next))
    (behind_both c.args.order.now c.args.size next c.in_ok-digest.digest (log_of (g.E.Store.calls c.match_pieces.new.store) (g.V.Watch.answers c.match_pieces.new.watch))))) (then_leads (same_behind (place_at c.source.result) c.args.order.now.source c.args.size (λ source. reads_behind (part_of c.args.order.now) c.args.size (λ part. if source || part then Ends (ReadBackDiffers c.args.size) else next c.in_ok-digest.digest)) (log_of (g.E.Store.calls c.match_pieces.new.store) (g.V.Watch.answers c.match_pieces.new.watch)) (log_of (g.E.Store.calls c.is_longer.new.store) (g.V.Watch.answers c.match_pieces.new.watch)) (reads_behind (part_of c.args.order.now) c.args.size (λ part. if c.in-Ok.source_is_longer || part then Ends (ReadBackDiffers c.args.size) else next c.in_ok-digest.digest)) c.source.ensures.place
    (c.in-Ok.ensures.script (g.V.Watch.answers c.match_pieces.new.watch) (λ source. reads_behind (part_of c.args.order.now) c.args.size (λ part. if source || part then Ends (ReadBackDiffers c.args.size) else next c.in_ok-digest.digest))))
    (same_behind (place_at c.part.result) (part_of c.args.order.now) c.args.size (λ part. if c.in-Ok.source_is_longer || part then Ends (ReadBackDiffers c.args.size) else next c.in_ok-digest.digest) (log_of (g.E.Store.calls c.is_longer.new.store) (g.V.Watch.answers c.match_pieces.new.watch)) (log_of (g.E.Store.calls c.is_longer-2.new.store) (g.V.Watch.answers c.match_pieces.new.watch)) (if c.in-Ok.source_is_longer || c.in-Ok-is_longer.part_is_longer then Ends (ReadBackDiffers c.args.size) else next c.in_ok-digest.digest) c.part.ensures
    (c.in-Ok-is_longer.ensures.script (g.V.Watch.answers c.match_pieces.new.watch) (λ part. if c.in-Ok.source_is_longer || part then Ends (ReadBackDiffers c.args.size) else next c.in_ok-digest.digest))))) neither
