use Rattle.std.proofs.Common.{◌≡◌, List, ℕ, ◌++◌, take, sym, ◌∙◌, subst}
use Rattle.md5.specs.Md5.{Holds}
use Rattle.fts_tables.specs.declared.rows.Outcome.TheVariants.{StoreFailed}
use Rattle.fts_store.specs.Store.{IsTold, place_at}
use Rattle.fts_copy.specs.Copy.{part_of}
use Rattle.fts_copy.specs.Differences.{first_difference}
use Rattle.fts_copy.specs.Script.{Ends, log_of, reads_piece, unless_differs, matches_piece}
use Rattle.fts_copy.proofs.Playing.{then_leads, same_place, stopped_leads, wanted_leads}
use Rattle.fts_copy.proofs.Following.{piece_matches, differ_leads, match_leads}
use Rattle.fts_copy.specs.Steps.{source_bytes, part_bytes, piece_at}
use Rattle.fts_copy.proofs.Differing.{equal_contents}
use Rattle.fts_copy.proofs.read_back.match_piece.Goals as goal

pub returns-in-None-clause-matches : goal.returns-in-None-clause-matches
returns-in-None-clause-matches g c told =
    let source : take c.in-Ok.held c.fill.new.buffer ≡ piece_at (source_bytes c.args.piece.order.now (g.E.Store.state c.args.store.now)) c.args.piece.offset c.args.piece.wanted =
    rw c.source.ensures.place at (c.in-Ok.ensures.bytes told) in
    let now : IsTold (g.E.Store.state c.fill.new.store) = rw c.fill.ensures.same told in
    let part : take c.in-Ok-fill.kept c.fill-2.new.buffer ≡ piece_at (part_bytes c.args.piece.order.now (g.E.Store.state c.args.store.now)) c.args.piece.offset c.args.piece.wanted =
    rw (c.fill.ensures.same, c.part.ensures) at (c.in-Ok-fill.ensures.bytes now) in
    let equal : take c.in-Ok.held c.fill.new.buffer ≡ take c.in-Ok-fill.kept c.fill-2.new.buffer =
    equal_contents (take c.in-Ok.held c.fill.new.buffer) (take c.in-Ok-fill.kept c.fill-2.new.buffer) (sym c.in-None.ensures.difference) in
    (sym part ∙ sym equal ∙ source, λ message holds. subst (λ (l : List ℕ). Holds c.update.new.self (message ++ l)) part (c.update.ensures message holds))

pub returns-then-not-wanted-clause-script : goal.returns-then-not-wanted-clause-script
returns-then-not-wanted-clause-script g c next =
    let order = c.args.piece.order.now in
    let calls = g.E.Store.calls c.args.store.now in
    let before = g.V.Watch.answers c.args.watch.now in
    let after = g.V.Watch.answers c.wanted.new.self in
    stopped_leads (matches_piece order c.args.piece.offset c.args.piece.wanted next) (log_of calls before) (log_of calls after) (reads_piece order.source c.args.piece.offset c.args.piece.wanted (λ held. reads_piece (part_of order) c.args.piece.offset c.args.piece.wanted (λ kept. unless_differs c.args.piece.offset (first_difference held kept) (next kept)))) c.wanted.result c.if-not-wanted.true (piece_matches order c.args.piece.offset c.args.piece.wanted next calls before after c.wanted.result c.wanted.ensures.told)

pub returns-in_default-clause-script : goal.returns-in_default-clause-script
returns-in_default-clause-script g c next =
    let order = c.args.piece.order.now in
    let calls = g.E.Store.calls c.args.store.now in
    let before = g.V.Watch.answers c.args.watch.now in
    let after = g.V.Watch.answers c.wanted.new.self in
    then_leads (wanted_leads (matches_piece order c.args.piece.offset c.args.piece.wanted next) (log_of calls before) (log_of calls after) (reads_piece order.source c.args.piece.offset c.args.piece.wanted (λ held. reads_piece (part_of order) c.args.piece.offset c.args.piece.wanted (λ kept. unless_differs c.args.piece.offset (first_difference held kept) (next kept)))) c.wanted.result c.if-not-wanted.false (piece_matches order c.args.piece.offset c.args.piece.wanted next calls before after c.wanted.result c.wanted.ensures.told))
    (same_place (place_at c.source.result) order.source c.args.piece.offset c.args.piece.wanted (λ held. reads_piece (part_of order) c.args.piece.offset c.args.piece.wanted (λ kept. unless_differs c.args.piece.offset (first_difference held kept) (next kept))) (log_of calls after) (log_of (g.E.Store.calls c.fill.new.store) after) (Ends StoreFailed) c.source.ensures.place (c.in_default.ensures.script after (λ held. reads_piece (part_of order) c.args.piece.offset c.args.piece.wanted (λ kept. unless_differs c.args.piece.offset (first_difference held kept) (next kept)))))

pub returns-in_default-fill-clause-script : goal.returns-in_default-fill-clause-script
returns-in_default-fill-clause-script g c next =
    let order = c.args.piece.order.now in
    let calls = g.E.Store.calls c.args.store.now in
    let before = g.V.Watch.answers c.args.watch.now in
    let after = g.V.Watch.answers c.wanted.new.self in
    then_leads (wanted_leads (matches_piece order c.args.piece.offset c.args.piece.wanted next) (log_of calls before) (log_of calls after) (reads_piece order.source c.args.piece.offset c.args.piece.wanted (λ held. reads_piece (part_of order) c.args.piece.offset c.args.piece.wanted (λ kept. unless_differs c.args.piece.offset (first_difference held kept) (next kept)))) c.wanted.result c.if-not-wanted.false (piece_matches order c.args.piece.offset c.args.piece.wanted next calls before after c.wanted.result c.wanted.ensures.told))
    (then_leads (same_place (place_at c.source.result) order.source c.args.piece.offset c.args.piece.wanted (λ held. reads_piece (part_of order) c.args.piece.offset c.args.piece.wanted (λ kept. unless_differs c.args.piece.offset (first_difference held kept) (next kept))) (log_of calls after) (log_of (g.E.Store.calls c.fill.new.store) after) (reads_piece (part_of order) c.args.piece.offset c.args.piece.wanted (λ kept. unless_differs c.args.piece.offset (first_difference (take c.in-Ok.held c.fill.new.buffer) kept) (next kept))) c.source.ensures.place (c.in-Ok.ensures.script after (λ held. reads_piece (part_of order) c.args.piece.offset c.args.piece.wanted (λ kept. unless_differs c.args.piece.offset (first_difference held kept) (next kept)))))
    (same_place (place_at c.part.result) (part_of order) c.args.piece.offset c.args.piece.wanted (λ kept. unless_differs c.args.piece.offset (first_difference (take c.in-Ok.held c.fill.new.buffer) kept) (next kept)) (log_of (g.E.Store.calls c.fill.new.store) after) (log_of (g.E.Store.calls c.fill-2.new.store) after) (Ends StoreFailed) c.part.ensures (c.in_default-fill.ensures.script after (λ kept. unless_differs c.args.piece.offset (first_difference (take c.in-Ok.held c.fill.new.buffer) kept) (next kept)))))

pub returns-in-Some-clause-script : goal.returns-in-Some-clause-script
returns-in-Some-clause-script g c next =
    let order = c.args.piece.order.now in
    let calls = g.E.Store.calls c.args.store.now in
    let before = g.V.Watch.answers c.args.watch.now in
    let after = g.V.Watch.answers c.wanted.new.self in
    then_leads (wanted_leads (matches_piece order c.args.piece.offset c.args.piece.wanted next) (log_of calls before) (log_of calls after) (reads_piece order.source c.args.piece.offset c.args.piece.wanted (λ held. reads_piece (part_of order) c.args.piece.offset c.args.piece.wanted (λ kept. unless_differs c.args.piece.offset (first_difference held kept) (next kept)))) c.wanted.result c.if-not-wanted.false (piece_matches order c.args.piece.offset c.args.piece.wanted next calls before after c.wanted.result c.wanted.ensures.told))
    (then_leads (same_place (place_at c.source.result) order.source c.args.piece.offset c.args.piece.wanted (λ held. reads_piece (part_of order) c.args.piece.offset c.args.piece.wanted (λ kept. unless_differs c.args.piece.offset (first_difference held kept) (next kept))) (log_of calls after) (log_of (g.E.Store.calls c.fill.new.store) after) (reads_piece (part_of order) c.args.piece.offset c.args.piece.wanted (λ kept. unless_differs c.args.piece.offset (first_difference (take c.in-Ok.held c.fill.new.buffer) kept) (next kept))) c.source.ensures.place (c.in-Ok.ensures.script after (λ held. reads_piece (part_of order) c.args.piece.offset c.args.piece.wanted (λ kept. unless_differs c.args.piece.offset (first_difference held kept) (next kept)))))
    (then_leads (same_place (place_at c.part.result) (part_of order) c.args.piece.offset c.args.piece.wanted (λ kept. unless_differs c.args.piece.offset (first_difference (take c.in-Ok.held c.fill.new.buffer) kept) (next kept)) (log_of (g.E.Store.calls c.fill.new.store) after) (log_of (g.E.Store.calls c.fill-2.new.store) after) (unless_differs c.args.piece.offset (first_difference (take c.in-Ok.held c.fill.new.buffer) (take c.in-Ok-fill.kept c.fill-2.new.buffer)) (next (take c.in-Ok-fill.kept c.fill-2.new.buffer))) c.part.ensures (c.in-Ok-fill.ensures.script after (λ kept. unless_differs c.args.piece.offset (first_difference (take c.in-Ok.held c.fill.new.buffer) kept) (next kept))))
    (differ_leads c.args.piece.offset c.in-Some.at (first_difference (take c.in-Ok.held c.fill.new.buffer) (take c.in-Ok-fill.kept c.fill-2.new.buffer)) (next (take c.in-Ok-fill.kept c.fill-2.new.buffer)) (log_of (g.E.Store.calls c.fill-2.new.store) after) (sym c.in-Some.ensures.difference))))

pub returns-in-None-clause-script : goal.returns-in-None-clause-script
returns-in-None-clause-script g c next =
    let order = c.args.piece.order.now in
    let calls = g.E.Store.calls c.args.store.now in
    let before = g.V.Watch.answers c.args.watch.now in
    let after = g.V.Watch.answers c.wanted.new.self in
    then_leads (wanted_leads (matches_piece order c.args.piece.offset c.args.piece.wanted next) (log_of calls before) (log_of calls after) (reads_piece order.source c.args.piece.offset c.args.piece.wanted (λ held. reads_piece (part_of order) c.args.piece.offset c.args.piece.wanted (λ kept. unless_differs c.args.piece.offset (first_difference held kept) (next kept)))) c.wanted.result c.if-not-wanted.false (piece_matches order c.args.piece.offset c.args.piece.wanted next calls before after c.wanted.result c.wanted.ensures.told))
    (then_leads (same_place (place_at c.source.result) order.source c.args.piece.offset c.args.piece.wanted (λ held. reads_piece (part_of order) c.args.piece.offset c.args.piece.wanted (λ kept. unless_differs c.args.piece.offset (first_difference held kept) (next kept))) (log_of calls after) (log_of (g.E.Store.calls c.fill.new.store) after) (reads_piece (part_of order) c.args.piece.offset c.args.piece.wanted (λ kept. unless_differs c.args.piece.offset (first_difference (take c.in-Ok.held c.fill.new.buffer) kept) (next kept))) c.source.ensures.place (c.in-Ok.ensures.script after (λ held. reads_piece (part_of order) c.args.piece.offset c.args.piece.wanted (λ kept. unless_differs c.args.piece.offset (first_difference held kept) (next kept)))))
    (then_leads (same_place (place_at c.part.result) (part_of order) c.args.piece.offset c.args.piece.wanted (λ kept. unless_differs c.args.piece.offset (first_difference (take c.in-Ok.held c.fill.new.buffer) kept) (next kept)) (log_of (g.E.Store.calls c.fill.new.store) after) (log_of (g.E.Store.calls c.fill-2.new.store) after) (unless_differs c.args.piece.offset (first_difference (take c.in-Ok.held c.fill.new.buffer) (take c.in-Ok-fill.kept c.fill-2.new.buffer)) (next (take c.in-Ok-fill.kept c.fill-2.new.buffer))) c.part.ensures (c.in-Ok-fill.ensures.script after (λ kept. unless_differs c.args.piece.offset (first_difference (take c.in-Ok.held c.fill.new.buffer) kept) (next kept))))
    (match_leads c.args.piece.offset (first_difference (take c.in-Ok.held c.fill.new.buffer) (take c.in-Ok-fill.kept c.fill-2.new.buffer)) (next (take c.in-Ok-fill.kept c.fill-2.new.buffer)) (log_of (g.E.Store.calls c.fill-2.new.store) after) (sym c.in-None.ensures.difference))))
