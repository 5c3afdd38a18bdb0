use Rattle.std.proofs.Common.{◌≡◌, ◌+◌, Bool, length, refl, subst, ◌∙◌}
use Rattle.std.specs.Prelude.{◌&&◌, count_by, if◌then◌else◌}
use Rattle.std.proofs.lemmas.Option.{slice_get_read}
use Rattle.fts_index.specs.LiveLinks.{link_of_row}
use Rattle.fts_desk.proofs.Loaded.{may_count_next, counts_next}
use Rattle.fts_desk.proofs.counts.count_new.Goals as goal

pub recount_load-requires : goal.recount_load-requires
recount_load-requires c =
    let rows = c.args.rows.now in
    let place = c.loop-row.row-index in
    let row = c.row-item.result in
    let at = slice_get_read rows (length rows) place row refl c.loop-row-test.true c.row-item.is in
    record { may = may_count_next rows place row c.args.loads.now c.loop-row.loads at c.loop-row.invariant.counts c.loop-row.invariant.known c.requires.may }

pub loop-row-preserved : goal.loop-row-preserved
loop-row-preserved c =
    let rows = c.args.rows.now in
    let place = c.loop-row.row-index in
    let row = c.row-item.result in
    let at = slice_get_read rows (length rows) place row refl c.loop-row-test.true c.row-item.is in
    record {
      counts = counts_next rows place row c.args.loads.now c.loop-row.loads at c.loop-row.invariant.counts c.loop-row.invariant.known c.recount_load.new.loads
          (λ test. subst (λ (live : Bool). count_by test c.recount_load.new.loads.links + 0
          ≡ count_by test c.loop-row.loads.links + (if live && test (link_of_row row) then 1 else 0)) c.is_live.ensures
          (c.recount_load.ensures.counts test));
      known = c.recount_load.ensures.known ∙ c.loop-row.invariant.known;
    }
