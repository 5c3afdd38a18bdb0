-- The row that changed counts for what it is now.
use Rattle.std.proofs.Common.{◌≡◌, ◌+◌, Bool, length, refl, subst, sym}
use Rattle.std.specs.Prelude.{◌&&◌, count_by, if◌then◌else◌}
use Rattle.std.proofs.lemmas.Option.{slice_get_read}
use Rattle.fts_index.specs.Links.{Link}
use Rattle.fts_index.specs.LiveLinks.{link_of_row}
use Rattle.fts_desk.specs.Loaded.{added_by, MayRecount}
use Rattle.fts_desk.proofs.Counted.{link_may, link_done, states_may, due_may, due_done}
use Rattle.fts_desk.proofs.counts.recount_between.Goals as goal

pub recount_load-requires : goal.recount_load-requires
recount_load-requires c =
    let rows = c.args.rows.now in
    let row = c.index-rows-place.result in
    let at = slice_get_read rows (length rows) c.args.place row refl c.requires.before.inside c.index-rows-place.is in
    record {
      may = subst (λ (link : Link). MayRecount c.args.was.live link c.args.counts.now.loads) (c.requires.ends row at)
          (link_may c.args.jobs.now rows c.args.place c.args.was c.args.counts.now c.requires.before row at);
    }

pub change-requires : goal.change-requires
change-requires c =
    let rows = c.args.rows.now in
    let row = c.index-rows-place.result in
    let at = slice_get_read rows (length rows) c.args.place row refl c.requires.before.inside c.index-rows-place.is in
    record {
      may = due_may c.args.jobs.now rows c.args.place c.args.was c.args.counts.now c.requires.before row at c.dues_of_a_changed_row.ensures.may
          c.requires.rows_numbered c.due_from.result c.due_from.ensures.due;
    }

pub restate-requires-clause-before : goal.restate-requires-clause-before
restate-requires-clause-before c =
    let rows = c.args.rows.now in
    let row = c.index-rows-place.result in
    let at = slice_get_read rows (length rows) c.args.place row refl c.requires.before.inside c.index-rows-place.is in
    states_may c.args.jobs.now rows c.args.place c.args.was c.args.counts.now c.requires.before row at

pub returns : goal.returns
returns c =
    let rows = c.args.rows.now in
    let row = c.index-rows-place.result in
    let at = slice_get_read rows (length rows) c.args.place row refl c.requires.before.inside c.index-rows-place.is in
    -- what was counted on the link of the names is counted on that of the row
    let more : (test : Link → Bool) → count_by test c.recount_load.new.loads.links + (if c.args.was.live && test (link_of_row row) then 1 else 0)
    ≡ count_by test c.args.counts.now.loads.links + added_by test row =
    λ test. subst (λ (live : Bool). count_by test c.recount_load.new.loads.links + (if c.args.was.live && test (link_of_row row) then 1 else 0)
    ≡ count_by test c.args.counts.now.loads.links + (if live && test (link_of_row row) then 1 else 0)) c.is_live.ensures
    (subst (λ (link : Link). count_by test c.recount_load.new.loads.links + (if c.args.was.live && test link then 1 else 0)
    ≡ count_by test c.args.counts.now.loads.links + (if c.is_live.result && test link then 1 else 0)) (sym (c.requires.ends row at))
    (c.recount_load.ensures.counts test)) in
    record {
      counts = record {
        loads = link_done c.args.jobs.now rows c.args.place c.args.was c.args.counts.now c.requires.before row at c.recount_load.new.loads
            more c.recount_load.ensures.known;
        dues = due_done c.args.jobs.now rows c.args.place c.args.was c.args.counts.now c.requires.before row at c.dues_of_a_changed_row.ensures.done
            c.due_from.result c.due_from.ensures.due c.change.new.self c.change.ensures.changed;
        states = c.restate.ensures.states;
      };
    }
