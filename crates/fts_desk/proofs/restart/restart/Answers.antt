-- What a claim looks at is that of the rows as they were released, and of the new settings.
use Rattle.std.proofs.Common.{Some, List, map, ap, sym, ◌∙◌, subst}
use Rattle.std.proofs.lemmas.List.{with_items_is}
use Rattle.fts_tables.specs.Step.{released}
use Rattle.fts_tables.specs.declared.rows.FileRow.{FileRow}
use Rattle.fts_tables.specs.declared.rows.JobRow.{JobRow}
use Rattle.fts_heads.specs.Dests.{dests_of}
use Rattle.fts_claims.specs.InLine.{AreInLine}
use Rattle.fts_claims.specs.Changes.{AreTiedTo}
use Rattle.fts_desk.specs.Counted.{AreCountsOf}
use Rattle.fts_desk.proofs.Released.{dests_released}
use Rattle.fts_desk.proofs.restart.restart.Goals as goal

pub invariant_of-kept : goal.invariant_of-kept
invariant_of-kept c =
    let jobs = c.args.kept.now.jobs.items in
    let stay = with_items_is c.args.kept.now.rows c.release-released.new.rows (c.release-released.auto.rows ∙ c.deref_mut.ensures.len) in
    let left = stay ∙ (c.release-released.ensures.rows ∙ ap (map released) c.deref_mut.ensures.value) in
    record {
      ids_of_jobs = c.args.kept.now.ids_of_jobs;
      beside_rows = record {
        counts = subst (λ (rows : List FileRow). AreCountsOf jobs rows c.release-released.new.beside.counts) (sym stay)
            (subst (λ (jobs : List JobRow). AreCountsOf jobs c.release-released.new.rows c.release-released.new.beside.counts) c.deref.ensures.value
            c.release-released.ensures.beside.counts);
        parts = subst (λ (rows : List FileRow). AreTiedTo jobs rows c.args.parts) (sym left) c.requires.tied;
        line = subst (λ places. AreInLine places c.args.parts) (sym (ap dests_of left ∙ dests_released c.args.kept.now.rows.items)) c.requires.line;
      };
      of_settings = ap (λ settings. Some settings) c.requires.settings;
      of_bans = c.requires.flags;
    }
