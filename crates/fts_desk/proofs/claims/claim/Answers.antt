-- The row that was changed in its place is the machine's claim.
use Rattle.std.proofs.Common.{◌≡◌, ◌+◌, List, Some, Ok, get_or, set, refl, ap, sym, ◌∙◌, subst}
use Rattle.std.specs.Prelude.{max, slice_get}
use Rattle.std.proofs.lemmas.Option.{slice_get-get_or}
use Rattle.fts_tables.specs.Step.{with_rows}
use Rattle.fts_tables.specs.declared.commands.Answer.TheVariants.{Claimed}
use Rattle.fts_desk.specs.Kept.{tables_kept}
use Rattle.fts_tables.specs.Moves.{claimed}
use Rattle.fts_tables.specs.Tables.{AreNumberedFrom, is_active}
use Rattle.fts_tables.specs.declared.rows.FileRow.{FileRow}
use Rattle.fts_tables.specs.declared.rows.JobRow.{JobRow}
use Rattle.fts_desk.specs.Counted.{AreCountsOf, AreCountsBefore, IsCountedAt}
use Rattle.fts_desk.specs.Parts.{AreTiedParts, AreInLineParts, MayRunIn}
use Rattle.fts_desk.proofs.ClaimedParts.{claimed_numbered, claimed_line, claimed_there, still_may_run, same_limits}
use Rattle.fts_desk.proofs.Claiming.{claim_at}
use Rattle.fts_desk.proofs.Counted.{counts_before}
use Rattle.fts_desk.proofs.claims.claim.Goals as goal
use Rattle.fts_desk.proofs.claims.claim.Goals.{After-claim_row-answer}

-- the row that was claimed, as it stood
abbrev before : After-claim_row-answer → FileRow
before c = get_or c.args.kept.now.rows.items c.args.place c.index_mut.result.now

there : (c : After-claim_row-answer) → slice_get c.args.kept.now.rows.items c.args.place ≡ Some (before c)
there c = slice_get-get_or c.args.kept.now.rows.items c.args.place c.index_mut.result.now c.requires.place

-- and as it stands then
changed : (c : After-claim_row-answer) → c.claim_row-answer.new.row ≡ claimed (before c)
changed c = c.claim_row-answer.ensures.row ∙ ap claimed c.index_mut.ensures.value

stands : (c : After-claim_row-answer) (seen : List FileRow) → seen ≡ set c.args.kept.now.rows.items c.args.place c.claim_row-answer.new.row
    → (row : FileRow) → slice_get seen c.args.place ≡ Some row → row ≡ claimed (before c)
stands c seen same = claimed_there c.args.kept.now.rows.items seen c.args.place (before c) c.claim_row-answer.new.row (there c) (changed c) same

-- the rows stay numbered
numbered : (c : After-claim_row-answer) (seen : List FileRow) → seen ≡ set c.args.kept.now.rows.items c.args.place c.claim_row-answer.new.row
    → AreNumberedFrom (λ row. row.id) 1 seen
numbered c seen same = claimed_numbered c.args.kept.now.rows.items seen c.args.place (before c) c.claim_row-answer.new.row (there c) (changed c) same
    c.requires.formed.rows

pub returns : goal.returns
returns c =
    let tables = tables_kept c.args.kept.now in
    let row = c.index_mut.result.now in
    let rows = set tables.rows c.args.place c.claim_row-answer.new.row in
    record {
      step = λ word picked. claim_at tables (max c.args.now tables.moment) word c.args.place row c.claim_row-answer.new.row _ c.requires.formed.rows c.requires.place
          picked c.index_mut.ensures.value c.claim_row-answer.ensures.row
          ∙ (ap (λ moment. Ok (with_rows tables moment rows, Claimed row.id (row.attempt + 1))) (sym c.max-kept.ensures)
          ∙ ap (λ answer. Ok (with_rows tables c.max-kept.result rows, answer)) (sym c.claim_row-answer.ensures.answer));
    }

pub recount-requires-clause-rows_numbered : goal.recount-requires-clause-rows_numbered
recount-requires-clause-rows_numbered c =
    numbered (goal.at.recount-requires-clause-rows_numbered c).After-claim_row-answer c.deref-8.result.now c.deref-8.ensures.value

pub recount-requires-clause-before : goal.recount-requires-clause-before
recount-requires-clause-before c =
    let jobs = c.args.kept.now.jobs.items in
    let rows = c.args.kept.now.rows.items in
    let place = c.args.place in
    let was = c.counted-was.result in
    let counts = c.args.kept.now.beside.counts in
    let counted = subst (λ (jobs : List JobRow). IsCountedAt jobs rows place was) c.deref.ensures.value
    (subst (λ (rows : List FileRow). IsCountedAt c.deref.result.now rows place was) c.deref-2.ensures.value c.counted-was.ensures.counted) in
    subst (λ (jobs : List JobRow). AreCountsBefore jobs c.deref-8.result.now place was counts) (sym c.deref-7.ensures.value)
    (subst (λ (rows : List FileRow). AreCountsBefore jobs rows place was counts) (sym c.deref-8.ensures.value)
    (counts_before jobs rows _ place claimed (λ row. refl) was counts c.requires.place counted c.args.kept.now.beside_rows.counts c.index_mut.result.now
    (ap (set rows place) (c.claim_row-answer.ensures.row ∙ ap claimed c.index_mut.ensures.value))))

pub start-requires-clause-rows_numbered : goal.start-requires-clause-rows_numbered
start-requires-clause-rows_numbered c =
    numbered (goal.at.start-requires-clause-rows_numbered c).After-claim_row-answer c.deref-6.result.now c.deref-6.ensures.value

pub start-requires-clause-line : goal.start-requires-clause-line
start-requires-clause-line c =
    let here = (goal.at.start-requires-clause-line c).After-claim_row-answer in
    claimed_line c.args.kept.now.rows.items c.deref-6.result.now c.args.place (before here) c.claim_row-answer.new.row (there here) (changed here)
    c.deref-6.ensures.value c.leave.new.parts
    (subst (λ rows. AreInLineParts rows c.leave.new.parts) c.deref-4.ensures.value c.leave.ensures.line)

pub start-requires-clause-runs : goal.start-requires-clause-runs
start-requires-clause-runs c = λ row at.
    let here = (goal.at.start-requires-clause-runs c).After-claim_row-answer in
    ap (λ (row : FileRow). is_active row.state) (stands here c.deref-6.result.now c.deref-6.ensures.value row at)

pub start-requires-clause-may : goal.start-requires-clause-may
start-requires-clause-may c = λ row at.
    let here = (goal.at.start-requires-clause-may c).After-claim_row-answer in
    let picked = c.requires.picked.1 ∙ there here in
    let now = max c.args.now c.args.kept.now.moment in
    let seen = ap (λ rows. slice_get rows c.args.place) c.deref-4.ensures.value ∙ there here in
    subst (λ row. MayRunIn row c.leave.new.parts) (sym (stands here c.deref-6.result.now c.deref-6.ensures.value row at))
    (still_may_run (before here) c.args.kept.now.beside.parts c.leave.new.parts
    (c.leave.ensures.slots (before here) seen (c.picked_rows_may_run.ensures.idle now c.requires.picked.0 (before here) picked))
    (c.picked_rows_may_run.ensures.may now c.requires.picked.0 c.args.place (before here) picked (there here)))

pub start-requires-clause-dest : goal.start-requires-clause-dest
start-requires-clause-dest c = λ row at.
    let here = (goal.at.start-requires-clause-dest c).After-claim_row-answer in
    ap (λ (row : FileRow). row.dest) (stands here c.deref-6.result.now c.deref-6.ensures.value row at) ∙ c.requires.dest (before here) (there here)

pub invariant_of-kept : goal.invariant_of-kept
invariant_of-kept c =
    let rows = c.args.kept.now.rows.items in
    record {
      ids_of_jobs = c.args.kept.now.ids_of_jobs;
      beside_rows = record {
        counts = subst (λ (jobs : List JobRow). AreCountsOf jobs (set rows c.args.place c.claim_row-answer.new.row) c.recount.new.counts)
            c.deref-7.ensures.value
            (subst (λ (rows : List FileRow). AreCountsOf c.deref-7.result.now rows c.recount.new.counts) c.deref-8.ensures.value c.recount.ensures.counts);
        parts = subst (λ jobs. AreTiedParts jobs (set rows c.args.place c.claim_row-answer.new.row) c.start.new.parts) c.deref-5.ensures.value
            (subst (λ rows. AreTiedParts c.deref-5.result.now rows c.start.new.parts) c.deref-6.ensures.value c.start.ensures.tied);
        line = subst (λ rows. AreInLineParts rows c.start.new.parts) c.deref-6.ensures.value c.start.ensures.line;
      };
      of_settings = same_limits 0 c.leave.new.parts c.start.new.parts c.start.ensures.same
          ∙ (same_limits 0 c.args.kept.now.beside.parts c.leave.new.parts c.leave.ensures.same ∙ c.args.kept.now.of_settings);
      of_bans = c.args.kept.now.of_bans;
    }
