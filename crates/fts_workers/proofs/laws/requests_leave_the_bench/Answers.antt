-- Each clause of the law.
use Rattle.fts_workers.proofs.Requested.{copies_still, held_still, out_still}
use Rattle.fts_workers.proofs.laws.requests_leave_the_bench.Goals as goal

pub returns-clause-out : goal.returns-clause-out
returns-clause-out c = λ entries entry legal of. out_still entries entry of

pub returns-clause-held : goal.returns-clause-held
returns-clause-held c = held_still c.tables_are_well_formed.ensures.formed c.files_out_are_the_active_rows.ensures.out

pub returns-clause-copies : goal.returns-clause-copies
returns-clause-copies c =
    copies_still c.tables_are_well_formed.ensures.formed c.files_out_are_the_active_rows.ensures.out c.orders_stay.ensures.active
