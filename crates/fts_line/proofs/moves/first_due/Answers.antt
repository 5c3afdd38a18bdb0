use Rattle.std.proofs.Common.{sym, ◌∙◌, arith}
use Rattle.fts_heads.specs.RipeFiles.{goes_by_group, by_group}
use Rattle.fts_heads.proofs.Found.{no, is_found, none_found}
use Rattle.fts_line.specs.Keys.{is_later}
use Rattle.fts_line.proofs.Walks.{none_due}
use Rattle.fts_line.proofs.moves.first_due.Goals as goal

pub returns-then-moment_of-now-clause-there : goal.returns-then-moment_of-now-clause-there
returns-then-moment_of-now-clause-there c =
    (is_found goes_by_group by_group is_later c.args.heads.now.files c.in-Some.key c.len.ensures.order (sym c.in-Some.ensures.first)).there

pub returns-then-moment_of-now-clause-later : goal.returns-then-moment_of-now-clause-later
returns-then-moment_of-now-clause-later c =
    (is_found goes_by_group by_group is_later c.args.heads.now.files c.in-Some.key c.len.ensures.order (sym c.in-Some.ensures.first)).passing

pub returns-else-moment_of-now-clause-none : goal.returns-else-moment_of-now-clause-none
returns-else-moment_of-now-clause-none c =
    let fits = rw c.in-Some.is at c.first_without_dest.type_inv in
    none_due c.args.heads.now.files c.in-Some.key c.args.now c.len.ensures.order (sym c.in-Some.ensures.first) (omega (arith, fits))
    (omega (arith, c.if-moment_of-now.false, c.moment_of.ensures.moment))

pub returns-in-None-clause-none : goal.returns-in-None-clause-none
returns-in-None-clause-none c key there later =
    no (sym later ∙ none_found goes_by_group by_group is_later c.args.heads.now.files (sym c.in-None.ensures.first) key there)
