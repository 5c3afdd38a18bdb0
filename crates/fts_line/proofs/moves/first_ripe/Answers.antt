use Rattle.fts_line.proofs.Starts.{start_there, start_passed, start_ripe, start_none}
use Rattle.fts_line.proofs.moves.first_ripe.Goals as goal

pub returns-clause-there : goal.returns-clause-there
returns-clause-there c = start_there c.args.heads.now.files c.len.ensures.order c.first_from.result c.first_from.ensures.file

pub returns-clause-passed : goal.returns-clause-passed
returns-clause-passed c = start_passed c.args.heads.now.files c.len.ensures.order c.first_from.result c.first_from.ensures.file

pub returns-clause-ripe : goal.returns-clause-ripe
returns-clause-ripe c = start_ripe c.args.heads.now.files c.len.ensures.order c.first_from.result c.first_from.ensures.file

pub returns-clause-none : goal.returns-clause-none
returns-clause-none c = start_none c.args.heads.now.files c.len.ensures.order c.first_from.result c.first_from.ensures.file
