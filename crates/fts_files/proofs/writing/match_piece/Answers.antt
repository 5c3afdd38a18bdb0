use Rattle.std.proofs.Common.{arith}
use Rattle.fts_files.specs.Calls.{read_of}
use Rattle.fts_files.specs.Writing.{matched}
use Rattle.fts_files.proofs.Writings.{value_leads, matched_within}
use Rattle.fts_files.proofs.writing.match_piece.Goals as goal

pub returns-clause-within : goal.returns-clause-within
returns-clause-within g c =
    matched_within c.args.left.now c.read_at-answer.new.into c.read_at-answer.result c.matched.result c.matched.ensures c.read_at-answer.ensures.within
    (omega (arith, c.requires, c.read_at-answer.auto.into))

pub returns-clause-script : goal.returns-clause-script
returns-clause-script g c next =
    value_leads _ (matched c.args.left.now) next _ _ (read_of c.read_at-answer.result c.read_at-answer.new.into) c.matched.result (rw c.requires at c.read_at-answer.ensures.called) c.matched.ensures
