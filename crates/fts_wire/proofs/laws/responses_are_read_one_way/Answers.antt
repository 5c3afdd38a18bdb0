use Rattle.std.proofs.Common.{false, refl}
use Rattle.fts_wire.specs.Response.{response_of}
use Rattle.fts_wire.proofs.ReadResponses.{one_answer, not_inside}
use Rattle.fts_wire.proofs.laws.responses_are_read_one_way.Goals as goal

pub returns-clause-one : goal.returns-clause-one
returns-clause-one c = λ bytes one other first second. one_answer bytes one other first second

pub returns-clause-apart : goal.returns-clause-apart
returns-clause-apart c = λ bytes answer first inside. not_inside bytes answer first inside

pub returns-clause-written : goal.returns-clause-written
returns-clause-written c = λ reply close rest phrase methods few. record {
  response = response_of reply false close;
  behind = rest;
  parts = refl;
  whole = record { allow = reply.allow; close = close; phrase = phrase; methods = methods; few = few; spelled = refl };
}
