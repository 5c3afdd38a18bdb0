-- Each clause of the law.
use Rattle.fts_wire.proofs.Next.{request_more, refused_more}
use Rattle.fts_laws.proofs.Cut.{keeps_input}
use Rattle.fts_laws.proofs.inputs.cut_inputs_keep_their_requests.Goals as goal

pub returns-clause-prefix : goal.returns-clause-prefix
returns-clause-prefix c = λ most bytes more. (keeps_input most bytes more).begins

pub returns-clause-settled : goal.returns-clause-settled
returns-clause-settled c = λ most bytes more settled. (keeps_input most bytes more).settled settled

pub returns-clause-first : goal.returns-clause-first
returns-clause-first c = λ bytes more rest request first. request_more bytes more rest request first

pub returns-clause-refused : goal.returns-clause-refused
returns-clause-refused c = λ bytes more fault refused. refused_more bytes more fault refused
