-- Each clause of the law.
use Rattle.fts_laws.proofs.Standing.{input_stands, stands_alone, end_answered}
use Rattle.fts_laws.proofs.inputs.inputs_are_their_requests.Goals as goal

pub returns-clause-stands : goal.returns-clause-stands
returns-clause-stands c = λ most bytes. input_stands most bytes

pub returns-clause-alone : goal.returns-clause-alone
returns-clause-alone c = λ most bytes input stands. stands_alone most bytes input stands

pub returns-clause-answered : goal.returns-clause-answered
returns-clause-answered c = λ most bytes fault is. end_answered most bytes fault is
