use Rattle.std.proofs.Common.{◌∙◌}
use Rattle.fts_choice.proofs.Drawing.{draws_of_place, share_of_taking}
use Rattle.fts_choice.proofs.weights.draws_by_weight.Goals as goal

pub returns-clause-share : goal.returns-clause-share
returns-clause-share c = draws_of_place

pub returns-clause-weight : goal.returns-clause-weight
returns-clause-weight c = λ weights waiting place alike takes. draws_of_place weights waiting place ∙ share_of_taking weights waiting place alike takes
