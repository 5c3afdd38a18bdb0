use Rattle.fts_choice.proofs.LeastLinks.{picked_link}
use Rattle.fts_choice.proofs.links.picked_links_are_the_claims.Goals as goal

pub returns : goal.returns
returns c = record { link = picked_link }
