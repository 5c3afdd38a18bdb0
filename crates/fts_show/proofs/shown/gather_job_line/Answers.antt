-- The id of a job is spelled as a UUID.
use Rattle.std.proofs.Common.{◌≡◌, List, ℕ, subst, ap, ◌∙◌, rules, arith}
use Rattle.std.proofs.lemmas.Grind.{common_steps}
use Rattle.uuid.specs.Text.{hyphenated_text, lower}
use Rattle.fts_routes.specs.Json.{id_text}
use Rattle.fts_show.specs.Gathered.{Gathers}
use Rattle.fts_show.specs.Shown.{words_of_job}
use Rattle.fts_show.proofs.shown.gather_job_line.Goals as goal

pub returns-clause-gathers : goal.returns-clause-gathers
returns-clause-gathers g c =
    let same : c.encode_lower-id.result.now ≡ id_text c.args.job.now.id = c.encode_lower-id.ensures.text ∙ ap (hyphenated_text lower) (c.hyphenated-id.ensures ∙ c.from_u128.ensures) in
    let gathers : Gathers (g.K.Sink.held c.args.output.now) (g.K.Sink.held c.line.new.output) c.args.gathered.now c.line.new.self
    (words_of_job c.encode_lower-id.result.now c.args.state c.args.job.now.kind c.args.job.now.priority) c.line.result
    = first_of (search rules, grind (arith, common_steps)) in
    subst (λ (id : List ℕ). Gathers (g.K.Sink.held c.args.output.now) (g.K.Sink.held c.line.new.output) c.args.gathered.now c.line.new.self
    (words_of_job id c.args.state c.args.job.now.kind c.args.job.now.priority) c.line.result) same gathers
