use Rattle.std.proofs.Common.{◌≡◌, ◌<◌, true, false, length, sym, ◌∙◌, ap, subst, arith}
use Rattle.std.specs.Prelude.{IfSome}
use Rattle.fts_choice.specs.LeastPlaces.{least_place, is_eligible_at, held_of}
use Rattle.fts_choice.proofs.LeastFound.{least_place-step, least_place-inside, least_place-none}
use Rattle.fts_choice.proofs.links.pick_link.Goals as goal
use Rattle.fts_choice.proofs.links.pick_link.Goals.{then-is_next, else-is_next}

pub loop-place-preserved : goal.loop-place-preserved
loop-place-preserved c =
    let step = least_place-step (is_eligible_at c.args.links.now) (held_of c.args.links.now) c.loop-place.place c.loop-place.best c.is_next.result in
    elim c.if-is_next.branch [
      | then-is_next w ↦ record { best = w.best-is ∙ step true c.loop-place.invariant.best c.is_next.ensures.answer w.if-is_next.true }
      | else-is_next w ↦ record { best = w.best-is ∙ step false c.loop-place.invariant.best c.is_next.ensures.answer w.if-is_next.false }
    ]

pub returns-clause-none : goal.returns-clause-none
returns-clause-none c =
    let links = c.args.links.now in
    let found = least_place-none (λ link. link.eligible) links (held_of links) in
    let whole : c.loop-place.place ≡ length links = omega (arith, c.loop-place-test.false, c.loop-place.auto.place-end) in (
      λ none. found.0 (sym (c.loop-place.invariant.best ∙ ap (least_place (is_eligible_at links) (held_of links)) whole) ∙ none),
      λ none. c.loop-place.invariant.best ∙ (ap (least_place (is_eligible_at links) (held_of links)) whole ∙ found.1 none),
    )

pub returns-clause-inside : goal.returns-clause-inside
returns-clause-inside c =
    let links = c.args.links.now in
    let whole : c.loop-place.place ≡ length links = omega (arith, c.loop-place-test.false, c.loop-place.auto.place-end) in
    subst (λ found. IfSome found (λ place. place < length links))
    (sym (c.loop-place.invariant.best ∙ ap (least_place (is_eligible_at links) (held_of links)) whole))
    (least_place-inside (is_eligible_at links) (held_of links) (length links))
