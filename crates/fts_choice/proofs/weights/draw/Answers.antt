use Rattle.std.proofs.Common.{◌%◌, ◌<◌, sum, sym, ◌∙◌, ap, refl, arith}
use Rattle.std.proofs.Math.Nat.{mod-lt}
use Rattle.std.proofs.lemmas.Bool.{and_parts, leb-true}
use Rattle.fts_tables.specs.Choice.{shares}
use Rattle.fts_choice.specs.Draws.{first_above}
use Rattle.fts_choice.proofs.Drawing.{place_is_first_above, none_above, fits_unless_above, nobody_waits, somebody_waits}
use Rattle.fts_choice.proofs.weights.draw.Goals as goal

pub returns-then-total-eq0-clause-place : goal.returns-then-total-eq0-clause-place
returns-then-total-eq0-clause-place c =
    let parts = shares c.args.weights.now c.args.waiting.now in
    sym (place_is_first_above (c.args.word % sum parts) 0 parts
    ∙ none_above (c.args.word % sum parts) 0 parts (omega (arith, c.total-total.ensures.total, c.if-total-eq0.true)))

pub returns-then-total-eq0-clause-none : goal.returns-then-total-eq0-clause-none
returns-then-total-eq0-clause-none c = (
  λ none. somebody_waits c.args.weights.now c.args.waiting.now c.requires.alike
      (λ place inside. leb-true _ _ (and_parts _ _ (c.requires.range place 0 inside)).0) (omega (arith, c.total-total.ensures.total, c.if-total-eq0.true)),
  λ nobody. refl,
)

pub returns-clause-place : goal.returns-clause-place
returns-clause-place c =
    let parts = shares c.args.weights.now c.args.waiting.now in
    c.place_above.ensures.place ∙ (ap (λ number. first_above (c.args.word % number) 0 parts) c.total-total.ensures.total
    ∙ sym (place_is_first_above (c.args.word % sum parts) 0 parts))

pub returns-clause-none : goal.returns-clause-none
returns-clause-none c =
    let parts = shares c.args.weights.now c.args.waiting.now in (
      λ none.
          let fits = fits_unless_above (c.args.word % c.total-total.result) 0 parts (omega arith) (sym c.place_above.ensures.place ∙ none) in
          let less : c.args.word % c.total-total.result < c.total-total.result = mod-lt c.args.word (omega (arith, c.if-total-eq0.false)) in
          absurd (omega (arith, fits, less, c.total-total.ensures.total)),
      λ nobody. absurd (omega (
        arith,
        nobody_waits c.args.weights.now c.args.waiting.now c.requires.alike nobody,
        c.total-total.ensures.total,
        c.if-total-eq0.false,
      )),
    )
