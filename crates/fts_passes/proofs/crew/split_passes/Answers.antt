-- Each turn of the loop gives one pass more.
use Rattle.std.proofs.Common.{◌+◌, ◌≡◌, ℕ, ◌++◌, ◌∷◌, [], map, subst, sym, ap, ◌∙◌, arith, add-one}
use Rattle.fts_turnstile.specs.Passes.{pass_given, pass_after_split}
use Rattle.fts_passes.specs.Crews.{AreOf, numbers_from, passes_given}
use Rattle.fts_passes.proofs.Gathered.{given-push, given_are_of, given_numbers}
use Rattle.fts_passes.proofs.crew.split_passes.Goals as goal

pub loop-preserved : goal.loop-preserved
loop-preserved g c =
    let kept = c.loop.invariant in
    let start = c.args.first.now in
    record {
      given = c.split-pass.ensures.pass ∙ ap pass_after_split kept.given ∙ ap (λ (n : ℕ). record start { given = n }) (omega arith);
      passes = c.push_reserved.ensures.items
          ∙ ap (λ l. l ++ c.split-pass.result ∷ []) kept.passes
          ∙ ap (λ p. passes_given start c.loop.counter ++ p ∷ []) (c.split-pass.ensures.given ∙ ap pass_given kept.given)
          ∙ sym (given-push start c.loop.counter)
          ∙ ap (passes_given start) (sym (add-one c.loop.counter));
      so_many = omega (arith, c.push_reserved.ensures.len, kept.so_many);
      room = omega (arith, c.push_reserved.ensures.capacity, kept.room);
    }

pub returns-clause-of : goal.returns-clause-of
returns-clause-of g c =
    subst (AreOf c.args.lock.now) (sym c.loop.invariant.passes) (given_are_of c.args.lock.now c.args.first.now c.loop.counter c.requires.own)

pub returns-clause-numbers : goal.returns-clause-numbers
returns-clause-numbers g c =
    let all : c.loop.counter ≡ c.args.count = omega (arith, c.loop.auto.counter-end, c.loop-test.false) in
    ap (map (λ pass. pass.number)) c.loop.invariant.passes
    ∙ given_numbers c.args.first.now c.loop.counter
    ∙ ap (numbers_from (c.args.first.now.given + 1)) all
