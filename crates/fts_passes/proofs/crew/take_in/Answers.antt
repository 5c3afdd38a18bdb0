-- Each turn of the loop takes the last pass in.
use Rattle.std.proofs.Common.{◌≡◌, ◌++◌, ◌∷◌, [], refl, sym, ap, ◌∙◌, subst, rules}
use Rattle.fts_turnstile.specs.History.{NoneBy}
use Rattle.fts_passes.specs.Crews.{AreOf}
use Rattle.fts_passes.proofs.Gathered.{TakenSoFar, taken_none, taken_all, taken_more, none_on, are_of_left, are_of_last}
use Rattle.fts_passes.proofs.crew.take_in.Goals as goal

pub loop-pass-init : goal.loop-pass-init
loop-pass-init g c = record {
  table = refl;
  number = c.requires.first.number;
  opening = refl;
  shows = refl;
  given = refl;
  none = subst (NoneBy (0 ∷ [])) (sym c.requires.first.unseen) tt;
  taken = taken_none c.args.first.now c.args.passes.items;
}

pub join-requires-clause-own : goal.join-requires-clause-own
join-requires-clause-own g c =
    let so_far = c.loop-pass.invariant.taken in
    let all = so_far.split ∙ ap (λ l. l ++ so_far.done) c.in-Some.ensures.items in
    let of = are_of_left c.args.lock.now (c.pop.new.self.items ++ c.in-Some.pass ∷ []) so_far.done (subst (AreOf c.args.lock.now) all c.requires.of) in
    (c.loop-pass.invariant.table ∙ c.requires.own, (are_of_last c.args.lock.now c.pop.new.self.items [] c.in-Some.pass of).0)

pub join-requires-clause-other : goal.join-requires-clause-other
join-requires-clause-other g c =
    let so_far = c.loop-pass.invariant.taken in
    let all = so_far.split ∙ ap (λ l. l ++ so_far.done) c.in-Some.ensures.items in
    let of = are_of_left c.args.lock.now (c.pop.new.self.items ++ c.in-Some.pass ∷ []) so_far.done (subst (AreOf c.args.lock.now) all c.requires.of) in
    (are_of_last c.args.lock.now c.pop.new.self.items [] c.in-Some.pass of).1.0

pub loop-pass-preserved : goal.loop-pass-preserved
loop-pass-preserved g c =
    let so_far = c.loop-pass.invariant.taken in
    let items = c.in-Some.ensures.items in
    let all = so_far.split ∙ ap (λ l. l ++ so_far.done) items in
    let of = are_of_left c.args.lock.now (c.pop.new.self.items ++ c.in-Some.pass ∷ []) so_far.done (subst (AreOf c.args.lock.now) all c.requires.of) in
    let joined = c.join.ensures.pass in
    record {
      table = ap (λ p. p.table) joined ∙ c.loop-pass.invariant.table;
      number = ap (λ p. p.number) joined ∙ c.loop-pass.invariant.number;
      opening = ap (λ p. p.opening) joined ∙ c.loop-pass.invariant.opening;
      shows = ap (λ p. p.opening_shows) joined ∙ c.loop-pass.invariant.shows;
      given = ap (λ p. p.given) joined ∙ c.loop-pass.invariant.given;
      none = none_on c.loop-pass.first c.join.new.pass c.loop-pass.invariant.number c.loop-pass.invariant.none c.join.ensures.mine;
      taken = taken_more c.loop-pass.first c.join.new.pass c.args.passes.items c.pop.new.self.items c.in-Some.pass
          (subst (TakenSoFar c.loop-pass.first c.args.passes.items) items so_far) joined c.join.ensures.mine c.join.ensures.theirs
          (are_of_last c.args.lock.now c.pop.new.self.items [] c.in-Some.pass of).1.1;
    }

pub returns-clause-same : goal.returns-clause-same
returns-clause-same g c =
    let kept = c.loop-pass.invariant in (kept.table, kept.number, kept.opening, kept.shows, kept.given)

pub returns-clause-taken : goal.returns-clause-taken
returns-clause-taken g c =
    let none : c.loop-pass.passes.items ≡ [] = search rules in
    taken_all c.loop-pass.first c.args.passes.items c.loop-pass.passes.items none c.loop-pass.invariant.taken
