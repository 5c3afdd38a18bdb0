-- A turn: a step that was answered with a file goes on with its copy, and any other is over.
use Rattle.std.proofs.Common.{rules, ◌≡◌, ◌==◌, ◌∙◌, refl, sym, ap, subst, true, List, [], ◌∷◌, length, Ok, Result, arith, eqb-true}
use Rattle.fts_tables.specs.declared.commands.Answer.{Answer}
use Rattle.fts_tables.specs.declared.commands.Answer.TheVariants.{Claimed}
use Rattle.fts_keep.specs.declared.fault.KeepFault.{KeepFault}
use Rattle.fts_workers.specs.declared.held.Held.{Held}
use Rattle.fts_shop.specs.Shops.{step_answer}
use Rattle.fts_shop.specs.Turns.{IsTurn, GoesOn, HandData, hand_data}
use Rattle.fts_shop.proofs.turning.turn.Goals as goal

-- a bench without a file holds none
none_held : (held : List Held) → (length held == 0) ≡ true → held ≡ []
none_held [] is = refl
none_held (one ∷ others) is = absurd (omega (arith, eqb-true (length (one ∷ others)) 0 is))

pub returns-in-Ok-clause-turn : goal.returns-in-Ok-clause-turn
returns-in-Ok-clause-turn g c =
    let none : c.args.bench.now.held ≡ [] =
    sym c.held.ensures.held ∙ none_held c.held.result.now (sym c.is_empty.ensures ∙ c.if-not-is_empty.false) in
    let accepted : Answer → Result Answer KeepFault = λ answer. Ok answer in
    let step = c.try_claim-lanes.result.step in
    let claimed : step_answer step.expiry step.claim ≡ Ok (Claimed c.claimed_of-claimed.result.file c.claimed_of-claimed.result.attempt) =
    sym c.answer_of.ensures ∙ c.in-Ok.is ∙ ap accepted c.claimed_of-claimed.ensures.answer in
    let old = hand_data g.C.Clock g.W.Words c.args.hand.now in
    let after = hand_data g.C.Clock g.W.Words c.work_on.new.hand in
    let behind : HandData g.row.E.Denot = record {
      store = c.args.hand.now.store;
      moments = g.C.Clock.moments c.now-now.new.self;
      words = g.W.Words.words c.next-word.new.self;
    } in
    subst (λ (hs : List Held). IsTurn g.E.Store c.args.pass.now c.work_on.new.pass old after hs c.work_on.result
    c.work_on.new.bench.held) (sym none)
    (record {
      now = c.now-now.result;
      word = c.next-word.result;
      claimed = c.try_claim-lanes.new.pass;
      behind = behind;
      moment = c.now-now.ensures;
      drawn = c.next-word.ensures;
      store = refl;
      expiry = step.expiry;
      claim = step.claim;
      lanes = c.try_claim-lanes.result.lanes;
      tried = c.try_claim-lanes.ensures.tried;
      goes_on = subst (λ (answer : Result Answer KeepFault). GoesOn g.E.Store c.try_claim-lanes.result.lanes answer
          c.try_claim-lanes.new.pass c.work_on.new.pass behind after c.work_on.result c.work_on.new.bench.held) (sym claimed) c.work_on.ensures.works;
    })

pub returns-in-Err-clause-turn : goal.returns-in-Err-clause-turn
returns-in-Err-clause-turn g c =
    let none : c.args.bench.now.held ≡ [] = search rules in
    let step = c.try_claim-lanes.result.step in
    let old = hand_data g.C.Clock g.W.Words c.args.hand.now in
    let behind : HandData g.row.E.Denot = record {
      store = c.args.hand.now.store;
      moments = g.C.Clock.moments c.now-now.new.self;
      words = g.W.Words.words c.next-word.new.self;
    } in
    subst (λ (hs : List Held). IsTurn g.E.Store c.args.pass.now c.try_claim-lanes.new.pass old behind hs
    c.end_of_claim.result c.args.bench.now.held) (sym none)
    (record {
      now = c.now-now.result;
      word = c.next-word.result;
      claimed = c.try_claim-lanes.new.pass;
      behind = behind;
      moment = c.now-now.ensures;
      drawn = c.next-word.ensures;
      store = refl;
      expiry = step.expiry;
      claim = step.claim;
      lanes = c.try_claim-lanes.result.lanes;
      tried = c.try_claim-lanes.ensures.tried;
      goes_on = subst (λ (answer : Result Answer KeepFault). GoesOn g.E.Store c.try_claim-lanes.result.lanes answer
          c.try_claim-lanes.new.pass c.try_claim-lanes.new.pass behind behind c.end_of_claim.result c.args.bench.now.held) (sym (sym c.answer_of.ensures ∙ c.in-Err.is))
          (c.end_of_claim.ensures, record { pass = refl; hand_is = refl; nothing = none });
    })
