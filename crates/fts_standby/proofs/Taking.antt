-- Taking bodies that responses carry, one by one, goes by steps of the world.
use Rattle.std.proofs.Common.{◌≡◌, refl, sym, ◌∙◌, ap, subst, ℕ, true, if◌then◌else◌, None, List, [], ◌∷◌, ◌++◌, length, arith, append_assoc, length-append, eq-eqb}
use Rattle.std.specs.Prelude.{slice_get}
use Rattle.std.proofs.lemmas.List.{append-nil}
use Rattle.fts_standby.specs.Worlds.{Appended, World, Hands, with_fate, taken, handed, stepped, reached, IsCarried, AreCarried, TakingIsSteps}

-- a body that is carried is taken by one step
one_step : (w : World) (body : List ℕ) (carried : IsCarried w.made (length w.standby.list) body) → w.standby.doubt ≡ None
    → stepped (Hands carried.place true Appended) w ≡ record w { standby = record { list = w.standby.list ++ body ∷ []; doubt = None } }
one_step w body carried sure =
    let list = w.standby.list in
    let handed_is : handed Appended true (slice_get w.made carried.place) w.standby ≡ taken Appended (length list) body w.standby w.standby.doubt =
    ap (λ response. handed Appended true response w.standby) carried.is in
    let taken_is : taken Appended (length list) body w.standby w.standby.doubt ≡ record { list = list ++ body ∷ []; doubt = None } =
    ap (λ d. taken Appended (length list) body (record { list = list; doubt = d }) d) sure
    ∙ ap (λ b. if b then with_fate Appended body (record { list = list; doubt = None }) else record { list = list; doubt = None }) (eq-eqb (length list) (length list) refl) in
    ap (λ standby. record w { standby = standby }) (handed_is ∙ taken_is)

pub taking_is_steps : TakingIsSteps
taking_is_steps w [] sure carried = record {
  steps = [];
  reaches = λ i. record w { standby = record { list = sym (append-nil w.standby.list) i; doubt = sure i } };
}
taking_is_steps w (body ∷ bodies) sure carried =
    let step = Hands carried.0.place true Appended in
    let next : World = record w { standby = record { list = w.standby.list ++ body ∷ []; doubt = None } } in
    let later = taking_is_steps next bodies refl (subst (λ n. AreCarried w.made n bodies) (omega (arith, length-append w.standby.list (body ∷ []))) carried.1) in
    record {
      steps = step ∷ later.steps;
      reaches = ap (λ v. reached v later.steps) (one_step w body carried.0 sure) ∙ later.reaches
          ∙ ap (λ l. record w { standby = record { list = l; doubt = None } }) (append_assoc w.standby.list (body ∷ []) bodies);
    }
