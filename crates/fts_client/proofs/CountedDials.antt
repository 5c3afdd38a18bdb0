-- Each try is one dial of its port, leaves as many lines out as there were, and has a line where that is noted.
use Rattle.std.proofs.Common.{◌≡◌, ℕ, zero, suc, ◌+◌, ◌-◌, Bool, true, List, [], ◌∷◌, length, Option, Some, None, refl, ap, ◌∙◌, arith}
use Rattle.fts_wire.specs.Outside.{Side, raised}
use Rattle.fts_client.specs.Links.{LinkData, GivesFirst}
use Rattle.fts_client.specs.Tries.{Try, NoLine, NotSent, Sent, OverLine, TriesLink, AreTried, port_behind, has_line, given_behind}

-- a count that went up by one and then by so many
raised_first : (count more : ℕ) → raised (raised count 1) more ≡ raised count (suc more)
raised_first count zero = refl
raised_first count (suc more) = omega arith

-- a dial that gave a line
record Given {L : Type 0} (port : ℕ) (old given : LinkData L) : Type 0 where
  dials : given.dials ≡ raised old.dials 1
  out : given.out ≡ old.out + 1
  noted : given.port ≡ Some port
  is_given : given.is_given ≡ true

given_first : {L : Type 0} (port : ℕ) (old given : LinkData L) (line : L) (coming : Option (List L)) → GivesFirst port old given line coming
    → Given port old given
given_first port old given line None gives = record {
  dials = ap (λ link. link.dials) gives;
  out = ap (λ link. link.out) gives;
  noted = ap (λ link. link.port) gives;
  is_given = ap (λ link. link.is_given) gives;
}
given_first port old given line (Some []) gives = absurd gives
given_first port old given line (Some (first ∷ others)) gives = record {
  dials = ap (λ link. link.dials) gives.1;
  out = ap (λ link. link.out) gives.1;
  noted = ap (λ link. link.port) gives.1;
  is_given = ap (λ link. link.is_given) gives.1;
}

-- one dial more, as many lines out as before, the port that was dialed, and whether it gave a line
record Dialed {L : Type 0} (port : ℕ) (old new : LinkData L) (gave : Bool) : Type 0 where
  dials : new.dials ≡ raised old.dials 1
  out : new.out ≡ old.out
  noted : new.port ≡ Some port
  is_given : new.is_given ≡ gave

port_again : (port : ℕ) (tries : List Try) → port_behind port (Some port) tries ≡ Some port
port_again port [] = refl
port_again port (try ∷ tries) = refl

module _ {L : Type 0} (read written : Side L) (port : ℕ) (request : List ℕ) where
  -- a try over a line that was given and came back
  over_line : (old new : LinkData L) (try : Try) → OverLine read written port request old new try → Dialed port old new true
  over_line old new try over =
      let given = given_first port old over.given over.before old.coming over.dials in
      let out = given.out in
      let back : new.out ≡ over.given.out - 1 = ap (λ link. link.out) over.back in
      record {
        dials = ap (λ link. link.dials) over.back ∙ given.dials;
        out = omega (arith, out, back);
        noted = ap (λ link. link.port) over.back ∙ given.noted;
        is_given = ap (λ link. link.is_given) over.back ∙ given.is_given;
      }

  one_try : (old new : LinkData L) (try : Try) → TriesLink read written port request old new try → Dialed port old new (has_line try)
  one_try old new NoLine tries = record {
    dials = ap (λ link. link.dials) tries;
    out = ap (λ link. link.out) tries;
    noted = ap (λ link. link.port) tries;
    is_given = ap (λ link. link.is_given) tries;
  }
  one_try old new NotSent tries = over_line old new NotSent tries
  one_try old new (Sent result) tries = over_line old new (Sent result) tries

  pub all_dials : (old new : LinkData L) (faults_old faults_new : ℕ) (tries : List Try) → AreTried read written port request old new faults_old faults_new tries
      → new.dials ≡ raised old.dials (length tries)
  all_dials old new faults_old faults_new [] tried = ap (λ link. link.dials) tried.0
  all_dials old new faults_old faults_new (try ∷ tries) tried =
      all_dials tried.0 new tried.1 faults_new tries tried.3
      ∙ (ap (λ count. raised count (length tries)) (one_try old tried.0 try tried.2.link).dials ∙ raised_first old.dials (length tries))

  pub all_back : (old new : LinkData L) (faults_old faults_new : ℕ) (tries : List Try) → AreTried read written port request old new faults_old faults_new tries
      → new.out ≡ old.out
  all_back old new faults_old faults_new [] tried = ap (λ link. link.out) tried.0
  all_back old new faults_old faults_new (try ∷ tries) tried =
      all_back tried.0 new tried.1 faults_new tries tried.3 ∙ (one_try old tried.0 try tried.2.link).out

  pub all_at_port : (old new : LinkData L) (faults_old faults_new : ℕ) (tries : List Try) → AreTried read written port request old new faults_old faults_new tries
      → new.port ≡ port_behind port old.port tries
  all_at_port old new faults_old faults_new [] tried = ap (λ link. link.port) tried.0
  all_at_port old new faults_old faults_new (try ∷ tries) tried =
      all_at_port tried.0 new tried.1 faults_new tries tried.3
      ∙ (ap (λ before. port_behind port before tries) (one_try old tried.0 try tried.2.link).noted ∙ port_again port tries)

  pub all_given : (old new : LinkData L) (faults_old faults_new : ℕ) (tries : List Try) → AreTried read written port request old new faults_old faults_new tries
      → new.is_given ≡ given_behind old.is_given tries
  all_given old new faults_old faults_new [] tried = ap (λ link. link.is_given) tried.0
  all_given old new faults_old faults_new (try ∷ tries) tried =
      all_given tried.0 new tried.1 faults_new tries tried.3
      ∙ ap (λ before. given_behind before tries) (one_try old tried.0 try tried.2.link).is_given
