-- Requests, one after the other.
use Rattle.std.proofs.Common.{◌≡◌, refl, ◌∙◌, ap, subst, ℕ, ◌+◌, List, [], ◌∷◌, ◌++◌, length, arith}
use Rattle.fts_wire.specs.Outside.{Side}
use Rattle.fts_client.specs.Links.{LinkData}
use Rattle.fts_client.specs.Tries.{Try, AreTried}
use Rattle.fts_standby.specs.Asking.{request_bytes, Request, AreMade}
use Rattle.fts_standby.specs.Following.{Taken, requests_from}

module _ {L : Type 0} (read written : Side L) (port : ℕ) where
  -- one request
  pub made_one : (old new : LinkData L) (faults_old faults_new number : ℕ) (tries : List Try)
      → AreTried read written port (request_bytes port number) old new faults_old faults_new tries
      → AreMade read written port old new faults_old faults_new (record { number = number; tries = tries } ∷ [])
  made_one old new faults_old faults_new number tries tried = (new, faults_new, tried, (refl, refl))

  -- some requests, and then others
  pub made_more : (old mid new : LinkData L) (faults_old faults_mid faults_new : ℕ) (xs ys : List Request) → AreMade read written port old mid faults_old faults_mid xs
      → AreMade read written port mid new faults_mid faults_new ys → AreMade read written port old new faults_old faults_new (xs ++ ys)
  made_more old mid new faults_old faults_mid faults_new [] ys first second =
      subst (λ link. AreMade read written port link new faults_old faults_new ys) first.0
      (subst (λ count. AreMade read written port mid new count faults_new ys) first.1 second)
  made_more old mid new faults_old faults_mid faults_new (x ∷ xs) ys first second =
      (first.0, first.1, first.2, made_more first.0 mid new first.1 faults_mid faults_new xs ys first.3 second)

-- the requests for one entry more
pub requests_more : (number : ℕ) (taken : List Taken) (one : Taken)
    → requests_from number (taken ++ one ∷ []) ≡ requests_from number taken ++ record { number = number + length taken; tries = one.tries } ∷ []
requests_more number [] one = ap (λ n. record { number = n; tries = one.tries } ∷ []) (omega arith)
requests_more number (first ∷ taken) one =
    ap (λ l. record { number = number; tries = first.tries } ∷ l)
    (requests_more (number + 1) taken one ∙ ap (λ n. requests_from (number + 1) taken ++ record { number = n; tries = one.tries } ∷ []) (omega arith))
