-- One try more for an entry, and the last one.
use Rattle.std.proofs.Common.{◌≡◌, ℕ, ◌+◌, ◌≤◌, false, List, [], ◌∷◌, ◌++◌, length, Ok, Err, refl, ap, ◌∙◌, subst, arith, length-append}
use Rattle.fts_tables.specs.declared.names.Memory.{Memory as WantOfMemory}
use Rattle.fts_wire.specs.Outside.{Side}
use Rattle.fts_client.specs.Links.{LinkData}
use Rattle.fts_client.specs.Tries.{Try, IsTried, AreTried}
use Rattle.fts_standby.specs.Hearing.{Heard, heard_data}
use Rattle.fts_standby.specs.Asking.{heard_by, is_final, GoOn, Asks, request_bytes}
use Rattle.fts_standby.specs.declared.hearing.Heard.{Heard as HeardCode}
use Rattle.fts_client.proofs.PushedTries.{tried-push, all-push}

-- tries so far for the entry of a number, of which each goes on; so many are left
pub record TriedSoFar {L : Type 0} (read written : Side L) (port : ℕ) (request : List ℕ) (number left most : ℕ) (old new : LinkData L) (faults_old faults_new : ℕ) : Type 0 where
  pub tries : List Try
  pub tried : AreTried read written port request old new faults_old faults_new tries
  pub on : GoOn number tries
  pub many : length tries + left ≡ most

-- no try yet
pub none_tried : {L : Type 0} (read written : Side L) (port : ℕ) (request : List ℕ) (number most : ℕ) (link : LinkData L) (faults : ℕ)
    → TriedSoFar read written port request number most most link link faults faults
none_tried read written port request number most link faults = record { tries = []; tried = (refl, refl); on = tt; many = omega arith }

module _ {L : Type 0} (read written : Side L) (port : ℕ) (request : List ℕ) (number left most : ℕ) (old between new : LinkData L) (faults_old faults faults_new : ℕ)
    (try : Try) (so_far : TriedSoFar read written port request number left most old between faults_old faults)
    (more : IsTried read written port request between new faults faults_new try) where
  -- all tries, with the last one
  pub all_tried : AreTried read written port request old new faults_old faults_new (so_far.tries ++ try ∷ [])
  all_tried = tried-push read written port request old between new faults_old faults faults_new so_far.tries try so_far.tried more

  few_tried : 1 ≤ left → length (so_far.tries ++ try ∷ []) ≤ most
  few_tried some = let many = so_far.many in let longer = length-append so_far.tries (try ∷ []) in omega (arith, many, longer, some)

  -- one try more, behind which there is another
  pub try_more : (heard : Heard) → heard_by number try ≡ heard → is_final heard ≡ false → (next : ℕ) → next + 1 ≡ left
      → TriedSoFar read written port request number next most old new faults_old faults_new
  try_more heard is on next less =
      let many = so_far.many in
      let longer = length-append so_far.tries (try ∷ []) in
      record {
        tries = so_far.tries ++ try ∷ [];
        tried = all_tried;
        on = all-push (λ one. is_final (heard_by number one) ≡ false) so_far.tries try so_far.on (ap is_final is ∙ on);
        many = omega (arith, many, longer, less);
      }

  module _ (same : request ≡ request_bytes port number) where
    whole_tried : AreTried read written port (request_bytes port number) old new faults_old faults_new (so_far.tries ++ try ∷ [])
    whole_tried = subst (λ bytes. AreTried read written port bytes old new faults_old faults_new (so_far.tries ++ try ∷ [])) same all_tried

    -- the last try
    pub try_last : (heard : HeardCode) → heard_by number try ≡ heard_data heard → 1 ≤ left → (is_final (heard_data heard) ≡ false → left ≡ 1)
        → Asks read written port number most old new faults_old faults_new (Ok heard)
    try_last heard is some used = record {
      tries = so_far.tries ++ try ∷ [];
      tried = whole_tried;
      came = record {
        again = so_far.tries;
        last = try;
        are = refl;
        on = so_far.on;
        heard_is = is;
        few = few_tried some;
        used_up = λ on.
            let one = used on in
            let many = so_far.many in
            let longer = length-append so_far.tries (try ∷ []) in
            omega (arith, many, longer, one);
      };
    }

    -- the last try, behind which memory ran out
    pub try_cut : (memory : WantOfMemory) → 1 ≤ left → Asks read written port number most old new faults_old faults_new (Err memory)
    try_cut memory some = record {
      tries = so_far.tries ++ try ∷ [];
      tried = whole_tried;
      came = record { again = so_far.tries; last = try; are = refl; on = so_far.on; few = few_tried some };
    }
