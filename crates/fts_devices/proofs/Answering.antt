-- What follows from one answer of a listener more.
use Rattle.std.proofs.Common.{◌≡◌, refl, sym, ap, ◌∙◌, subst, ℕ, zero, suc, List, [], ◌∷◌, Option, Some, None, Result, Ok, Err}
use Rattle.fts_devices.specs.declared.steps.Untaken.{Untaken}
use Rattle.fts_devices.specs.declared.steps.Untaken.TheVariants.{NoListener}
use Rattle.fts_devices.specs.Steps.{untaken_by}
use Rattle.fts_devices.specs.Accepting.{Answers, FollowsRefusal, GivesFirstOf, GivesLine}

module _ {L : Type 0} where
  abbrev line_or : L → Result L ℕ → L
  line_or other (Ok line) = line
  line_or other (Err errno) = other

  abbrev errno_or : ℕ → Result L ℕ → ℕ
  errno_or other (Ok line) = other
  errno_or other (Err errno) = errno

  abbrev IsLine : Result L ℕ → Type 0
  IsLine (Ok line) = ℕ
  IsLine (Err errno) = ⊥

  -- a line
  pub by_line : (most : ℕ) (told left : Option (List (Result L ℕ))) (line : L) → Answers told left (Ok line) → GivesLine (suc most) told left (Some line)
  by_line most None left line gives = gives
  by_line most (Some []) left line gives = gives
  by_line most (Some (Ok first ∷ others)) left line gives = (ap (λ (l : L). Some l) (ap (line_or line) gives.0), gives.1)
  by_line most (Some (Err errno ∷ others)) left line gives = absurd (subst IsLine gives.0 zero)

  -- a refusal that says that there is no listener
  pub by_end : (most : ℕ) (told left : Option (List (Result L ℕ))) (errno : ℕ) → NoListener ≡ untaken_by errno → Answers told left (Err errno)
      → GivesLine (suc most) told left None
  by_end most None left errno is gives = gives
  by_end most (Some []) left errno is gives = gives
  by_end most (Some (Ok first ∷ others)) left errno is gives = absurd (subst IsLine (sym gives.0) zero)
  by_end most (Some (Err first ∷ others)) left errno is gives =
      subst (λ (u : Untaken). FollowsRefusal u ((◌≡◌ {A = Option L} None None) × (left ≡ Some others)) (GivesFirstOf most others left None))
      (is ∙ ap untaken_by (ap (errno_or errno) gives.0)) (refl, gives.1)

  -- another refusal, behind which the rest follows
  pub by_refusal : (most : ℕ) (told between left : Option (List (Result L ℕ))) (line : Option L) (errno : ℕ) (untaken : Untaken)
      → ((end next : Type 0) → next → FollowsRefusal untaken end next) → untaken ≡ untaken_by errno
      → Answers told between (Err errno) → GivesLine most between left line → GivesLine (suc most) told left line
  by_refusal most None between left line errno untaken goes_on is gives then = subst (λ (b : Option (List (Result L ℕ))). GivesLine most b left line) gives then
  by_refusal most (Some []) between left line errno untaken goes_on is gives then = subst (λ (b : Option (List (Result L ℕ))). GivesLine most b left line) gives then
  by_refusal most (Some (Ok first ∷ others)) between left line errno untaken goes_on is gives then = absurd (subst IsLine (sym gives.0) zero)
  by_refusal most (Some (Err first ∷ others)) between left line errno untaken goes_on is gives then =
      subst (λ (u : Untaken). FollowsRefusal u ((line ≡ None) × (left ≡ Some others)) (GivesFirstOf most others left line))
      (is ∙ ap untaken_by (ap (errno_or errno) gives.0))
      (goes_on ((line ≡ None) × (left ≡ Some others)) (GivesFirstOf most others left line)
      (subst (λ (b : Option (List (Result L ℕ))). GivesLine most b left line) gives.1 then))
