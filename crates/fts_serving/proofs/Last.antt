-- The last turn of all, and who took it.
use Rattle.std.proofs.Common.{◌≡◌, ◌≢◌, refl, ap, ◌∙◌, subst, inl, inr, ⊎_elim, ℕ, zero, suc, ◌<◌, ◌≤◌, true, List, [], ◌∷◌, ◌++◌, arith}
use Rattle.std.specs.Prelude.{◌⊎◌}
use Rattle.fts_tables.specs.declared.commands.Entry.{Entry}
use Rattle.fts_turnstile.specs.declared.turn.LoggedTurn.{LoggedTurn}
use Rattle.fts_turnstile.specs.History.{AllGiven, Among, NoneBy}
use Rattle.fts_serving.proofs.Open.{has_turn, there}

-- a number is within a bound, or above it
pub within : (n m : ℕ) → (n ≤ m) ⊎ (m < n)
within zero m = inl (omega arith)
within (suc n) zero = inr (omega arith)
within (suc n) (suc m) = ⊎_elim (λ le. inl (omega (arith, le))) (λ lt. inr (omega (arith, lt))) (within n m)

-- turns up to the last one
pub record HasLast (turns : List (LoggedTurn Entry)) : Type 0 where
  pub before : List (LoggedTurn Entry)
  pub turn : LoggedTurn Entry
  pub is : turns ≡ before ++ turn ∷ []

pub last_of : (first : LoggedTurn Entry) (turns : List (LoggedTurn Entry)) → HasLast (first ∷ turns)
last_of first [] = record { before = []; turn = first; is = refl }
last_of first (next ∷ turns) =
    let behind = last_of next turns in
    record { before = first ∷ behind.before; turn = behind.turn; is = ap (λ l. first ∷ l) behind.is }

-- a turn of all is the last one, or that one stands behind it
pub record IsLast (before : List (LoggedTurn Entry)) (turn : LoggedTurn Entry) (later whole : List (LoggedTurn Entry)) (last : LoggedTurn Entry) : Type 0 where
  pub none : later ≡ []
  pub turn_is : turn ≡ last
  pub before_is : before ≡ whole

pub record IsBehind (later : List (LoggedTurn Entry)) (last : LoggedTurn Entry) : Type 0 where
  pub between : List (LoggedTurn Entry)
  pub is : later ≡ between ++ last ∷ []

behind_one : (turn : LoggedTurn Entry) (later whole : List (LoggedTurn Entry)) (last : LoggedTurn Entry) → turn ∷ later ≡ whole ++ last ∷ []
    → IsLast [] turn later whole last ⊎ IsBehind later last
behind_one turn later [] last is =
    let none : later ≡ [] = cc in
    let same : turn ≡ last = cc in
    inl (record { none = none; turn_is = same; before_is = refl })
behind_one turn later (first ∷ whole) last is =
    let rest : later ≡ whole ++ last ∷ [] = cc in
    inr (record { between = whole; is = rest })

no_end : (whole : List (LoggedTurn Entry)) (last : LoggedTurn Entry) → ◌≡◌ {A = List (LoggedTurn Entry)} [] (whole ++ last ∷ []) → ⊥
no_end [] last is = absurd cc
no_end (first ∷ whole) last is = absurd cc

pub last_or_behind : (before : List (LoggedTurn Entry)) (turn : LoggedTurn Entry) (later whole : List (LoggedTurn Entry)) (last : LoggedTurn Entry)
    → before ++ turn ∷ later ≡ whole ++ last ∷ [] → IsLast before turn later whole last ⊎ IsBehind later last
last_or_behind [] turn later whole last is = behind_one turn later whole last is
last_or_behind (first ∷ before) turn later [] last is =
    let rest : before ++ turn ∷ later ≡ [] = cc in
    absurd (not_empty before turn later rest)
  where
    not_empty : (before : List (LoggedTurn Entry)) (turn : LoggedTurn Entry) (later : List (LoggedTurn Entry)) → before ++ turn ∷ later ≡ [] → ⊥
    not_empty [] turn later is = absurd cc
    not_empty (first ∷ before) turn later is = absurd cc
last_or_behind (first ∷ before) turn later (one ∷ whole) last is =
    let rest : before ++ turn ∷ later ≡ whole ++ last ∷ [] = cc in
    let head : first ≡ one = cc in
    ⊎_elim
    (λ here. inl (record { none = here.none; turn_is = here.turn_is; before_is = λ i. head i ∷ here.before_is i }))
    (λ there. inr there)
    (last_or_behind before turn later whole last rest)

-- a turn with this number stands where the last one has it
pub last_there : (number : ℕ) (later : List (LoggedTurn Entry)) (last : LoggedTurn Entry) → IsBehind later last → last.number ≡ number → has_turn number later ≡ true
last_there number later last behind is = ap (has_turn number) behind.is ∙ there number behind.between last [] is

-- and then not all turns there are of others
none_but_last : (number : ℕ) (between : List (LoggedTurn Entry)) (last : LoggedTurn Entry) → NoneBy (number ∷ []) (between ++ last ∷ []) → last.number ≡ number → ⊥
none_but_last number [] last none is = none.0 (inl is)
none_but_last number (turn ∷ between) last none is = none_but_last number between last none.1 is

pub not_behind : (number : ℕ) (later : List (LoggedTurn Entry)) (last : LoggedTurn Entry) → NoneBy (number ∷ []) later → last.number ≡ number → IsBehind later last → ⊥
not_behind number later last none is behind = none_but_last number behind.between last (subst (NoneBy (number ∷ [])) behind.is none) is

-- numbers of the last one
pub given_last : (all : ℕ) (before : List (LoggedTurn Entry)) (last : LoggedTurn Entry) → AllGiven all (before ++ last ∷ []) → last.number ≤ all
given_last all [] last given = given.0
given_last all (turn ∷ before) last given = given_last all before last given.1

pub none_last : (before : List (LoggedTurn Entry)) (last : LoggedTurn Entry) → NoneBy (0 ∷ []) (before ++ last ∷ []) → 1 ≤ last.number
none_last [] last none = not_zero last.number (λ e. none.0 (inl e))
  where
    not_zero : (n : ℕ) → n ≢ 0 → 1 ≤ n
    not_zero zero unlike = absurd (unlike refl)
    not_zero (suc n) unlike = omega arith
none_last (turn ∷ before) last none = none_last before last none.1

-- no turn has a number above those given
pub none_above : (all number : ℕ) (turns : List (LoggedTurn Entry)) → AllGiven all turns → all < number → NoneBy (number ∷ []) turns
none_above all number [] given above = tt
none_above all number (turn ∷ turns) given above = (λ among. by among, none_above all number turns given.1 above)
  where
    by : (turn.number ≡ number) ⊎ ⊥ → ⊥
    by (inl is) = absurd (omega (arith, is, above, given.0))
    by (inr never) = absurd never

-- files of which none is among these are none
pub none_among : (files : List ℕ) → ((file : ℕ) → Among file files → ⊥) → files ≡ []
none_among [] none = refl
none_among (file ∷ files) none = absurd (none file (inl refl))
