-- The passes that pass 0 gives to many threads, and what is known of all of them behind the closing of their lock.
use Rattle.std.specs.Prelude.{◌≡◌, ◌≢◌, ℕ, zero, suc, List, [], ◌∷◌, ◌++◌}
use Rattle.fts_turnstile.specs.declared.turn.LoggedTurn.{LoggedTurn}
use Rattle.fts_turnstile.specs.History.{Among, items_of, shown_after, NoneBy, OnlyOthersSince, AllNamed, AllGiven}
use Rattle.fts_turnstile.specs.Passes.{TurnstileView, PassView, IsOf, numbers_of, pass_given}

-- the numbers from one on, so many
abbrev pub numbers_from : ℕ → ℕ → List ℕ
numbers_from first zero = []
numbers_from first (suc more) = first ∷ numbers_from (suc first) more

module _ {I : Type 0} where
  -- the passes that pass 0 gives next, so many
  abbrev pub passes_given : PassView I → ℕ → List (PassView I)
  passes_given pass zero = []
  passes_given pass (suc more) = pass_given pass ∷ passes_given (record pass { given = suc pass.given }) more

  -- each of these passes is of the lock, is not pass 0, and has no number but its own
  abbrev pub AreOf : TurnstileView I → List (PassView I) → Type 0
  AreOf lock [] = Unit {0}
  AreOf lock (pass ∷ passes) = IsOf lock pass × ((pass.number ≢ 0) × ((pass.joined ≡ []) × AreOf lock passes))

  -- pass 0 of a lock, which has seen no turn and has taken in no pass
  pub record IsFirst (pass : PassView I) : Type 0 where
    pub number : pass.number ≡ 0
    pub unjoined : pass.joined ≡ []
    pub unseen : pass.seen ≡ []

  -- a pass was taken in: pass 0 has its number, and has seen what it saw and then turns of others alone
  pub record IsTakenIn (first pass : PassView I) : Type 0 where
    pub number : Among pass.number (numbers_of first)
    pub since : OnlyOthersSince (pass.number ∷ []) pass.seen first.seen

  -- each of these was
  abbrev pub AreTakenIn : PassView I → List (PassView I) → Type 0
  AreTakenIn first [] = Unit {0}
  AreTakenIn first (pass ∷ passes) = IsTakenIn first pass × AreTakenIn first passes

  -- each of these passes has seen a beginning of the turns, and behind it none has its number
  abbrev pub AreSeenBy : List (LoggedTurn I) → List (PassView I) → Type 0
  AreSeenBy turns [] = Unit {0}
  AreSeenBy turns (pass ∷ passes) = OnlyOthersSince (pass.number ∷ []) pass.seen turns × AreSeenBy turns passes

  -- a lock was closed behind these passes: its value holds the opening list and the items of all turns, and shows what the last turn left
  pub record ClosedWith {T : Type 0} (items : T → List I) (names : I → ℕ) (shows : T → List ℕ) (first : PassView I) (passes : List (PassView I)) (value : T) : Type 0 where
    pub turns : List (LoggedTurn I)
    pub list : items value ≡ first.opening ++ items_of turns
    pub shown : shows value ≡ shown_after first.opening_shows turns
    pub named : AllNamed names turns
    pub given : AllGiven first.given turns
    -- pass 0 took no turn
    pub none_of_first : NoneBy (0 ∷ []) turns
    pub seen : AreSeenBy turns passes
