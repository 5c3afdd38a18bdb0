-- A move of the open part, told in the words of its place.
use Rattle.std.proofs.Common.{◌≡◌, ℕ, Bool, Option, Some, None, List, IfSome, refl, sym, subst}
use Rattle.fts_files.specs.Calls.{Call, Answer, Done}
use Rattle.fts_files.specs.Script.{Script, Ends, Does, Plays, LeadsTo}
use Rattle.fts_files.specs.Moving.{moves}
use Rattle.fts_files.specs.Moved.{GrewBy, IsMoved}
use Rattle.fts_files.proofs.Playing.{ended_plays}
use Rattle.fts_store.specs.FolderCalls.{EndWith}

-- by names, folders and leave that are the same
pub moved_as : (file : ℕ) (part part' dest dest' : List ℕ) (folders folders' : List (List ℕ)) (overwrite overwrite' : Bool) (new : Option (List Call))
    → part ≡ part' → dest ≡ dest' → folders ≡ folders' → overwrite ≡ overwrite'
    → EndWith (IsMoved file part dest folders overwrite) new → EndWith (IsMoved file part' dest' folders' overwrite') new
moved_as file part part' dest dest' folders folders' overwrite overwrite' new one two three four moved =
    subst (λ p. EndWith (IsMoved file p dest' folders' overwrite') new) one
    (subst (λ d. EndWith (IsMoved file part d folders' overwrite') new) two
    (subst (λ f. EndWith (IsMoved file part dest f overwrite') new) three
    (subst (λ o. EndWith (IsMoved file part dest folders o) new) four moved)))

-- of what is there, where this is there
pub of_open : {O : Type 0} (P : O → Type 0) (there : Option O) (part : O) → there ≡ Some part → P part → IfSome there P
of_open P there part is holds = subst (λ t. IfSome t P) (sym is) holds

-- a file system that tells none tells none behind a script
untold_plays : (script : Script) (new : Option (List Call)) (end : Option Answer) → Plays script None new end → new ≡ None
unfolding Plays
untold_plays (Ends ended) new end plays = plays.0
untold_plays (Does asked next) new end plays = untold_plays (next plays.0) new end plays.1

-- what a script and a growth say, by whether the calls before are told
ends_with : (P : List Call → Type 0) (script : Script) (old new : Option (List Call)) (end : Option Answer) → Plays script old new end → GrewBy P old new → EndWith P new
ends_with P script None new end plays grew = λ after is. let none : new ≡ None = untold_plays script new end plays in cc
ends_with P script (Some before) new end plays grew = λ after is. let more = grew before after refl is in (before, more.0, more.1, more.2)

-- the calls end with those of a move
pub ends_moved : (file : ℕ) (part dest : List ℕ) (folders : List (List ℕ)) (overwrite : Bool) (old new : Option (List Call))
    → LeadsTo (moves file part dest folders overwrite (Ends (Some Done))) old (Ends (Some Done)) new
    → GrewBy (IsMoved file part dest folders overwrite) old new → EndWith (IsMoved file part dest folders overwrite) new
ends_moved file part dest folders overwrite old new leads grew =
    ends_with _ (moves file part dest folders overwrite (Ends (Some Done))) old new (Some Done) (ended_plays _ old new (Some Done) leads) grew
