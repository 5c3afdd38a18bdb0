-- What a script that ended well has made of the calls.
use Rattle.std.proofs.Common.{◌≡◌, ℕ, zero, suc, Bool, true, false, Option, Some, None, Result, Ok, Err, OnOk, List, [], ◌∷◌, ◌++◌, refl, ◌∙◌, ap, subst, append_assoc, inl, inr}
use Rattle.std.specs.Prelude.{if◌then◌else◌, ◌⊎◌}
use Rattle.fts_files.specs.declared.files.Seen.{Seen}
use Rattle.fts_files.specs.declared.files.Way.{Way}
use Rattle.fts_files.specs.declared.files.Way.TheVariants.{Read}
use Rattle.fts_files.specs.Calls.{Call, Asked, Answer, Done, Opened, Saw, Gave, Counted, Failed, Open, LookAtName, LookAtOpen, SyncData, SyncAll, Link, Rename, Unlink, SetMode, Rest}
use Rattle.fts_files.specs.Errno.{are_too_many, is_missing, lacks_links}
use Rattle.fts_files.specs.Script.{Script, Ends, Does, Plays, done_end, fails, unless_failed, with_open, with_seen, with_value}
use Rattle.fts_files.specs.Opening.{unless_too_many, opens_within}
use Rattle.fts_files.specs.Moving.{is_same_file, mode_seen, sees_mode, gets_mode, keeps_mode, syncs, checks, takes_back, settles, replaces, if_missing, by_link, links, moves}
use Rattle.fts_files.specs.Moved.{answered, Then, IsOpened, AreSynced, IsItsName, IsReplaced, HasMode, HasItsMode, IsPut, IsMoved, GrewBy}

-- each play of a script that ends well makes calls of which this holds
pub record Makes (script : Script) (P : List Call → Type 0) : Type 0 where
  pub calls : (old new : List Call) → Plays script (Some old) (Some new) (Some Done) → (told : List Call) × (new ≡ old ++ told) × P told

-- none ends well
pub record Never (script : Script) : Type 0 where
  pub well : (old new : List Call) → Plays script (Some old) (Some new) (Some Done) → ⊥

pub never_fails : Never fails
unfolding Plays
never_fails = record { well = λ old new plays. cc (plays.1) }

pub never_back : (path : List ℕ) → Never (takes_back path)
unfolding Plays takes_back
never_back path = record { well = λ old new plays. cc (plays.1.1) }

-- nothing is left to do
pub makes_none : Makes (Ends (Some Done)) (λ told. told ≡ [])
unfolding Plays
makes_none = record { calls = λ old new plays. ([], some_is new old plays.0, refl) }
  where
    nothing_more : (l : List Call) → l ≡ l ++ []
    nothing_more [] = refl
    nothing_more (c ∷ l) = ap (λ r. c ∷ r) (nothing_more l)

    some_is : (one other : List Call) → Some one ≡ Some other → one ≡ other ++ []
    some_is one other is = let same : one ≡ other = cc in same ∙ nothing_more other

-- one call more in front
one_more : (asked : Asked) (answer : Answer) (P : List Call → Type 0) (old new : List Call)
    → ((told : List Call) × (new ≡ (old ++ answered asked answer ∷ []) ++ told) × P told) → (told : List Call) × (new ≡ old ++ told) × Then asked answer P told
one_more asked answer P old new made = (answered asked answer ∷ made.0, made.1 ∙ append_assoc old (answered asked answer ∷ []) made.0, (made.0, refl, made.2))

-- a call that has to be done
pub makes_done : (asked : Asked) (next ended : Script) (P : List Call → Type 0) → Makes next P → Never ended → Makes (Does asked (unless_failed next ended)) (Then asked Done P)
unfolding Plays
makes_done asked next ended P makes never = record { calls = λ old new plays. by_answer old new plays.0 plays.1 }
  where
    by_answer : (old new : List Call) (answer : Answer) → Plays (unless_failed next ended answer) (Some (old ++ answered asked answer ∷ [])) (Some new) (Some Done)
        → (told : List Call) × (new ≡ old ++ told) × Then asked Done P told
    by_answer old new Done plays = one_more asked Done P old new (makes.calls _ new plays)
    by_answer old new (Opened file) plays = absurd (never.well _ new plays)
    by_answer old new (Saw seen) plays = absurd (never.well _ new plays)
    by_answer old new (Gave bytes) plays = absurd (never.well _ new plays)
    by_answer old new (Counted count) plays = absurd (never.well _ new plays)
    by_answer old new (Failed errno) plays = absurd (never.well _ new plays)

-- one that has to open
pub makes_open : (asked : Asked) (next : ℕ → Script) (ended : Script) (P : ℕ → List Call → Type 0) → ((file : ℕ) → Makes (next file) (P file)) → Never ended
    → Makes (Does asked (with_open next ended)) (λ told. (file : ℕ) × Then asked (Opened file) (P file) told)
unfolding Plays
makes_open asked next ended P makes never = record { calls = λ old new plays. by_answer old new plays.0 plays.1 }
  where
    by_answer : (old new : List Call) (answer : Answer) → Plays (with_open next ended answer) (Some (old ++ answered asked answer ∷ [])) (Some new) (Some Done)
        → (told : List Call) × (new ≡ old ++ told) × ((file : ℕ) × Then asked (Opened file) (P file) told)
    by_answer old new (Opened file) plays = let made = one_more asked (Opened file) (P file) old new ((makes file).calls _ new plays) in (made.0, made.1, (file, made.2))
    by_answer old new Done plays = absurd (never.well _ new plays)
    by_answer old new (Saw seen) plays = absurd (never.well _ new plays)
    by_answer old new (Gave bytes) plays = absurd (never.well _ new plays)
    by_answer old new (Counted count) plays = absurd (never.well _ new plays)
    by_answer old new (Failed errno) plays = absurd (never.well _ new plays)

-- one that has to see
pub makes_seen : (asked : Asked) (next : Seen → Script) (ended : Script) (P : Seen → List Call → Type 0) → ((seen : Seen) → Makes (next seen) (P seen)) → Never ended
    → Makes (Does asked (with_seen next ended)) (λ told. (seen : Seen) × Then asked (Saw seen) (P seen) told)
unfolding Plays
makes_seen asked next ended P makes never = record { calls = λ old new plays. by_answer old new plays.0 plays.1 }
  where
    by_answer : (old new : List Call) (answer : Answer) → Plays (with_seen next ended answer) (Some (old ++ answered asked answer ∷ [])) (Some new) (Some Done)
        → (told : List Call) × (new ≡ old ++ told) × ((seen : Seen) × Then asked (Saw seen) (P seen) told)
    by_answer old new (Saw seen) plays = let made = one_more asked (Saw seen) (P seen) old new ((makes seen).calls _ new plays) in (made.0, made.1, (seen, made.2))
    by_answer old new Done plays = absurd (never.well _ new plays)
    by_answer old new (Opened file) plays = absurd (never.well _ new plays)
    by_answer old new (Gave bytes) plays = absurd (never.well _ new plays)
    by_answer old new (Counted count) plays = absurd (never.well _ new plays)
    by_answer old new (Failed errno) plays = absurd (never.well _ new plays)

-- a test that has to hold
pub makes_test : (b : Bool) (next ended : Script) (P : List Call → Type 0) → Makes next P → Never ended → Makes (if b then next else ended) (λ told. (b ≡ true) × P told)
makes_test true next ended P makes never = record { calls = λ old new plays. let made = makes.calls old new plays in (made.0, made.1, (refl, made.2)) }
makes_test false next ended P makes never = record { calls = λ old new plays. absurd (never.well old new plays) }

-- one that is made again where too many files are open
makes_opened : (path : List ℕ) (way : Way) (next : ℕ → Script) (ended : Script) (P : ℕ → List Call → Type 0) (rests : ℕ) → ((file : ℕ) → Makes (next file) (P file)) → Never ended
    → Makes (opens_within path way (with_open next ended) rests) (IsOpened rests path way P)
unfolding Plays opens_within IsOpened
makes_opened path way next ended P zero makes never = makes_open (Open path way) next ended P makes never
makes_opened path way next ended P (suc rests) makes never = record { calls = λ old new plays. by_answer (makes_opened path way next ended P rests makes never) old new plays.0 plays.1 }
  where
    by_answer : Makes (opens_within path way (with_open next ended) rests) (IsOpened rests path way P) → (old new : List Call) (answer : Answer)
        → Plays (unless_too_many (with_open next ended) (Does Rest (unless_failed (opens_within path way (with_open next ended) rests) fails)) answer) (Some (old ++ answered (Open path way) answer ∷ [])) (Some new) (Some Done)
        → (told : List Call) × (new ≡ old ++ told) × (((file : ℕ) × Then (Open path way) (Opened file) (P file) told)
        ⊎ ((errno : ℕ) × (are_too_many errno ≡ true) × Then (Open path way) (Failed errno) (Then Rest Done (IsOpened rests path way P)) told))
    by_answer deeper old new (Opened file) plays = let made = one_more (Open path way) (Opened file) (P file) old new ((makes file).calls _ new plays) in (made.0, made.1, inl (file, made.2))
    by_answer deeper old new (Failed errno) plays =
        let made = one_more (Open path way) (Failed errno) (λ rest. (are_too_many errno ≡ true) × Then Rest Done (IsOpened rests path way P) rest) old new
        ((makes_test (are_too_many errno) _ ended _ (makes_done Rest _ fails (IsOpened rests path way P) deeper never_fails) never).calls _ new plays) in
        (made.0, made.1, inr (errno, made.2.2.0, (made.2.0, made.2.1, made.2.2.1)))
    by_answer deeper old new Done plays = absurd (never.well _ new plays)
    by_answer deeper old new (Saw seen) plays = absurd (never.well _ new plays)
    by_answer deeper old new (Gave bytes) plays = absurd (never.well _ new plays)
    by_answer deeper old new (Counted count) plays = absurd (never.well _ new plays)

-- the folders
pub makes_synced : (folders : List (List ℕ)) (ended : Script) → Never ended → Makes (syncs folders (Ends (Some Done)) ended) (AreSynced folders)
unfolding syncs
makes_synced [] ended never = makes_none
makes_synced (folder ∷ folders) ended never =
    makes_opened folder Read _ ended (λ file. Then (SyncAll file) Done (AreSynced folders)) 100
    (λ file. makes_done (SyncAll file) _ ended (AreSynced folders) (makes_synced folders ended never) never) never

-- a name that has to be the file's
pub makes_checked : (path : List ℕ) (seen : Seen) (next ended : Script) (P : List Call → Type 0) → Makes next P → Never ended → Makes (checks path seen next ended) (IsItsName path seen P)
unfolding checks
makes_checked path seen next ended P makes never =
    makes_seen (LookAtName path) _ ended (λ there rest. (is_same_file there seen ≡ true) × P rest) (λ there. makes_test (is_same_file there seen) next ended P makes never) never

pub makes_replaced : (part dest : List ℕ) (seen : Seen) (folders : List (List ℕ)) → Makes (replaces part dest seen folders (Ends (Some Done))) (IsReplaced part dest seen folders)
unfolding replaces
makes_replaced part dest seen folders =
    makes_checked part seen _ fails _ (makes_done (Rename part dest) _ fails _
    (makes_checked dest seen _ (takes_back dest) (AreSynced folders) (makes_synced folders fails never_fails) (never_back dest)) never_fails) never_fails

pub makes_settled : (part dest : List ℕ) (seen : Seen) (folders : List (List ℕ)) (ended : Script) → Never ended
    → Makes (settles part dest seen folders (Ends (Some Done)) ended) (IsItsName dest seen (Then (Unlink part) Done (AreSynced folders)))
unfolding settles
makes_settled part dest seen folders ended never =
    makes_checked dest seen _ ended _ (makes_done (Unlink part) _ ended (AreSynced folders) (makes_synced folders ended never) never) never

-- a name that has to be missing
makes_missing : (dest : List ℕ) (next : Script) (P : List Call → Type 0) → Makes next P
    → Makes (Does (LookAtName dest) (if_missing next)) (λ told. (missing : ℕ) × (is_missing missing ≡ true) × Then (LookAtName dest) (Failed missing) P told)
unfolding Plays
makes_missing dest next P makes = record { calls = λ old new plays. by_answer old new plays.0 plays.1 }
  where
    by_answer : (old new : List Call) (answer : Answer) → Plays (if_missing next answer) (Some (old ++ answered (LookAtName dest) answer ∷ [])) (Some new) (Some Done)
        → (told : List Call) × (new ≡ old ++ told) × ((missing : ℕ) × (is_missing missing ≡ true) × Then (LookAtName dest) (Failed missing) P told)
    by_answer old new (Failed errno) plays =
        let made = one_more (LookAtName dest) (Failed errno) (λ rest. (is_missing errno ≡ true) × P rest) old new ((makes_test (is_missing errno) next fails P makes never_fails).calls _ new plays) in
        (made.0, made.1, (errno, made.2.2.0, (made.2.0, made.2.1, made.2.2.1)))
    by_answer old new Done plays = absurd (never_fails.well _ new plays)
    by_answer old new (Opened file) plays = absurd (never_fails.well _ new plays)
    by_answer old new (Saw seen) plays = absurd (never_fails.well _ new plays)
    by_answer old new (Gave bytes) plays = absurd (never_fails.well _ new plays)
    by_answer old new (Counted count) plays = absurd (never_fails.well _ new plays)

pub makes_linked : (file : ℕ) (part dest : List ℕ) (seen : Seen) (folders : List (List ℕ)) → Makes (links part dest seen folders (Ends (Some Done))) (IsPut false file part dest seen folders)
unfolding Plays links
makes_linked file part dest seen folders = record { calls = λ old new plays. by_answer old new plays.0 plays.1 }
  where
    settled : Makes (settles part dest seen folders (Ends (Some Done)) (takes_back dest)) (IsItsName dest seen (Then (Unlink part) Done (AreSynced folders)))
    settled = makes_settled part dest seen folders (takes_back dest) (never_back dest)

    unlinked : Script
    unlinked = Does (LookAtName dest) (if_missing (replaces part dest seen folders (Ends (Some Done))))

    by_answer : (old new : List Call) (answer : Answer)
        → Plays (by_link (settles part dest seen folders (Ends (Some Done)) (takes_back dest)) (Does (LookAtName dest) (if_missing (replaces part dest seen folders (Ends (Some Done))))) answer) (Some (old ++ answered (Link part dest) answer ∷ [])) (Some new) (Some Done)
        → (told : List Call) × (new ≡ old ++ told) × IsPut false file part dest seen folders told
    by_answer old new Done plays =
        let made = one_more (Link part dest) Done (IsItsName dest seen (Then (Unlink part) Done (AreSynced folders))) old new (settled.calls _ new plays) in
        (made.0, made.1, inl made.2)
    by_answer old new (Failed errno) plays =
        let made = one_more (Link part dest) (Failed errno) (λ rest. (lacks_links errno ≡ true)
        × ((missing : ℕ) × (is_missing missing ≡ true) × Then (LookAtName dest) (Failed missing) (IsReplaced part dest seen folders) rest)) old new
        ((makes_test (lacks_links errno) _ fails _ (makes_missing dest _ (IsReplaced part dest seen folders) (makes_replaced part dest seen folders)) never_fails).calls _ new plays) in
        (made.0, made.1, inr (errno, made.2.2.0, (made.2.0, made.2.1, made.2.2.1)))
    by_answer old new (Opened file) plays = absurd (never_fails.well _ new plays)
    by_answer old new (Saw seen) plays = absurd (never_fails.well _ new plays)
    by_answer old new (Gave bytes) plays = absurd (never_fails.well _ new plays)
    by_answer old new (Counted count) plays = absurd (never_fails.well _ new plays)

-- the rights that it gets, where there are some
makes_mode : (file : ℕ) (next : Script) (P : List Call → Type 0) (found : Option ℕ) → Makes next P → Makes (gets_mode file next found) (HasMode file P found)
makes_mode file next P (Some mode) makes = makes_done (SetMode file mode) next fails P makes never_fails
makes_mode file next P None makes = makes

-- a look that has to make something of its answer
makes_value : (asked : Asked) (next : Option ℕ → Script) (made : Answer → Option (Option ℕ)) (P : Option ℕ → List Call → Type 0) → ((found : Option ℕ) → Makes (next found) (P found))
    → Makes (Does asked (λ answer. with_value next fails (made answer))) (λ told. (answer : Answer) × (found : Option ℕ) × (made answer ≡ Some found) × Then asked answer (P found) told)
unfolding Plays
makes_value asked next made P makes = record { calls = λ old new plays. by_made old new plays.0 (made plays.0) refl plays.1 }
  where
    by_made : (old new : List Call) (answer : Answer) (value : Option (Option ℕ)) → made answer ≡ value
        → Plays (with_value next fails value) (Some (old ++ answered asked answer ∷ [])) (Some new) (Some Done)
        → (told : List Call) × (new ≡ old ++ told) × ((answer : Answer) × (found : Option ℕ) × (made answer ≡ Some found) × Then asked answer (P found) told)
    by_made old new answer (Some found) is plays =
        let more = one_more asked answer (P found) old new ((makes found).calls _ new plays) in (more.0, more.1, (answer, found, is, more.2))
    by_made old new answer None is plays = absurd (never_fails.well _ new plays)

-- the rights of what is replaced
makes_kept : (file : ℕ) (dest : List ℕ) (next : Script) (P : List Call → Type 0) → Makes next P → Makes (keeps_mode file dest next) (HasItsMode file dest P)
unfolding keeps_mode sees_mode
makes_kept file dest next P makes = makes_value (LookAtName dest) (gets_mode file next) mode_seen (HasMode file P) (λ found. makes_mode file next P found makes)

put : (overwrite : Bool) (file : ℕ) (part dest : List ℕ) (seen : Seen) (folders : List (List ℕ))
    → Makes (if overwrite then keeps_mode file dest (replaces part dest seen folders (Ends (Some Done))) else links part dest seen folders (Ends (Some Done))) (IsPut overwrite file part dest seen folders)
put true file part dest seen folders = makes_kept file dest _ (IsReplaced part dest seen folders) (makes_replaced part dest seen folders)
put false file part dest seen folders = makes_linked file part dest seen folders

-- a move that succeeded
pub makes_moved : (file : ℕ) (part dest : List ℕ) (folders : List (List ℕ)) (overwrite : Bool) → Makes (moves file part dest folders overwrite (Ends (Some Done))) (IsMoved file part dest folders overwrite)
unfolding moves
makes_moved file part dest folders overwrite =
    makes_done (SyncData file) _ fails _ (makes_seen (LookAtOpen file) _ fails (λ seen. IsPut overwrite file part dest seen folders) (λ seen. put overwrite file part dest seen folders) never_fails) never_fails

-- how the calls grew by it
pub moved_grew : {E : Type 0} (result : Result (Unit {0}) E) (file : ℕ) (part dest : List ℕ) (folders : List (List ℕ)) (overwrite : Bool) (old new : Option (List Call))
    → Plays (moves file part dest folders overwrite (Ends (Some Done))) old new (done_end result) → OnOk result (GrewBy (IsMoved file part dest folders overwrite) old new)
moved_grew (Err error) file part dest folders overwrite old new plays = tt
moved_grew (Ok done) file part dest folders overwrite old new plays = λ before after was is.
    (makes_moved file part dest folders overwrite).calls before after
    (subst (λ l. Plays (moves file part dest folders overwrite (Ends (Some Done))) (Some before) l (Some Done)) is
    (subst (λ l. Plays (moves file part dest folders overwrite (Ends (Some Done))) l new (Some Done)) was plays))
