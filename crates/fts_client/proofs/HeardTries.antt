-- What the tries of a submission tell, where the last of them names a job.
use Rattle.std.proofs.Common.{◌≡◌, ℕ, Bool, true, List, [], ◌∷◌, map, Some, None, Ok, Err, refl, ap, sym, ◌∙◌, true≢false}
use Rattle.fts_client.specs.Worlds.{Heard, Done, Refused, CannotServe, NoAnswer, told_more, told_all}
use Rattle.fts_client.specs.Tries.{Try, NoLine, NotSent, Sent, answers_of}
use Rattle.fts_client.specs.Ends.{says_to_submission, Says, goes_on, EndsWith}

-- a client goes on only where it knows of no job
goes_untold : (heard : Heard) → goes_on heard ≡ true → told_more None heard ≡ None
goes_untold (Done job again) is = absurd (true≢false (sym is))
goes_untold (Refused status) is = refl
goes_untold (CannotServe status) is = refl
goes_untold NoAnswer is = refl

-- tries of which the last names a job tell of that one
pub tries_tell : (tries : List Try) (job : ℕ) (again : Bool) → EndsWith says_to_submission (Says says_to_submission (Done job again)) tries
    → told_all None (map says_to_submission (answers_of tries)) ≡ Some job
tries_tell [] job again ends = absurd ends
tries_tell (NoLine ∷ []) job again ends = by_heard ends
  where
    by_heard : NoAnswer ≡ Done job again → None ≡ Some job
    by_heard is = ap (told_more None) is
tries_tell (NotSent ∷ []) job again ends = ap (told_more None) ends
tries_tell (Sent (Ok answer) ∷ []) job again ends = ap (told_more None) ends
tries_tell (Sent (Err fault) ∷ []) job again ends = ap (told_more None) ends
tries_tell (NoLine ∷ next ∷ more) job again ends = tries_tell (next ∷ more) job again ends.1
tries_tell (NotSent ∷ next ∷ more) job again ends = tries_tell (next ∷ more) job again ends.1
tries_tell (Sent (Ok answer) ∷ next ∷ more) job again ends =
    ap (λ done. told_all done (map says_to_submission (answers_of (next ∷ more)))) (goes_untold (says_to_submission answer) ends.0)
    ∙ tries_tell (next ∷ more) job again ends.1
tries_tell (Sent (Err fault) ∷ next ∷ more) job again ends = tries_tell (next ∷ more) job again ends.1
