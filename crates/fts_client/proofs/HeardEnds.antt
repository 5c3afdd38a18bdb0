-- What a response is heard as, and how a query's tries end by it.
use Rattle.std.proofs.Common.{◌≡◌, ◌⊎◌, inl, inr, ℕ, Bool, true, false, List, [], ◌∷◌, Option, Some, None, Ok, Err, refl, sym, subst, eqb-true}
use Rattle.std.specs.Prelude.{◌==◌, ◌||◌, if◌then◌else◌}
use Rattle.fts_wire.specs.Outside.{Side}
use Rattle.fts_wire.specs.NextAnswers.{AnswerData, AnswerRoomData}
use Rattle.fts_client.specs.Worlds.{Heard, Done, Refused, CannotServe}
use Rattle.fts_client.specs.Hearing.{done_by, shown_in}
use Rattle.fts_client.specs.Links.{LinkData}
use Rattle.fts_client.specs.Tries.{Try, NoLine, NotSent, Sent, AreTried}
use Rattle.fts_client.specs.Ends.{says_to_submission, says_to_query, Says, HasStatus, EndsWith, IsEnd, IsQueryEnd, Repeated, SaysSo, end_by}
use Rattle.fts_client.specs.declared.ends.SubmitEnd.{SubmitEnd}
use Rattle.fts_client.specs.declared.ends.SubmitEnd.TheVariants.{Done as SubmitDone, Memory as SubmitMemory}
use Rattle.fts_client.specs.declared.ends.QueryEnd.TheVariants.{Found}

-- a response that is heard as the job that its body names, or as none
pub heard_named : (answer : AnswerData) (again : Bool) (named : Option ℕ) (end : SubmitEnd) → says_to_submission answer ≡ done_by named again
    → (end ≡ end_by named again) ⊎ (end ≡ SubmitMemory) → SaysSo says_to_submission (Sent (Ok answer)) end
heard_named answer again (Some job) end heard (inl is) = subst (λ one. SaysSo says_to_submission (Sent (Ok answer)) one) (sym is) heard
heard_named answer again None end heard (inl is) = subst (λ one. SaysSo says_to_submission (Sent (Ok answer)) one) (sym is) heard
heard_named answer again named end heard (inr is) = subst (λ one. SaysSo says_to_submission (Sent (Ok answer)) one) (sym is) tt

-- only 200 shows a job
shown_by_200 : (status job : ℕ) (again : Bool) → shown_in status ≡ Done job again → status ≡ 200
shown_by_200 status job again shown = by_test (status == 200) refl shown
  where
    by_failure : (is_failure : Bool) → (if is_failure then CannotServe status else Refused status) ≡ Done job again → status ≡ 200
    by_failure true is = absurd (cc)
    by_failure false is = absurd (cc)

    by_test : (is_shown : Bool) → (status == 200) ≡ is_shown
        → (if is_shown then Done 0 false else if (status == 500) || (status == 503) then CannotServe status else Refused status) ≡ Done job again
        → status ≡ 200
    by_test true is found = eqb-true status 200 is
    by_test false is found = by_failure ((status == 500) || (status == 503)) found

found_by_200 : (try : Try) (job : ℕ) (again : Bool) → Says says_to_query (Done job again) try → HasStatus 200 try
found_by_200 NoLine job again says = absurd (cc)
found_by_200 NotSent job again says = absurd (cc)
found_by_200 (Sent (Ok answer)) job again says = shown_by_200 answer.status job again says
found_by_200 (Sent (Err fault)) job again says = absurd (cc)

ends_so : (says : AnswerData → Heard) (One Other : Try → Type 0) → ((try : Try) → One try → Other try) → (tries : List Try)
    → EndsWith says One tries → EndsWith says Other tries
ends_so says One Other so [] ends = absurd ends
ends_so says One Other so (try ∷ []) ends = so try ends
ends_so says One Other so (try ∷ next ∷ tries) ends = (ends.0, ends_so says One Other so (next ∷ tries) ends.1)

-- tries of a query that are done have found the job
pub found_so : (most : ℕ) (tries : List Try) (job : ℕ) (again : Bool) → IsEnd says_to_query most tries (SubmitDone job again) → IsQueryEnd most tries Found
found_so most tries job again ends =
    (ends_so says_to_query (Says says_to_query (Done job again)) (HasStatus 200) (λ try says. found_by_200 try job again says) tries ends.0, ends.1)

-- the same tries with the same bytes, which end so by other words
pub repeated_so : {L : Type 0} (read written : Side L) (port : ℕ) (request other : List ℕ) (One Other : List Try → Type 0) (old new : LinkData L) (faults_old faults_new : ℕ)
    (room_old room_new : AnswerRoomData) → request ≡ other → ((tries : List Try) → One tries → Other tries)
    → Repeated read written port request One old new faults_old faults_new room_old room_new
    → Repeated read written port other Other old new faults_old faults_new room_old room_new
repeated_so read written port request other One Other old new faults_old faults_new room_old room_new same so one = record {
  tries = one.tries;
  tried = subst (λ bytes. AreTried read written port bytes old new faults_old faults_new one.tries) same one.tried;
  ends = so one.tries one.ends;
  room = one.room;
}
