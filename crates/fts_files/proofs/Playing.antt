-- A script that is played goes on call by call, and what it leads to at last is where it leads from the start.
use Rattle.std.proofs.Common.{◌≡◌, ℕ, Bool, true, false, Option, Some, None, Result, Ok, Err, IsErr, List, refl, subst}
use Rattle.std.specs.Prelude.{if◌then◌else◌}
use Rattle.fts_files.specs.declared.errno.Refused.{Refused}
use Rattle.fts_files.specs.declared.files.Seen.{Seen}
use Rattle.fts_files.specs.Calls.{Call, Asked, Answer, Done, with_call, done_of, opened_of, saw_of}
use Rattle.fts_files.specs.Script.{Script, Ends, Does, Plays, LeadsTo, fails, either, done_end, unless_failed, with_open, with_seen}

-- where nothing was done
pub leads_same : (script : Script) (log : Option (List Call)) → LeadsTo script log script log
leads_same script log = record { onward = λ last ended plays. plays }

-- one step, and those behind it
pub then_leads : {one two three : Script} {a b c : Option (List Call)} → LeadsTo one a two b → LeadsTo two b three c → LeadsTo one a three c
then_leads first second = record { onward = λ last ended plays. first.onward last ended (second.onward last ended plays) }

-- a script that led to its end was played
pub ended_plays : (script : Script) (old new : Option (List Call)) (end : Option Answer) → LeadsTo script old (Ends end) new → Plays script old new end
unfolding Plays
ended_plays script old new end leads = leads.onward new end (refl, refl)

-- a call was made, and answered
pub does_leads : (asked : Asked) (next : Answer → Script) (old new : Option (List Call)) (answer : Answer) → new ≡ with_call old asked answer
    → LeadsTo (Does asked next) old (next answer) new
unfolding Plays
does_leads asked next old new answer is = record { onward = λ last ended plays. (answer, subst (λ log. Plays (next answer) log last ended) is plays) }

-- one that gives nothing
pub done_leads : (asked : Asked) (next ended : Script) (old new : Option (List Call)) (result : Result (Unit {0}) Refused) → new ≡ with_call old asked (done_of result)
    → LeadsTo (Does asked (unless_failed next ended)) old (either (λ done. next) ended result) new
done_leads asked next ended old new (Ok done) is = does_leads asked (unless_failed next ended) old new _ is
done_leads asked next ended old new (Err refused) is = does_leads asked (unless_failed next ended) old new _ is

-- one that opens
pub open_leads : {H : Type 0} (number : H → ℕ) (asked : Asked) (next : ℕ → Script) (ended : Script) (old new : Option (List Call)) (result : Result H Refused)
    → new ≡ with_call old asked (opened_of number result)
    → LeadsTo (Does asked (with_open next ended)) old (either (λ file. next (number file)) ended result) new
open_leads number asked next ended old new (Ok file) is = does_leads asked (with_open next ended) old new _ is
open_leads number asked next ended old new (Err refused) is = does_leads asked (with_open next ended) old new _ is

-- one that looks
pub seen_leads : (asked : Asked) (next : Seen → Script) (ended : Script) (old new : Option (List Call)) (result : Result Seen Refused) → new ≡ with_call old asked (saw_of result)
    → LeadsTo (Does asked (with_seen next ended)) old (either next ended result) new
seen_leads asked next ended old new (Ok seen) is = does_leads asked (with_seen next ended) old new _ is
seen_leads asked next ended old new (Err refused) is = does_leads asked (with_seen next ended) old new _ is

-- where the whole has failed, by whatever error
pub failed : {T E : Type 0} {one : Script} {a c : Option (List Call)} (next : T → Script) (ended : Script) (result : Result T E)
    → LeadsTo one a ended c → IsErr result → LeadsTo one a (either next ended result) c
failed next ended (Ok value) leads is = cc
failed next ended (Err error) leads is = leads

-- how a script ended that gives nothing
pub plays_done : {E : Type 0} (script : Script) (old new : Option (List Call)) (result : Result (Unit {0}) E) → LeadsTo script old (either (λ done. Ends (Some Done)) fails result) new
    → Plays script old new (done_end result)
plays_done script old new (Ok done) leads = ended_plays script old new (Some Done) leads
plays_done script old new (Err error) leads = ended_plays script old new None leads

pub plays_failed : {E : Type 0} (script : Script) (old new : Option (List Call)) (result : Result (Unit {0}) E) → LeadsTo script old fails new → IsErr result → Plays script old new (done_end result)
plays_failed script old new (Ok done) leads is = cc
plays_failed script old new (Err error) leads is = ended_plays script old new None leads

-- a script that is the same by an equation
pub same_leads : (one two : Script) (log : Option (List Call)) → one ≡ two → LeadsTo one log two log
same_leads one two log is = subst (λ s. LeadsTo one log s log) is (leads_same one log)

-- a test that holds, and one that doesn't
pub chosen : (b : Bool) (one other : Script) (log : Option (List Call)) → b ≡ true → LeadsTo (if b then one else other) log one log
chosen true one other log is = leads_same one log
chosen false one other log is = cc

pub left : (b : Bool) (one other : Script) (log : Option (List Call)) → b ≡ false → LeadsTo (if b then one else other) log other log
left true one other log is = cc
left false one other log is = leads_same other log
