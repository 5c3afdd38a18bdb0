-- Calls that asked a service: which numbers they ask for, and what a call has that caught up.
use Rattle.std.proofs.Common.{◌≡◌, ◌⊎◌, inl, inr, refl, sym, ◌∙◌, ap, subst, ℕ, ◌+◌, ◌<◌, ◌≤◌, true, Option, Some, None, List, [], ◌∷◌, ◌++◌, length, Ok, Err, arith, length-append}
use Rattle.std.specs.List.{AllByRecursion}
use Rattle.std.proofs.lemmas.List.{length-map}
use Rattle.fts_tables.specs.declared.commands.Entry.{Entry}
use Rattle.fts_record.specs.Spelling.{spelled}
use Rattle.fts_disk.specs.Disk.{DiskState}
use Rattle.fts_journal.specs.Journal.{JournalData}
use Rattle.fts_wire.specs.Outside.{Side}
use Rattle.fts_wire.specs.NextAnswers.{AnswerData}
use Rattle.fts_wire.specs.declared.answers.AnswerFault.TheVariants.{BadResponse, EndsInside, SourceFailed}
use Rattle.fts_client.specs.Links.{LinkData}
use Rattle.fts_client.specs.Tries.{Try, NoLine, NotSent, Sent, answers_of}
use Rattle.fts_standby.specs.Worlds.{Response, Standby, World, Step, Restarts, stepped, reached, started, IsPrefix, IsPrefixWith, spellings, StandbyFollows, TakingIsSteps, Follows}
use Rattle.fts_standby.specs.Hearing.{Gives, NoneThere, heard_of}
use Rattle.fts_standby.specs.Asking.{heard_by, IsAsked, Request}
use Rattle.fts_standby.specs.Following.{Taken, AreTaken, requests_from, HasSameLast, StopsUnsettled, StopsComparing, StopsTaking, Followed}
use Rattle.fts_standby.specs.Reaching.{IsOneOf, ComeFrom, standby_of, LeadsTo, IsReached, GoesOn, Begins}
use Rattle.fts_standby.specs.declared.ends.FollowEnd.{FollowEnd}
use Rattle.fts_standby.specs.declared.ends.FollowEnd.TheVariants as ends
use Rattle.fts_standby.proofs.ReachedWorlds.{last_answer}
use Rattle.fts_standby_laws.specs.Serving.{IsServed, IsAnswered, AreAnswered, AreShort, IsBeginning, AsksService, IsWorldOf, Walks, LeavesBeginning}
use Rattle.fts_standby_laws.proofs.ServedWorlds.{all_made, world_with, steps_to}
use Rattle.fts_standby_laws.proofs.Replies.{IsReadBack, answer_is_one, given_there, none_there, front_short}

-- ---- what was read shows responses that the primary made

all_come : IsReadBack → (early primary : List Entry) (number : ℕ) (answers : List AnswerData) → IsServed primary → number ≤ 4294967295
    → AllByRecursion (IsAnswered early primary number) answers → AllByRecursion (IsOneOf (all_made primary)) answers
all_come read_back early primary number [] served few all = tt
all_come read_back early primary number (answer ∷ answers) served few all =
    (answer_is_one read_back early primary number answer served few all.0, all_come read_back early primary number answers served few all.1)

pub come_from : IsReadBack → (early primary : List Entry) (requests : List Request) → IsServed primary → AreShort requests → AreAnswered early primary requests
    → ComeFrom (all_made primary) requests
come_from read_back early primary [] served short answered = tt
come_from read_back early primary (request ∷ requests) served short answered = (
  all_come read_back early primary request.number (answers_of request.tries) served short.0 answered.0,
  come_from read_back early primary requests served short.1 answered.1,
)

-- the world of a primary and a standby
pub world_of : IsReadBack → TakingIsSteps → (early primary : List Entry) (standby : Standby) (requests : List Request) → IsServed primary → IsBeginning primary standby
    → AreShort requests → AreAnswered early primary requests → IsWorldOf primary standby requests (world_with primary standby)
world_of read_back taking early primary standby requests served begins short answered =
    let way = steps_to primary taking standby.list standby.doubt begins.list begins.doubt in
    record {
      reached = record { primary = []; steps = way.0; is = sym way.1 };
      primary_is = refl;
      standby_is = refl;
      come = come_from read_back early primary requests served short answered;
    }

-- ---- the last answer of a request

-- an entry was given in a request, so the list has one there
given_last : (early primary : List Entry) (number : ℕ) (again : List Try) (last : Try) (entry : List ℕ) → number ≤ 4294967295 → heard_by number last ≡ Gives entry
    → AllByRecursion (IsAnswered early primary number) (answers_of (again ++ last ∷ [])) → number < length primary
given_last early primary number again NoLine entry few is all = absurd (cc)
given_last early primary number again NotSent entry few is all = absurd (cc)
given_last early primary number again (Sent (Err BadResponse)) entry few is all = absurd (cc)
given_last early primary number again (Sent (Err EndsInside)) entry few is all = absurd (cc)
given_last early primary number again (Sent (Err SourceFailed)) entry few is all = absurd (cc)
given_last early primary number again (Sent (Ok answer)) entry few is all =
    let one = last_answer (IsAnswered early primary number) again answer all in
    let below = given_there one.entries number one.reply entry one.is_reply few
    (ap (λ (a : AnswerData). heard_of number a.status a.body) (sym one.shown) ∙ is) in
    let whole = front_short primary one.entries one.begins in omega (arith, below, whole)

given_below : (early primary : List Entry) (number most : ℕ) (tries : List Try) (entry : List ℕ) → number ≤ 4294967295 → IsAsked number most tries (Gives entry)
    → AllByRecursion (IsAnswered early primary number) (answers_of tries) → number < length primary
given_below early primary number most tries entry few asked all =
    given_last early primary number asked.again asked.last entry few asked.heard_is
    (subst (λ l. AllByRecursion (IsAnswered early primary number) (answers_of l)) asked.are all)

-- that there is none was said in a request, so the list had ended before it
none_last : (early primary : List Entry) (number : ℕ) (again : List Try) (last : Try) → number ≤ 4294967295 → heard_by number last ≡ NoneThere
    → AllByRecursion (IsAnswered early primary number) (answers_of (again ++ last ∷ [])) → length early ≤ number
none_last early primary number again NoLine few is all = absurd (cc)
none_last early primary number again NotSent few is all = absurd (cc)
none_last early primary number again (Sent (Err BadResponse)) few is all = absurd (cc)
none_last early primary number again (Sent (Err EndsInside)) few is all = absurd (cc)
none_last early primary number again (Sent (Err SourceFailed)) few is all = absurd (cc)
none_last early primary number again (Sent (Ok answer)) few is all =
    let one = last_answer (IsAnswered early primary number) again answer all in
    let past = none_there one.entries number one.reply one.is_reply few
    (ap (λ (a : AnswerData). heard_of number a.status a.body) (sym one.shown) ∙ is) in
    let whole = front_short one.entries early one.since in omega (arith, past, whole)

none_below : (early primary : List Entry) (number most : ℕ) (tries : List Try) → number ≤ 4294967295 → IsAsked number most tries NoneThere
    → AllByRecursion (IsAnswered early primary number) (answers_of tries) → length early ≤ number
none_below early primary number most tries few asked all =
    none_last early primary number asked.again asked.last few asked.heard_is
    (subst (λ l. AllByRecursion (IsAnswered early primary number) (answers_of l)) asked.are all)

-- ---- the numbers that are asked for

answered_first : (early primary : List Entry) (xs ys : List Request) → AreAnswered early primary (xs ++ ys) → AreAnswered early primary xs
answered_first early primary [] ys all = tt
answered_first early primary (x ∷ xs) ys all = (all.0, answered_first early primary xs ys all.1)

answered_then : (early primary : List Entry) (xs ys : List Request) → AreAnswered early primary (xs ++ ys) → AreAnswered early primary ys
answered_then early primary [] ys all = all
answered_then early primary (x ∷ xs) ys all = answered_then early primary xs ys all.1

short-append : (xs ys : List Request) → AreShort xs → AreShort ys → AreShort (xs ++ ys)
short-append [] ys first second = second
short-append (x ∷ xs) ys first second = (first.0, short-append xs ys first.1 second)

-- from a count that the list has, each number is one that it has, and the one behind them is no further than its end
taken_short : (early primary : List Entry) (most count used : ℕ) (taken : List Taken) → IsServed primary → count ≤ length primary → AreTaken most count used taken
    → AreAnswered early primary (requests_from count taken) → AreShort (requests_from count taken) × (count + length taken ≤ length primary)
taken_short early primary most count used [] served here each all = (tt, omega (arith, here))
taken_short early primary most count used (one ∷ more) served here each all =
    let few : count ≤ 4294967295 = omega (arith, here, served.few) in
    let below = given_below early primary count most one.tries one.entry few each.0 all.0 in
    let behind = taken_short early primary most (count + 1) (used + 5 + length one.entry) more served (omega (arith, below)) each.2 all.1 in
    ((few, behind.0), (let rest = behind.1 in omega (arith, rest)))

same_short : {D : Type 0} (state : D → DiskState) (journal : JournalData D) (most : ℕ) (compared : List Request) → journal.count ≤ 4294967295
    → HasSameLast state journal most compared → AreShort compared
same_short state journal most [] few same = tt
same_short state journal most (request ∷ []) few same = (let last = same.0 in omega (arith, few, last), tt)
same_short state journal most (request ∷ other ∷ others) few same = absurd same

-- ---- lists that begin one list

shorter_first : {A : Type 0} (one other rest behind : List A) → one ++ rest ≡ other ++ behind → length one ≤ length other → IsPrefix one other
shorter_first [] other rest behind is short = record { rest = other; is = refl }
shorter_first (x ∷ one) [] rest behind is short = absurd (omega (arith, short))
shorter_first (x ∷ one) (y ∷ other) rest behind is short =
    let same : x ≡ y = cc in
    let tails : one ++ rest ≡ other ++ behind = cc in
    let inner = shorter_first one other rest behind tails (omega (arith, short)) in
    record { rest = inner.rest; is = ap (λ z. z ∷ other) (sym same) ∙ ap (λ l. x ∷ l) inner.is }

spelled-append : (front rest : List Entry) → spellings (front ++ rest) ≡ spellings front ++ spellings rest
spelled-append [] rest = refl
spelled-append (entry ∷ front) rest = ap (λ l. spelled entry ∷ l) (spelled-append front rest)

none_behind : {A : Type 0} (front rest : List A) → length (front ++ rest) ≤ length front → front ++ rest ≡ front
none_behind [] [] short = refl
none_behind [] (x ∷ rest) short = absurd (omega (arith, short))
none_behind (x ∷ front) rest short = ap (λ l. x ∷ l) (none_behind front rest (omega (arith, short)))

pub both_ways : {A : Type 0} (one other : List A) → IsPrefix one other → IsPrefix other one → one ≡ other
both_ways one other first second =
    let a = ap (λ (l : List _). length l) second.is in
    let b = length-append other second.rest in
    second.is ∙ none_behind other second.rest
    (let c = ap (λ (l : List _). length l) first.is in let d = length-append one first.rest in omega (arith, a, b, c, d))

reached-append : (w : World) (xs ys : List Step) → reached w (xs ++ ys) ≡ reached (reached w xs) ys
reached-append w [] ys = refl
reached-append w (x ∷ xs) ys = reached-append (stepped x w) xs ys

-- what follows by steps of the standby begins the list, also with its doubt
with_doubt : StandbyFollows → (primary : List Entry) (made : List Response) (from : List Entry) (steps : List Step) (list : List (List ℕ)) (doubt : Option (List ℕ))
    → reached (started from) steps ≡ record { primary = primary; made = made; standby = record { list = list; doubt = doubt } } → IsPrefixWith list doubt (spellings primary)
with_doubt follows primary made from steps list None is = tt
with_doubt follows primary made from steps list (Some body) is =
    (subst (λ v. Follows v) (reached-append (started from) steps (Restarts true ∷ []) ∙ ap (stepped (Restarts true)) is) (follows from (steps ++ Restarts true ∷ []))).list

pub standby_begins : StandbyFollows → (primary : List Entry) (made : List Response) (old new : Standby)
    → (reached_old : IsReached (record { primary = primary; made = made; standby = old }))
    → LeadsTo (record { primary = primary; made = made; standby = old }) new → IsBeginning primary new
standby_begins follows primary made old new from leads =
    let steps = from.steps ++ leads.steps in
    let is : reached (started from.primary) steps ≡ record { primary = primary; made = made; standby = new } =
    reached-append (started from.primary) from.steps leads.steps ∙ (ap (λ v. reached v leads.steps) (sym from.is) ∙ leads.reaches) in
    record {
      list = (subst (λ v. Follows v) is (follows from.primary steps)).list;
      doubt = with_doubt follows primary made from.primary steps new.list new.doubt is;
    }

-- ---- a whole call

module _ {D L : Type 0} (state : D → DiskState) (faults : D → ℕ) (read written : Side L) (port most : ℕ) (old new : JournalData D) (link left : LinkData L)
    (broken failed : ℕ) (end : FollowEnd) (early primary : List Entry)
    (followed : Followed state faults read written port most old new link left broken failed end) (asks : AsksService state old early primary followed.requests) where
  own_few : length old.bodies ≤ length primary
  own_few =
      let short = front_short (spellings primary) old.bodies asks.begins.list in let same = length-map primary spelled in omega (arith, short, same)

  count_few : length old.bodies ≡ old.count → old.count ≤ length primary
  count_few same = let few = own_few in omega (arith, few, same)

  small_count : old.count ≤ length primary → old.count ≤ 4294967295
  small_count few = let limit = asks.served.few in omega (arith, few, limit)

  all_short : AreShort followed.requests
  all_short = by_stop followed.stops
    where
      by_stop : StopsUnsettled state old new followed.requests followed.entries followed.lost end
          ⊎ (StopsComparing state most old new followed.requests followed.entries followed.lost end ⊎ StopsTaking state most old new followed.requests followed.entries followed.lost end)
          → AreShort followed.requests
      by_stop (inl stops) = subst AreShort (sym stops.none_asked) tt
      by_stop (inr (inl stops)) =
          let few = small_count (count_few (stops.counted asks.told)) in
          let last = stops.at_last.last in
          subst AreShort (sym stops.at_last.asked) (omega (arith, few, last), tt)
      by_stop (inr (inr stops)) =
          let here = count_few (stops.counted asks.told) in
          let last : Request = record { number = old.count + length stops.taken; tries = stops.tries } in
          let behind = answered_then early primary stops.compared (requests_from old.count stops.taken ++ last ∷ [])
          (subst (λ l. AreAnswered early primary l) stops.asked asks.answered) in
          let takes = taken_short early primary most old.count old.used stops.taken asks.served here stops.each
          (answered_first early primary (requests_from old.count stops.taken) (last ∷ []) behind) in
          subst AreShort (sym stops.asked) (short-append stops.compared (requests_from old.count stops.taken ++ last ∷ [])
          (same_short state old most stops.compared (small_count here) stops.same)
          (short-append (requests_from old.count stops.taken) (last ∷ []) takes.0
          (let within = takes.1 in let limit = asks.served.few in omega (arith, within, limit), tt)))

  -- the world in which it went
  pub world_here : IsReadBack → TakingIsSteps → IsWorldOf primary (standby_of old) followed.requests (world_with primary (standby_of old))
  world_here read_back taking =
      world_of read_back taking early primary (standby_of old) followed.requests asks.served asks.begins all_short asks.answered

  -- the call went by steps in it
  pub walks : IsReadBack → TakingIsSteps → ((w : World) → w.standby ≡ standby_of old → ComeFrom w.made followed.requests → GoesOn state old new w)
      → Walks state old new primary followed.requests
  walks read_back taking steps =
      let here = world_here read_back taking in
      record { world = world_with primary (standby_of old); is_world = here; goes = steps (world_with primary (standby_of old)) refl here.come }

  -- and leaves a beginning
  pub leaves_beginning : IsReadBack → TakingIsSteps → StandbyFollows → ((w : World) → w.standby ≡ standby_of old → ComeFrom w.made followed.requests → GoesOn state old new w)
      → ((w : World) → IsReached w → GoesOn state old new w → Begins state old new w) → LeavesBeginning state old new primary
  leaves_beginning read_back taking follows steps begins =
      let here = world_here read_back taking in
      let goes = steps (world_with primary (standby_of old)) refl here.come in
      record {
        standby = standby_begins follows primary (all_made primary) (standby_of old) (standby_of new) here.reached goes.leads;
        images = (begins (world_with primary (standby_of old)) here.reached goes).images;
      }

-- ---- where it caught up

module _ {D L : Type 0} (state : D → DiskState) (faults : D → ℕ) (read written : Side L) (port most : ℕ) (old new : JournalData D) (link left : LinkData L)
    (broken failed count : ℕ) (early primary : List Entry)
    (followed : Followed state faults read written port most old new link left broken failed (ends.CaughtUp count))
    (asks : AsksService state old early primary followed.requests) where
  -- the service's list had no more entries than there are here
  had_few : length early ≤ length new.bodies
  had_few = by_stop followed.stops
    where
      by_stop : StopsUnsettled state old new followed.requests followed.entries followed.lost (ends.CaughtUp count)
          ⊎ (StopsComparing state most old new followed.requests followed.entries followed.lost (ends.CaughtUp count)
          ⊎ StopsTaking state most old new followed.requests followed.entries followed.lost (ends.CaughtUp count))
          → length early ≤ length new.bodies
      by_stop (inl stops) = absurd (let no = stops.end_is in cc)
      by_stop (inr (inl stops)) = absurd stops.at_last.ends_so
      by_stop (inr (inr stops)) =
          let counted = stops.counted asks.told in
          let here = count_few state faults read written port most old new link left broken failed (ends.CaughtUp count) early primary followed asks counted in
          let last : Request = record { number = old.count + length stops.taken; tries = stops.tries } in
          let behind = answered_then early primary stops.compared (requests_from old.count stops.taken ++ last ∷ [])
          (subst (λ l. AreAnswered early primary l) stops.asked asks.answered) in
          let takes = taken_short early primary most old.count old.used stops.taken asks.served here stops.each
          (answered_first early primary (requests_from old.count stops.taken) (last ∷ []) behind) in
          let within = takes.1 in
          let limit = asks.served.few in
          let past = none_below early primary (old.count + length stops.taken) most stops.tries (omega (arith, within, limit)) stops.ends_so.1
          (answered_then early primary (requests_from old.count stops.taken) (last ∷ []) behind).0 in
          let listed = ap (λ (l : List (List ℕ)). length l) (followed.grows.listed asks.told) in
          let joined = length-append old.bodies followed.entries in
          let entries = ap (λ (l : List (List ℕ)). length l) stops.entries_are in
          let mapped = length-map stops.taken (λ (one : Taken). one.entry) in
          omega (arith, past, counted, listed, joined, entries, mapped)

  pub has_early : IsPrefix new.bodies (spellings primary) → IsPrefix (spellings early) new.bodies
  has_early begins =
      let spelled_many = length-map early spelled in
      let few = had_few in
      shorter_first (spellings early) new.bodies (spellings asks.grew.rest) begins.rest
      (sym (spelled-append early asks.grew.rest) ∙ (ap spellings (sym asks.grew.is) ∙ begins.is)) (omega (arith, few, spelled_many))
