-- What following takes is carried by responses that were made, and taking it goes by steps of the standby alone.
use Rattle.std.proofs.Common.{◌≡◌, ◌≢◌, ◌⊎◌, inl, inr, refl, sym, ◌∙◌, ap, subst, ℕ, ◌+◌, ◌==◌, ◌||◌, ◌&&◌, Bool, true, false, if◌then◌else◌, Option, Some, None, List, [], ◌∷◌, ◌++◌, length, length-append, Ok, Err, arith, eq-eqb}
use Rattle.std.specs.Prelude.{option_to_list, slice_get}
use Rattle.std.specs.List.{AllByRecursion}
use Rattle.std.proofs.lemmas.Bool.{eqb-true}
use Rattle.std.proofs.lemmas.List.{append-nil, length-map}
use Rattle.fts_disk.specs.Disk.{DiskState, IsTold}
use Rattle.fts_journal.specs.Journal.{JournalData}
use Rattle.fts_wire.specs.Outside.{Side}
use Rattle.fts_wire.specs.NextAnswers.{AnswerData}
use Rattle.fts_client.specs.Links.{LinkData}
use Rattle.fts_client.specs.Tries.{Try, NoLine, NotSent, Sent, answers_of}
use Rattle.fts_wire.specs.declared.answers.AnswerFault.TheVariants.{BadResponse, EndsInside, SourceFailed}
use Rattle.fts_standby.specs.Worlds.{Response, Gives, Refuses, Doubted, Standby, World, Step, Hands, Settles, stepped, reached, with_fate, handed, started, Follows, IsCarried, AreCarried}
use Rattle.fts_standby.specs.Entries.{entry_in, says_no_entry}
use Rattle.fts_standby.specs.Hearing.{Gives as HeardGives, NoneThere, Refuses as HeardRefuses, CannotServe, gives, heard_of}
use Rattle.fts_standby.specs.Asking.{heard_by, IsAsked, Request}
use Rattle.fts_standby.specs.Following.{IsMoment, DoubtsAtMost, used_after, Taken, entries_of, AreTaken, requests_from, EndsTaking, StopsUnsettled, StopsComparing, StopsTaking, Followed}
use Rattle.fts_standby.specs.Reaching.{Shows, IsOneOf, ComeFrom, standby_of, LeadsTo, IsOnTheWay, GoesOn, Begins, IsReached}
use Rattle.fts_standby.specs.declared.ends.FollowEnd.{FollowEnd}
use Rattle.fts_standby.specs.declared.ends.FollowEnd.TheVariants as ends
use Rattle.fts_standby.proofs.Prefixes.{follows_always}
use Rattle.fts_standby.proofs.Showing.{shown_is_read}
use Rattle.fts_standby.proofs.Taking.{taking_is_steps}

-- ---- what was given is carried

-- an answer that gives an entry is a 200 in whose body it stands
found_is : (found : Option (List ℕ)) (entry : List ℕ) → gives found ≡ HeardGives entry → found ≡ Some entry
found_is (Some body) entry is = let same : body ≡ entry = cc in ap Some same
found_is None entry is = absurd (cc)

not_refused : (none : Bool) (status : ℕ) (entry : List ℕ) → (if none then NoneThere else HeardRefuses status) ≡ HeardGives entry → ⊥
not_refused true status entry is = cc
not_refused false status entry is = cc

not_failed : (failed none : Bool) (status : ℕ) (entry : List ℕ) → (if failed then CannotServe status else if none then NoneThere else HeardRefuses status) ≡ HeardGives entry → ⊥
not_failed true none status entry is = cc
not_failed false none status entry is = not_refused none status entry is

by_status : (ok : Bool) (number status : ℕ) (body entry : List ℕ)
    → (if ok then gives (entry_in number body)
    else if (status == 500) || (status == 503) then CannotServe status else if (status == 404) && says_no_entry body then NoneThere else HeardRefuses status) ≡ HeardGives entry
    → (ok ≡ true) × (entry_in number body ≡ Some entry)
by_status true number status body entry is = (refl, found_is (entry_in number body) entry is)
by_status false number status body entry is =
    absurd (not_failed ((status == 500) || (status == 503)) ((status == 404) && says_no_entry body) status entry is)

pub gives_by_200 : (number status : ℕ) (body entry : List ℕ) → heard_of number status body ≡ HeardGives entry
    → (status ≡ 200) × (entry_in number body ≡ Some entry)
gives_by_200 number status body entry is =
    let both = by_status (status == 200) number status body entry is in (eqb-true status 200 both.0, both.1)

-- a try that gave an entry read such an answer
pub record IsGivenBy (number : ℕ) (try : Try) (entry : List ℕ) : Type 0 where
  pub answer : AnswerData
  pub is : try ≡ Sent (Ok answer)
  pub status : answer.status ≡ 200
  pub shown : entry_in number answer.body ≡ Some entry

pub given_by : (number : ℕ) (try : Try) (entry : List ℕ) → heard_by number try ≡ HeardGives entry → IsGivenBy number try entry
given_by number NoLine entry is = absurd (cc)
given_by number NotSent entry is = absurd (cc)
given_by number (Sent (Ok answer)) entry is =
    let both = gives_by_200 number answer.status answer.body entry is in record { answer = answer; is = refl; status = both.0; shown = both.1 }
given_by number (Sent (Err BadResponse)) entry is = absurd (cc)
given_by number (Sent (Err EndsInside)) entry is = absurd (cc)
given_by number (Sent (Err SourceFailed)) entry is = absurd (cc)

-- what holds of each answer holds of the last one
pub last_answer : (P : AnswerData → Type 0) (again : List Try) (answer : AnswerData) → AllByRecursion P (answers_of (again ++ Sent (Ok answer) ∷ [])) → P answer
last_answer P [] answer all = all.0
last_answer P (NoLine ∷ again) answer all = last_answer P again answer all
last_answer P (NotSent ∷ again) answer all = last_answer P again answer all
last_answer P (Sent (Ok other) ∷ again) answer all = last_answer P again answer all.1
last_answer P (Sent (Err fault) ∷ again) answer all = last_answer P again answer all

-- a response that such an answer shows carries the entry
shown_carries : (made : List Response) (number : ℕ) (entry : List ℕ) (answer : AnswerData) (place : ℕ) (response : Response) → slice_get made place ≡ Some response
    → Shows response answer → answer.status ≡ 200 → entry_in number answer.body ≡ Some entry → IsCarried made number entry
shown_carries made number entry answer place (Gives other body count) at shows ok shown =
    let same = (shown_is_read answer.body body shows.entry count other number shows.utf8 shows.reads shows.bytes shows.is_entry).other entry shown in
    record { place = place; count = count; is = at ∙ (ap (λ n. Some (Gives n body count)) (sym same.0) ∙ ap (λ b. Some (Gives number b count)) (sym same.1)) }
shown_carries made number entry answer place (Refuses status) at shows ok shown = absurd (shows.1 (sym shows.0 ∙ ok))

carried : (made : List Response) (number most : ℕ) (tries : List Try) (entry : List ℕ) → IsAsked number most tries (HeardGives entry)
    → AllByRecursion (IsOneOf made) (answers_of tries) → IsCarried made number entry
carried made number most tries entry asked all =
    let by = given_by number asked.last entry asked.heard_is in
    let one = last_answer (IsOneOf made) asked.again by.answer
    (subst (λ l. AllByRecursion (IsOneOf made) (answers_of l)) (asked.are ∙ ap (λ t. asked.again ++ t ∷ []) by.is) all) in
    shown_carries made number entry by.answer one.place one.response one.at one.shows by.status by.shown

-- so are all that were taken
all_carried : (made : List Response) (most count used : ℕ) (taken : List Taken) → AreTaken most count used taken → ComeFrom made (requests_from count taken)
    → AreCarried made count (entries_of taken)
all_carried made most count used [] each come = tt
all_carried made most count used (one ∷ more) each come =
    (carried made count most one.tries one.entry each.0 come.0, all_carried made most (count + 1) (used + 5 + length one.entry) more each.2 come.1)

come_first : (made : List Response) (xs ys : List Request) → ComeFrom made (xs ++ ys) → ComeFrom made xs
come_first made [] ys come = tt
come_first made (x ∷ xs) ys come = (come.0, come_first made xs ys come.1)

come_then : (made : List Response) (xs ys : List Request) → ComeFrom made (xs ++ ys) → ComeFrom made ys
come_then made [] ys come = come
come_then made (x ∷ xs) ys come = come_then made xs ys come.1

-- a beginning of what is carried, and one more behind it
carried_first : (made : List Response) (count : ℕ) (xs ys : List (List ℕ)) → AreCarried made count (xs ++ ys) → AreCarried made count xs
carried_first made count [] ys all = tt
carried_first made count (x ∷ xs) ys all = (all.0, carried_first made (count + 1) xs ys all.1)

carried_more : (made : List Response) (count : ℕ) (xs : List (List ℕ)) (lost : Option (List ℕ)) → AreCarried made count xs
    → ((entry : List ℕ) → lost ≡ Some entry → IsCarried made (count + length xs) entry) → AreCarried made count (xs ++ option_to_list lost)
carried_more made count [] None all one = tt
carried_more made count [] (Some entry) all one =
    (subst (λ n. IsCarried made n entry) (let same : count + 0 ≡ count = omega arith in same) (one entry refl), tt)
carried_more made count (x ∷ xs) lost all one = (
  all.0,
  carried_more made (count + 1) xs lost all.1
      (λ entry is. subst (λ n. IsCarried made n entry) (let same : count + length (x ∷ xs) ≡ count + 1 + length xs = omega arith in same) (one entry is)),
)

-- ---- steps

reached-append : (w : World) (xs ys : List Step) → reached w (xs ++ ys) ≡ reached (reached w xs) ys
reached-append w [] ys = refl
reached-append w (x ∷ xs) ys = reached-append (stepped x w) xs ys

module _ (w : World) (list : List (List ℕ)) (doubt : Option (List ℕ)) (is : w.standby ≡ record { list = list; doubt = doubt }) where
  list_is : w.standby.list ≡ list
  list_is = ap (λ (standby : Standby). standby.list) is

  -- nothing happens
  stays : LeadsTo w (record { list = list; doubt = doubt })
  stays = record { steps = []; reaches = ap (λ standby. record w { standby = standby }) is }

  -- a doubt ends, and then bodies are taken
  takes : (bodies : List (List ℕ)) → AreCarried w.made (length list) bodies → LeadsTo w (record { list = list ++ bodies; doubt = None })
  takes bodies all =
      let next : World = record w { standby = record { list = w.standby.list; doubt = None } } in
      let goes = taking_is_steps next bodies refl (subst (λ l. AreCarried w.made (length l) bodies) (sym list_is) all) in
      record {
        steps = Settles ∷ goes.steps;
        reaches = goes.reaches ∙ ap (λ l. record w { standby = record { list = l ++ bodies; doubt = None } }) list_is;
      }

  -- and one more comes in doubt
  doubts : (bodies : List (List ℕ)) (body : List ℕ) → AreCarried w.made (length list) bodies → IsCarried w.made (length (list ++ bodies)) body
      → LeadsTo w (record { list = list ++ bodies; doubt = Some body })
  doubts bodies body all one =
      let first = takes bodies all in
      let behind : World = record w { standby = record { list = list ++ bodies; doubt = None } } in
      let step = Hands one.place true Doubted in
      record {
        steps = first.steps ++ step ∷ [];
        reaches = reached-append w first.steps (step ∷ []) ∙ (ap (λ v. stepped step v) first.reaches
            ∙ ap (λ standby. record w { standby = standby })
            (ap (λ response. handed Doubted true response behind.standby) one.is
            ∙ ap (λ b. if b then with_fate Doubted body behind.standby else behind.standby) (eq-eqb (length (list ++ bodies)) (length (list ++ bodies)) refl)));
      }

  -- each image of a moment is one on the way
  on_the_way : (came : List (List ℕ)) → AreCarried w.made (length list) came → (content : List ℕ) → IsMoment list doubt came content → IsOnTheWay w content
  on_the_way came all content (inl image) = record { standby = record { list = list; doubt = doubt }; leads = stays; image = image }
  on_the_way came all content (inr with) = record {
    standby = record { list = list ++ with.since; doubt = None };
    leads = takes with.since (carried_first w.made (length list) with.since with.later (subst (λ l. AreCarried w.made (length list) l) with.parts all));
    image = with.stands;
  }

-- what is lost isn't none
none_lost : (lost : Option (List ℕ)) (entry : List ℕ) → lost ≡ Some entry → lost ≡ None → ⊥
none_lost lost entry some none = let no : Some entry ≡ None = sym some ∙ none in cc

-- ---- a whole call

module _ {D L : Type 0} (state : D → DiskState) (faults : D → ℕ) (read written : Side L) (port most : ℕ) (old new : JournalData D) (link left : LinkData L) (broken failed : ℕ)
    (end : FollowEnd) (followed : Followed state faults read written port most old new link left broken failed end) (told : IsTold (state old.disk))
    (w : World) (is : w.standby ≡ standby_of old) (come : ComeFrom w.made followed.requests) where
  -- the list of the journal afterwards
  bodies_are : new.bodies ≡ old.bodies ++ followed.entries
  bodies_are = followed.grows.listed told

  goes_by : (came : List (List ℕ)) → came ≡ followed.entries ++ option_to_list followed.lost → AreCarried w.made (length old.bodies) came → LeadsTo w (standby_of new)
      → GoesOn state old new w
  goes_by came same all leads = record {
    leads = leads;
    moments = λ content there. on_the_way w old.bodies old.doubt is came all content
        (subst (λ l. IsMoment old.bodies old.doubt l content) (sym same) ((followed.grows.moments told).each content there));
  }

  -- a standby with this list
  leads_so : (entries : List (List ℕ)) (doubt : Option (List ℕ)) → followed.entries ≡ entries → new.doubt ≡ doubt
      → LeadsTo w (record { list = old.bodies ++ entries; doubt = doubt }) → LeadsTo w (standby_of new)
  leads_so entries doubt are doubted leads =
      let same : standby_of new ≡ record { list = old.bodies ++ entries; doubt = doubt } =
      λ i. record { list = (bodies_are ∙ ap (λ l. old.bodies ++ l) are) i; doubt = doubted i } in
      subst (λ standby. LeadsTo w standby) (sym same) leads

  told_new : IsTold (state new.disk)
  told_new = followed.grows.told ∙ told

  unsettled : StopsUnsettled state old new followed.requests followed.entries followed.lost end → GoesOn state old new w
  unsettled stops = goes_by [] (sym (ap (λ l. l ++ option_to_list followed.lost) stops.none_taken ∙ ap option_to_list stops.none_lost)) tt
      (leads_so [] old.doubt stops.none_taken (stops.doubt told)
      (subst (λ l. LeadsTo w (record { list = l; doubt = old.doubt })) (sym (append-nil old.bodies)) (stays w old.bodies old.doubt is)))

  comparing : StopsComparing state most old new followed.requests followed.entries followed.lost end → GoesOn state old new w
  comparing stops = goes_by [] (sym (ap (λ l. l ++ option_to_list followed.lost) stops.none_taken ∙ ap option_to_list stops.none_lost)) tt
      (leads_so [] None stops.none_taken (stops.sure.none told_new) (takes w old.bodies old.doubt is [] tt))

  -- the entry whose append failed is carried too
  lost_carried : (number used : ℕ) (tries : List Try) (lost : Option (List ℕ)) (how : FollowEnd) → EndsTaking number used most tries lost how
      → (how ≢ ends.DiskFailed → lost ≡ None) → AllByRecursion (IsOneOf w.made) (answers_of tries) → (entry : List ℕ) → lost ≡ Some entry
      → IsCarried w.made number entry
  lost_carried number used tries lost ends.DiskFailed is_lost whole all entry same =
      let one : is_lost.entry ≡ entry = (let both : Some is_lost.entry ≡ Some entry = sym is_lost.lost_is ∙ same in cc) in
      subst (λ e. IsCarried w.made number e) one (carried w.made number most tries is_lost.entry is_lost.given all)
  lost_carried number used tries lost (ends.CaughtUp count) ends_so whole all entry same =
      absurd (none_lost lost entry same (whole (λ no. cc)))
  lost_carried number used tries lost (ends.Diverged at) ends_so whole all entry same = absurd ends_so
  lost_carried number used tries lost (ends.Refused status) ends_so whole all entry same =
      absurd (none_lost lost entry same (whole (λ no. cc)))
  lost_carried number used tries lost (ends.CannotServe status) ends_so whole all entry same =
      absurd (none_lost lost entry same (whole (λ no. cc)))
  lost_carried number used tries lost ends.NoAnswer ends_so whole all entry same =
      absurd (none_lost lost entry same (whole (λ no. cc)))
  lost_carried number used tries lost ends.LinkFailed ends_so whole all entry same =
      absurd (none_lost lost entry same (whole (λ no. cc)))
  lost_carried number used tries lost (ends.JournalFull at) ends_so whole all entry same =
      absurd (none_lost lost entry same (whole (λ no. cc)))
  lost_carried number used tries lost ends.Memory ends_so whole all entry same =
      absurd (none_lost lost entry same (whole (λ no. cc)))

  module _ (stops : StopsTaking state most old new followed.requests followed.entries followed.lost end) where
    last_request : Request
    last_request = record { number = old.count + length stops.taken; tries = stops.tries }

    come_taking : ComeFrom w.made (requests_from old.count stops.taken ++ last_request ∷ [])
    unfolding last_request
    come_taking = come_then w.made stops.compared (requests_from old.count stops.taken ++ last_request ∷ [])
        (subst (λ requests. ComeFrom w.made requests) stops.asked come)

    count_is : length old.bodies ≡ old.count
    count_is = stops.counted told

    taken_carried : AreCarried w.made (length old.bodies) followed.entries
    taken_carried = subst (λ n. AreCarried w.made n followed.entries) (sym count_is)
        (subst (λ entries. AreCarried w.made old.count entries) (sym stops.entries_are)
        (all_carried w.made most old.count old.used stops.taken stops.each
        (come_first w.made (requests_from old.count stops.taken) (last_request ∷ []) come_taking)))

    -- how many entries there are then
    number_is : old.count + length stops.taken ≡ length old.bodies + length followed.entries
    number_is =
        let entries = ap (λ (l : List (List ℕ)). length l) stops.entries_are in
        let mapped = length-map stops.taken (λ (one : Taken). one.entry) in
        omega (arith, entries, mapped, count_is)

    last_carried : (entry : List ℕ) → followed.lost ≡ Some entry → IsCarried w.made (length old.bodies + length followed.entries) entry
    unfolding last_request
    last_carried entry same = subst (λ n. IsCarried w.made n entry) number_is
        (lost_carried (old.count + length stops.taken) (used_after old.used followed.entries) stops.tries followed.lost end stops.ends_so stops.whole
        (come_then w.made (requests_from old.count stops.taken) (last_request ∷ []) come_taking).0 entry same)

    doubted : (lost : Option (List ℕ)) → followed.lost ≡ lost → DoubtsAtMost state new lost → LeadsTo w (standby_of new)
    doubted None same sure = leads_so followed.entries None refl (sure.none told_new) (takes w old.bodies old.doubt is followed.entries taken_carried)
    doubted (Some entry) same (inl sure) =
        leads_so followed.entries None refl (sure.none told_new) (takes w old.bodies old.doubt is followed.entries taken_carried)
    doubted (Some entry) same (inr unsure) = leads_so followed.entries (Some entry) refl (unsure.one told_new)
        (doubts w old.bodies old.doubt is followed.entries entry taken_carried
        (subst (λ n. IsCarried w.made n entry) (let longer = length-append old.bodies followed.entries in omega (arith, longer)) (last_carried entry same)))

    taking : GoesOn state old new w
    taking = goes_by (followed.entries ++ option_to_list followed.lost) refl
        (carried_more w.made (length old.bodies) followed.entries followed.lost taken_carried last_carried) (doubted followed.lost refl stops.doubt)

  -- a call goes by steps of the standby alone
  pub goes_on : GoesOn state old new w
  goes_on = by_stop followed.stops
    where
      by_stop : StopsUnsettled state old new followed.requests followed.entries followed.lost end
          ⊎ (StopsComparing state most old new followed.requests followed.entries followed.lost end ⊎ StopsTaking state most old new followed.requests followed.entries followed.lost end)
          → GoesOn state old new w
      by_stop (inl stops) = unsettled stops
      by_stop (inr (inl stops)) = comparing stops
      by_stop (inr (inr stops)) = taking stops

-- what a standby came to by steps of its own begins the primary's list, where the world had come of an empty standby
led_begins : (w : World) → IsReached w → (standby : Standby) → (leads : LeadsTo w standby) → Follows (record w { standby = standby })
led_begins w from standby leads =
    subst (λ v. Follows v)
    (reached-append (started from.primary) from.steps leads.steps ∙ (ap (λ v. reached v leads.steps) (sym from.is) ∙ leads.reaches))
    (follows_always from.primary (from.steps ++ leads.steps))

pub begins : {D : Type 0} (state : D → DiskState) (old new : JournalData D) (w : World) → IsReached w → GoesOn state old new w → Begins state old new w
begins state old new w from goes = record {
  list = (led_begins w from (standby_of new) goes.leads).list;
  images = λ content there.
      let way = goes.moments content there in
      (led_begins w from way.standby way.leads).images content way.image;
}
