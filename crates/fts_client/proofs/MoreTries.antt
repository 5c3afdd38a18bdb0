-- One try more behind those so far.
use Rattle.std.proofs.Common.{◌≡◌, ℕ, ◌+◌, ◌≤◌, true, false, List, [], ◌∷◌, ◌++◌, length, Ok, Err, refl, ap, sym, ◌∙◌, arith, true≢false, length-append}
use Rattle.std.specs.List.{AllByRecursion}
use Rattle.fts_wire.specs.Outside.{Side}
use Rattle.fts_wire.specs.NextAnswers.{AnswerData, AnswerRoomData, held_behind}
use Rattle.fts_client.specs.Worlds.{Heard, NoAnswer}
use Rattle.fts_client.specs.Links.{LinkData}
use Rattle.fts_client.specs.Tries.{Try, NoLine, NotSent, Sent, IsByLink, IsTried, AreTried}
use Rattle.fts_client.specs.Ends.{said_in, goes_on, EndsWith, GoOn, SaysNothing, SaysSo, is_last, IsEnd, Repeated, room_behind}
use Rattle.fts_client.specs.declared.ends.SubmitEnd.{SubmitEnd}
use Rattle.fts_client.specs.declared.ends.SubmitEnd.TheVariants.{Done as SubmitDone, Refused as SubmitRefused, LinkFailed as SubmitLinkFailed, CannotServe as SubmitCannotServe, NoAnswer as SubmitNoAnswer, Memory as SubmitMemory}
use Rattle.fts_client.proofs.PushedTries.{tried-push, all-push}

-- tries so far, of which each says to go on, the last of them so
pub record TriedSoFar {L : Type 0} (says : AnswerData → Heard) (read written : Side L) (port : ℕ) (request : List ℕ) (count : ℕ) (old new : LinkData L)
    (faults_old faults_new : ℕ) (room_old room_new : AnswerRoomData) (end : SubmitEnd) : Type 0 where
  pub tries : List Try
  pub tried : AreTried read written port request old new faults_old faults_new tries
  pub on : AllByRecursion (λ try. goes_on (said_in says try) ≡ true) tries
  pub so_many : length tries ≡ count
  pub room : room_new ≡ room_behind room_old tries
  pub last : 1 ≤ count → EndsWith says (λ try. SaysSo says try end) tries
  pub none : is_last end ≡ false

ends-push : (says : AnswerData → Heard) (Is : Try → Type 0) (tries : List Try) (try : Try) → AllByRecursion (λ one. goes_on (said_in says one) ≡ true) tries → Is try
    → EndsWith says Is (tries ++ try ∷ [])
ends-push says Is [] try on is = is
ends-push says Is (first ∷ []) try on is = (on.0, is)
ends-push says Is (first ∷ next ∷ tries) try on is = (on.0, ends-push says Is (next ∷ tries) try on.1 is)

room-push : (room : AnswerRoomData) (tries : List Try) (try : Try) → room_behind room (tries ++ try ∷ []) ≡ room_behind (room_behind room tries) (try ∷ [])
room-push room [] try = refl
room-push room (NoLine ∷ tries) try = room-push room tries try
room-push room (NotSent ∷ tries) try = room-push room tries try
room-push room (Sent result ∷ tries) try = room-push (held_behind result) tries try

by_link_says : (says : AnswerData → Heard) (try : Try) → IsByLink try → said_in says try ≡ NoAnswer
by_link_says says NoLine by = refl
by_link_says says NotSent by = refl
by_link_says says (Sent (Ok answer)) by = absurd by
by_link_says says (Sent (Err fault)) by = refl

nothing_says : (says : AnswerData → Heard) (try : Try) → SaysNothing says try → said_in says try ≡ NoAnswer
nothing_says says NoLine nothing = absurd nothing
nothing_says says NotSent nothing = absurd nothing
nothing_says says (Sent (Ok answer)) nothing = nothing
nothing_says says (Sent (Err fault)) nothing = refl

-- behind a try that would be no last one there is another
goes_on_behind : (says : AnswerData → Heard) (try : Try) (end : SubmitEnd) → SaysSo says try end → is_last end ≡ false → goes_on (said_in says try) ≡ true
goes_on_behind says try (SubmitDone job again) so none = absurd (true≢false none)
goes_on_behind says try (SubmitRefused status) so none = absurd (true≢false none)
goes_on_behind says try SubmitLinkFailed so none = ap goes_on (by_link_says says try so)
goes_on_behind says try (SubmitCannotServe status) so none = ap goes_on so
goes_on_behind says try SubmitNoAnswer so none = ap goes_on (nothing_says says try so)
goes_on_behind says try SubmitMemory so none = absurd (true≢false none)

-- ends by the last try, as the cases say them
ends_on : (says : AnswerData → Heard) (Is : Try → Type 0) (tries : List Try) → EndsWith says Is tries → GoOn says tries
ends_on says Is [] ends = tt
ends_on says Is (try ∷ []) ends = tt
ends_on says Is (try ∷ next ∷ tries) ends = (ends.0, ends_on says Is (next ∷ tries) ends.1)

is_end : (says : AnswerData → Heard) (most : ℕ) (tries : List Try) (end : SubmitEnd) → EndsWith says (λ try. SaysSo says try end) tries → length tries ≤ most
    → (is_last end ≡ false → length tries ≡ most) → IsEnd says most tries end
is_end says most tries (SubmitDone job again) ends few all = (ends, few)
is_end says most tries (SubmitRefused status) ends few all = (ends, few)
is_end says most tries SubmitMemory ends few all = (ends_on says (λ try. SaysSo says try SubmitMemory) tries ends, few)
is_end says most tries _ ends few all = (ends, all refl)

module _ {L : Type 0} (says : AnswerData → Heard) (read written : Side L) (port : ℕ) (request : List ℕ) (old between new : LinkData L) (faults_old faults faults_new : ℕ)
    (room_old room room_new : AnswerRoomData) where
  -- one try more, behind which there is another
  pub try_more : (count : ℕ) (end next : SubmitEnd) (try : Try) → TriedSoFar says read written port request count old between faults_old faults room_old room end
      → IsTried read written port request between new faults faults_new try → room_new ≡ room_behind room (try ∷ []) → SaysSo says try next → is_last next ≡ false
      → TriedSoFar says read written port request (count + 1) old new faults_old faults_new room_old room_new next
  try_more count end next try so_far more held so none =
      let tries = so_far.tries in
      let many = length-append so_far.tries (try ∷ []) in
      let before = so_far.so_many in
      record {
        tries = so_far.tries ++ try ∷ [];
        tried = tried-push read written port request old between new faults_old faults faults_new so_far.tries try so_far.tried more;
        on = all-push (λ one. goes_on (said_in says one) ≡ true) so_far.tries try so_far.on (goes_on_behind says try next so none);
        so_many = omega (arith, many, before);
        room = held ∙ (ap (λ one. room_behind one (try ∷ [])) so_far.room ∙ sym (room-push room_old so_far.tries try));
        last = λ some. ends-push says (λ one. SaysSo says one next) so_far.tries try so_far.on so;
        none = none;
      }

  -- the last try, behind which there is no other
  pub try_last : (count most : ℕ) (end next : SubmitEnd) (try : Try) → TriedSoFar says read written port request count old between faults_old faults room_old room end
      → IsTried read written port request between new faults faults_new try → room_new ≡ room_behind room (try ∷ []) → SaysSo says try next → is_last next ≡ true
      → count + 1 ≤ most → Repeated read written port request (λ all. IsEnd says most all next) old new faults_old faults_new room_old room_new
  try_last count most end next try so_far more held so last few =
      let many = length-append so_far.tries (try ∷ []) in
      let before = so_far.so_many in
      record {
        tries = so_far.tries ++ try ∷ [];
        tried = tried-push read written port request old between new faults_old faults faults_new so_far.tries try so_far.tried more;
        ends = is_end says most (so_far.tries ++ try ∷ []) next (ends-push says (λ one. SaysSo says one next) so_far.tries try so_far.on so) (omega (arith, many, before, few))
            (λ none. absurd (true≢false (sym last ∙ none)));
        room = held ∙ (ap (λ one. room_behind one (try ∷ [])) so_far.room ∙ sym (room-push room_old so_far.tries try));
      }

-- all tries were used up
pub tries_used : {L : Type 0} (says : AnswerData → Heard) (read written : Side L) (port : ℕ) (request : List ℕ) (old new : LinkData L) (faults_old faults_new : ℕ) (room_old room_new : AnswerRoomData)
    (count most : ℕ) (end : SubmitEnd) → TriedSoFar says read written port request count old new faults_old faults_new room_old room_new end → 1 ≤ most → count ≡ most
    → Repeated read written port request (λ all. IsEnd says most all end) old new faults_old faults_new room_old room_new
tries_used says read written port request old new faults_old faults_new room_old room_new count most end so_far some same =
    let many = so_far.so_many in
    record {
      tries = so_far.tries;
      tried = so_far.tried;
      ends = is_end says most so_far.tries end (so_far.last (omega (arith, some, same))) (omega (arith, many, same)) (λ none. many ∙ same);
      room = so_far.room;
    }

-- no try yet
pub none_tried : {L : Type 0} (says : AnswerData → Heard) (read written : Side L) (port : ℕ) (request : List ℕ) (link : LinkData L) (faults : ℕ) (room : AnswerRoomData)
    → TriedSoFar says read written port request 0 link link faults faults room room SubmitNoAnswer
none_tried says read written port request link faults room = record {
  tries = [];
  tried = (refl, refl);
  on = tt;
  so_many = refl;
  room = refl;
  last = λ some. absurd (none_below some);
  none = refl;
}
  where
    none_below : 1 ≤ 0 → ⊥
    none_below some = absurd (omega (arith, some))
