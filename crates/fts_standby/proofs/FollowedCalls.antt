-- What following came to, by its steps: a doubt that was ended, the comparison with the last entry, and the entries that were taken.
use Rattle.std.proofs.Common.{◌≡◌, ◌⊎◌, inl, inr, refl, sym, ◌∙◌, ap, subst, ℕ, ◌+◌, ◌≤◌, None, List, [], ◌∷◌, ◌++◌, length, Ok, Err, arith}
use Rattle.std.specs.Prelude.{option_to_list, slice_get}
use Rattle.std.proofs.lemmas.List.{append-nil}
use Rattle.fts_tables.specs.Counts.{Rose}
use Rattle.fts_disk.specs.Disk.{DiskState, IsTold}
use Rattle.fts_journal.specs.Journal.{JournalData}
use Rattle.fts_wire.specs.Outside.{Side}
use Rattle.fts_client.specs.Links.{LinkData}
use Rattle.fts_client.specs.Tries.{Try}
use Rattle.fts_standby.specs.Hearing.{NoneThere}
use Rattle.fts_standby.specs.Asking.{IsAsked, Request, AreMade}
use Rattle.fts_standby.specs.Following.{Grows, IsReady, IsOwn, IsSame, IsOther, EndsComparing, EndsAtLast, HasSameLast, AreTaken, EndsTaking, requests_from, entries_of, used_after, Followed, SettlesBy, Compares, TakesAll}
use Rattle.fts_standby.specs.declared.ends.FollowEnd.{FollowEnd}
use Rattle.fts_standby.specs.declared.ends.FollowEnd.TheVariants as ends
use Rattle.fts_standby.proofs.GrownJournals.{grown_more}
use Rattle.fts_standby.proofs.MadeRequests.{made_more}
use Rattle.fts_standby.proofs.TakenEntries.{rose_later}

module _ {D : Type 0} (state : D → DiskState) (faults : D → ℕ) where
  -- a journal to which nothing was appended is as before, as far as following looks
  record IsAlike (old new : JournalData D) : Type 0 where
    told : (state new.disk).told ≡ (state old.disk).told
    count : new.count ≡ old.count
    used : new.used ≡ old.used
    bodies : IsTold (state old.disk) → new.bodies ≡ old.bodies

  alike : (old new : JournalData D) → Grows state faults old new [] [] → IsAlike old new
  alike old new grows = record {
    told = grows.told;
    count = omega (arith, grows.count);
    used = grows.used;
    bodies = λ told. grows.listed told ∙ append-nil old.bodies;
  }

  alike_both : (old mid new : JournalData D) → IsAlike old mid → IsAlike mid new → IsAlike old new
  alike_both old mid new first second = record {
    told = second.told ∙ first.told;
    count = second.count ∙ first.count;
    used = second.used ∙ first.used;
    bodies = λ told. second.bodies (first.told ∙ told) ∙ first.bodies told;
  }

  module _ (old mid : JournalData D) (same : IsAlike old mid) where
    own_before : (number : ℕ) (own : List ℕ) → IsOwn state mid number own → IsOwn state old number own
    own_before number own is told = ap (λ l. slice_get l number) (sym (same.bodies told)) ∙ is (same.told ∙ told)

    counted_before : (IsTold (state mid.disk) → length mid.bodies ≡ mid.count) → IsTold (state old.disk) → length old.bodies ≡ old.count
    counted_before counted told = ap (λ l. length l) (sym (same.bodies told)) ∙ (counted (same.told ∙ told) ∙ same.count)

    same_before : (number most : ℕ) (tries : List Try) → IsSame state mid number most tries → IsSame state old number most tries
    same_before number most tries is = record { own = is.own; is_own = own_before number is.own is.is_own; given = is.given }

    ends_before : (number most : ℕ) (tries : List Try) (end : FollowEnd) → EndsComparing state mid number most tries end → EndsComparing state old number most tries end
    ends_before number most tries (ends.CaughtUp count) is = is
    ends_before number most tries (ends.Diverged at) is = (is.0, differs is.1)
      where
        differs : IsAsked number most tries NoneThere ⊎ IsOther state mid number most tries → IsAsked number most tries NoneThere ⊎ IsOther state old number most tries
        differs (inl none) = inl none
        differs (inr other) = inr (record {
          own = other.own;
          is_own = own_before number other.own other.is_own;
          entry = other.entry;
          given = other.given;
          other = other.other;
        })
    ends_before number most tries (ends.Refused status) is = is
    ends_before number most tries (ends.CannotServe status) is = is
    ends_before number most tries ends.NoAnswer is = is
    ends_before number most tries ends.LinkFailed is = is
    ends_before number most tries ends.DiskFailed is = is
    ends_before number most tries (ends.JournalFull used) is = is
    ends_before number most tries ends.Memory is = is

    last_before : (most : ℕ) (requests : List Request) (end : FollowEnd) → EndsAtLast state most mid requests end → EndsAtLast state most old requests end
    last_before most requests end is = record {
      number = is.number;
      last = is.last ∙ same.count;
      tries = is.tries;
      ends_so = ends_before is.number most is.tries end is.ends_so;
      asked = is.asked;
    }

    compared_before : (most : ℕ) (requests : List Request) → HasSameLast state mid most requests → HasSameLast state old most requests
    compared_before most [] is = sym same.count ∙ is
    compared_before most (request ∷ []) is = (is.0 ∙ same.count, same_before request.number most request.tries is.1)
    compared_before most (request ∷ other ∷ others) is = is

-- ---- the whole call

module _ {D L : Type 0} (state : D → DiskState) (faults : D → ℕ) (read written : Side L) (port most : ℕ) (old mid : JournalData D) (settles : Grows state faults old mid [] [])
  where
    -- a doubt that could not be ended
    pub followed_unsettled : (link : LinkData L) (broken : ℕ) (end : FollowEnd) → SettlesBy state faults old mid (Err end)
        → Followed state faults read written port most old mid link link broken broken end
    followed_unsettled link broken end answer = record {
      requests = [];
      made = (refl, refl);
      entries = [];
      lost = None;
      grows = settles;
      stops = inl (record {
        end_is = answer.0;
        was = answer.1;
        still = answer.2;
        doubt = answer.3;
        none_asked = refl;
        none_taken = refl;
        none_lost = refl;
      });
    }

    module _ (ready : IsReady state mid) (compared : JournalData D) (link between : LinkData L) (broken faults_then : ℕ) where
      -- it ended at the last entry
      pub followed_compared : (end : FollowEnd) → Compares state faults read written port most mid compared link between broken faults_then (Err end)
          → Followed state faults read written port most old compared link between broken faults_then end
      followed_compared end compares = record {
        requests = compares.requests;
        made = compares.made;
        entries = [];
        lost = None;
        grows = grown_more state faults old mid compared [] [] [] settles ready.sure compares.grows;
        stops = inr (inl (record {
          counted = counted_before state faults old mid (alike state faults old mid settles) compares.counted;
          at_last = last_before state faults old mid (alike state faults old mid settles) most compares.requests end compares.answer;
          sure = compares.ready.sure;
          none_taken = refl;
          none_lost = refl;
        }));
      }

      -- it ended behind it
      pub followed_taken : (new : JournalData D) (left : LinkData L) (failed : ℕ) (end : FollowEnd)
          → Compares state faults read written port most mid compared link between broken faults_then (Ok tt)
          → TakesAll state faults read written port most compared new between left faults_then failed end
          → Followed state faults read written port most old new link left broken failed end
      followed_taken new left failed end compares takes =
          let first : IsAlike state faults old mid = alike state faults old mid settles in
          let same : IsAlike state faults old compared = alike_both state faults old mid compared first (alike state faults mid compared compares.grows) in
          let entries = entries_of takes.taken in
          let last = λ (n : ℕ). requests_from n takes.taken ++ record { number = n + length takes.taken; tries = takes.tries } ∷ [] in
          record {
            requests = compares.requests ++ last old.count;
            made = made_more read written port link between left broken faults_then failed compares.requests (last old.count) compares.made
                (subst (λ n. AreMade read written port between left faults_then failed (last n)) same.count takes.made);
            entries = entries_of takes.taken;
            lost = takes.lost;
            grows = grown_more state faults old compared new [] (entries_of takes.taken ++ option_to_list takes.lost) (entries_of takes.taken)
                (grown_more state faults old mid compared [] [] [] settles ready.sure compares.grows) compares.ready.sure takes.grows;
            stops = inr (inr (record {
              counted = counted_before state faults old mid first compares.counted;
              compared = compares.requests;
              same = compared_before state faults old mid first most compares.requests compares.answer;
              taken = takes.taken;
              each = subst (λ n. AreTaken most n old.used takes.taken) same.count (subst (λ used. AreTaken most compared.count used takes.taken) same.used takes.each);
              tries = takes.tries;
              ends_so = subst (λ n. EndsTaking (n + length takes.taken) (used_after old.used entries) most takes.tries takes.lost end) same.count
                  (subst (λ used. EndsTaking (compared.count + length takes.taken) (used_after used entries) most takes.tries takes.lost end) same.used takes.ends_so);
              doubt = takes.doubt;
              whole = takes.whole;
              asked = refl;
              entries_are = refl;
            }));
          }

      -- the disk failed later
      pub failed_later : (new : JournalData D) → faults old.disk ≤ faults mid.disk → faults mid.disk ≤ faults compared.disk → Rose (faults compared.disk) (faults new.disk)
          → Rose (faults old.disk) (faults new.disk)
      failed_later new first second rose =
          rose_later (faults old.disk) (faults compared.disk) (faults new.disk) (omega (arith, first, second)) rose
