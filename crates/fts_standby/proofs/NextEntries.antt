-- One request of following: for its last entry, and for the one behind it.
use Rattle.std.proofs.Common.{◌≡◌, ◌≢◌, inl, inr, refl, sym, ◌∙◌, ap, subst, ℕ, ◌+◌, Bool, true, false, if◌then◌else◌, Option, Some, None, option_map, List, [], ◌∷◌, length, Result, Ok, Err}
use Rattle.std.specs.Prelude.{option_and_then, codes, IsSome}
use Rattle.serde_json.specs.Data.{Data}
use Rattle.serde_json.specs.Find.{get, as_str}
use Rattle.hex.specs.Hex.{decode_of}
use Rattle.hex.specs.declared.error.FromHexError.{FromHexError}
use Rattle.fts_tables.specs.Counts.{Rose}
use Rattle.fts_tables.specs.declared.commands.Entry.{Entry}
use Rattle.fts_record.specs.Reading.{read_of}
use Rattle.fts_disk.specs.Disk.{DiskState, IsTold, IsLawful}
use Rattle.fts_journal.specs.Journal.{JournalData}
use Rattle.fts_jobdoc.specs.Json.{value_of}
use Rattle.fts_wire.specs.Outside.{Side}
use Rattle.fts_client.specs.Links.{LinkData}
use Rattle.fts_client.specs.Tries.{Try, AreTried}
use Rattle.fts_standby.specs.Entries.{decoded, is_numbered, entry_shown, entry_in}
use Rattle.fts_standby.specs.Hearing.{Gives, NoneThere}
use Rattle.fts_standby.specs.Asking.{request_bytes, IsAsked, EndsAsking}
use Rattle.fts_standby.specs.Following.{IsReady, EndsComparing, EndsTaking, LooksBy, LooksAtOwn, Compares, AppendsBy, TakesBy, TakesNext, TakesNone}
use Rattle.fts_standby.specs.declared.ends.FollowEnd.{FollowEnd}
use Rattle.fts_standby.specs.declared.ends.FollowEnd.TheVariants as ends
use Rattle.fts_standby.proofs.GrownJournals.{grown_none}
use Rattle.fts_standby.proofs.MadeRequests.{made_one}
use Rattle.fts_standby.proofs.ReachedWorlds.{given_by}

-- ---- an entry that was given is one of the record

read_if : (read : Option Entry) (bytes entry : List ℕ) → option_map (λ (e : Entry). bytes) read ≡ Some entry → (e : Entry) × (read ≡ Some e) × (bytes ≡ entry)
read_if (Some e) bytes entry is = (e, refl, cc)
read_if None bytes entry is = absurd (cc)

read_decoded : (found : Result (List ℕ) FromHexError) (entry : List ℕ) → decoded found ≡ Some entry → (e : Entry) × (read_of entry ≡ Some e)
read_decoded (Ok bytes) entry is =
    let read = read_if (read_of bytes) bytes entry is in (read.0, ap read_of (sym read.2) ∙ read.1)
read_decoded (Err fault) entry is = absurd (cc)

read_text : (text : Option (List ℕ)) (entry : List ℕ) → option_and_then (λ text. decoded (decode_of text)) text ≡ Some entry → (e : Entry) × (read_of entry ≡ Some e)
read_text (Some text) entry is = read_decoded (decode_of text) entry is
read_text None entry is = absurd (cc)

read_shown : (numbered : Bool) (text : Option (List ℕ)) (entry : List ℕ)
    → (if numbered then option_and_then (λ text. decoded (decode_of text)) text else None) ≡ Some entry → (e : Entry) × (read_of entry ≡ Some e)
read_shown true text entry is = read_text text entry is
read_shown false text entry is = absurd (cc)

read_value : (number : ℕ) (value : Option Data) (entry : List ℕ) → option_and_then (entry_shown number) value ≡ Some entry → (e : Entry) × (read_of entry ≡ Some e)
read_value number (Some value) entry is = read_shown (is_numbered number value) (option_and_then as_str (get (codes "body") value)) entry is
read_value number None entry is = absurd (cc)

entry_is_read : (number : ℕ) (body entry : List ℕ) → entry_in number body ≡ Some entry → (e : Entry) × (read_of entry ≡ Some e)
unfolding entry_in
entry_is_read number body entry is = read_value number (value_of body) entry is

given_is_read : (number most : ℕ) (tries : List Try) (entry : List ℕ) → IsAsked number most tries (Gives entry) → (e : Entry) × (read_of entry ≡ Some e)
given_is_read number most tries entry asked =
    let by = given_by number asked.last entry asked.heard_is in entry_is_read number by.answer.body entry by.shown

pub read_some : (found : Option Entry) → IsSome found → (entry : Entry) × (found ≡ Some entry)
read_some (Some entry) is = (entry, refl)
read_some None is = absurd (cc)

some_read : (found : Option Entry) (entry : Entry) → found ≡ Some entry → IsSome found
some_read (Some other) entry is = refl
some_read None entry is = absurd (cc)

pub given_is_some : (number most : ℕ) (tries : List Try) (entry : List ℕ) → IsAsked number most tries (Gives entry) → IsSome (read_of entry)
given_is_some number most tries entry asked =
    let read = given_is_read number most tries entry asked in some_read (read_of entry) read.0 read.1

-- ---- an end of asking

not_disk : (number most : ℕ) (tries : List Try) (end : FollowEnd) → EndsAsking number most tries end → end ≢ ends.DiskFailed
not_disk number most tries end asked is = subst (λ e. EndsAsking number most tries e) is asked

ends_comparing : {D : Type 0} (state : D → DiskState) (journal : JournalData D) (number most : ℕ) (tries : List Try) (end : FollowEnd) → EndsAsking number most tries end
    → EndsComparing state journal number most tries end
ends_comparing state journal number most tries (ends.Refused status) asked = asked
ends_comparing state journal number most tries (ends.CannotServe status) asked = asked
ends_comparing state journal number most tries ends.NoAnswer asked = asked
ends_comparing state journal number most tries ends.LinkFailed asked = asked
ends_comparing state journal number most tries ends.Memory asked = asked
ends_comparing state journal number most tries (ends.CaughtUp count) asked = absurd asked
ends_comparing state journal number most tries (ends.Diverged at) asked = absurd asked
ends_comparing state journal number most tries ends.DiskFailed asked = absurd asked
ends_comparing state journal number most tries (ends.JournalFull used) asked = absurd asked

ends_taking : (number used most : ℕ) (tries : List Try) (end : FollowEnd) → EndsAsking number most tries end → EndsTaking number used most tries None end
ends_taking number used most tries (ends.Refused status) asked = asked
ends_taking number used most tries (ends.CannotServe status) asked = asked
ends_taking number used most tries ends.NoAnswer asked = asked
ends_taking number used most tries ends.LinkFailed asked = asked
ends_taking number used most tries ends.Memory asked = asked
ends_taking number used most tries (ends.CaughtUp count) asked = absurd asked
ends_taking number used most tries (ends.Diverged at) asked = absurd asked
ends_taking number used most tries ends.DiskFailed asked = absurd asked
ends_taking number used most tries (ends.JournalFull at) asked = absurd asked

cut_of : (number most : ℕ) (tries : List Try) (entry : List ℕ) → IsAsked number most tries (Gives entry) → EndsAsking number most tries ends.Memory
cut_of number most tries entry asked = record { again = asked.again; last = asked.last; are = asked.are; on = asked.on; few = asked.few }

module _ {D L : Type 0} (state : D → DiskState) (faults : D → ℕ) (lawful : (disk : D) → IsTold (state disk) → IsLawful (state disk)) (read written : Side L) (port most : ℕ)
    (old : JournalData D) (ready : IsReady state old) where
  -- ---- the last entry

  module _ (counted : IsTold (state old.disk) → length old.bodies ≡ old.count) where
    -- there is none
    pub compared_none : (link : LinkData L) (broken : ℕ) → old.count ≡ 0 → Compares state faults read written port most old old link link broken broken (Ok tt)
    compared_none link broken none = record {
      counted = counted;
      requests = [];
      made = (refl, refl);
      answer = none;
      grows = grown_none state faults lawful old ready.sound;
      ready = ready;
      cause = λ is. absurd (cc);
    }

    module _ (link left : LinkData L) (broken failed number : ℕ) (last : number + 1 ≡ old.count) (tries : List Try)
        (tried : AreTried read written port (request_bytes port number) link left broken failed tries) where
      -- asking for it ended following
      pub compared_ended : (end : FollowEnd) → EndsAsking number most tries end → Compares state faults read written port most old old link left broken failed (Err end)
      compared_ended end asked = record {
        counted = counted;
        requests = record { number = number; tries = tries } ∷ [];
        made = made_one read written port link left broken failed number tries tried;
        answer = record { number = number; last = last; tries = tries; ends_so = ends_comparing state old number most tries end asked; asked = refl };
        grows = grown_none state faults lawful old ready.sound;
        ready = ready;
        cause = λ is. absurd (not_disk number most tries end asked (let same : end ≡ ends.DiskFailed = cc in same));
      }

      -- the service has none of that number
      pub compared_absent : IsAsked number most tries NoneThere
          → Compares state faults read written port most old old link left broken failed (Err (ends.Diverged number))
      compared_absent asked = record {
        counted = counted;
        requests = record { number = number; tries = tries } ∷ [];
        made = made_one read written port link left broken failed number tries tried;
        answer = record { number = number; last = last; tries = tries; ends_so = (refl, inl asked); asked = refl };
        grows = grown_none state faults lawful old ready.sound;
        ready = ready;
        cause = λ is. absurd (cc);
      }

      module _ (new : JournalData D) (entry : List ℕ) (given : IsAsked number most tries (Gives entry)) where
        -- it is the service's
        pub compared_same : LooksAtOwn state faults old new number entry (Ok true) → Compares state faults read written port most old new link left broken failed (Ok tt)
        compared_same looks = record {
          counted = counted;
          requests = record { number = number; tries = tries } ∷ [];
          made = made_one read written port link left broken failed number tries tried;
          answer = (last, record { own = entry; is_own = looks.answer; given = given });
          grows = looks.grows;
          ready = looks.ready;
          cause = λ is. absurd (cc);
        }

        -- the service has another one
        pub compared_other : LooksAtOwn state faults old new number entry (Ok false)
            → Compares state faults read written port most old new link left broken failed (Err (ends.Diverged number))
        compared_other looks = record {
          counted = counted;
          requests = record { number = number; tries = tries } ∷ [];
          made = made_one read written port link left broken failed number tries tried;
          answer = record {
            number = number;
            last = last;
            tries = tries;
            ends_so = (refl, inr (record { own = looks.answer.0; is_own = looks.answer.1; entry = entry; given = given; other = looks.answer.2 }));
            asked = refl;
          };
          grows = looks.grows;
          ready = looks.ready;
          cause = λ is. absurd (cc);
        }

        -- its own could not be read
        unread : (end : FollowEnd) → LooksBy state faults old new number entry (Err end) → EndsComparing state old number most tries end
        unread end (inl failed) = subst (λ e. EndsComparing state old number most tries e) (sym failed.0) (record { entry = entry; given = given })
        unread end (inr memory) = subst (λ e. EndsComparing state old number most tries e) (sym memory) (cut_of number most tries entry given)

        rose : (end : FollowEnd) → LooksBy state faults old new number entry (Err end) → end ≡ ends.DiskFailed → Rose (faults old.disk) (faults new.disk)
        rose end (inl failed) is = failed.1
        rose end (inr memory) is = let no : ends.Memory ≡ ends.DiskFailed = sym memory ∙ is in absurd cc

        pub compared_unread : (end : FollowEnd) → LooksAtOwn state faults old new number entry (Err end)
            → Compares state faults read written port most old new link left broken failed (Err end)
        compared_unread end looks = record {
          counted = counted;
          requests = record { number = number; tries = tries } ∷ [];
          made = made_one read written port link left broken failed number tries tried;
          answer = record { number = number; last = last; tries = tries; ends_so = unread end looks.answer; asked = refl };
          grows = looks.grows;
          ready = looks.ready;
          cause = λ is. rose end looks.answer (let same : end ≡ ends.DiskFailed = cc in same);
        }

  -- ---- the entry behind the last one

  module _ (link left : LinkData L) (broken failed : ℕ) (tries : List Try)
      (tried : AreTried read written port (request_bytes port old.count) link left broken failed tries) where
    none_lost : (end : FollowEnd) → EndsTaking old.count old.used most tries None end → end ≢ ends.DiskFailed → TakesNone state faults most old old tries end
    none_lost end how other = record {
      lost = None;
      ends_so = how;
      doubt = ready.sure;
      whole = λ no. refl;
      grows = grown_none state faults lawful old ready.sound;
      cause = λ is. absurd (other is);
    }

    -- asking for it ended following
    pub next_ended : (end : FollowEnd) → EndsAsking old.count most tries end → TakesNext state faults read written port most old old link left broken failed (Err end)
    next_ended end asked = record {
      tries = tries;
      tried = tried;
      answer = none_lost end (ends_taking old.count old.used most tries end asked) (not_disk old.count most tries end asked);
    }

    -- the service has none
    pub next_absent : (count : ℕ) → count ≡ old.count → IsAsked old.count most tries NoneThere
        → TakesNext state faults read written port most old old link left broken failed (Err (ends.CaughtUp count))
    next_absent count same asked = record { tries = tries; tried = tried; answer = none_lost (ends.CaughtUp count) (same, asked) (λ no. cc) }

    module _ (entry : List ℕ) (given : IsAsked old.count most tries (Gives entry)) where
      -- it was appended, or not
      next_failed : (new : JournalData D) (end : FollowEnd) → AppendsBy state faults old new entry (Err end) → TakesNone state faults most old new tries end
      next_failed new ends.DiskFailed appends = record {
        lost = Some entry;
        ends_so = record { entry = entry; given = given; room = appends.0; lost_is = refl };
        doubt = appends.2;
        whole = λ other. absurd (other refl);
        grows = appends.1;
        cause = λ is. appends.3;
      }
      next_failed new (ends.JournalFull at) appends =
          subst (λ journal. TakesNone state faults most old journal tries (ends.JournalFull at)) (sym appends.2)
          (none_lost (ends.JournalFull at) (appends.0, record { entry = entry; given = given; full = appends.1 }) (λ no. cc))
      next_failed new ends.Memory appends =
          subst (λ journal. TakesNone state faults most old journal tries ends.Memory) (sym appends)
          (none_lost ends.Memory (cut_of old.count most tries entry given) (λ no. cc))
      next_failed new (ends.CaughtUp count) appends = absurd appends
      next_failed new (ends.Diverged number) appends = absurd appends
      next_failed new (ends.Refused status) appends = absurd appends
      next_failed new (ends.CannotServe status) appends = absurd appends
      next_failed new ends.NoAnswer appends = absurd appends
      next_failed new ends.LinkFailed appends = absurd appends

      next_by : (new : JournalData D) (result : Result (Unit {0}) FollowEnd) → AppendsBy state faults old new entry result → TakesBy state faults most old new tries result
      next_by new (Ok done) appends = record { entry = entry; given = given; room = appends.0; grows = appends.1; ready = appends.2 }
      next_by new (Err end) appends = next_failed new end appends

      pub next_given : (new : JournalData D) (result : Result (Unit {0}) FollowEnd) → AppendsBy state faults old new entry result
          → TakesNext state faults read written port most old new link left broken failed result
      next_given new result appends = record { tries = tries; tried = tried; answer = next_by new result appends }
