-- Taking entries one after the other.
use Rattle.std.proofs.Common.{◌≡◌, inl, inr, refl, sym, ◌∙◌, ap, subst, ℕ, ◌+◌, ◌≤◌, List, [], ◌∷◌, ◌++◌, length, arith}
use Rattle.std.specs.Prelude.{option_to_list}
use Rattle.std.proofs.lemmas.List.{append-nil, map-append, length-map}
use Rattle.fts_tables.specs.Counts.{Rose}
use Rattle.fts_tables.specs.declared.limits.TheConstants.{JOURNAL_END}
use Rattle.fts_disk.specs.Disk.{DiskState, IsTold, IsLawful}
use Rattle.fts_journal.specs.Journal.{JournalData}
use Rattle.fts_wire.specs.Outside.{Side}
use Rattle.fts_client.specs.Links.{LinkData}
use Rattle.fts_client.specs.Tries.{Try, AreTried}
use Rattle.fts_standby.specs.Hearing.{Gives}
use Rattle.fts_standby.specs.Asking.{request_bytes, IsAsked, AreMade}
use Rattle.fts_standby.specs.Following.{used_after, Grows, IsReady, Taken, entries_of, AreTaken, requests_from, EndsTaking, TakesOne, TakesNone, TakesAll}
use Rattle.fts_standby.specs.declared.ends.FollowEnd.{FollowEnd}
use Rattle.fts_standby.proofs.GrownJournals.{grown_none, grown_more}
use Rattle.fts_standby.proofs.MadeRequests.{made_one, made_more, requests_more}

-- a count that rose later rose
pub rose_later : (old mid new : ℕ) → old ≤ mid → Rose mid new → Rose old new
rose_later old mid new keeps (inl more) = inl (omega (arith, keeps, more))
rose_later old mid new keeps (inr most) = inr most

-- one entry more was taken
taken_more : (most count used : ℕ) (taken : List Taken) (one : Taken) → AreTaken most count used taken → IsAsked (count + length taken) most one.tries (Gives one.entry)
    → used_after used (entries_of taken) + 6 + length one.entry ≤ JOURNAL_END → AreTaken most count used (taken ++ one ∷ [])
taken_more most count used [] one each given room =
    (subst (λ n. IsAsked n most one.tries (Gives one.entry)) (let same : count + 0 ≡ count = omega arith in same) given, room, tt)
taken_more most count used (first ∷ taken) one each given room = (
  each.0,
  each.1,
  taken_more most (count + 1) (used + 5 + length first.entry) taken one each.2
      (subst (λ n. IsAsked n most one.tries (Gives one.entry)) (let same : count + length (first ∷ taken) ≡ count + 1 + length taken = omega arith in same) given) room,
)

-- entries that were taken so far
pub record TakenSoFar {D L : Type 0} (state : D → DiskState) (faults : D → ℕ) (read written : Side L) (port most : ℕ) (old new : JournalData D)
    (link left : LinkData L) (broken failed : ℕ) : Type 0 where
  pub taken : List Taken
  pub each : AreTaken most old.count old.used taken
  pub made : AreMade read written port link left broken failed (requests_from old.count taken)
  pub grows : Grows state faults old new (entries_of taken) (entries_of taken)
  pub ready : IsReady state new

module _ {D L : Type 0} (state : D → DiskState) (faults : D → ℕ) (read written : Side L) (port most : ℕ) where
  -- none yet
  pub none_taken : (lawful : (disk : D) → IsTold (state disk) → IsLawful (state disk)) (journal : JournalData D) (link : LinkData L) (broken : ℕ) → IsReady state journal
      → TakenSoFar state faults read written port most journal journal link link broken broken
  none_taken lawful journal link broken ready = record {
    taken = [];
    each = tt;
    made = (refl, refl);
    grows = grown_none state faults lawful journal ready.sound;
    ready = ready;
  }

  module _ (old mid new : JournalData D) (link between left : LinkData L) (broken faults_mid failed : ℕ)
      (so_far : TakenSoFar state faults read written port most old mid link between broken faults_mid)
      (tries : List Try) (tried : AreTried read written port (request_bytes port mid.count) between left faults_mid failed tries) where
    count_so_far : mid.count ≡ old.count + length so_far.taken
    count_so_far = so_far.grows.count ∙ ap (λ n. old.count + n) (length-map so_far.taken (λ (one : Taken). one.entry))

    made_last : AreMade read written port link left broken failed (requests_from old.count so_far.taken ++ record { number = old.count + length so_far.taken; tries = tries } ∷ [])
    made_last = made_more read written port link between left broken faults_mid failed (requests_from old.count so_far.taken)
        (record { number = old.count + length so_far.taken; tries = tries } ∷ []) so_far.made
        (made_one read written port between left faults_mid failed (old.count + length so_far.taken) tries
        (subst (λ n. AreTried read written port (request_bytes port n) between left faults_mid failed tries) count_so_far tried))

    -- one more
    pub take_more : TakesOne state faults most mid new tries → TakenSoFar state faults read written port most old new link left broken failed
    take_more takes =
        let one : Taken = record { tries = tries; entry = takes.entry } in
        let entries : entries_of (so_far.taken ++ one ∷ []) ≡ entries_of so_far.taken ++ takes.entry ∷ [] =
        map-append (λ (each : Taken). each.entry) so_far.taken (one ∷ []) in
        record {
          taken = so_far.taken ++ one ∷ [];
          each = taken_more most old.count old.used so_far.taken one so_far.each
              (subst (λ n. IsAsked n most tries (Gives takes.entry)) count_so_far takes.given)
              (subst (λ used. used + 6 + length takes.entry ≤ JOURNAL_END) so_far.grows.used takes.room);
          made = subst (λ requests. AreMade read written port link left broken failed requests) (sym (requests_more old.count so_far.taken one)) made_last;
          grows = subst (λ l. Grows state faults old new l l) (sym entries)
              (grown_more state faults old mid new (entries_of so_far.taken) (takes.entry ∷ []) (takes.entry ∷ []) so_far.grows so_far.ready.sure takes.grows);
          ready = takes.ready;
        }

    -- the end
    pub take_last : (end : FollowEnd) → TakesNone state faults most mid new tries end → TakesAll state faults read written port most old new link left broken failed end
    take_last end takes = record {
      taken = so_far.taken;
      each = so_far.each;
      tries = tries;
      lost = takes.lost;
      ends_so = subst (λ n. EndsTaking n (used_after old.used (entries_of so_far.taken)) most tries takes.lost end) count_so_far
          (subst (λ used. EndsTaking mid.count used most tries takes.lost end) so_far.grows.used takes.ends_so);
      doubt = takes.doubt;
      whole = takes.whole;
      made = made_last;
      grows = subst (λ l. Grows state faults old new (entries_of so_far.taken ++ option_to_list takes.lost) l) (append-nil (entries_of so_far.taken))
          (grown_more state faults old mid new (entries_of so_far.taken) (option_to_list takes.lost) [] so_far.grows so_far.ready.sure takes.grows);
      cause = λ is. rose_later (faults old.disk) (faults mid.disk) (faults new.disk) so_far.grows.counts (takes.cause is);
    }
