-- What each event keeps of a world, and so what holds of every world that is reached.
use Rattle.std.proofs.Common.{◌≡◌, ℕ, ◌+◌, ◌≤◌, Bool, true, false, cond, List, [], ◌∷◌, ◌++◌, slice_get, Option, Some, None, IfSome, refl, ap, sym, ◌∙◌, subst, arith, append_assoc, le_antisymm, true≢false}
use Rattle.std.specs.Prelude.{not, ◌&&◌}
use Rattle.std.proofs.lemmas.Bool.{and_parts}
use Rattle.fts_tables.specs.SettingsData.{SettingsData}
use Rattle.fts_tables.specs.History.{IsLegal}
use Rattle.fts_tables.specs.declared.commands.Entry.{Entry}
use Rattle.fts_tables.specs.declared.commands.Command.TheVariants.{Restart}
use Rattle.fts_laws.specs.Submissions.{submissions, is_restart, vo_of}
use Rattle.fts_client.specs.Worlds.{Heard, Done, Refused, CannotServe, NoAnswer, Protocol, World, Failure, WithoutMemory, WithoutDisk, WithoutResponse, Doubt, doubt_then, Event, Sends, IsAnswered, Fails, ComesInPart, Hears, HearsPart, Appends, Restarts, may_follow, with_doubt, has_vo, told_more, replies_of, answered, failed, come_in_part, told, appended, restarted, happens, world_after, IsReached, Starts, Goes, IsStart, IsBacked, Answers, ActsOnce}
use Rattle.fts_client.proofs.GrownLists.{Each, each-append, each-on, IfThere, each-get, bytes_same, legal_with, vo_kept, vo_with, grown_if}

-- at most one entry of a legal list submits an id
abbrev pub OneSubmission : Type 0
OneSubmission = (entries : List Entry) (id : ℕ) → IsLegal entries → submissions id entries ≤ 1

-- submissions of two lists add up
abbrev pub AddUp : Type 0
AddUp = (entries more : List Entry) (id : ℕ) → submissions id (entries ++ more) ≡ submissions id entries + submissions id more

-- what was said of a job stays true in a list that has grown
backed_on : AddUp → (id : ℕ) (entries more : List Entry) (heard : Heard) → IsBacked id entries heard → IsBacked id (entries ++ more) heard
backed_on add_up id entries more (Done job again) backed = let sum = add_up entries more id in let some = backed.1 in (backed.0, omega (arith, sum, some))
backed_on add_up id entries more (Refused status) backed = tt
backed_on add_up id entries more (CannotServe status) backed = tt
backed_on add_up id entries more NoAnswer backed = tt

backed_any : AddUp → (id : ℕ) (entries : List Entry) (heard : Heard) → IsBacked id [] heard → IsBacked id entries heard
backed_any add_up id entries heard backed = backed_on add_up id [] entries heard backed

-- the job of which the client was told
abbrev pub IsTold : ℕ → List Entry → Option ℕ → Type 0
IsTold id entries None = Unit {0}
IsTold id entries (Some job) = (job ≡ id) × (1 ≤ submissions id entries)

told_on : AddUp → (id : ℕ) (entries more : List Entry) (done : Option ℕ) → IsTold id entries done → IsTold id (entries ++ more) done
told_on add_up id entries more None is = tt
told_on add_up id entries more (Some job) is = let sum = add_up entries more id in let some = is.1 in (is.0, omega (arith, sum, some))

told_from : (id : ℕ) (entries : List Entry) (done : Option ℕ) (heard : Heard) → IsTold id entries done → IsBacked id entries heard
    → IsTold id entries (told_more done heard)
told_from id entries (Some job) heard is backed = is
told_from id entries None (Done job again) is backed = backed
told_from id entries None (Refused status) is backed = tt
told_from id entries None (CannotServe status) is backed = tt
told_from id entries None NoAnswer is backed = tt

module _ {Request Reply : Type 0} (add_up : AddUp) (one_submission : OneSubmission) (protocol : Protocol Request Reply) (vo : List ℕ) (request : Request) (id : ℕ)
    (answers : Answers protocol vo request id) where
  -- what holds of each world that is reached
  pub record Keeps (world : World Request Reply) : Type 0 where
    pub legal : IsLegal world.entries
    pub name : vo_of world.entries ≡ Some vo
    pub sent : Each (λ one. one ≡ request) world.sent
    pub made : Each (λ reply. IsBacked id world.entries (protocol.heard reply)) world.made
    pub own : world.client.request ≡ request
    pub done : IsTold id world.entries world.client.done

  -- the responses that were made stay true in a list that has grown
  made_on : (entries more : List Entry) (made : List Reply) → Each (λ reply. IsBacked id entries (protocol.heard reply)) made
      → Each (λ reply. IsBacked id (entries ++ more) (protocol.heard reply)) made
  made_on entries more made each =
      each-on (λ reply. IsBacked id entries (protocol.heard reply)) (λ reply. IsBacked id (entries ++ more) (protocol.heard reply))
      (λ reply backed. backed_on add_up id entries more (protocol.heard reply) backed) made each

  -- a response in the place of a reply names no job
  failures_backed : (entries : List Entry) (failure : Failure) → Each (λ reply. IsBacked id entries (protocol.heard reply)) (replies_of protocol failure)
  failures_backed entries WithoutMemory = (backed_any add_up id entries (protocol.heard protocol.no_memory) answers.no_memory, tt)
  failures_backed entries WithoutDisk = (backed_any add_up id entries (protocol.heard protocol.disk_failed) answers.disk_failed, tt)
  failures_backed entries WithoutResponse = tt

  sends_keeps : (world : World Request Reply) → Keeps world → Keeps (happens protocol world Sends)
  sends_keeps world keeps = record {
    legal = keeps.legal;
    name = keeps.name;
    sent = each-append (λ one. one ≡ request) world.sent (world.client.request ∷ []) keeps.sent (keeps.own, tt);
    made = keeps.made;
    own = keeps.own;
    done = keeps.done;
  }

  answered_keeps : (world : World Request Reply) (writer now : ℕ) (came : Option Request) → IfThere (λ one. one ≡ request) came → Keeps world
      → Keeps (answered protocol world writer now came)
  answered_keeps world writer now None is keeps = keeps
  answered_keeps world writer now (Some one) is keeps =
      let added : List Entry = protocol.added world.entries writer one now in
      record {
        legal = subst (λ (other : Request). IsLegal (world.entries ++ protocol.added world.entries writer other now)) (sym is)
            (answers.legal world.entries writer now keeps.legal keeps.name);
        name = subst (λ (other : Request). vo_of (world.entries ++ protocol.added world.entries writer other now) ≡ Some vo) (sym is)
            (answers.calm world.entries writer now keeps.legal keeps.name);
        sent = keeps.sent;
        made = each-append (λ reply. IsBacked id (world.entries ++ protocol.added world.entries writer one now) (protocol.heard reply)) world.made
            (protocol.reply world.entries writer one now ∷ [])
            (made_on world.entries (protocol.added world.entries writer one now) world.made keeps.made) (
              subst (λ (other : Request). IsBacked id (world.entries ++ protocol.added world.entries writer other now)
                  (protocol.heard (protocol.reply world.entries writer other now))) (sym is)
                  (answers.backed world.entries writer now keeps.legal keeps.name),
              tt,
            );
        own = keeps.own;
        done = told_on add_up id world.entries (protocol.added world.entries writer one now) world.client.done keeps.done;
      }

  -- a response to a request that failed, whatever it leaves in doubt
  failure_keeps : (world : World Request Reply) (doubt : Option Entry) (failure : Failure) → Keeps world
      → Keeps (record world { doubt = doubt; made = world.made ++ replies_of protocol failure })
  failure_keeps world doubt failure keeps = record {
    legal = keeps.legal;
    name = keeps.name;
    sent = keeps.sent;
    made = each-append (λ reply. IsBacked id world.entries (protocol.heard reply)) world.made (replies_of protocol failure) keeps.made
        (failures_backed world.entries failure);
    own = keeps.own;
    done = keeps.done;
  }

  failed_keeps : (world : World Request Reply) (writer now : ℕ) (failure : Failure) (doubt : Doubt) (came : Option Request) → Keeps world
      → Keeps (failed protocol world writer now failure doubt came)
  failed_keeps world writer now failure doubt None keeps = keeps
  failed_keeps world writer now failure doubt (Some one) keeps =
      failure_keeps world (doubt_then doubt world.doubt (protocol.added world.entries writer one now)) failure keeps

  part_keeps : (world : World Request Reply) (failure : Failure) (came : Option Request) → Keeps world → Keeps (come_in_part protocol world failure came)
  part_keeps world failure None keeps = keeps
  part_keeps world failure (Some one) keeps = failure_keeps world world.doubt failure keeps

  told_keeps : (world : World Request Reply) (came : Option Reply) → IfThere (λ reply. IsBacked id world.entries (protocol.heard reply)) came → Keeps world
      → Keeps (told protocol world came)
  told_keeps world None backed keeps = keeps
  told_keeps world (Some reply) backed keeps = record {
    legal = keeps.legal;
    name = keeps.name;
    sent = keeps.sent;
    made = keeps.made;
    own = keeps.own;
    done = told_from id world.entries world.client.done (protocol.heard reply) keeps.done backed;
  }

  -- a world whose list has grown
  grown_keeps : (world : World Request Reply) (entries more : List Entry) → entries ≡ world.entries ++ more → IsLegal entries → vo_of entries ≡ Some vo
      → Keeps world → Keeps (record world { entries = entries; doubt = None })
  grown_keeps world entries more is legal name keeps = record {
    legal = legal;
    name = name;
    sent = keeps.sent;
    made = subst (λ (list : List Entry). Each (λ reply. IsBacked id list (protocol.heard reply)) world.made) (sym is)
        (made_on world.entries more world.made keeps.made);
    own = keeps.own;
    done = subst (λ (list : List Entry). IsTold id list world.client.done) (sym is) (told_on add_up id world.entries more world.client.done keeps.done);
  }

  appended_keeps : (world : World Request Reply) (entry : Entry) → Keeps world → Keeps (appended protocol world entry)
  appended_keeps world entry keeps = by_test (may_follow world.entries entry && not (is_restart entry.command)) refl
    where
      no_restart : (answer : Bool) → not answer ≡ true → answer ≡ false
      no_restart true is = sym is
      no_restart false is = refl

      by_test : (answer : Bool) → (may_follow world.entries entry && not (is_restart entry.command)) ≡ answer
          → Keeps (cond answer (record world { entries = world.entries ++ entry ∷ []; doubt = None }) world)
      by_test false is = keeps
      by_test true is =
          let both = and_parts (may_follow world.entries entry) (not (is_restart entry.command)) is in
          grown_keeps world (world.entries ++ entry ∷ []) (entry ∷ []) refl (legal_with world.entries entry keeps.legal both.0)
          (vo_with world.entries entry ∙ (vo_kept (vo_of world.entries) entry.command (no_restart (is_restart entry.command) both.1) ∙ keeps.name)) keeps

  restarted_keeps : (world : World Request Reply) (is_kept : Bool) (writer now : ℕ) (settings : SettingsData) → Some settings.vo ≡ vo_of world.entries
      → Keeps world → Keeps (restarted protocol world is_kept (record { writer = writer; command = Restart now settings }))
  restarted_keeps world is_kept writer now settings same keeps =
      let entry : Entry = record { writer = writer; command = Restart now settings } in
      let before : List Entry = cond is_kept (with_doubt world.entries world.doubt) world.entries in
      let grown = grown_if is_kept world.entries world.doubt keeps.legal in
      grown_keeps world (before ++ entry ∷ []) (grown.more ++ entry ∷ [])
      (ap (λ list. list ++ entry ∷ []) grown.parts ∙ append_assoc world.entries grown.more (entry ∷ []))
      (legal_with before entry grown.legal refl)
      (vo_with before entry ∙ (same ∙ keeps.name)) keeps

  restarts_keeps : (world : World Request Reply) (is_kept : Bool) (writer now : ℕ) (settings : SettingsData) → Keeps world
      → Keeps (happens protocol world (Restarts is_kept writer now settings))
  restarts_keeps world is_kept writer now settings keeps = by_test (has_vo (vo_of world.entries) settings) refl
    where
      same_vo : (name : Option (List ℕ)) → has_vo name settings ≡ true → Some settings.vo ≡ name
      same_vo None is = absurd (true≢false (sym is))
      same_vo (Some name) is = ap Some (bytes_same settings.vo name is)

      by_test : (answer : Bool) → has_vo (vo_of world.entries) settings ≡ answer
          → Keeps (cond answer (restarted protocol world is_kept (record { writer = writer; command = Restart now settings })) world)
      by_test false is = keeps
      by_test true is = restarted_keeps world is_kept writer now settings (same_vo (vo_of world.entries) is) keeps

  event_keeps : (world : World Request Reply) (event : Event) → Keeps world → Keeps (happens protocol world event)
  event_keeps world Sends keeps = sends_keeps world keeps
  event_keeps world (IsAnswered which writer now) keeps =
      answered_keeps world writer now (slice_get world.sent which) (each-get (λ one. one ≡ request) world.sent which keeps.sent) keeps
  event_keeps world (Fails which writer now failure doubt) keeps = failed_keeps world writer now failure doubt (slice_get world.sent which) keeps
  event_keeps world (ComesInPart which failure) keeps = part_keeps world failure (slice_get world.sent which) keeps
  event_keeps world (Hears which) keeps =
      told_keeps world (slice_get world.made which) (each-get (λ reply. IsBacked id world.entries (protocol.heard reply)) world.made which keeps.made) keeps
  event_keeps world (HearsPart which) keeps = keeps
  event_keeps world (Appends entry) keeps = appended_keeps world entry keeps
  event_keeps world (Restarts is_kept writer now settings) keeps = restarts_keeps world is_kept writer now settings keeps

  pub events_keep : (events : List Event) (world : World Request Reply) → Keeps world → Keeps (world_after protocol world events)
  events_keep [] world keeps = keeps
  events_keep (event ∷ events) world keeps = events_keep events (happens protocol world event) (event_keeps world event keeps)

  pub start_keeps : (world : World Request Reply) → IsStart vo request world → Keeps world
  start_keeps world start = record {
    legal = start.legal;
    name = start.name;
    sent = subst (λ (list : List Request). Each (λ one. one ≡ request) list) (sym start.sent) tt;
    made = subst (λ (list : List Reply). Each (λ reply. IsBacked id world.entries (protocol.heard reply)) list) (sym start.made) tt;
    own = start.own;
    done = subst (λ done. IsTold id world.entries done) (sym start.untold) tt;
  }

  kept_acts : (world : World Request Reply) → Keeps world → ActsOnce id world
  kept_acts world keeps = record { most = most; done = by_done world.client.done keeps.done }
    where
      most : submissions id world.entries ≤ 1
      most = one_submission world.entries id keeps.legal

      by_done : (done : Option ℕ) → IsTold id world.entries done → IfSome done (λ job. (job ≡ id) × (submissions id world.entries ≡ 1))
      by_done None is = tt
      by_done (Some job) is = (is.0, le_antisymm most is.1)

  reached_keeps : {world next : World Request Reply} → Keeps world → IsReached protocol world next → Keeps next
  reached_keeps keeps Starts = keeps
  reached_keeps keeps (Goes {world = before} reached step) =
      subst (λ (world : World Request Reply). Keeps world) (sym step.1) (event_keeps before step.0 (reached_keeps keeps reached))

  pub events_act_once : (start : World Request Reply) (events : List Event) → IsStart vo request start → ActsOnce id (world_after protocol start events)
  events_act_once start events is = kept_acts (world_after protocol start events) (events_keep events start (start_keeps start is))

  pub reached_acts_once : (start world : World Request Reply) → IsStart vo request start → IsReached protocol start world → ActsOnce id world
  reached_acts_once start world is reached = kept_acts world (reached_keeps (start_keeps start is) reached)
