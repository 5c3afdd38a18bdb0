-- Parts of a session, one behind the other: what each adds, what the bench holds, and the store that follows.
use Rattle.std.proofs.Common.{◌≡◌, inl, inr, refl, ap, sym, ◌∙◌, subst, ℕ, ◌+◌, ◌≤◌, Bool, true, false, if◌then◌else◌, cond, List, [], ◌∷◌, ◌++◌, length, Option, arith, append_assoc, length-append}
use Rattle.std.proofs.lemmas.List.Sums.{sum_by-append, sum_by-cons}
use Rattle.fts_tables.specs.Coming.{Coming, Gives}
use Rattle.fts_tables.specs.Tables.{Tables, empty_tables}
use Rattle.fts_tables.specs.Step.{step}
use Rattle.fts_tables.specs.History.{tables_of, tables_from, tables_after, IsAccepted, IsLegal}
use Rattle.fts_tables.specs.declared.commands.Entry.{Entry}
use Rattle.fts_tables.specs.declared.commands.Command.{Command}
use Rattle.fts_tables.specs.declared.commands.Command.TheVariants.{Restart, Submit, CancelJob, CancelFile, SetPriority, Claim, Report, Ban, Unban, Expire}
use Rattle.fts_tables.specs.declared.rows.Outcome.{Outcome}
use Rattle.fts_disk.specs.Disk.{IsTold, IsLawful}
use Rattle.fts_keep.specs.Keeps.{KeepData, IsKeep, Grows, KeepsImagesSinceAny, bodies_of, used_after}
use Rattle.fts_workers.specs.Benches.{BenchData, HoldsActive, held_over, kept_of, newly_held}
use Rattle.fts_workers.specs.Copies.{Copy, copies_in, copies_from, copies_kept, AreCopied, FollowsReports}
use Rattle.fts_workers.specs.Requests.{IsOfRequest}
use Rattle.fts_workers.specs.Rounds.{Walk, IsRound, IsWorkedOver, MakesRound, claims_among, is_claim as is_claim_of_round}
use Rattle.fts_workers.specs.declared.ends.RoundEnd.{RoundEnd}
use Rattle.fts_wire.specs.RequestData.{RequestData}
use Rattle.fts_wire.specs.declared.response.Reply.{Reply}
use Rattle.fts_routes.specs.Replies.{Answers, said, said_so, DoubtComes, IsInsteadOf, DoubtHasCause}
use Rattle.fts_laws.specs.Attempts.{claims_in, is_claim}
use Rattle.fts_session.specs.Sessions.{AnswersNext, ThreadData, Extends, IsOver, IsOwn, IsReady, walk_of, kept_at, Works}
use Rattle.fts_session.proofs.Keeping.{none_more, tables_from-append, legal_behind, extends_none, extends_more}
use Rattle.fts_session.proofs.Saying.{AddsWell, said_well}
use Rattle.fts_disk.specs.declared.disk.Disk as disk
use Rattle.fts_store.specs.declared.store.Store as store

-- the bench is left by the commands of requests, as a law of the workers says
pub record LeavesBench : Type 0 where
  pub held : (entries : List Entry) (entry : Entry) (kept : Option Outcome) → IsLegal (entries ++ entry ∷ []) → IsOfRequest entry.command
      → held_over (entries ++ entry ∷ []) kept ≡ held_over entries kept
  pub copies : (entries : List Entry) (entry : Entry) (kept : Option Outcome) → IsLegal (entries ++ entry ∷ []) → IsOfRequest entry.command
      → copies_kept (tables_of (entries ++ entry ∷ [])) (held_over entries kept) ≡ copies_kept (tables_of entries) (held_over entries kept)

-- claims of one list and of another one
pub claims_more : (first second : List Entry) → claims_in (first ++ second) ≡ claims_in first + claims_in second
claims_more first second = sum_by-append (λ (entry : Entry). cond (is_claim entry.command) 1 0) first second

-- one entry counts by what it is
claims_one : (entry : Entry) → claims_in (entry ∷ []) ≡ cond {A = ℕ} (is_claim entry.command) 1 0
claims_one entry = omega arith

-- there are no more claims than entries
pub claims_few : (entries : List Entry) → claims_in entries ≤ length entries
claims_few entries = few entries
  where
    one : (b : Bool) → cond {A = ℕ} b 1 0 ≤ 1
    one true = omega arith
    one false = omega arith

    few : (list : List Entry) → claims_in list ≤ length list
    few [] = omega arith
    few (entry ∷ list) =
        let both : claims_in (entry ∷ list) ≡ claims_in (entry ∷ []) + claims_in list = claims_more (entry ∷ []) list in
        omega (arith, both, claims_one entry, one (is_claim entry.command), few list)

-- a request is no claim
no_claim : (command : Command) → IsOfRequest command → is_claim command ≡ false
no_claim (Restart now settings) is = absurd is
no_claim (Claim now word) is = absurd is
no_claim (Report now file attempt outcome) is = absurd is
no_claim (Expire now) is = absurd is
no_claim _ is = refl

-- and reports no copy
no_copy : (tables : Tables) (command : Command) → IsOfRequest command → copies_in tables command ≡ []
no_copy tables (Restart now settings) is = absurd is
no_copy tables (Claim now word) is = absurd is
no_copy tables (Report now file attempt outcome) is = absurd is
no_copy tables (Expire now) is = absurd is
no_copy tables _ is = refl

-- the copies of one list and of another one
pub copies_from-append : (by : ℕ → Bool) (tables : Tables) (entries more : List Entry)
    → copies_from by tables (entries ++ more) ≡ copies_from by tables entries ++ copies_from by (tables_from tables entries) more
copies_from-append by tables [] more = refl
copies_from-append by tables (entry ∷ entries) more =
    let own = if by entry.writer then copies_in tables entry.command else [] in
    ap (λ (l : List Copy). own ++ l) (copies_from-append by (tables_after tables (step tables entry.command)) entries more)
    ∙ sym (append_assoc own (copies_from by (tables_after tables (step tables entry.command)) entries)
    (copies_from by (tables_from (tables_after tables (step tables entry.command)) entries) more))

-- what a round counts as a claim is one
same_claim : (command : Command) → is_claim command ≡ is_claim_of_round command
same_claim (Restart now settings) = refl
same_claim (Submit now job) = refl
same_claim (CancelJob now job) = refl
same_claim (CancelFile now job file) = refl
same_claim (SetPriority now job priority) = refl
same_claim (Claim now word) = refl
same_claim (Report now file attempt outcome) = refl
same_claim (Ban now storage cancel) = refl
same_claim (Unban now storage) = refl
same_claim (Expire now) = refl

same_claims : (entries : List Entry) → claims_in entries ≡ claims_among entries
same_claims [] = refl
same_claims (entry ∷ entries) =
    sum_by-cons (λ (e : Entry). cond {A = ℕ} (is_claim e.command) 1 0) entry entries
    ∙ ap (λ (b : Bool). cond {A = ℕ} b 1 0 + claims_in entries) (same_claim entry.command)
    ∙ ap (λ n. cond {A = ℕ} (is_claim_of_round entry.command) 1 0 + n) (same_claims entries)
    ∙ sym (sum_by-cons (λ (e : Entry). cond {A = ℕ} (is_claim_of_round e.command) 1 0) entry entries)

-- copies after copies
copied_more : {E : Type 0} (stores : store.Ghosts E) (start middle after : E) (first second : List Copy)
    → AreCopied stores.state stores.calls stores.faults start first middle → AreCopied stores.state stores.calls stores.faults middle second after → AreCopied stores.state stores.calls stores.faults start (first ++ second) after
copied_more stores start middle after [] second one two = subst (λ s. AreCopied stores.state stores.calls stores.faults s second after) one two
copied_more stores start middle after (copy ∷ first) second one two =
    (one.0, (one.1.0, copied_more stores one.0 middle after first second one.1.1 two))

-- a store that follows from reports, and then from others
follows_more : {E : Type 0} (stores : store.Ghosts E) (kept first kept_mid second kept_now both : List Copy) (old mid new : E)
    → both ≡ first ++ second → FollowsReports stores.state stores.calls stores.faults kept first kept_mid old mid → FollowsReports stores.state stores.calls stores.faults kept_mid second kept_now mid new
    → FollowsReports stores.state stores.calls stores.faults kept both kept_now old new
follows_more stores kept first kept_mid second kept_now both old mid new is one two = record {
  made = one.made ++ two.made;
  balance = sym (append_assoc kept one.made two.made) ∙ ap (λ l. l ++ two.made) one.balance ∙ append_assoc first kept_mid two.made
      ∙ ap (λ l. first ++ l) two.balance ∙ sym (append_assoc first second kept_now) ∙ ap (λ l. l ++ kept_now) (sym is);
  copied = copied_more stores old mid new one.made two.made one.copied two.copied;
}

-- nothing was copied
follows_none : {E : Type 0} (stores : store.Ghosts E) (kept reported kept_now : List Copy) (store : E)
    → reported ≡ [] → kept_now ≡ kept → FollowsReports stores.state stores.calls stores.faults kept reported kept_now store store
follows_none stores kept reported kept_now store none same = record {
  made = [];
  balance = none_more kept ∙ sym same ∙ ap (λ l. l ++ kept_now) (sym none);
  copied = refl;
}

-- a list that is legal, with an entry more that is accepted
pub legal_one : (entries : List Entry) (entry : Entry) → IsLegal entries → IsAccepted (step (tables_of entries) entry.command) → IsLegal (entries ++ entry ∷ [])
legal_one entries entry legal accepted = legal_behind empty_tables entries (entry ∷ []) legal (accepted, tt)

-- what a request adds is legal behind a list
legal_asked : (tables : Tables) (entries added : List Entry) → AddsWell tables added → tables ≡ tables_of entries → IsLegal entries → IsLegal (entries ++ added)
legal_asked tables entries added (inl none) folded legal = subst IsLegal (sym (ap (λ l. entries ++ l) none ∙ none_more entries)) legal
legal_asked tables entries added (inr one) folded legal = subst IsLegal (ap (λ l. entries ++ l) (sym one.1.0))
    (legal_one entries one.0 legal (subst (λ t. IsAccepted (step t one.0.command)) folded one.1.1.0))

-- and leaves what a bench holds over it
held_asked : LeavesBench → (tables : Tables) (entries added : List Entry) (kept : Option Outcome) → AddsWell tables added → IsLegal (entries ++ added)
    → held_over (entries ++ added) kept ≡ held_over entries kept
held_asked law tables entries added kept (inl none) legal = ap (λ l. held_over l kept) (ap (λ l. entries ++ l) none ∙ none_more entries)
held_asked law tables entries added kept (inr one) legal = ap (λ l. held_over (entries ++ l) kept) one.1.0
    ∙ law.held entries one.0 kept (subst (λ l. IsLegal (entries ++ l)) one.1.0 legal) one.1.1.1

-- with the copies that it keeps
copies_asked : LeavesBench → (tables : Tables) (entries added : List Entry) (kept : Option Outcome) → AddsWell tables added → IsLegal (entries ++ added)
    → copies_kept (tables_of (entries ++ added)) (held_over entries kept) ≡ copies_kept (tables_of entries) (held_over entries kept)
copies_asked law tables entries added kept (inl none) legal = ap (λ l. copies_kept (tables_of l) (held_over entries kept)) (ap (λ l. entries ++ l) none ∙ none_more entries)
copies_asked law tables entries added kept (inr one) legal = ap (λ l. copies_kept (tables_of (entries ++ l)) (held_over entries kept)) one.1.0
    ∙ law.copies entries one.0 kept (subst (λ l. IsLegal (entries ++ l)) one.1.0 legal) one.1.1.1

-- it reports no copy, and is no claim
reports_none : (tables from : Tables) (added : List Entry) → AddsWell tables added → copies_from (λ writer. true) from added ≡ []
reports_none tables from added (inl none) = ap (λ l. copies_from (λ writer. true) from l) none
reports_none tables from added (inr one) = ap (λ l. copies_from (λ writer. true) from l) one.1.0
    ∙ none_more (copies_in from one.0.command) ∙ no_copy from one.0.command one.1.1.1

claims_none : (tables : Tables) (added : List Entry) → AddsWell tables added → claims_in added ≡ 0
claims_none tables added (inl none) = ap (λ l. claims_in l) none
claims_none tables added (inr one) = ap (λ l. claims_in l) one.1.0 ∙ claims_one one.0 ∙ ap (λ (b : Bool). cond {A = ℕ} b 1 0) (no_claim one.0.command one.1.1.1)

-- a keep and its bench are over a list with what a request added
asked_over : {D : Type 0} → LeavesBench → (keep new : KeepData D) (bench : BenchData) (entries added : List Entry) → AddsWell keep.tables added
    → new.tables ≡ tables_from keep.tables added → new.commands ≡ keep.commands + length added
    → IsWorkedOver keep bench entries → IsWorkedOver new bench (entries ++ added)
asked_over law keep new bench entries added well tables commands over =
    let legal = legal_asked keep.tables entries added well over.list.folded over.list.legal in
    record {
      list = record {
        folded = tables ∙ ap (λ t. tables_from t added) over.list.folded ∙ sym (tables_from-append empty_tables entries added);
        legal = legal;
        counted = omega (arith, commands, over.list.counted, length-append entries added);
      };
      held = over.held ∙ sym (held_asked law keep.tables entries added (kept_of bench.held) well legal);
    }

module _ {D E : Type 0} (disks : disk.Ghosts D) (stores : store.Ghosts E) where
  -- nothing was done
  pub works_none : (Goes : Bool → Walk → Walk → Type 0) (at : ThreadData D E) → IsReady at → IsKeep disks.state at.keep → (IsTold (disks.state at.keep.disk) → IsLawful (disks.state at.keep.disk))
      → ((own : Bool) (walk : Walk) → Goes own walk walk) → Works disks stores Goes at at
  works_none Goes at ready sound lawful here = record {
    added = [];
    extends = extends_none disks at.keep sound lawful;
    over = λ entries over. subst (λ l. IsOver at l) (sym (none_more entries)) over;
    goes = λ own entries over is. subst (λ l. Goes own (walk_of disks.faults entries at) (walk_of disks.faults l at)) (sym (none_more entries))
        (here own (walk_of disks.faults entries at));
    follows = follows_none stores (kept_at at) [] (kept_at at) at.store refl refl;
    counted = omega arith;
    places = refl;
    ready = ready;
  }

  -- the same, told otherwise
  pub works_as : (Goes As : Bool → Walk → Walk → Type 0) (old new : ThreadData D E)
      → ((own : Bool) (before after : Walk) → Goes own before after → As own before after)
      → Works disks stores Goes old new → Works disks stores As old new
  works_as Goes As old new implies work = record {
    added = work.added;
    extends = work.extends;
    over = work.over;
    goes = λ own entries over is. implies own (walk_of disks.faults entries old) (walk_of disks.faults (entries ++ work.added) new) (work.goes own entries over is);
    follows = work.follows;
    counted = work.counted;
    places = work.places;
    ready = work.ready;
  }

  -- a list that is the disk's own is so with what was added
  own_more : (own : Bool) (old mid : ThreadData D E) (entries added : List Entry) → Extends disks old.keep mid.keep added → IsOwn disks own old entries
      → IsOwn disks own mid (entries ++ added)
  own_more own old mid entries added extends is = λ so.
      let both = is so in (extends.told ∙ both.0, ap (λ l. l ++ added) both.1 ∙ sym extends.listed)

  -- one part, and another one behind it
  pub works_more : (First Second Both : Bool → Walk → Walk → Type 0) (old mid new : ThreadData D E)
      → ((own : Bool) (before between after : Walk) → First own before between → Second own between after → Both own before after)
      → Works disks stores First old mid → Works disks stores Second mid new
      → Works disks stores Both old new
  works_more First Second Both old mid new join one two = record {
    added = one.added ++ two.added;
    extends = extends_more disks old.keep mid.keep new.keep one.added two.added one.extends two.extends;
    over = λ entries over. subst (λ l. IsOver new l) (append_assoc entries one.added two.added) (two.over (entries ++ one.added) (one.over entries over));
    goes = λ own entries over is. subst (λ l. Both own (walk_of disks.faults entries old) (walk_of disks.faults l new)) (append_assoc entries one.added two.added)
        (join own (walk_of disks.faults entries old) (walk_of disks.faults (entries ++ one.added) mid) (walk_of disks.faults ((entries ++ one.added) ++ two.added) new)
        (one.goes own entries over is)
        (two.goes own (entries ++ one.added) (one.over entries over) (own_more own old mid entries one.added one.extends is)));
    follows = follows_more stores (kept_at old) (copies_from (λ writer. true) old.keep.tables one.added) (kept_at mid)
        (copies_from (λ writer. true) mid.keep.tables two.added) (kept_at new) (copies_from (λ writer. true) old.keep.tables (one.added ++ two.added))
        old.store mid.store new.store
        (copies_from-append (λ writer. true) old.keep.tables one.added two.added
        ∙ ap (λ t. copies_from (λ writer. true) old.keep.tables one.added ++ copies_from (λ writer. true) t two.added) (sym one.extends.tables))
        one.follows two.follows;
    counted = omega (arith, one.counted, two.counted, claims_more one.added two.added);
    places = two.places ∙ one.places;
    ready = two.ready;
  }

  -- no more files were claimed behind a round than there are commands
  pub round_few : (keep new : KeepData D) (bench bench_now : BenchData) (claims : ℕ) (store store_now : E) (moments later words words_later : Option Coming)
      (end : RoundEnd) → IsReady (record { keep = keep; bench = bench; claims = claims; store = store; moments = moments; words = words })
      → MakesRound disks.state disks.faults stores.state stores.calls stores.faults keep new bench bench_now store store_now moments later words words_later end
      → claims + newly_held bench_now.held ≤ new.commands
  round_few keep new bench bench_now claims store store_now moments later words words_later end ready round =
      let base = ready.over.0 in
      let over = ready.over.1 in
      let over_now = round.over base over in
      let claimed : claims_in round.added ≡ newly_held bench_now.held = same_claims round.added ∙ round.claimed in
      omega (arith, ready.few, claimed, claims_few round.added, over.list.counted, over_now.list.counted, length-append base round.added)

  -- a round
  pub works_round : (keep new : KeepData D) (bench bench_now : BenchData) (claims claims_now : ℕ) (store store_now : E) (moments later words words_later : Option Coming) (end : RoundEnd)
      → IsReady (record { keep = keep; bench = bench; claims = claims; store = store; moments = moments; words = words })
      → (round : MakesRound disks.state disks.faults stores.state stores.calls stores.faults keep new bench bench_now store store_now moments later words words_later end)
      → HoldsActive new.tables bench_now → bench_now.places ≡ bench.places → Grows disks.state disks.faults 0 keep new → KeepsImagesSinceAny disks.state keep new → DoubtHasCause disks.state disks.faults keep new
      → claims_now ≡ claims + newly_held bench_now.held
      → Works disks stores (λ own before after. IsRound bench.places before end after)
      (record { keep = keep; bench = bench; claims = claims; store = store; moments = moments; words = words })
      (record { keep = new; bench = bench_now; claims = claims_now; store = store_now; moments = later; words = words_later })
  works_round keep new bench bench_now claims claims_now store store_now moments later words words_later end ready round active places grows images doubt counted =
      let base = ready.over.0 in
      let over = ready.over.1 in
      let over_now = round.over base over in
      let claimed : claims_in round.added ≡ newly_held bench_now.held = same_claims round.added ∙ round.claimed in
      record {
        added = round.added;
        extends = record { tables = round.tables; listed = round.listed; told = grows.told; counts = grows.counts; images = images; doubt = doubt };
        over = round.over;
        goes = λ own entries over is. round.round entries over;
        follows = round.follows;
        counted = omega (arith, counted, claimed);
        places = places;
        ready = record {
          over = (base ++ round.added, over_now);
          kept = active.kept;
          few = omega (arith, round_few keep new bench bench_now claims store store_now moments later words words_later end ready round, counted);
        };
      }

  -- a request that was answered
  pub works_answer : LeavesBench → (keep new : KeepData D) (bench : BenchData) (claims : ℕ) (store : E) (moments later words : Option Coming) (request : RequestData) (now : ℕ) (reply : Reply)
      → IsReady (record { keep = keep; bench = bench; claims = claims; store = store; moments = moments; words = words })
      → Answers disks.state disks.faults keep new 0 request now reply → Grows disks.state disks.faults 0 keep new → KeepsImagesSinceAny disks.state keep new
      → DoubtHasCause disks.state disks.faults keep new → Gives moments later now
      → Works disks stores (λ own before after. AnswersNext own before request reply after)
      (record { keep = keep; bench = bench; claims = claims; store = store; moments = moments; words = words })
      (record { keep = new; bench = bench; claims = claims; store = store; moments = later; words = words })
  works_answer law keep new bench claims store moments later words request now reply ready answers grows images doubt tick =
      let added = (said_so answers.way (said keep.tables answers.bodies keep.used 0 request now)).added in
      let well : AddsWell keep.tables added = said_well keep.tables answers.bodies keep.used 0 request now answers.way in
      let base = ready.over.0 in
      let over = ready.over.1 in
      let over_now = asked_over law keep new bench base added well answers.tables answers.commands over in
      let legal = over_now.list.legal in
      let held = over.held in
      record {
        added = added;
        extends = record { tables = answers.tables; listed = answers.listed; told = grows.told; counts = grows.counts; images = images; doubt = doubt };
        over = λ entries is. asked_over law keep new bench entries added well answers.tables answers.commands is;
        goes = λ own entries is whose. record {
          now = now;
          moment = tick;
          words = refl;
          kept = refl;
          bodies = answers.bodies;
          shown = record {
            counted = answers.shown.counted ∙ is.list.counted;
            spelled = λ so. let both = whose so in answers.shown.spelled both.0 ∙ ap bodies_of (sym both.1);
          };
          way = answers.way;
          cause = answers.cause;
          instead = subst (λ t. IsInsteadOf answers.way (said t answers.bodies keep.used 0 request now)) is.list.folded answers.instead;
          counts = grows.counts;
          replies = answers.replies ∙ ap (λ t. (said_so answers.way (said t answers.bodies keep.used 0 request now)).reply) is.list.folded;
          listed = ap (λ t. entries ++ (said_so answers.way (said t answers.bodies keep.used 0 request now)).added) is.list.folded;
          filled = answers.used ∙ ap (λ t. used_after keep.used (said_so answers.way (said t answers.bodies keep.used 0 request now)).added) is.list.folded;
          doubt = subst (λ t. DoubtComes (disks.faults keep.disk) (disks.faults new.disk) keep.doubt new.doubt (said t answers.bodies keep.used 0 request now).added
              (said_so answers.way (said t answers.bodies keep.used 0 request now)).added) is.list.folded answers.doubt;
        };
        follows = follows_none stores (copies_kept keep.tables bench.held) (copies_from (λ writer. true) keep.tables added)
            (copies_kept new.tables bench.held) store (reports_none keep.tables keep.tables added well)
            (ap (λ l. copies_kept new.tables l) held ∙ ap (λ t. copies_kept t (held_over base (kept_of bench.held))) over_now.list.folded
            ∙ copies_asked law keep.tables base added (kept_of bench.held) well legal
            ∙ ap (λ t. copies_kept t (held_over base (kept_of bench.held))) (sym over.list.folded) ∙ ap (λ l. copies_kept keep.tables l) (sym held));
        counted = omega (arith, claims_none keep.tables added well);
        places = refl;
        ready = record { over = (base ++ added, over_now); kept = ready.kept; few = omega (arith, ready.few, answers.commands) };
      }
