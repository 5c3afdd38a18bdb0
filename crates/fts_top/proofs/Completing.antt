-- How a session ends whose input ends well, and that nothing else but a fault stops it.
use Rattle.std.proofs.Common.{◌≡◌, ◌≢◌, ◌⊎◌, inl, inr, ℕ, ◌<◌, ◌≤◌, Bool, true, false, true≢false, List, [], ◌∷◌, ◌++◌, length, Option, Some, None, Result, Ok, Err, refl, ap, sym, ◌∙◌, subst, arith, append-nil, length-append}
use Rattle.std.specs.Prelude.{IsSomeAnd, IfSome, IsOk, unwrap_or}
use Rattle.std.specs.List.{Any}
use Rattle.std.proofs.lemmas.List.{map-append, length-map}
use Rattle.std.proofs.lemmas.List.Elements.{All-nil, All-cons}
use Rattle.fts_tables.specs.Counts.{Rose}
use Rattle.fts_tables.specs.Tables.{Tables}
use Rattle.fts_tables.specs.Coming.{Coming}
use Rattle.fts_tables.specs.SettingsData.{SettingsData}
use Rattle.fts_tables.specs.declared.limits.TheConstants.{MAX_REQUESTS}
use Rattle.fts_config.specs.Settings.{settings_of}
use Rattle.fts_config.specs.declared.fault.SettingsFault.{SettingsFault}
use Rattle.fts_disk.specs.Disk.{IsTold}
use Rattle.fts_wire.specs.RequestData.{RequestData}
use Rattle.fts_wire.specs.RoomData.{RoomData}
use Rattle.fts_wire.specs.Requests.{Next, Closed, EndsInside, Refuses, next_of, AreRequests}
use Rattle.fts_wire.specs.Taken.{pending, IsNext}
use Rattle.fts_wire.specs.Faults.{status_of as fault_status}
use Rattle.fts_wire.specs.declared.fault.WireFault.{WireFault}
use Rattle.fts_wire.specs.declared.fault.WireFault.TheVariants as wire_faults
use Rattle.fts_wire.specs.declared.response.Reply.{Reply}
use Rattle.fts_keep.specs.Applied.{fits}
use Rattle.fts_keep.specs.Damage.{IsDamaged}
use Rattle.fts_keep.specs.Keeps.{used_of}
use Rattle.fts_keep.specs.Started.{restart_at}
use Rattle.fts_routes.specs.Refusals.{no_memory}
use Rattle.fts_workers.specs.Rounds.{Walk}
use Rattle.fts_workers.specs.declared.ends.RoundEnd.{RoundEnd}
use Rattle.fts_workers.specs.declared.ends.RoundEnd.TheVariants as round_ends
use Rattle.fts_words.specs.declared.asked.Asked.{Asked}
use Rattle.fts_words.specs.declared.asked.Asked.TheVariants as asks
use Rattle.fts_top.specs.Asked.{DoesAsked, IsToDelete}
use Rattle.fts_top.specs.Errands.{Beyond}
use Rattle.fts_session.specs.Connections.{Reading, Exchange, requests_of, responses_of, AreRequestsIn, GoOn, EndsByClose as ClosedByLast, AreWritten, Ends, is_there, AreServed, LastAnswered}
use Rattle.fts_top.specs.Ends.{status_of, line_status, round_status, session_status}
use Rattle.fts_top.specs.Looks.{IsLook, IsLookStop, Shows, WritesText}
use Rattle.fts_show.specs.Shown.{shown_text}
use Rattle.fts_top.specs.Runs.{OneThread, OverDisks, OverHands, one_thread, IsStop, StopsEarly, RunsSession, IsSessionRun}
use Rattle.fts_session.specs.Sessions.{AnswersNext, FollowedByRound, LastRounds}
use Rattle.fts_top.specs.Complete.{NoneCloses, EndsWell, HasGoodSettings, IsUndamaged, BreaksNoRule, Stays, AnswersUnlessMemory, AnswersAsDefined, AnswersAll, Finishes, FinishesShowing, Completes, failures_of, begun}
use Rattle.fts_session.specs.declared.ends.LineEnd.{LineEnd}
use Rattle.fts_session.specs.declared.ends.LineEnd.TheVariants as line_ends
use Rattle.fts_session.specs.declared.ends.SessionEnd.{SessionEnd}
use Rattle.fts_top.specs.declared.ends.RunEnd.{RunEnd}
use Rattle.fts_top.specs.declared.ends.RunEnd.TheVariants.{NoMemory, NoCommand, SettingsUnread, SettingsRule, DiskFailed, Damaged, JournalFull, Session, Shown}
use Rattle.fts_top.specs.declared.tally.Tally.{Tally}
use Rattle.fts_top.proofs.Inputs.{InputEnd, Between, ByClose, ByNumber, Holds, EndsSo, IsEnd, same_input, holds_between, holds_all, holds_close, held_well}
use Rattle.fts_top.proofs.Steady.{served_on, last_rounds_on, stays_within, served_unless_memory, defined_or_wanting, limit_met, last_not_busy}
use Rattle.fts_disk.specs.declared.disk.Disk as disk
use Rattle.fts_store.specs.declared.store.Store as store
use Rattle.fts_wire.specs.declared.outside.Source as source
use Rattle.fts_wire.specs.declared.outside.Sink as sink

none_closes : (exchanges : List Exchange) → GoOn exchanges → NoneCloses (requests_of exchanges)
none_closes [] go_on = All-nil (λ (request : RequestData). request.close ≡ false)
none_closes (exchange ∷ exchanges) go_on =
    All-cons (λ (request : RequestData). request.close ≡ false) exchange.request (requests_of exchanges) go_on.0 (none_closes exchanges go_on.1)

-- what a load that found no request says of what is left
next_is : (before after : Option (List ℕ)) (room : RoomData) (rest : List ℕ) → before ≡ Some rest → IsNext before after room (Ok false) → next_of rest ≡ Closed
next_is None after room rest is found = absurd cc
next_is (Some bytes) None room rest is found = absurd found
next_is (Some bytes) (Some left) room rest is found = let e : next_of bytes ≡ Closed = found.0 in cc

next_inside : (before after : Option (List ℕ)) (room : RoomData) (rest : List ℕ) → before ≡ Some rest → IsNext before after room (Err wire_faults.EndsInside) → next_of rest ≡ EndsInside
next_inside None after room rest is found = absurd cc
next_inside (Some bytes) None room rest is found = absurd found
next_inside (Some bytes) (Some left) room rest is found = let e : next_of bytes ≡ EndsInside = found in cc

refused_next : (bytes left : List ℕ) (room : RoomData) (fault : WireFault) (status : ℕ) → fault_status fault ≡ Some status → IsNext (Some bytes) (Some left) room (Err fault) → next_of bytes ≡ Refuses fault
refused_next bytes left room wire_faults.BadHead status has found = found
refused_next bytes left room wire_faults.HeadTooLarge status has found = found
refused_next bytes left room wire_faults.BadLength status has found = found
refused_next bytes left room wire_faults.Chunked status has found = found
refused_next bytes left room wire_faults.BodyTooLarge status has found = found
refused_next bytes left room wire_faults.ForeignOrigin status has found = found
refused_next bytes left room wire_faults.EndsInside status has found = absurd cc
refused_next bytes left room wire_faults.SourceFailed status has found = absurd cc

next_refused : (before after : Option (List ℕ)) (room : RoomData) (rest : List ℕ) (fault : WireFault) (status : ℕ) → fault_status fault ≡ Some status → before ≡ Some rest
    → IsNext before after room (Err fault) → next_of rest ≡ Refuses fault
next_refused None after room rest fault status has is found = absurd cc
next_refused (Some bytes) None room rest fault status has is found = absurd (unread fault found)
  where
    unread : (f : WireFault) → IsNext (Some bytes) None room (Err f) → ⊥
    unread f h = h
next_refused (Some bytes) (Some left) room rest fault status has is found =
    let e : next_of bytes ≡ Refuses fault = refused_next bytes left room fault status has found in cc

in_rest : (bytes : List ℕ) (requests : List RequestData) (behind : Option (List ℕ)) → AreRequestsIn (Some bytes) requests behind
    → (rest : List ℕ) × ((behind ≡ Some rest) × AreRequests bytes requests rest)
in_rest bytes requests None are = absurd are
in_rest bytes requests (Some rest) are = (rest, (refl, are))

-- an end that isn't good isn't that of an input that ends well
not_so : (bytes : List ℕ) (requests found : List RequestData) (end : InputEnd) → EndsWell bytes requests → Holds 0 bytes found end → (EndsSo end → ⊥) → ⊥
not_so bytes requests found end well held bad =
    let good = held_well bytes requests well in
    bad (subst EndsSo (same_input 0 bytes requests found good.0 end good.1.0 held).1 good.1.1)

found_all : (bytes : List ℕ) (requests found : List RequestData) (end : InputEnd) → EndsWell bytes requests → Holds 0 bytes found end → found ≡ requests
found_all bytes requests found end well held =
    let good = held_well bytes requests well in
    sym (same_input 0 bytes requests found good.0 end good.1.0 held).0

-- how a connection ended that no read and no write stopped
record EndsClosed (requests : List RequestData) (exchanges last : List Exchange) (held now : Option (List ℕ)) (line : LineEnd) : Type 0 where
  pub closed : line ≡ line_ends.Closed
  pub none : last ≡ []
  pub all : requests_of exchanges ≡ requests
  pub written : AreWritten held now (responses_of exchanges)

module _ (bytes : List ℕ) (requests : List RequestData) (well : EndsWell bytes requests) (behind : List ℕ) (between left : Reading) (held now : Option (List ℕ))
    (exchanges : List Exchange) (few : length exchanges ≤ MAX_REQUESTS) (rest : List ℕ) (is : pending behind between.left ≡ Some rest)
    (are : AreRequests bytes (requests_of exchanges) rest) where
  count : length (requests_of exchanges) ≡ length exchanges
  count = length-map exchanges (λ (exchange : Exchange). exchange.request)

  -- behind requests none of which says close
  held_between : (next : Next) → GoOn exchanges → length exchanges < MAX_REQUESTS → next_of rest ≡ next → IsEnd next → Holds 0 bytes (requests_of exchanges) (Between next)
  held_between next go_on fewer next_is end = holds_between 0 bytes (requests_of exchanges) rest next are (none_closes exchanges go_on) (omega (arith, fewer, count)) next_is end

  held_by_close : ClosedByLast exchanges → Holds 0 bytes (requests_of exchanges) ByClose
  held_by_close by_close =
      let split : requests_of exchanges ≡ requests_of by_close.others ++ by_close.last.request ∷ [] =
      ap requests_of by_close.all ∙ map-append (λ (exchange : Exchange). exchange.request) by_close.others (by_close.last ∷ []) in
      subst (λ (l : List RequestData). Holds 0 bytes l ByClose) (sym split)
      (holds_close 0 bytes (requests_of by_close.others) by_close.last.request rest (subst (λ (l : List RequestData). AreRequests bytes l rest) split are)
      (none_closes by_close.others by_close.go_on) by_close.closes
      (omega (arith, few, ap length by_close.all, length-append by_close.others (by_close.last ∷ []), length-map by_close.others (λ (exchange : Exchange). exchange.request))))

  closes : (line : LineEnd) → Ends exchanges false behind between left held now line → line ≢ line_ends.SourceFailed → line ≢ line_ends.SinkFailed
      → EndsClosed requests exchanges [] held now line
  closes line_ends.Closed (inl by_close, written) read sent = record {
    closed = refl;
    none = refl;
    all = found_all bytes requests (requests_of exchanges) ByClose well (held_by_close by_close.by_close);
    written = written;
  }
  closes line_ends.Closed (inr tries, written) read sent = record {
    closed = refl;
    none = refl;
    all = found_all bytes requests (requests_of exchanges) (Between Closed) well (held_between Closed tries.go_on tries.few
        (next_is (pending behind between.left) (pending tries.loads.0.kept left.left) tries.loads.0 rest is tries.loads.1.next) tt);
    written = written;
  }
  closes line_ends.EndsInside (tries, written) read sent = absurd (not_so bytes requests (requests_of exchanges) (Between EndsInside) well
      (held_between EndsInside tries.go_on tries.few (next_inside (pending behind between.left) (pending tries.loads.0.kept left.left) tries.loads.0 rest is tries.loads.1.next) tt) (λ bad. bad))
  closes (line_ends.Refused status) (fault, refused) read sent =
      let tries = refused.tries in
      absurd (not_so bytes requests (requests_of exchanges) (Between (Refuses fault)) well
      (held_between (Refuses fault) tries.go_on tries.few (next_refused (pending behind between.left) (pending tries.loads.0.kept left.left) tries.loads.0 rest fault status
      refused.written.1.0.has_status is tries.loads.1.next) tt) (λ bad. bad))
  closes line_ends.Many (go_on, (all, others)) read sent = absurd (not_so bytes requests (requests_of exchanges) ByNumber well
      (holds_all 0 bytes (requests_of exchanges) rest are (none_closes exchanges go_on) (omega (arith, all, count))) (λ bad. bad))
  closes line_ends.SourceFailed ends read sent = absurd (read refl)
  closes line_ends.SinkFailed ends read sent = absurd (sent refl)

-- a response that was cut short is a write that failed
not_cut : (exchanges : List Exchange) (behind : List ℕ) (between left : Reading) (held now : Option (List ℕ)) (line : LineEnd) → Ends exchanges true behind between left held now line
    → line ≡ line_ends.SinkFailed
not_cut exchanges behind between left held now line_ends.SinkFailed ends = refl
not_cut exchanges behind between left held now line_ends.Closed ends = absurd ends
not_cut exchanges behind between left held now line_ends.EndsInside ends = absurd ends
not_cut exchanges behind between left held now (line_ends.Refused status) ends = absurd ends
not_cut exchanges behind between left held now line_ends.Many ends = absurd ends
not_cut exchanges behind between left held now line_ends.SourceFailed ends = absurd ends

closed_by : (bytes : List ℕ) (requests : List RequestData) → EndsWell bytes requests → (behind : List ℕ) (between left : Reading) (held now : Option (List ℕ))
    (exchanges last : List Exchange) → length (exchanges ++ last) ≤ MAX_REQUESTS → AreRequestsIn (Some bytes) (requests_of (exchanges ++ last)) (pending behind between.left)
    → (line : LineEnd) → Ends (exchanges ++ last) (is_there last) behind between left held now line → line ≢ line_ends.SourceFailed → line ≢ line_ends.SinkFailed
    → EndsClosed requests exchanges last held now line
closed_by bytes requests well behind between left held now exchanges (one ∷ more) few are line ends read sent =
    absurd (sent (not_cut (exchanges ++ one ∷ more) behind between left held now line ends))
closed_by bytes requests well behind between left held now exchanges [] few are line ends read sent =
    let found = in_rest bytes (requests_of exchanges) (pending behind between.left) (subst (λ (l : List Exchange). AreRequestsIn (Some bytes) (requests_of l) (pending behind between.left)) (append-nil exchanges) are) in
    closes bytes requests well behind between left held now exchanges (omega (arith, few, length-append exchanges [])) found.0 found.1.0 found.1.1 line
    (subst (λ (l : List Exchange). Ends l false behind between left held now line) (append-nil exchanges) ends) read sent

-- the status behind a connection that closed is that of the last round
closed_status : (end : RunEnd) (session : SessionEnd) → end ≡ Session session → session.line ≡ line_ends.Closed → status_of end ≡ round_status session.last
closed_status end session ended closed = ap status_of ended ∙ of_line session.line session.last closed
  where
    of_line : (line : LineEnd) (last : RoundEnd) → line ≡ line_ends.Closed → session_status (record { line = line; last = last }) ≡ round_status last
    of_line line last is = ap (λ (l : LineEnd). unwrap_or (line_status l) (round_status last)) is

-- a status that no read and no write gives
not_by_line : (end : RunEnd) (session : SessionEnd) (line : LineEnd) (status : ℕ) → end ≡ Session session → line_status line ≡ Some status → status_of end ≢ status → session.line ≢ line
not_by_line end session line status ended has not is = not (ap status_of ended ∙ of_line session.line session.last is)
  where
    of_line : (one : LineEnd) (last : RoundEnd) → one ≡ line → session_status (record { line = one; last = last }) ≡ status
    of_line one last same = ap (λ (l : LineEnd). unwrap_or (line_status l) (round_status last)) same ∙ ap (λ (o : Option ℕ). unwrap_or o (round_status last)) has

module _ {D E : Type 0} (disks : disk.Ghosts D) (stores : store.Ghosts E)
    (text : Option (List ℕ)) (before after : OneThread D E) (end : RunEnd) (tally : Tally) (requests : List RequestData)
    (rules : BreaksNoRule text (disks.state before.disk) before.input.left requests) (disk : Stays (disks.faults before.disk) (disks.faults after.disk))
    (not_disk : status_of end ≢ 4) (not_read : status_of end ≢ 5) (not_sent : status_of end ≢ 6) where
  module _ (run : RunsSession disks stores text before after end tally) where
    abbrev begun_at : Walk
    begun_at = begun disks stores text before after end tally run

    line_closed : EndsClosed requests run.ran.session.connection.served run.ran.session.connection.last before.output after.output run.ran.session_end.line
    line_closed = by_input before.input.left rules.ends_well run.ran.session.connection.requests
      where
        by_input : (input : Option (List ℕ)) → IsSomeAnd input (λ bytes. EndsWell bytes requests)
            → AreRequestsIn (pending [] input) (requests_of (run.ran.session.connection.served ++ run.ran.session.connection.last)) (pending run.ran.session.connection.behind run.ran.session.connection.between.left)
            → EndsClosed requests run.ran.session.connection.served run.ran.session.connection.last before.output after.output run.ran.session_end.line
        by_input None well are = absurd well
        by_input (Some bytes) well are = closed_by bytes requests well run.ran.session.connection.behind run.ran.session.connection.between after.input before.output after.output
            run.ran.session.connection.served run.ran.session.connection.last run.ran.session.connection.few are run.ran.session_end.line run.ran.session.connection.ends
            (not_by_line end run.ran.session_end line_ends.SourceFailed 5 run.ran.ended refl not_read) (not_by_line end run.ran.session_end line_ends.SinkFailed 6 run.ran.ended refl not_sent)

    -- nothing was answered whose response was not written
    between_is : run.ran.session.between ≡ run.ran.session.connection.middle
    between_is = subst (λ (l : List Exchange). LastAnswered (AnswersNext (disks.state before.disk).told) (FollowedByRound run.settings.workers) run.ran.session.connection.middle l run.ran.session.between)
        line_closed.none run.ran.session.connection.unwritten

    stays : Stays begun_at.faults run.ran.session.connection.middle.faults
    stays =
        let rounds = last_rounds_on run.settings.workers run.ran.session.between run.ran.session_end.last run.ran.final run.ran.session.rounds in
        stays_within (disks.faults before.disk) begun_at.faults run.ran.session.connection.middle.faults (disks.faults after.disk) run.starts.counts
        (omega (arith, ap (λ (walk : Walk). walk.faults) between_is, rounds.counts, run.ran.faults_left)) disk

    abbrev Answered : (Walk → RequestData → Reply → Walk → Type 0) → Type 0
    Answered Answers = AnswersAll disks stores text before after end tally Answers requests run

    answered_all : Answered (AnswersUnlessMemory (disks.state before.disk).told)
    answered_all = record {
      all = line_closed.all;
      answered = served_unless_memory _ run.settings.workers begun_at run.ran.session.connection.served run.ran.session.connection.middle run.ran.session.connection.answered stays;
      last = line_closed.none;
      written = line_closed.written;
    }

    fills : run.ran.final.used ≡ used_of run.ran.final.entries
    fills =
        let own = run.starts.own rules.told in
        let served = served_on _ run.settings.workers begun_at run.ran.session.connection.served run.ran.session.connection.middle run.ran.session.connection.answered in
        let rounds = last_rounds_on run.settings.workers run.ran.session.between run.ran.session_end.last run.ran.final run.ran.session.rounds in
        rounds.fills (subst (λ (walk : Walk). walk.used ≡ used_of walk.entries) (sym between_is) (served.fills (own.holds.fills ∙ ap used_of own.listed)))

    abbrev Finished : Type 0
    Finished = Finishes disks stores text before after end tally requests

    by_replies : status_of end ≡ 0
        → AreServed (AnswersAsDefined (disks.state before.disk).told) (FollowedByRound run.settings.workers) begun_at run.ran.session.connection.served run.ran.session.connection.middle
        ⊎ Any (λ (exchange : Exchange). exchange.reply ≡ no_memory) run.ran.session.connection.served → Finished
    by_replies status (inl defined) = inl (record {
      run = run;
      answers = record { all = line_closed.all; answered = defined; last = line_closed.none; written = line_closed.written };
      status = status;
    })
    by_replies status (inr wanting) = inr (inl (inl (record { run = run; answers = answered_all; wanting = inr (status, wanting) })))

    by_last : (last : RoundEnd) → LastRounds run.settings.workers last run.ran.session.between run.ran.final → status_of end ≡ round_status last → Finished
    by_last round_ends.Clear rounds status = by_replies status
        (defined_or_wanting _ run.settings.workers begun_at run.ran.session.connection.served run.ran.session.connection.middle answered_all.answered)
    by_last (round_ends.Busy held) rounds status = absurd (last_not_busy run.settings.workers rounds.0 held run.ran.session.between run.ran.final rounds.1)
    by_last round_ends.DiskFailed rounds status = absurd (not_disk status)
    by_last (round_ends.JournalFull full) rounds status = inr (inr (inl (record {
      run = run;
      answers = answered_all;
      passes = limit_met run.settings.workers full run.ran.session.between run.ran.final rounds fills;
      status = status;
    })))
    by_last round_ends.Memory rounds status = inr (inl (inl (record { run = run; answers = answered_all; wanting = inl status })))

    ran_finishes : Finished
    ran_finishes = by_last run.ran.session_end.last run.ran.session.rounds (closed_status end run.ran.session_end run.ran.ended line_closed.closed)

  -- a text of settings that breaks no rule breaks none
  not_broken : (text2 : Option (List ℕ)) (fault : SettingsFault) → HasGoodSettings text2 → IfSome text2 (λ bytes. settings_of bytes ≡ Err fault) → ⊥
  not_broken None fault good is = good
  not_broken (Some bytes) fault good is = true≢false (sym (subst (λ (r : Result SettingsData SettingsFault). IsOk r) is good))

  not_damaged : (offset : ℕ) → ((disks.state before.disk).seen ≡ []) ⊎ IsUndamaged (disks.state before.disk).seen
      → (IsTold (disks.state before.disk) → ((disks.state before.disk).seen ≢ []) × IsDamaged (disks.state before.disk).seen offset) → ⊥
  not_damaged offset (inl empty) cause = (cause rules.told).0 empty
  not_damaged offset (inr good) cause = good offset (cause rules.told).1

  module _ (not_command : status_of end ≢ 2) (not_unread : status_of end ≢ 8) where
    by_stop : (e : RunEnd) → end ≡ e → IsStop disks text before.moments after.moments before.disk after.disk e
        → StopsEarly disks stores text before after end tally
        → Finishes disks stores text before after end tally requests
    by_stop NoCommand is stop stops = absurd (not_command (ap status_of is))
    by_stop SettingsUnread is stop stops = absurd (not_unread (ap status_of is))
    by_stop (SettingsRule rule) is stop stops = absurd (not_broken text stop.0.fault rules.settings stop.0.told)
    by_stop DiskFailed is stop stops = absurd (disk stop.cause)
    by_stop (Damaged offset) is stop stops = absurd (not_damaged offset rules.journal stop.cause)
    by_stop (JournalFull used) is stop stops =
        let own = stop.cause.1 rules.told in
        inr (inr (inr (record {
          stops = stops;
          passes = record {
            settings = stop.settings;
            read = stop.read;
            now = stop.now;
            later = after.moments;
            moment = stop.moment;
            opening = own.0;
            opens = own.1.0;
            passes = subst (λ (n : ℕ). fits n (restart_at stop.now stop.settings) ≡ false) own.1.1 stop.cause.0;
          };
          status = ap status_of is;
        })))
    by_stop NoMemory is stop stops = inr (inl (inr (record { stops = stops; status = ap status_of is })))
    by_stop _ is stop stops = absurd stop

    run_finishes : IsSessionRun disks stores end tally text before after
        → Finishes disks stores text before after end tally requests
    run_finishes (inl stops) = by_stop end refl stops.stop stops
    run_finishes (inr run) = ran_finishes run

module _ {D E : Type 0} (disks : disk.Ghosts D) (stores : store.Ghosts E)
    (text : Option (List ℕ)) (before after : OneThread D E) (end : RunEnd) (tally : Tally)
    (not_unread : status_of end ≢ 8) (not_sent : status_of end ≢ 6) (disk : Stays (disks.faults before.disk) (disks.faults after.disk))
    (good : HasGoodSettings text) (told : IsTold (disks.state before.disk)) (undamaged : IsUndamaged (disks.state before.disk).seen) where
  abbrev FinishedShowing : Type 0
  FinishedShowing = FinishesShowing disks stores text before after end tally

  by_look_stop : (e : RunEnd) → end ≡ e → IsLookStop disks text before.disk after.disk e → after.output ≡ before.output → FinishedShowing
  by_look_stop NoMemory is stop unwritten = inr (ap status_of is, unwritten)
  by_look_stop SettingsUnread is stop unwritten = absurd (not_unread (ap status_of is))
  by_look_stop (SettingsRule rule) is stop unwritten = absurd (is_good text stop.0.fault good stop.0.told)
    where
      is_good : (text2 : Option (List ℕ)) (fault : SettingsFault) → HasGoodSettings text2 → IfSome text2 (λ bytes. settings_of bytes ≡ Err fault) → ⊥
      is_good None fault h e = h
      is_good (Some bytes) fault h e = true≢false (sym (subst (λ (r : Result SettingsData SettingsFault). IsOk r) e h))
  by_look_stop DiskFailed is stop unwritten = absurd (disk stop.1)
  by_look_stop (Damaged offset) is stop unwritten = absurd (undamaged offset (stop.1 told))
  by_look_stop _ is stop unwritten = absurd stop

  by_whole : (whole : Bool) → end ≡ Shown whole → (shows : Shows disks text before.disk after.disk before.output after.output end tally)
      → WritesText (shown_text shows.tables) before.output after.output whole → FinishedShowing
  by_whole false is shows written = absurd (not_sent (ap status_of is))
  by_whole true is shows written = inl (record {
    entries = shows.viewed.entries;
    whole = (shows.viewed.own told).0;
    written = subst (λ (tables : Tables). WritesText (shown_text tables) before.output after.output true) shows.viewed.folded written;
    status = ap status_of is;
  })

  look_finishes : IsLook disks end tally text before.disk after.disk before.output after.output → FinishedShowing
  look_finishes (inl stops) = by_look_stop end refl stops.stop stops.unwritten
  look_finishes (inr shows) = by_whole shows.whole shows.ended shows shows.written

-- what one thread does comes to its end
pub completes : {D E L : Type 0} (disks : disk.Ghosts D) (stores : store.Ghosts E) (lines_read : source.Ghosts L) (lines_written : sink.Ghosts L)
    (text : Option (List ℕ)) (before after : OneThread D E) (beyond left : Beyond L D) (end : RunEnd) (tally : Tally) (settings settings2 input input2 output output2 : ℕ) (asked : Option Asked)
    → DoesAsked disks stores lines_read lines_written asked end tally text before after beyond left
    → (status_of end ≡ 2 → asked ≡ None) → (status_of end ≡ 8 → Rose settings settings2) → (status_of end ≡ 5 → Rose input input2) → (status_of end ≡ 6 → Rose output output2)
    → ((IsToDelete asked → ⊥) → status_of end ≡ 4 → Rose (disks.faults before.disk) (disks.faults after.disk))
    → Completes disks stores text before after end tally asked
    (failures_of settings input output (disks.faults before.disk)) (failures_of settings2 input2 output2 (disks.faults after.disk))
completes disks stores lines_read lines_written text before after beyond left end tally settings settings2 input input2 output output2 None does words unread read sent failed = tt
completes disks stores lines_read lines_written text before after beyond left end tally settings settings2 input input2 output output2 (Some asks.Session) does words unread read sent failed =
    λ none requests rules. run_finishes disks stores text before after end tally requests rules none.disk (λ e. none.disk (failed (λ delete. delete) e)) (λ e. none.input (read e))
    (λ e. none.output (sent e)) (λ e. some (words e)) (λ e. none.settings (unread e)) does.0
  where
    some : Some asks.Session ≡ None → ⊥
    some e = cc
completes disks stores lines_read lines_written text before after beyond left end tally settings settings2 input input2 output output2 (Some asks.Show) does words unread read sent failed =
    λ settings_stay output_stays disk_stays good told undamaged. look_finishes disks stores text before after end tally (λ e. settings_stay (unread e))
    (λ e. output_stays (sent e)) disk_stays good told undamaged does.0.0
completes disks stores lines_read lines_written text before after beyond left end tally settings settings2 input input2 output output2 (Some (asks.Load number)) does words unread read sent failed = tt
completes disks stores lines_read lines_written text before after beyond left end tally settings settings2 input input2 output output2 (Some (asks.Serve port lanes connections)) does words unread read sent failed = tt
completes disks stores lines_read lines_written text before after beyond left end tally settings settings2 input input2 output output2 (Some (asks.Submit port tries)) does words unread read sent failed = tt
completes disks stores lines_read lines_written text before after beyond left end tally settings settings2 input input2 output output2 (Some (asks.Query port job tries)) does words unread read sent failed = tt
completes disks stores lines_read lines_written text before after beyond left end tally settings settings2 input input2 output output2 (Some asks.Delete) does words unread read sent failed = tt
completes disks stores lines_read lines_written text before after beyond left end tally settings settings2 input input2 output output2 (Some (asks.Follow port tries)) does words unread read sent failed = tt

-- the same over the disk and the first hand
pub completes_over : {D E H L : Type 0} (disks : disk.Ghosts D) (stores : store.Ghosts E) (lines_read : source.Ghosts L) (lines_written : sink.Ghosts L)
    (beyond behind : Beyond L D) (store_of : H → E) (words_of : H → Option Coming) (text : Option (List ℕ)) (input input2 : Reading) (output output2 : Option (List ℕ)) (moments moments2 : Option Coming)
    (end : RunEnd) (tally : Tally) (asked : Option Asked) (settings settings2 reads reads2 writes writes2 : ℕ) (old new : Option D) (hands hands2 : List H)
    → OverDisks old new (λ disk left. OverHands hands hands2 (λ hand now. DoesAsked disks stores lines_read lines_written asked end tally text
    (one_thread disk (store_of hand) input output moments (words_of hand)) (one_thread left (store_of now) input2 output2 moments2 (words_of now)) beyond behind))
    → (status_of end ≡ 2 → asked ≡ None) → (status_of end ≡ 8 → Rose settings settings2) → (status_of end ≡ 5 → Rose reads reads2) → (status_of end ≡ 6 → Rose writes writes2)
    → ((IsToDelete asked → ⊥) → status_of end ≡ 4 → OverDisks old new (λ disk left. Rose (disks.faults disk) (disks.faults left)))
    → OverDisks old new (λ disk left. OverHands hands hands2 (λ hand now. Completes disks stores text
    (one_thread disk (store_of hand) input output moments (words_of hand)) (one_thread left (store_of now) input2 output2 moments2 (words_of now)) end tally asked
    (failures_of settings reads writes (disks.faults disk)) (failures_of settings2 reads2 writes2 (disks.faults left))))
completes_over disks stores lines_read lines_written beyond behind store_of words_of text input input2 output output2 moments moments2 end tally asked settings settings2 reads reads2 writes writes2
    None new hands hands2 does words unread read sent failed = tt
completes_over disks stores lines_read lines_written beyond behind store_of words_of text input input2 output output2 moments moments2 end tally asked settings settings2 reads reads2 writes writes2
    (Some disk) None hands hands2 does words unread read sent failed = does
completes_over disks stores lines_read lines_written beyond behind store_of words_of text input input2 output output2 moments moments2 end tally asked settings settings2 reads reads2 writes writes2
    (Some disk) (Some left) [] hands2 does words unread read sent failed = tt
completes_over disks stores lines_read lines_written beyond behind store_of words_of text input input2 output output2 moments moments2 end tally asked settings settings2 reads reads2 writes writes2
    (Some disk) (Some left) (hand ∷ others) [] does words unread read sent failed = does
completes_over disks stores lines_read lines_written beyond behind store_of words_of text input input2 output output2 moments moments2 end tally asked settings settings2 reads reads2 writes writes2
    (Some disk) (Some left) (hand ∷ others) (now ∷ others_now) does words unread read sent failed = (
      completes disks stores lines_read lines_written text (one_thread disk (store_of hand) input output moments (words_of hand))
          (one_thread left (store_of now) input2 output2 moments2 (words_of now)) beyond behind end tally settings settings2 reads reads2 writes writes2 asked does.0 words unread read sent failed,
      does.1,
    )
