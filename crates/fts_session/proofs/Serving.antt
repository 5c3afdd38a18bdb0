-- A connection's loop over a keep and a bench, request by request, and the last rounds.
use Rattle.std.proofs.Common.{◌≡◌, ◌⊎◌, inl, inr, ℕ, zero, suc, ◌+◌, ◌-◌, ◌<◌, ◌≤◌, Bool, true, false, List, [], ◌∷◌, ◌++◌, length, Option, Ok, Err, refl, ap, sym, ◌∙◌, subst, arith}
use Rattle.fts_tables.specs.Coming.{Coming, Gives}
use Rattle.fts_tables.specs.History.{out_of_list}
use Rattle.fts_tables.specs.declared.limits.TheConstants.{MAX_REQUESTS}
use Rattle.fts_disk.specs.Disk.{IsTold, IsLawful}
use Rattle.fts_keep.specs.Keeps.{KeepData, IsKeep, Grows, KeepsImagesSinceAny}
use Rattle.fts_workers.specs.Benches.{calm_end}
use Rattle.fts_workers.specs.Rounds.{Walk, Expires, ExpiresAndClaims, FillsUp, FindsNoneOverdue, IsRound, WorksOff}
use Rattle.fts_workers.specs.declared.ends.RoundEnd.{RoundEnd}
use Rattle.fts_workers.specs.declared.ends.RoundEnd.TheVariants.{Busy}
use Rattle.fts_wire.specs.RoomData.{RoomData}
use Rattle.fts_wire.specs.Response.{Sends}
use Rattle.fts_wire.specs.declared.fault.WireFault.{WireFault}
use Rattle.fts_wire.specs.declared.fault.WireFault.TheVariants.{EndsInside, SourceFailed}
use Rattle.fts_wire.specs.declared.outside.SinkFailed.{SinkFailed}
use Rattle.fts_wire.specs.declared.response.Reply.{Reply}
use Rattle.fts_routes.specs.Replies.{Answers, DoubtHasCause}
use Rattle.fts_session.specs.Connections.{Reading, Loads, IsRefused, response_to, IsConnection}
use Rattle.fts_session.specs.Sessions.{AnswersNext, FollowedByRound, LastRounds, IsSession, ThreadData, IsReady, Works, walk_of}
use Rattle.fts_session.specs.declared.ends.LineEnd.{LineEnd}
use Rattle.fts_session.specs.declared.ends.LineEnd.TheVariants as line_ends
use Rattle.fts_session.proofs.Worked.{LeavesBench, works_none, works_as, works_more, works_answer}
use Rattle.fts_session.proofs.Turns.{InProgress, begun, turn, cut, closed, closed_by, ended_inside, read_failed, many, refused}
use Rattle.fts_disk.specs.declared.disk.Disk as disk
use Rattle.fts_store.specs.declared.store.Store as store

-- whatever last rounds are made from here were made from the beginning
abbrev pub RoundsOn : ℕ → Walk → Walk → Type 0
RoundsOn workers old now = (end : RoundEnd) (after : Walk) → LastRounds workers end now after → LastRounds workers end old after

-- one busy round more
pub busy_more : (workers held : ℕ) (old now next : Walk) → RoundsOn workers old now → IsRound workers now (Busy held) next → RoundsOn workers old next
busy_more workers held old now next so_far round = λ end after rest. so_far end after (suc rest.0, (next, (held, (round, rest.1))))

-- the last one
pub last_one : (workers : ℕ) (end : RoundEnd) (old now after : Walk) → ((held : ℕ) → end ≡ Busy held → ⊥) → RoundsOn workers old now → IsRound workers now end after → LastRounds workers end old after
last_one workers end old now after calm so_far round = so_far end after (zero, (round, calm))

-- claims, and a whole round, use no less of the journal
fills_keep : (free : ℕ) (walk : Walk) (end : RoundEnd) (after : Walk) → FillsUp free walk end after → walk.used ≤ after.used
fills_keep zero walk end after filled = omega (arith, ap (λ (w : Walk). w.used) filled.0)
fills_keep (suc free) walk end after (inl claimed) = omega (arith, claimed.1.0.adds.filled, fills_keep free claimed.0 end after claimed.1.1)
fills_keep (suc free) walk end after (inr (inl none)) = omega (arith, none.0.none.filled)
fills_keep (suc free) walk end after (inr (inr stops)) = omega (arith, stops.none.filled)

expiry_keeps : (walk next : Walk) → (Expires walk next ⊎ FindsNoneOverdue walk next) → walk.used ≤ next.used
expiry_keeps walk next (inl expires) = omega (arith, expires.adds.filled)
expiry_keeps walk next (inr none) = omega (arith, none.none.filled)

expires_keep : (workers : ℕ) (walk : Walk) (end : RoundEnd) (after : Walk) → ExpiresAndClaims workers walk end after → walk.used ≤ after.used
expires_keep workers walk end after (inl on) =
    omega (arith, expiry_keeps walk on.0 on.1.0, fills_keep (workers - length (out_of_list on.0.entries)) on.0 end after on.1.1)
expires_keep workers walk end after (inr stops) = omega (arith, stops.none.filled)

works_keep : (workers : ℕ) (files : List ℕ) (walk : Walk) (end : RoundEnd) (after : Walk) → WorksOff workers files walk end after → walk.used ≤ after.used
works_keep workers [] walk end after done = expires_keep workers walk end after done
works_keep workers (file ∷ files) walk end after (inl reported) = omega (arith, reported.1.0.adds.filled, works_keep workers files reported.0 end after reported.1.1)
works_keep workers (file ∷ files) walk end after (inr stops) = omega (arith, stops.none.filled)

-- no files are no busy round
none_busy : (held : ℕ) (files : List ℕ) → [] ≡ files → Busy held ≡ calm_end (length files) → ⊥
none_busy held [] none e = cc
none_busy held (file ∷ files) none e = cc

fills_more : (free held : ℕ) (walk after : Walk) → [] ≡ out_of_list walk.entries → FillsUp free walk (Busy held) after → walk.used < after.used
fills_more zero held walk after none filled = absurd (none_busy held (out_of_list walk.entries) none filled.1)
fills_more (suc free) held walk after none (inl claimed) = omega (arith, claimed.1.0.adds.filled, fills_keep free claimed.0 (Busy held) after claimed.1.1)
fills_more (suc free) held walk after none (inr (inl idle)) = absurd (none_busy held (out_of_list walk.entries) none idle.1)
fills_more (suc free) held walk after none (inr (inr stops)) = absurd stops.stops

-- where no files are out before it, an expiry with the claims behind it uses more, if the round is busy: each entry that is accepted does
expires_more : (workers held : ℕ) (walk after : Walk) → [] ≡ out_of_list walk.entries → ExpiresAndClaims workers walk (Busy held) after → walk.used < after.used
expires_more workers held walk after none (inl (next, (inl expires, filled))) =
    omega (arith, expires.adds.filled, fills_keep (workers - length (out_of_list next.entries)) next (Busy held) after filled)
expires_more workers held walk after none (inl (next, (inr idle, filled))) =
    let more = fills_more (workers - length (out_of_list next.entries)) held next after (none ∙ ap (λ l. out_of_list l) (sym idle.none.listed)) filled in
    omega (arith, idle.none.filled, more)
expires_more workers held walk after none (inr stops) = absurd stops.stops

works_busy : (workers held : ℕ) (files : List ℕ) (walk after : Walk) → files ≡ out_of_list walk.entries → WorksOff workers files walk (Busy held) after → walk.used < after.used
works_busy workers held [] walk after is done = expires_more workers held walk after is done
works_busy workers held (file ∷ files) walk after is (inl reported) =
    omega (arith, reported.1.0.adds.filled, works_keep workers files reported.0 (Busy held) after reported.1.1)
works_busy workers held (file ∷ files) walk after is (inr stops) = absurd stops.stops

-- a busy round uses more
pub busy_uses : (workers held : ℕ) (walk after : Walk) → IsRound workers walk (Busy held) after → walk.used < after.used
busy_uses workers held walk after round = works_busy workers held (out_of_list walk.entries) walk after refl round

module _ {D E : Type 0} (disks : disk.Ghosts D) (stores : store.Ghosts E)
    (workers : ℕ) (kept : List ℕ) (input : Reading) (held : Option (List ℕ)) (old : ThreadData D E) where
  -- so many requests were answered, and a round was made behind each
  abbrev pub SoFar : ℕ → List ℕ → Reading → Option (List ℕ) → ThreadData D E → Type 0
  SoFar n behind now output here = Works disks stores
      (λ own start at. InProgress (AnswersNext own) (FollowedByRound workers) kept start input held n behind now output at) old here

  -- a connection that ended so
  abbrev pub Ended : LineEnd → Reading → Option (List ℕ) → ThreadData D E → Type 0
  Ended end left output here = Works disks stores
      (λ own before after. IsConnection (AnswersNext own) (FollowedByRound workers) kept before after input left held output end) old here

  -- none was answered yet
  pub nothing_yet : IsReady old → IsKeep disks.state old.keep → (IsTold (disks.state old.keep.disk) → IsLawful (disks.state old.keep.disk)) → SoFar 0 kept input held old
  nothing_yet ready sound lawful = works_none disks stores
      (λ own start at. InProgress (AnswersNext own) (FollowedByRound workers) kept start input held 0 kept input held at) old ready sound lawful
      (λ own walk. begun (AnswersNext own) (FollowedByRound workers) kept walk input held walk refl)

  module _ (n : ℕ) (behind : List ℕ) (now : Reading) (output : Option (List ℕ)) (here : ThreadData D E) (so_far : SoFar n behind now output here) where
    -- the connection ends with what was answered
    ends_over : (end : LineEnd) (left : Reading) (output2 : Option (List ℕ))
        → ((own : Bool) (start at : Walk) → InProgress (AnswersNext own) (FollowedByRound workers) kept start input held n behind now output at
        → IsConnection (AnswersNext own) (FollowedByRound workers) kept start at input left held output2 end)
        → Ended end left output2 here
    ends_over end left output2 implies = works_as disks stores
        (λ own start at. InProgress (AnswersNext own) (FollowedByRound workers) kept start input held n behind now output at)
        (λ own before after. IsConnection (AnswersNext own) (FollowedByRound workers) kept before after input left held output2 end) old here implies so_far

    pub ends_closed : (input2 : Reading) (room : RoomData) → n < MAX_REQUESTS → Loads behind now input2 room (Ok false) → Ended line_ends.Closed input2 output here
    ends_closed input2 room few load = ends_over line_ends.Closed input2 output
        (λ own start at done. closed (AnswersNext own) (FollowedByRound workers) kept start input held n behind now output at done input2 room few load)

    pub ends_inside : (input2 : Reading) (room : RoomData) → n < MAX_REQUESTS → Loads behind now input2 room (Err EndsInside) → Ended line_ends.EndsInside input2 output here
    ends_inside input2 room few load = ends_over line_ends.EndsInside input2 output
        (λ own start at done. ended_inside (AnswersNext own) (FollowedByRound workers) kept start input held n behind now output at done input2 room few load)

    pub ends_by_read : (input2 : Reading) (room : RoomData) → n < MAX_REQUESTS → Loads behind now input2 room (Err SourceFailed) → Ended line_ends.SourceFailed input2 output here
    ends_by_read input2 room few load = ends_over line_ends.SourceFailed input2 output
        (λ own start at done. read_failed (AnswersNext own) (FollowedByRound workers) kept start input held n behind now output at done input2 room few load)

    pub ends_refused : (input2 : Reading) (output2 : Option (List ℕ)) (room : RoomData) (fault : WireFault) (end : LineEnd) → n < MAX_REQUESTS
        → Loads behind now input2 room (Err fault) → IsRefused output output2 fault end → Ended end input2 output2 here
    ends_refused input2 output2 room fault end few load is = ends_over end input2 output2
        (λ own start at done. refused (AnswersNext own) (FollowedByRound workers) kept start input held n behind now output at done input2 output2 room fault end few load is)

    pub ends_by_many : n ≡ MAX_REQUESTS → Ended line_ends.Many now output here
    ends_by_many all = ends_over line_ends.Many now output
        (λ own start at done. many (AnswersNext own) (FollowedByRound workers) kept start input held n behind now output at done all)

    module _ (law : LeavesBench) (new : KeepData D) (input2 : Reading) (output2 : Option (List ℕ)) (coming : Option Coming) (room : RoomData) (moment : ℕ) (reply : Reply)
        (load : Loads behind now input2 room (Ok true)) (tick : Gives here.moments coming moment)
        (answers : Answers disks.state disks.faults here.keep new 0 room.request moment reply) (grows : Grows disks.state disks.faults 0 here.keep new) (images : KeepsImagesSinceAny disks.state here.keep new)
        (doubt : DoubtHasCause disks.state disks.faults here.keep new) where
      -- where the thread stands once the request was answered
      abbrev pub answered : ThreadData D E
      answered = record here { keep = new; moments = coming }

      -- the request, answered over whatever list
      one_answer : Works disks stores (λ own before after. AnswersNext own before room.request reply after) here answered
      one_answer = works_answer disks stores law here.keep new here.bench here.claims here.store here.moments coming here.words room.request moment reply
          so_far.ready answers grows images doubt tick

      -- what was answered, and this request behind it
      abbrev WithOne : Bool → Walk → Walk → Type 0
      WithOne own start after = (at : Walk) × (InProgress (AnswersNext own) (FollowedByRound workers) kept start input held n behind now output at × AnswersNext own at room.request reply after)

      with_one : Works disks stores WithOne old answered
      with_one = works_more disks stores
          (λ own start at. InProgress (AnswersNext own) (FollowedByRound workers) kept start input held n behind now output at)
          (λ own before after. AnswersNext own before room.request reply after) WithOne old here answered (λ own start at after done next. (at, (done, next))) so_far one_answer

      pub is_ready : IsReady answered
      is_ready = one_answer.ready

      -- its response
      abbrev pub response : List ℕ
      response = response_to n (record { request = room.request; reply = reply })

      -- its response was written, and a round was made; the connection goes on
      pub one_more : (end : RoundEnd) (next : ThreadData D E) → here.bench.places ≡ workers → Sends {E = SinkFailed} output output2 response (Ok tt)
          → Works disks stores (λ own before after. IsRound here.bench.places before end after) answered next
          → room.request.close ≡ false → SoFar (n + 1) room.kept input2 output2 next
      one_more end next places sent round goes = works_more disks stores WithOne (λ own before after. IsRound here.bench.places before end after)
          (λ own start at. InProgress (AnswersNext own) (FollowedByRound workers) kept start input held (n + 1) room.kept input2 output2 at) old answered next
          (λ own start mid after done made. turn (AnswersNext own) (FollowedByRound workers) kept start input held n behind now output done.0 done.1.0 input2 output2 room reply mid after
          load done.1.1 (end, subst (λ (w : ℕ). IsRound w mid end after) places made) sent goes) with_one round

      -- its response was written, and a round was made; it says close
      pub ends_by_close : (end : RoundEnd) (next : ThreadData D E) → n < MAX_REQUESTS → here.bench.places ≡ workers → Sends {E = SinkFailed} output output2 response (Ok tt)
          → Works disks stores (λ own before after. IsRound here.bench.places before end after) answered next
          → room.request.close ≡ true → Ended line_ends.Closed input2 output2 next
      ends_by_close end next few places sent round closes = works_more disks stores WithOne (λ own before after. IsRound here.bench.places before end after)
          (λ own before after. IsConnection (AnswersNext own) (FollowedByRound workers) kept before after input input2 held output2 line_ends.Closed) old answered next
          (λ own start mid after done made. closed_by (AnswersNext own) (FollowedByRound workers) kept start input held n behind now output done.0 done.1.0 input2 output2 room reply mid after
          few load done.1.1 (end, subst (λ (w : ℕ). IsRound w mid end after) places made) sent closes) with_one round

      -- its response was cut short
      pub ends_cut : (e : SinkFailed) → n < MAX_REQUESTS → Sends output output2 response (Err e) → Ended line_ends.SinkFailed input2 output2 answered
      ends_cut e few sent = works_as disks stores WithOne
          (λ own before after. IsConnection (AnswersNext own) (FollowedByRound workers) kept before after input input2 held output2 line_ends.SinkFailed) old answered
          (λ own start after done. cut (AnswersNext own) (FollowedByRound workers) kept start input held n behind now output done.0 done.1.0 input2 output2 room reply after e few
          load done.1.1 sent) with_one

  -- a connection and the last rounds behind it are a session
  pub session_of : (line : LineEnd) (last : RoundEnd) (mid new : ThreadData D E) (left : Reading) (output : Option (List ℕ)) → mid.bench.places ≡ workers
      → Ended line left output mid → Works disks stores (λ own before after. LastRounds mid.bench.places last before after) mid new
      → Works disks stores (λ own before after. IsSession own kept workers input left held output (record { line = line; last = last }) before after) old new
  session_of line last mid new left output places ended rounds = works_more disks stores
      (λ own before after. IsConnection (AnswersNext own) (FollowedByRound workers) kept before after input left held output line)
      (λ own before after. LastRounds mid.bench.places last before after)
      (λ own before after. IsSession own kept workers input left held output (record { line = line; last = last }) before after) old mid new
      (λ own before between after one two. record { between = between; connection = one; rounds = subst (λ (w : ℕ). LastRounds w last between after) places two })
      ended rounds

module _ {D E : Type 0} (disks : disk.Ghosts D) (stores : store.Ghosts E)
    (workers : ℕ) (old here next : ThreadData D E) (places : here.bench.places ≡ workers) (so_far : Works disks stores (λ own before after. RoundsOn workers before after) old here) where
  -- a busy round more
  pub rounds_more : (busy : ℕ) → Works disks stores (λ own before after. IsRound here.bench.places before (Busy busy) after) here next
      → Works disks stores (λ own before after. RoundsOn workers before after) old next
  rounds_more busy round = works_more disks stores (λ own before after. RoundsOn workers before after) (λ own before after. IsRound here.bench.places before (Busy busy) after)
      (λ own before after. RoundsOn workers before after) old here next
      (λ own before between after one two. busy_more workers busy before between after one (subst (λ (w : ℕ). IsRound w between (Busy busy) after) places two)) so_far round

  -- the last one
  pub rounds_end : (end : RoundEnd) → ((busy : ℕ) → end ≡ Busy busy → ⊥)
      → Works disks stores (λ own before after. IsRound here.bench.places before end after) here next
      → Works disks stores (λ own before after. LastRounds workers end before after) old next
  rounds_end end calm round = works_more disks stores (λ own before after. RoundsOn workers before after) (λ own before after. IsRound here.bench.places before end after)
      (λ own before after. LastRounds workers end before after) old here next
      (λ own before between after one two. last_one workers end before between after calm one (subst (λ (w : ℕ). IsRound w between end after) places two)) so_far round

  -- a busy round uses more of the journal
  pub round_uses : (busy : ℕ) → Works disks stores (λ own before after. IsRound here.bench.places before (Busy busy) after) here next
      → here.keep.used < next.keep.used
  round_uses busy round = busy_uses here.bench.places busy (walk_of disks.faults so_far.ready.over.0 here) (walk_of disks.faults (so_far.ready.over.0 ++ round.added) next)
      (round.goes false so_far.ready.over.0 so_far.ready.over.1 (λ never. absurd cc))
