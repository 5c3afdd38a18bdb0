-- What a session leaves of the disk's count and of the bytes that are used, and what its last round says of the journal's limit.
use Rattle.std.proofs.Common.{◌≡◌, ◌⊎◌, inl, inr, ℕ, zero, suc, ◌-◌, ◌≤◌, Bool, true, false, List, [], ◌∷◌, length, Ok, Err, refl, ap, sym, ◌∙◌, subst, arith}
use Rattle.std.specs.Prelude.{if◌then◌else◌, IsOk}
use Rattle.std.specs.List.{Any}
use Rattle.fts_tables.specs.Counts.{Rose}
use Rattle.fts_tables.specs.Tables.{Tables}
use Rattle.fts_tables.specs.Step.{Outcomes, step}
use Rattle.fts_tables.specs.History.{tables_of, out_of_list}
use Rattle.fts_tables.specs.declared.commands.Answer.{Answer}
use Rattle.fts_tables.specs.declared.commands.Entry.{Entry}
use Rattle.fts_keep.specs.Applied.{applied_by, fits}
use Rattle.fts_keep.specs.Keeps.{used_of, used_after}
use Rattle.fts_keep.specs.declared.fault.KeepFault.TheVariants.{JournalFull as Full}
use Rattle.fts_keep.proofs.Lists.{filled_as_listed}
use Rattle.fts_workers.specs.Rounds.{Walk, Adds, AddsNone, Expires, FindsNoneOverdue, ExpiresAndClaims, FillsUp, WorksOff, IsRound, report_in}
use Rattle.fts_workers.specs.Benches.{calm_end}
use Rattle.fts_workers.specs.declared.ends.RoundEnd.{RoundEnd}
use Rattle.fts_workers.specs.declared.ends.RoundEnd.TheVariants.{JournalFull, Busy}
use Rattle.fts_wire.specs.RequestData.{RequestData}
use Rattle.fts_wire.specs.declared.response.Reply.{Reply}
use Rattle.fts_routes.specs.Refusals.{no_memory}
use Rattle.fts_routes.specs.Replies.{Way, AsDefined, WithoutMemory, WithoutDisk, CausedBy, said_so}
use Rattle.fts_session.specs.Connections.{Exchange, AreServed}
use Rattle.fts_session.specs.Sessions.{AnswersNext, FollowedByRound, AreLastRounds, LastRounds, said_at}
use Rattle.fts_top.specs.Complete.{Stays, AnswersAsDefined, AnswersUnlessMemory, IsOfRound, RoundPasses}

-- the count of faults never fell, and the bytes that are used are those of the list, where they were
pub record GoesOn (old new : Walk) : Type 0 where
  pub counts : old.faults ≤ new.faults
  pub fills : old.used ≡ used_of old.entries → new.used ≡ used_of new.entries

goes_none : (walk : Walk) → GoesOn walk walk
goes_none walk = record { counts = omega arith; fills = λ e. e }

goes_further : (old mid new : Walk) → GoesOn old mid → GoesOn mid new → GoesOn old new
goes_further old mid new first second = record { counts = omega (arith, first.counts, second.counts); fills = λ e. second.fills (first.fills e) }

adds_on : (walk : Walk) (entry : Entry) (next : Walk) → Adds walk entry next → GoesOn walk next
adds_on walk entry next adds = record {
  counts = adds.counts;
  fills = λ e. let filled : next.used ≡ used_after walk.used (entry ∷ []) = adds.filled in
      filled ∙ ap (λ n. used_after n (entry ∷ [])) e ∙ filled_as_listed walk.entries (entry ∷ []) ∙ ap used_of (sym adds.listed);
}

none_on : (walk : Walk) (entry : Entry) (next : Walk) → AddsNone walk entry next → GoesOn walk next
none_on walk entry next none = record { counts = none.counts; fills = λ e. none.filled ∙ e ∙ ap used_of (sym none.listed) }

same_on : (walk after : Walk) → after ≡ walk → GoesOn walk after
same_on walk after same = subst (λ (w : Walk). GoesOn walk w) (sym same) (goes_none walk)

fills_on : (free : ℕ) (walk : Walk) (end : RoundEnd) (after : Walk) → FillsUp free walk end after → GoesOn walk after
fills_on zero walk end after filled = same_on walk after filled.0
fills_on (suc free) walk end after (inl claimed) =
    goes_further walk claimed.0 after (adds_on walk claimed.1.0.entry claimed.0 claimed.1.0.adds) (fills_on free claimed.0 end after claimed.1.1)
fills_on (suc free) walk end after (inr (inl none)) = none_on walk _ after none.0.none
fills_on (suc free) walk end after (inr (inr stops)) = none_on walk _ after stops.none

-- an expiry, accepted or idle
expiry_on : (walk next : Walk) → (Expires walk next ⊎ FindsNoneOverdue walk next) → GoesOn walk next
expiry_on walk next (inl expired) = adds_on walk expired.entry next expired.adds
expiry_on walk next (inr none) = none_on walk _ next none.none

behind_on : (workers : ℕ) (walk : Walk) (end : RoundEnd) (after : Walk) → ExpiresAndClaims workers walk end after → GoesOn walk after
behind_on workers walk end after (inl (next, (expired, filled))) =
    goes_further walk next after (expiry_on walk next expired) (fills_on (workers - length (out_of_list next.entries)) next end after filled)
behind_on workers walk end after (inr stops) = none_on walk _ after stops.none

works_on : (workers : ℕ) (files : List ℕ) (walk : Walk) (end : RoundEnd) (after : Walk) → WorksOff workers files walk end after → GoesOn walk after
works_on workers [] walk end after filled = behind_on workers walk end after filled
works_on workers (file ∷ files) walk end after (inl reported) =
    goes_further walk reported.0 after (adds_on walk (report_in walk.entries reported.1.0.now file reported.1.0.outcome) reported.0 reported.1.0.adds)
    (works_on workers files reported.0 end after reported.1.1)
works_on workers (file ∷ files) walk end after (inr stops) = none_on walk _ after stops.none

pub round_on : (workers : ℕ) (walk : Walk) (end : RoundEnd) (after : Walk) → IsRound workers walk end after → GoesOn walk after
round_on workers walk end after round = works_on workers (out_of_list walk.entries) walk end after round

answer_on : {own : Bool} (old : Walk) (request : RequestData) (reply : Reply) (new : Walk) → AnswersNext own old request reply new → GoesOn old new
answer_on old request reply new answer = record {
  counts = answer.counts;
  fills = λ e.
      let added = (said_so answer.way (said_at old answer.bodies request answer.now)).added in
      answer.filled ∙ ap (λ n. used_after n added) e ∙ filled_as_listed old.entries added ∙ ap used_of (sym answer.listed);
}

pub served_on : (own : Bool) (workers : ℕ) (before : Walk) (exchanges : List Exchange) (after : Walk)
    → AreServed (AnswersNext own) (FollowedByRound workers) before exchanges after → GoesOn before after
served_on own workers before [] after served = same_on before after served
served_on own workers before (exchange ∷ exchanges) after (answered, (next, (answer, (follows, served)))) =
    goes_further before answered after (answer_on before exchange.request exchange.reply answered answer)
    (goes_further answered next after (round_on workers answered follows.0 next follows.1) (served_on own workers next exchanges after served))

last_on : (workers busy : ℕ) (old : Walk) (end : RoundEnd) (new : Walk) → AreLastRounds workers busy old end new → GoesOn old new
last_on workers zero old end new rounds = round_on workers old end new rounds.0
last_on workers (suc busy) old end new (next, (held, (round, rounds))) =
    goes_further old next new (round_on workers old (Busy held) next round) (last_on workers busy next end new rounds)

pub last_rounds_on : (workers : ℕ) (old : Walk) (end : RoundEnd) (new : Walk) → LastRounds workers end old new → GoesOn old new
last_rounds_on workers old end new rounds = last_on workers rounds.0 old end new rounds.1

-- a count that rose in a part rose in the whole
rose_within : (old mid mid2 new : ℕ) → old ≤ mid → mid2 ≤ new → Rose mid mid2 → Rose old new
rose_within old mid mid2 new low high (inl more) = inl (omega (arith, low, high, more))
rose_within old mid mid2 new low high (inr full) = inr (omega (arith, high, full))

pub stays_within : (old mid mid2 new : ℕ) → old ≤ mid → mid2 ≤ new → Stays old new → Stays mid mid2
stays_within old mid mid2 new low high stays rose = stays (rose_within old mid mid2 new low high rose)

-- where the disk's count did not rise, a reply is the machine's or that for want of memory
answered_by : {own : Bool} (old : Walk) (request : RequestData) (reply : Reply) (new : Walk) (answer : AnswersNext own old request reply new) (way : Way) → answer.way ≡ way
    → CausedBy way old.faults new.faults → Stays old.faults new.faults → AnswersUnlessMemory own old request reply new
answered_by old request reply new answer AsDefined is cause stays = inl (answer, is)
answered_by old request reply new answer WithoutMemory is cause stays = inr (answer, is)
answered_by old request reply new answer WithoutDisk is cause stays = absurd (stays cause)

pub served_unless_memory : (own : Bool) (workers : ℕ) (before : Walk) (exchanges : List Exchange) (after : Walk)
    → AreServed (AnswersNext own) (FollowedByRound workers) before exchanges after
    → Stays before.faults after.faults → AreServed (AnswersUnlessMemory own) (FollowedByRound workers) before exchanges after
served_unless_memory own workers before [] after served stays = served
served_unless_memory own workers before (exchange ∷ exchanges) after (answered, (next, (answer, (follows, served)))) stays =
    let first = answer_on before exchange.request exchange.reply answered answer in
    let second = round_on workers answered follows.0 next follows.1 in
    let third = served_on own workers next exchanges after served in (
      answered,
      (
        next,
        (
          answered_by before exchange.request exchange.reply answered answer answer.way refl answer.cause
              (stays_within before.faults before.faults answered.faults after.faults (omega arith) (omega (arith, second.counts, third.counts)) stays),
          (
            follows,
            served_unless_memory own workers next exchanges after served
                (stays_within before.faults next.faults after.faults after.faults (omega (arith, first.counts, second.counts)) (omega arith) stays),
          ),
        ),
      ),
    )

-- each reply is the machine's, or one of them is that for want of memory
pub defined_or_wanting : (own : Bool) (workers : ℕ) (before : Walk) (exchanges : List Exchange) (after : Walk) → AreServed (AnswersUnlessMemory own) (FollowedByRound workers) before exchanges after
    → AreServed (AnswersAsDefined own) (FollowedByRound workers) before exchanges after ⊎ Any (λ (exchange : Exchange). exchange.reply ≡ no_memory) exchanges
defined_or_wanting own workers before [] after served = inl served
defined_or_wanting own workers before (exchange ∷ exchanges) after (answered, (next, (inr wanting, (follows, served)))) =
    inr (0, exchange, omega arith, refl, wanting.0.replies ∙ ap (λ (way : Way). (said_so way (said_at before wanting.0.bodies exchange.request wanting.0.now)).reply) wanting.1)
defined_or_wanting own workers before (exchange ∷ exchanges) after (answered, (next, (inl defined, (follows, served)))) =
    more (defined_or_wanting own workers next exchanges after served)
  where
    more : AreServed (AnswersAsDefined own) (FollowedByRound workers) next exchanges after ⊎ Any (λ (one : Exchange). one.reply ≡ no_memory) exchanges
        → AreServed (AnswersAsDefined own) (FollowedByRound workers) before (exchange ∷ exchanges) after ⊎ Any (λ (one : Exchange). one.reply ≡ no_memory) (exchange ∷ exchanges)
    more (inl all) = inl (answered, (next, (defined, (follows, all))))
    more (inr (k, one, inside, is, wanting)) = inr (suc k, one, omega (arith, inside), is, wanting)

-- an entry that met the limit was accepted by the machine, and doesn't fit
abbrev MeetsLimit : ℕ → Entry → Outcomes → Type 0
MeetsLimit used entry came = IsOk came × (fits used entry ≡ false)

by_fit : (fit : Bool) (used full : ℕ) (found : Tables × Answer) → (if fit then Ok found else Err (Full used)) ≡ Err (Full full) → fit ≡ false
by_fit true used full found is = absurd cc
by_fit false used full found is = refl

meets_limit : (used full : ℕ) (entry : Entry) (came : Outcomes) → applied_by used entry came ≡ Err (Full full) → MeetsLimit used entry came
meets_limit used full entry (Err refusal) is = absurd cc
meets_limit used full entry (Ok found) is = (refl, by_fit (fits used entry) used full found is)

-- an entry that ended a round so, by what is used of the journal
record MeetsAt (entries : List Entry) (used : ℕ) : Type 0 where
  pub entry : Entry
  pub of_round : IsOfRound entries entry
  pub meets : MeetsLimit used entry (step (tables_of entries) entry.command)

met_at : (walk : Walk) (entry : Entry) (after : Walk) → AddsNone walk entry after → MeetsAt walk.entries walk.used → MeetsAt after.entries after.used
met_at walk entry after none met = subst (λ (n : ℕ). MeetsAt after.entries n) (sym none.filled) (subst (λ (l : List Entry). MeetsAt l walk.used) (sym none.listed) met)

fills_met : (full free : ℕ) (walk after : Walk) → FillsUp free walk (JournalFull full) after → MeetsAt after.entries after.used
fills_met full zero walk after filled = absurd (calm (length (out_of_list walk.entries)) filled.1)
  where
    calm : (n : ℕ) → JournalFull full ≡ calm_end n → ⊥
    calm zero e = cc
    calm (suc n) e = cc
fills_met full (suc free) walk after (inl claimed) = fills_met full free claimed.0 after claimed.1.1
fills_met full (suc free) walk after (inr (inl none)) = absurd (calm (length (out_of_list walk.entries)) none.1)
  where
    calm : (n : ℕ) → JournalFull full ≡ calm_end n → ⊥
    calm zero e = cc
    calm (suc n) e = cc
fills_met full (suc free) walk after (inr (inr stops)) = met_at walk _ after stops.none (record {
  entry = stops.entry;
  of_round = inl (stops.tried.now, (stops.tried.word, stops.tried.is));
  meets = meets_limit walk.used full stops.entry (step (tables_of walk.entries) stops.entry.command) stops.stops;
})

behind_met : (full workers : ℕ) (walk after : Walk) → ExpiresAndClaims workers walk (JournalFull full) after → MeetsAt after.entries after.used
behind_met full workers walk after (inl (next, (expired, filled))) = fills_met full (workers - length (out_of_list next.entries)) next after filled
behind_met full workers walk after (inr stops) = met_at walk _ after stops.none (record {
  entry = stops.entry;
  of_round = inr (inr (stops.tried.now, stops.tried.is));
  meets = meets_limit walk.used full stops.entry (step (tables_of walk.entries) stops.entry.command) stops.stops;
})

works_met : (full workers : ℕ) (files : List ℕ) (walk after : Walk) → WorksOff workers files walk (JournalFull full) after → MeetsAt after.entries after.used
works_met full workers [] walk after filled = behind_met full workers walk after filled
works_met full workers (file ∷ files) walk after (inl reported) = works_met full workers files reported.0 after reported.1.1
works_met full workers (file ∷ files) walk after (inr stops) =
    let entry = report_in walk.entries stops.now file stops.outcome in
    met_at walk _ after stops.none (record {
      entry = entry;
      of_round = inr (inl (stops.now, (file, (stops.outcome, refl))));
      meets = meets_limit walk.used full entry (step (tables_of walk.entries) entry.command) stops.stops;
    })

last_met : (workers busy full : ℕ) (old new : Walk) → AreLastRounds workers busy old (JournalFull full) new → MeetsAt new.entries new.used
last_met workers zero full old new rounds = works_met full workers (out_of_list old.entries) old new rounds.0
last_met workers (suc busy) full old new (next, (held, (round, rounds))) = last_met workers busy full next new rounds

-- last rounds that ended so ended by a record that doesn't fit
pub limit_met : (workers full : ℕ) (old new : Walk) → LastRounds workers (JournalFull full) old new → new.used ≡ used_of new.entries → RoundPasses new.entries
limit_met workers full old new rounds fills =
    let met = last_met workers rounds.0 full old new rounds.1 in
    record {
      entry = met.entry;
      of_round = met.of_round;
      accepted = met.meets.0;
      passes = subst (λ (n : ℕ). fits n met.entry ≡ false) fills met.meets.1;
    }

-- the last of them was not busy
pub last_not_busy : (workers busy held : ℕ) (old new : Walk) → AreLastRounds workers busy old (Busy held) new → ⊥
last_not_busy workers zero held old new rounds = rounds.1 held refl
last_not_busy workers (suc busy) held old new (next, (held2, (round, rounds))) = last_not_busy workers busy held next new rounds
