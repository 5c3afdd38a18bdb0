-- What the end of a round says: why it stopped, and what is held then.
use Rattle.std.proofs.Common.{◌≡◌, ◌≢◌, refl, ap, sym, ◌∙◌, inl, inr, ℕ, zero, suc, ◌-◌, ◌≤◌, List, [], ◌∷◌, length, arith}
use Rattle.std.specs.Prelude.{◌⊎◌}
use Rattle.fts_tables.specs.Counts.{Rose}
use Rattle.fts_tables.specs.Step.{step}
use Rattle.fts_tables.specs.History.{tables_of, out_of_list}
use Rattle.fts_workers.specs.Benches.{EndsHolding, calm_end}
use Rattle.fts_workers.specs.Rounds.{Walk, Expires, ExpiresAndClaims, FillsUp, FindsNoneOverdue, WorksOff, IsRound, IsFullAt, report_in}
use Rattle.fts_workers.specs.declared.held.Held.{Held}
use Rattle.fts_workers.specs.declared.ends.RoundEnd.{RoundEnd}
use Rattle.fts_workers.specs.declared.ends.RoundEnd.TheVariants.{Clear, Busy, DiskFailed, JournalFull, Memory}
use Rattle.fts_workers.proofs.Accepted.{full_of}

-- the disk's count rose within more than it rose in
rose_within : (first one other last : ℕ) → first ≤ one → other ≤ last → Rose one other → Rose first last
rose_within first one other last before behind (inl more) = inl (omega arith)
rose_within first one other last before behind (inr most) = inr (omega arith)

-- a round that met no fault says none
not_disk : (held : ℕ) → DiskFailed ≡ calm_end held → ⊥
not_disk zero e = absurd cc
not_disk (suc held) e = absurd cc

not_full : (used held : ℕ) → JournalFull used ≡ calm_end held → ⊥
not_full used zero e = absurd cc
not_full used (suc held) e = absurd cc

-- claims that say that the disk failed met a rise of its count
fills_cause : (free : ℕ) (walk after : Walk) → FillsUp free walk DiskFailed after → Rose walk.faults after.faults
fills_cause zero walk after filled = absurd (not_disk (length (out_of_list walk.entries)) filled.1)
fills_cause (suc free) walk after (inl claimed) =
    rose_within walk.faults claimed.0.faults after.faults after.faults claimed.1.0.adds.counts (omega arith) (fills_cause free claimed.0 after claimed.1.1)
fills_cause (suc free) walk after (inr (inl none)) = absurd (not_disk (length (out_of_list walk.entries)) none.1)
fills_cause (suc free) walk after (inr (inr stops)) = stops.stops.1

-- an expiry leaves the disk's count or raises it
expiry_counts : (walk next : Walk) → (Expires walk next ⊎ FindsNoneOverdue walk next) → walk.faults ≤ next.faults
expiry_counts walk next (inl expires) = expires.adds.counts
expiry_counts walk next (inr none) = none.none.counts

-- and so did an expiry with the claims behind it
expires_cause : (workers : ℕ) (walk after : Walk) → ExpiresAndClaims workers walk DiskFailed after → Rose walk.faults after.faults
expires_cause workers walk after (inl on) =
    rose_within walk.faults on.0.faults after.faults after.faults (expiry_counts walk on.0 on.1.0) (omega arith)
    (fills_cause (workers - length (out_of_list on.0.entries)) on.0 after on.1.1)
expires_cause workers walk after (inr stops) = stops.stops.1

-- and a round
pub works_cause : (workers : ℕ) (files : List ℕ) (walk after : Walk) → WorksOff workers files walk DiskFailed after → Rose walk.faults after.faults
works_cause workers [] walk after done = expires_cause workers walk after done
works_cause workers (file ∷ files) walk after (inl reported) =
    rose_within walk.faults reported.0.faults after.faults after.faults reported.1.0.adds.counts (omega arith)
    (works_cause workers files reported.0 after reported.1.1)
works_cause workers (file ∷ files) walk after (inr stops) = stops.stops.1

-- the journal is full behind the bytes that are used
fills_full : (free used : ℕ) (walk after : Walk) → FillsUp free walk (JournalFull used) after → used ≡ after.used
fills_full zero used walk after filled = absurd (not_full used (length (out_of_list walk.entries)) filled.1)
fills_full (suc free) used walk after (inl claimed) = fills_full free used claimed.0 after claimed.1.1
fills_full (suc free) used walk after (inr (inl none)) = absurd (not_full used (length (out_of_list walk.entries)) none.1)
fills_full (suc free) used walk after (inr (inr stops)) =
    full_of walk.used used stops.entry (step (tables_of walk.entries) stops.entry.command) stops.stops ∙ sym stops.none.filled

expires_full : (workers used : ℕ) (walk after : Walk) → ExpiresAndClaims workers walk (JournalFull used) after → used ≡ after.used
expires_full workers used walk after (inl on) = fills_full (workers - length (out_of_list on.0.entries)) used on.0 after on.1.1
expires_full workers used walk after (inr stops) =
    full_of walk.used used stops.entry (step (tables_of walk.entries) stops.entry.command) stops.stops ∙ sym stops.none.filled

works_full : (workers : ℕ) (files : List ℕ) (used : ℕ) (walk after : Walk) → WorksOff workers files walk (JournalFull used) after → used ≡ after.used
works_full workers [] used walk after done = expires_full workers used walk after done
works_full workers (file ∷ files) used walk after (inl reported) = works_full workers files used reported.0 after reported.1.1
works_full workers (file ∷ files) used walk after (inr stops) =
    let report = report_in walk.entries stops.now file stops.outcome in
    full_of walk.used used report (step (tables_of walk.entries) report.command) stops.stops ∙ sym stops.none.filled

pub round_full : (workers : ℕ) (end : RoundEnd) (walk after : Walk) → IsRound workers walk end after → IsFullAt after.used end
round_full workers (JournalFull used) walk after round = works_full workers (out_of_list walk.entries) used walk after round
round_full workers _ walk after round = tt

-- whether no fault was met
IsCalm : RoundEnd → Type 0
IsCalm Clear = Unit {0}
IsCalm (Busy held) = Unit {0}
IsCalm DiskFailed = ⊥
IsCalm (JournalFull used) = ⊥
IsCalm Memory = ⊥

-- a round that met no fault ends by the files that are out
fills_calm : (free : ℕ) (end : RoundEnd) (walk after : Walk) → IsCalm end → FillsUp free walk end after → end ≡ calm_end (length (out_of_list after.entries))
unfolding IsCalm
fills_calm zero end walk after calm filled = filled.1 ∙ ap (λ (w : Walk). calm_end (length (out_of_list w.entries))) (sym filled.0)
fills_calm (suc free) end walk after calm (inl claimed) = fills_calm free end claimed.0 after calm claimed.1.1
fills_calm (suc free) end walk after calm (inr (inl none)) =
    none.1 ∙ ap (λ all. calm_end (length (out_of_list all))) (sym none.0.none.listed)
fills_calm (suc free) Clear walk after calm (inr (inr stops)) = absurd stops.stops
fills_calm (suc free) (Busy held) walk after calm (inr (inr stops)) = absurd stops.stops
fills_calm (suc free) _ walk after calm (inr (inr stops)) = absurd calm

expires_calm : (workers : ℕ) (end : RoundEnd) (walk after : Walk) → IsCalm end → ExpiresAndClaims workers walk end after
    → end ≡ calm_end (length (out_of_list after.entries))
unfolding IsCalm
expires_calm workers end walk after calm (inl on) = fills_calm (workers - length (out_of_list on.0.entries)) end on.0 after calm on.1.1
expires_calm workers Clear walk after calm (inr stops) = absurd stops.stops
expires_calm workers (Busy held) walk after calm (inr stops) = absurd stops.stops
expires_calm workers DiskFailed walk after calm (inr stops) = absurd calm
expires_calm workers (JournalFull used) walk after calm (inr stops) = absurd calm
expires_calm workers Memory walk after calm (inr stops) = absurd calm

works_calm : (workers : ℕ) (files : List ℕ) (end : RoundEnd) (walk after : Walk) → IsCalm end → WorksOff workers files walk end after
    → end ≡ calm_end (length (out_of_list after.entries))
unfolding IsCalm
works_calm workers [] end walk after calm done = expires_calm workers end walk after calm done
works_calm workers (file ∷ files) end walk after calm (inl reported) = works_calm workers files end reported.0 after calm reported.1.1
works_calm workers (file ∷ files) Clear walk after calm (inr stops) = absurd stops.stops
works_calm workers (file ∷ files) (Busy held) walk after calm (inr stops) = absurd stops.stops
works_calm workers (file ∷ files) DiskFailed walk after calm (inr stops) = absurd calm
works_calm workers (file ∷ files) (JournalFull used) walk after calm (inr stops) = absurd calm
works_calm workers (file ∷ files) Memory walk after calm (inr stops) = absurd calm

-- how it ended says what is held
clear_none : (held : List Held) → Clear ≡ calm_end (length held) → held ≡ []
clear_none [] is = refl
clear_none (first ∷ others) is = absurd (apart (length (first ∷ others)) (omega arith) is)
  where
    apart : (n : ℕ) → 1 ≤ n → Clear ≡ calm_end n → ⊥
    apart zero some is = omega arith
    apart (suc n) some is = absurd cc

busy_some : (held : List Held) (count : ℕ) → Busy count ≡ calm_end (length held) → (count ≡ length held) × (held ≢ [])
busy_some held count is = by (length held) refl is
  where
    by : (n : ℕ) → length held ≡ n → Busy count ≡ calm_end n → (count ≡ length held) × (held ≢ [])
    by zero here is = absurd cc
    by (suc n) here is = let same : count ≡ suc n = cc in (same ∙ sym here, λ none. absurd (omega (arith, here, ap length none)))

holding : (held : List Held) (end : RoundEnd) → (IsCalm end → end ≡ calm_end (length held)) → EndsHolding held end
unfolding IsCalm
holding held Clear calm = clear_none held (calm tt)
holding held (Busy count) calm = busy_some held count (calm tt)
holding held _ calm = tt

pub round_holding : (workers : ℕ) (held : List Held) (end : RoundEnd) (walk after : Walk) → length (out_of_list after.entries) ≡ length held
    → IsRound workers walk end after → EndsHolding held end
round_holding workers held end walk after same round =
    holding held end (λ calm. works_calm workers (out_of_list walk.entries) end walk after calm round ∙ ap calm_end same)
