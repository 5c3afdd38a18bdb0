-- Along a list: the attempt of a last claim, what entries of others leave of a writer's own files, and that a claim which nobody took stays out.
use Rattle.std.proofs.Common.{◌≡◌, ◌≢◌, refl, sym, ap, ◌∙◌, subst, inl, inr, ⊎_elim, ℕ, ◌<◌, ◌≤◌, Bool, true, false, cond, max, List, [], ◌∷◌, ◌++◌, Option, Some, None, IsSome, Ok, Err, append-nil, append_assoc, arith, eqb-true, eq-eqb}
use Rattle.std.specs.Prelude.{◌⊎◌, ◌==◌, ◌&&◌}
use Rattle.std.specs.Option.{option_map_or}
use Rattle.fts_tables.specs.Tables.{Tables, empty_tables, is_active, job_at, row_at}
use Rattle.fts_tables.specs.Moves.{reported}
use Rattle.fts_tables.specs.Step.{Outcomes, step, report, report_of}
use Rattle.fts_tables.specs.History.{IsLegal, out_after, out_of_list, tables_of, without}
use Rattle.fts_tables.specs.declared.rows.FileRow.{FileRow}
use Rattle.fts_tables.specs.declared.rows.JobRow.{JobRow}
use Rattle.fts_tables.specs.declared.rows.Outcome.{Outcome}
use Rattle.fts_tables.specs.declared.commands.Entry.{Entry}
use Rattle.fts_tables.specs.declared.commands.Refusal.{Refusal}
use Rattle.fts_tables.specs.declared.commands.Refusal.TheVariants.{Stale}
use Rattle.fts_tables.specs.declared.commands.Command.{Command}
use Rattle.fts_tables.specs.declared.commands.Command.TheVariants.{Claim, Report}
use Rattle.fts_tables.specs.declared.commands.Answer.{Answer}
use Rattle.fts_tables.specs.declared.commands.Answer.TheVariants.{Restarted, Submitted, Cancelled, PrioritySet, Claimed, Reported, Banned, Unbanned, Expired}
use Rattle.fts_turnstile.specs.History.{Among}
use Rattle.fts_keep.specs.Applied.{entry_by}
use Rattle.fts_workers.specs.Benches.{attempt_of}
use Rattle.fts_workers.proofs.Accepted.{legal_front}
use Rattle.fts_workers.proofs.Numbered.{IsActiveAt, active_found, job_stands}
use Rattle.fts_shop.specs.Looking.{NoneOf}
use Rattle.fts_ledger.specs.Claims.{Claimant, IsOut, IsOwn, claim_after, claim_step, last_claim}
use Rattle.fts_ledger.specs.Fitting.{IsLastOwn}
use Rattle.fts_ledger.proofs.Lists.{among_counted, among_last, among_without, no_test, none_at, walk}
use Rattle.fts_ledger.proofs.Sound.{Behaves}
use Rattle.fts_ledger.specs.Machine.{Machine}
use Rattle.fts_ledger.proofs.Moved.{last_more, legal_before, moves, still_there}

-- where there is no claim there is none
no_claim : (claim : Claimant) → ◌≡◌ {A = Option Claimant} None (Some claim) → ⊥
no_claim claim is = absurd cc

-- two claims that are found are one
same_claim : (one other : Claimant) → ◌≡◌ {A = Option Claimant} (Some one) (Some other) → one ≡ other
same_claim one other is = cc

-- the row of a claimed file is there, at the attempt of the last claim
abbrev pub StandsAt : Tables → ℕ → Option Claimant → Type 0
StandsAt tables file last = (claim : Claimant) → last ≡ Some claim → IsSome (row_at tables.rows file) × (attempt_of tables file ≡ claim.attempt)

stands_after : (before after : Tables) (command : Command) (answer : Answer) (writer file : ℕ) (last : Option Claimant)
    → Behaves before command after answer → StandsAt before file last → (IsSome (row_at before.rows file) → IsSome (row_at after.rows file))
    → StandsAt after file (claim_after file last writer answer)
stands_after before after command (Restarted count) writer file last behaves stood still claim is =
    let was = stood claim is in (still was.0, behaves.1 file was.0 ∙ was.1)
stands_after before after command (Submitted job id) writer file last behaves stood still claim is =
    let was = stood claim is in (still was.0, behaves file was.0 ∙ was.1)
stands_after before after command (Cancelled job) writer file last behaves stood still claim is =
    let was = stood claim is in (still was.0, behaves file was.0 ∙ was.1)
stands_after before after command (PrioritySet job) writer file last behaves stood still claim is =
    let was = stood claim is in (still was.0, behaves file was.0 ∙ was.1)
stands_after before after command (Claimed claimed attempt) writer file last behaves stood still claim is = by (claimed == file) refl is
  where
    by : (same : Bool) → (claimed == file) ≡ same → cond same (Some (record { writer = writer; attempt = attempt })) last ≡ Some claim
        → IsSome (row_at after.rows file) × (attempt_of after file ≡ claim.attempt)
    by true at is_own =
        let here : claimed ≡ file = eqb-true claimed file at in
        let attempt_is : attempt ≡ claim.attempt = ap (λ (c : Claimant). c.attempt) (same_claim (record { writer = writer; attempt = attempt }) claim is_own) in (
          still (subst (λ f. IsSome (row_at before.rows f)) here behaves.there),
          subst (λ f. attempt_of after f ≡ claim.attempt) here (behaves.own ∙ attempt_is),
        )
    by false at is_last =
        let was = stood claim is_last in
        (still was.0, behaves.others file (λ same. absurd (no_test (claimed == file) (eq-eqb claimed file (sym same)) at)) ∙ was.1)
stands_after before after command (Reported reported state) writer file last behaves stood still claim is =
    let was = stood claim is in (still was.0, behaves.1 file was.0 ∙ was.1)
stands_after before after command (Banned count) writer file last behaves stood still claim is =
    let was = stood claim is in (still was.0, behaves file was.0 ∙ was.1)
stands_after before after command Unbanned writer file last behaves stood still claim is =
    let was = stood claim is in (still was.0, behaves file was.0 ∙ was.1)
stands_after before after command (Expired count) writer file last behaves stood still claim is =
    let was = stood claim is in (still was.0, behaves file was.0 ∙ was.1)

-- where a writer claimed a file at an attempt, the last claim is that one, or a later one of another
abbrev pub IsOwnOrLater : ℕ → ℕ → Option Claimant → Type 0
IsOwnOrLater writer attempt last = (claim : Claimant) × ((last ≡ Some claim)
    × ((claim ≡ record { writer = writer; attempt = attempt }) ⊎ ((claim.writer ≢ writer) × (attempt < claim.attempt))))

later_after : (before after : Tables) (command : Command) (answer : Answer) (by writer file attempt : ℕ) (last : Option Claimant)
    → Behaves before command after answer → by ≢ writer → StandsAt before file last → IsOwnOrLater writer attempt last
    → IsOwnOrLater writer attempt (claim_after file last by answer)
later_after before after command (Restarted count) by writer file attempt last behaves other stood later = later
later_after before after command (Submitted job id) by writer file attempt last behaves other stood later = later
later_after before after command (Cancelled job) by writer file attempt last behaves other stood later = later
later_after before after command (PrioritySet job) by writer file attempt last behaves other stood later = later
later_after before after command (Claimed claimed again) by writer file attempt last behaves other stood later = if_same (claimed == file) refl
  where
    if_same : (same : Bool) → (claimed == file) ≡ same
        → IsOwnOrLater writer attempt (cond same (Some (record { writer = by; attempt = again })) last)
    if_same true at =
        let here : claimed ≡ file = eqb-true claimed file at in
        let was : attempt_of before claimed ≡ later.0.attempt =
        subst (λ f. attempt_of before f ≡ later.0.attempt) (sym here) (stood later.0 later.1.0).1 in
        let reached : attempt ≤ later.0.attempt =
        ⊎_elim (λ own. omega (arith, ap (λ (c : Claimant). c.attempt) own)) (λ more. omega (arith, more.1)) later.1.1 in
        (record { writer = by; attempt = again }, (refl, inr (other, omega (arith, behaves.raised, was, reached))))
    if_same false at = later
later_after before after command (Reported reported state) by writer file attempt last behaves other stood later = later
later_after before after command (Banned count) by writer file attempt last behaves other stood later = later
later_after before after command Unbanned by writer file attempt last behaves other stood later = later
later_after before after command (Expired count) by writer file attempt last behaves other stood later = later

-- an entry of another leaves no more files out that a writer claimed last
pub others_leave : (file : ℕ) (files : List ℕ) (last : Option Claimant) (writer by : ℕ) (answer : Answer) → by ≢ writer
    → Among file (out_after files answer) → IsOwn writer (claim_after file last by answer) → Among file files × IsOwn writer last
others_leave file files last writer by (Restarted count) other among own = absurd among
others_leave file files last writer by (Submitted job id) other among own = (among, own)
others_leave file files last writer by (Cancelled job) other among own = (among, own)
others_leave file files last writer by (PrioritySet job) other among own = (among, own)
others_leave file files last writer by (Claimed claimed attempt) other among own = if_same (claimed == file) refl own
  where
    if_same : (same : Bool) → (claimed == file) ≡ same → IsOwn writer (cond same (Some (record { writer = by; attempt = attempt })) last)
        → Among file files × IsOwn writer last
    if_same true at is = absurd (other is)
    if_same false at is = ⊎_elim
        (λ there. ((among_without file claimed files there).0, is))
        (λ here. absurd (no_test (claimed == file) (eq-eqb claimed file (sym here)) at))
        (among_last file claimed (without claimed files) among)
others_leave file files last writer by (Reported reported state) other among own = ((among_without file reported files among).0, own)
others_leave file files last writer by _ other among own = (among, own)

module _ (machine : Machine) (opening : List Entry) where
  -- what passes on from entry to entry of a legal list holds behind all of them
  pub walk_legal : (P : List Entry → Type 0) (entries others : List Entry) → IsLegal (opening ++ (entries ++ others)) → P entries
      → ((earlier later : List Entry) (entry : Entry) → others ≡ earlier ++ entry ∷ later → IsLegal (opening ++ ((entries ++ earlier) ++ entry ∷ []))
      → P (entries ++ earlier) → P ((entries ++ earlier) ++ entry ∷ []))
      → P (entries ++ others)
  walk_legal P entries others legal start on = walk (λ gone. P (entries ++ gone)) others (subst P (sym (append-nil entries)) start)
      (λ earlier later entry is holds.
      let all : opening ++ (entries ++ others) ≡ (opening ++ ((entries ++ earlier) ++ entry ∷ [])) ++ later =
      ap (λ list. opening ++ (entries ++ list)) is
      ∙ ap (λ list. opening ++ list) (sym (append_assoc entries earlier (entry ∷ later)) ∙ sym (append_assoc (entries ++ earlier) (entry ∷ []) later))
      ∙ sym (append_assoc opening ((entries ++ earlier) ++ entry ∷ []) later) in
      subst P (append_assoc entries earlier (entry ∷ []))
      (on earlier later entry is
      (legal_front empty_tables (opening ++ ((entries ++ earlier) ++ entry ∷ [])) later (subst IsLegal all legal)) holds))

  -- the attempt of each last claim is that at which its file stands
  pub stands_at : (file : ℕ) (entries : List Entry) → IsLegal (opening ++ entries)
      → StandsAt (tables_of (opening ++ entries)) file (last_claim file opening entries)
  stands_at file entries legal =
      walk_legal (λ gone. StandsAt (tables_of (opening ++ gone)) file (last_claim file opening gone)) [] entries legal
      (λ claim is. absurd (no_claim claim is))
      (λ earlier later entry is fine stood.
      let m = moves machine opening earlier entry fine in
      let still : IsSome (row_at (tables_of (opening ++ earlier)).rows file) → IsSome (row_at m.done.0.rows file) =
      λ there. subst (λ t. IsSome (row_at t.rows file)) m.tables (still_there machine opening earlier entry fine file there) in
      let after = stands_after (tables_of (opening ++ earlier)) m.done.0 entry.command m.done.1 entry.writer file (last_claim file opening earlier)
      m.behaves stood still in
      subst (λ t. StandsAt t file (last_claim file opening (earlier ++ entry ∷ []))) (sym m.tables)
      (subst (λ last. StandsAt m.done.0 file last) (sym (m.last file)) after))

  -- behind entries of others each file that is out and was claimed last by a writer is among the same files
  pub whole_still : (writer : ℕ) (files : List ℕ) (entries others : List Entry) → IsLegal (opening ++ (entries ++ others)) → NoneOf writer others
      → ((file : ℕ) → IsOut file (opening ++ entries) → IsOwn writer (last_claim file opening entries) → Among file files)
      → (file : ℕ) → IsOut file (opening ++ (entries ++ others)) → IsOwn writer (last_claim file opening (entries ++ others)) → Among file files
  whole_still writer files entries others legal none whole =
      walk_legal (λ gone. (file : ℕ) → IsOut file (opening ++ gone) → IsOwn writer (last_claim file opening gone) → Among file files) entries others legal whole
      (λ earlier later entry is fine holds file out own.
      let m = moves machine opening (entries ++ earlier) entry fine in
      let was = others_leave file (out_of_list (opening ++ (entries ++ earlier))) (last_claim file opening (entries ++ earlier)) writer entry.writer m.done.1
      (none_at writer others earlier entry later is none)
      (subst (Among file) m.out out) (subst (IsOwn writer) (m.last file) own) in
      holds file was.0 was.1)

  module _ (writer : ℕ) (entries : List Entry) (legal : IsLegal (opening ++ entries)) (file attempt : ℕ) (own : IsLastOwn writer opening entries file attempt) where
    -- the claim
    abbrev the_claim : Entry
    the_claim = entry_by writer (Claim own.now own.word)

    -- the entries up to it, and those behind
    cut : entries ≡ (own.earlier ++ the_claim ∷ []) ++ own.later
    cut = own.split ∙ sym (append_assoc own.earlier (the_claim ∷ []) own.later)

    legal_there : IsLegal (opening ++ ((own.earlier ++ the_claim ∷ []) ++ own.later))
    legal_there = subst (λ list. IsLegal (opening ++ list)) cut legal

    -- right behind it the last claim is the writer's
    last_there : last_claim file opening (own.earlier ++ the_claim ∷ []) ≡ Some (record { writer = writer; attempt = attempt })
    last_there = last_more file opening own.earlier the_claim ∙ ap (claim_step file (last_claim file opening own.earlier) writer) own.answered
        ∙ ap (λ same. cond same (Some (record { writer = writer; attempt = attempt })) (last_claim file opening own.earlier)) (eq-eqb file file refl)

    -- behind all entries it is that one, or a later one of another
    pub own_or_later : IsOwnOrLater writer attempt (last_claim file opening entries)
    own_or_later = subst (λ list. IsOwnOrLater writer attempt (last_claim file opening list)) (sym cut)
        (walk_legal (λ gone. IsOwnOrLater writer attempt (last_claim file opening gone)) (own.earlier ++ the_claim ∷ []) own.later legal_there
        (record { writer = writer; attempt = attempt }, (last_there, inl refl))
        (λ earlier later entry is fine holds.
        let gone = (own.earlier ++ the_claim ∷ []) ++ earlier in
        let m = moves machine opening gone entry fine in
        subst (IsOwnOrLater writer attempt) (sym (m.last file))
        (later_after (tables_of (opening ++ gone)) m.done.0 entry.command m.done.1 entry.writer writer file attempt (last_claim file opening gone) m.behaves
        (none_at writer own.later earlier entry later is own.none_since)
        (stands_at file gone (legal_before machine opening gone entry fine)) holds)))

    -- where the file stands at that attempt, the last claim is the writer's
    pub own_by_attempt : attempt_of (tables_of (opening ++ entries)) file ≡ attempt → IsOwn writer (last_claim file opening entries)
    own_by_attempt at =
        let found = own_or_later in
        let stands = (stands_at file entries legal found.0 found.1.0).1 in
        subst (IsOwn writer) (sym found.1.0)
        (⊎_elim (λ is. ap (λ (c : Claimant). c.writer) is) (λ more. absurd (omega (arith, more.1, stands, at))) found.1.1)

    -- where the last claim is the writer's, the file stands at that attempt
    pub attempt_by_own : IsOwn writer (last_claim file opening entries) → attempt_of (tables_of (opening ++ entries)) file ≡ attempt
    attempt_by_own is_own =
        let found = own_or_later in
        let stands = (stands_at file entries legal found.0 found.1.0).1 in
        let is : found.0.writer ≡ writer = subst (IsOwn writer) found.1.0 is_own in
        stands ∙ ⊎_elim (λ same. ap (λ (c : Claimant). c.attempt) same) (λ more. absurd (more.0 is)) found.1.1

-- the row of a report that is accepted is ACTIVE at its attempt
pub record IsReportedAt (tables : Tables) (file attempt : ℕ) : Type 0 where
  pub row : FileRow
  pub at : row_at tables.rows file ≡ Some row
  pub active : is_active row.state ≡ true
  pub attempt_is : attempt_of tables file ≡ attempt

both_true : (one other : Bool) → (one && other) ≡ true → (one ≡ true) × (other ≡ true)
both_true true other is = (refl, is)
both_true false other is = absurd cc

-- a test passed where its answer is the first
test_passed : (test : Bool) (one : Tables × Answer) (refusal : Refusal) (done : Tables × Answer)
    → ◌≡◌ {A = Outcomes} (cond test (Ok one) (Err refusal)) (Ok done) → test ≡ true
test_passed true one refusal done is = refl
test_passed false one refusal done is = absurd cc

pub reported_at : (tables : Tables) (now file attempt : ℕ) (outcome : Outcome) (done : Tables × Answer)
    → step tables (Report now file attempt outcome) ≡ Ok done → IsReportedAt tables file attempt
reported_at tables now file attempt outcome done is = by_row (row_at tables.rows file) refl is
  where
    by_job : (row : FileRow) → row_at tables.rows file ≡ Some row → (found : Option JobRow)
        → report_of tables (max now tables.moment) row attempt outcome found ≡ Ok done → IsReportedAt tables file attempt
    by_job row at None came = absurd cc
    by_job row at (Some job) came =
        let both = both_true (is_active row.state) (row.attempt == attempt)
        (test_passed (is_active row.state && (row.attempt == attempt)) _ (Stale row.state row.attempt) done came) in
        record {
          row = row;
          at = at;
          active = both.0;
          attempt_is = ap (λ (found : Option FileRow). option_map_or (λ (r : FileRow). r.attempt) found 0) at ∙ eqb-true row.attempt attempt both.1;
        }

    by_row : (found : Option FileRow) → row_at tables.rows file ≡ found → report tables (max now tables.moment) found attempt outcome ≡ Ok done
        → IsReportedAt tables file attempt
    by_row None at came = absurd cc
    by_row (Some row) at came = by_job row at (job_at tables.jobs row.job) came

-- the file of a list that is out is ACTIVE
pub out_active : Machine → (entries : List Entry) → IsLegal entries → (file : ℕ) → IsOut file entries → IsActiveAt (tables_of entries).rows file
out_active machine entries legal file out = active_found 1 (tables_of entries).rows file (machine.formed entries legal).rows
    (subst (λ n. 1 ≤ n) ((machine.outs entries legal).counts (λ other. other == file)) (among_counted file (out_of_list entries) out))

-- a test that passes refuses nothing
not_refused : (test : Bool) (one : Tables × Answer) (other refusal : Refusal) → test ≡ true
    → ◌≡◌ {A = Outcomes} (cond test (Ok one) (Err other)) (Err refusal) → ⊥
not_refused true one other refusal holds is = absurd cc
not_refused false one other refusal holds is = absurd cc

-- no report of a file that is out is refused, at the attempt at which it stands
pub report_accepted : Machine → (entries : List Entry) → IsLegal entries → (now file attempt : ℕ) (outcome : Outcome) (refusal : Refusal)
    → IsOut file entries → attempt_of (tables_of entries) file ≡ attempt → step (tables_of entries) (Report now file attempt outcome) ≡ Err refusal → ⊥
report_accepted machine entries legal now file attempt outcome refusal out at is =
    let active = out_active machine entries legal file out in
    let tables = tables_of entries in
    let job = job_stands tables file active.row (machine.formed entries legal) active.at in
    let attempt_is : active.row.attempt ≡ attempt =
    sym (ap (λ (found : Option FileRow). option_map_or (λ (r : FileRow). r.attempt) found 0) active.at) ∙ at in
    let test : (is_active active.row.state && (active.row.attempt == attempt)) ≡ true =
    ap (λ a. a && (active.row.attempt == attempt)) active.active ∙ eq-eqb active.row.attempt attempt attempt_is in
    let came : report_of tables (max now tables.moment) active.row attempt outcome (Some job.job) ≡ Err refusal =
    sym (ap (λ found. report tables (max now tables.moment) found attempt outcome) active.at
    ∙ ap (report_of tables (max now tables.moment) active.row attempt outcome) job.found)
    ∙ is in
    absurd (not_refused (is_active active.row.state && (active.row.attempt == attempt)) _ (Stale active.row.state active.row.attempt) refusal test came)
