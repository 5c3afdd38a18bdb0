-- The service's replies to a submission are what the theorem of worlds needs.
use Rattle.std.proofs.Common.{◌≡◌, ℕ, suc, ◌+◌, ◌^◌, ◌<◌, ◌≤◌, Bool, true, false, cond, List, [], ◌∷◌, ◌++◌, length, Option, Some, None, Result, Ok, Err, refl, ap, sym, ◌∙◌, subst, arith, append-nil, eqb-true, eq-eqb, not-suc-le-zero}
use Rattle.std.specs.Prelude.{◌==◌, max, nat_lt, find, option_map, option_and_then, unwrap_or}
use Rattle.std.specs.Option.{option_map_or}
use Rattle.serde_json.specs.Data.{Data}
use Rattle.fts_tables.specs.SettingsData.{SettingsData}
use Rattle.fts_tables.specs.JobData.{JobData}
use Rattle.fts_tables.specs.FirstFault.{first_fault, unless}
use Rattle.fts_tables.specs.Tables.{Tables, empty_tables, AreNumberedFrom, AreWellFormed, number_of_id, job_at}
use Rattle.fts_tables.specs.Moves.{standard_id, job_of_new, rows_of_new}
use Rattle.fts_tables.specs.Step.{add_job, submit_by, step}
use Rattle.fts_tables.specs.History.{IsAccepted, IsLegal, tables_of}
use Rattle.fts_tables.specs.declared.limits.TheConstants.{MAX_JOBS, MAX_ROWS}
use Rattle.fts_tables.specs.declared.commands.Refusal.TheVariants.{JobsFull, RowsFull}
use Rattle.fts_tables.specs.declared.commands.Answer.TheVariants.{Submitted}
use Rattle.fts_keep.specs.declared.fault.KeepFault.TheVariants.{JournalFull}
use Rattle.fts_routes.specs.Json.{object_of, body_of}
use Rattle.fts_wire.specs.declared.response.Reply.{Reply}
use Rattle.fts_jobdoc.specs.Json.{value_of}
use Rattle.fts_jobdoc.specs.Fields.{sid_in}
use Rattle.fts_jobdoc.specs.Documents.{rules_of, new_job, job_in, job_of, of_value}
use Rattle.fts_jobdoc.specs.Ids.{sid_id}
use Rattle.fts_jobdoc.specs.declared.fault.DocFault.{DocFault}
use Rattle.fts_keep.specs.Keeps.{bodies_of, used_of}
use Rattle.fts_keep.specs.Applied.{entry_by, fits, applied_by}
use Rattle.fts_routes.specs.Objects.{settings_in, no_settings, accepted_object}
use Rattle.fts_routes.specs.Refusals.{jobs_full, rows_full, journal_full, duplicate, duplicate_members, bad_document}
use Rattle.fts_routes.specs.Replies.{Said, said_only, said_by, said_to, said_over, if_read, submission, id_of_new, id_of_job}
use Rattle.fts_laws.specs.Submissions.{one_if, is_given, submits, submissions, jobs_with, is_standard_id, vo_of}
use Rattle.fts_client.specs.Worlds.{IsBacked, Answers}
use Rattle.fts_jobdoc.specs.Sids.{sid_of, sid_given, sid_rules, sid_unless}
use Rattle.fts_client.specs.Hearing.{heard_in, job_named_in, done_by}
use Rattle.fts_client_laws.specs.Submitting.{submitting, submission_of, NamesJob}
use Rattle.fts_tables.specs.declared.rows.JobRow.{JobRow}
use Rattle.fts_tables.specs.declared.commands.Entry.{Entry}
use Rattle.fts_tables.specs.declared.commands.Command.TheVariants.{Submit}
use Rattle.fts_laws.proofs.SubmissionLists.{jobs_submitted, submissions-append, vo_stands}
use Rattle.fts_client.proofs.GrownLists.{legal_joined, vo_with}
use Rattle.fts_client_laws.proofs.OwnIds.{sid_is_small, sid_not_standard}
use Rattle.fts_client_laws.proofs.HeardJobs.{only_accepted, only_duplicate, backed_by, named_accepted, named_duplicate}

-- ---- the document's id

-- the own id that is looked at is the one of which the job's id is made
sid_there : (fault : Option DocFault) (found : Option (List ℕ)) (sid : List ℕ) → sid_unless fault found ≡ Ok sid → found ≡ Some sid
sid_there None None sid is = cc
sid_there None (Some other) sid is = cc
sid_there (Some fault) found sid is = cc

job_there : (fault : Option DocFault) (new job : JobData) → unless fault new ≡ Ok job → new ≡ job
job_there None new job is = cc
job_there (Some fault) new job is = cc

id_by_value : (value : Option Data) (sid : List ℕ) (settings : SettingsData) (job : JobData) → of_value sid_given value ≡ Ok sid
    → of_value (λ one. job_in one settings) value ≡ Ok job → job.id ≡ Some (sid_id settings.vo sid)
unfolding sid_given job_in new_job
id_by_value None sid settings job given read = cc
id_by_value (Some value) sid settings job given read =
    ap (λ (made : JobData). made.id) (sym (job_there (first_fault (rules_of value settings)) (new_job value settings) job read))
    ∙ ap (option_map (sid_id settings.vo)) (sid_there (first_fault (sid_rules value)) (sid_in value) sid given)

-- the id of the job that a document is
pub id_of_document : (document sid : List ℕ) (settings : SettingsData) (job : JobData) → sid_of document ≡ Ok sid → job_of document settings ≡ Ok job
    → job.id ≡ Some (sid_id settings.vo sid)
unfolding sid_of job_of
id_of_document document sid settings job given read = id_by_value (value_of document) sid settings job given read

-- ---- jobs that are found by an id

-- a job that is found by an id is one of those that have it
known_some : (id : ℕ) (jobs : List JobRow) (number : ℕ) → number_of_id jobs id ≡ Some number → 1 ≤ jobs_with id jobs
known_some id [] number is = let clash : None ≡ Some number = is in cc
known_some id (job ∷ jobs) number is = by_head (known_some id jobs number) (job.id == id) is
  where
    by_head : (number_of_id jobs id ≡ Some number → 1 ≤ jobs_with id jobs) → (answer : Bool)
        → option_map (λ (found : JobRow). found.number) (cond answer (Some job) (find (λ (found : JobRow). found.id == id) jobs)) ≡ Some number
        → 1 ≤ one_if answer + jobs_with id jobs
    by_head behind true is = omega arith
    by_head behind false is = let some = behind is in omega (arith, some)

-- the job of the number that was found by an id has that id
record IsFoundAt (id first : ℕ) (jobs : List JobRow) (number : ℕ) : Type 0 where
  least : first ≤ number
  same : option_map_or (λ (job : JobRow). job.id) (job_at jobs number) 0 ≡ id

found_at : (id first : ℕ) (jobs : List JobRow) (number : ℕ) → AreNumberedFrom (λ (job : JobRow). job.number) first jobs → number_of_id jobs id ≡ Some number
    → IsFoundAt id first jobs number
found_at id first [] number numbered is = let clash : None ≡ Some number = is in cc
found_at id first (job ∷ jobs) number numbered is = by_head (found_at id (suc first) jobs number numbered.1) (job.id == id) refl is
  where
    Test : Bool → ℕ
    Test answer = option_map_or (λ (found : JobRow). found.id) (cond answer (Some job) (find (λ (found : JobRow). found.number == number) jobs)) 0

    other : (job.number == number) ≡ true → suc first ≤ number → ⊥
    other is above = let same = eqb-true job.number number is in let at = numbered.0 in not-suc-le-zero {n = 0} (omega (arith, same, at, above))

    behind_head : suc first ≤ number → (answer : Bool) → (job.number == number) ≡ answer → option_map_or (λ (found : JobRow). found.id) (job_at jobs number) 0 ≡ id
        → option_map_or (λ (found : JobRow). found.id) (cond answer (Some job) (find (λ (found : JobRow). found.number == number) jobs)) 0 ≡ id
    behind_head above true is same = absurd (other is above)
    behind_head above false is same = same

    by_head : (number_of_id jobs id ≡ Some number → IsFoundAt id (suc first) jobs number) → (answer : Bool) → (job.id == id) ≡ answer
        → option_map (λ (found : JobRow). found.number) (cond answer (Some job) (find (λ (found : JobRow). found.id == id) jobs)) ≡ Some number
        → IsFoundAt id first (job ∷ jobs) number
    by_head behind true is found =
        let here : job.number ≡ number = cc in
        let at = numbered.0 in
        record {
          least = omega (arith, here, at);
          same = ap (λ answer. option_map_or (λ (found : JobRow). found.id) (cond answer (Some job) (find (λ (found : JobRow). found.number == number) jobs)) 0)
              (eq-eqb job.number number here) ∙ eqb-true job.id id is;
        }
    by_head behind false is found =
        let rest = behind found in
        let above = rest.least in
        record { least = omega (arith, above); same = behind_head rest.least (job.number == number) refl rest.same }

-- ---- what is said

-- the VO's name of the settings in force
vo_in_force : (settings : Option SettingsData) (vo : List ℕ) → option_map (λ (one : SettingsData). one.vo) settings ≡ Some vo
    → (unwrap_or settings no_settings).vo ≡ vo
vo_in_force None vo is = cc
vo_in_force (Some one) vo is = cc

module _ (vo : List ℕ) (id : ℕ) (small : id < 2 ^ 128) (own : is_standard_id id ≡ false)
    (entries : List Entry) (legal : IsLegal entries) (name : vo_of entries ≡ Some vo) (formed : AreWellFormed (tables_of entries)) where
  -- what is said fits the theorem
  pub record Fits (said : Said) : Type 0 where
    pub stays : IsLegal (entries ++ said.added)
    pub calm : vo_of (entries ++ said.added) ≡ Some vo
    pub backed : IsBacked id (entries ++ said.added) (heard_in said.reply.status said.reply.body)
    pub names : NamesJob id said.reply.status (heard_in said.reply.status said.reply.body)

  -- a reply that adds nothing
  nothing_added : (reply : Reply) → IsBacked id entries (heard_in reply.status reply.body)
      → NamesJob id reply.status (heard_in reply.status reply.body) → Fits (said_only reply)
  nothing_added reply backed names =
      let same : entries ≡ entries ++ [] = sym (append-nil entries) in
      record {
        stays = subst (λ (list : List Entry). IsLegal list) same legal;
        calm = subst (λ (list : List Entry). vo_of list ≡ Some vo) same name;
        backed = subst (λ (list : List Entry). IsBacked id list (heard_in reply.status reply.body)) same backed;
        names = names;
      }

  module _ (writer now : ℕ) (job : JobData) (asked : job.id ≡ Some id) where
    abbrev entry : Entry
    entry = entry_by writer (Submit now job)

    abbrev tables : Tables
    tables = tables_of entries

    abbrev shown : Tables → Data
    shown after = accepted_object (id_of_new tables job)

    submitted_here : submits id (Submit now job) ≡ true
    submitted_here = ap (is_given id) asked ∙ eq-eqb id id refl

    one_more : 1 ≤ submissions id (entries ++ entry ∷ [])
    one_more =
        let sum = submissions-append entries (entry ∷ []) id in
        let here = ap one_if submitted_here in
        omega (arith, sum, here)

    -- the command is accepted, and fits the journal or not
    by_fit : (answer : Bool) → IsAccepted (step tables (Submit now job))
        → Fits (said_by tables shown entry (cond answer (Ok (record tables { moment = max now tables.moment; jobs = tables.jobs ++ job_of_new tables (max now tables.moment) job ∷ []; rows = tables.rows ++ rows_of_new tables.rows (length tables.jobs + 1) job }, Submitted (length tables.jobs + 1) (job_of_new tables (max now tables.moment) job).id)) (Err (JournalFull (used_of entries)))))
    by_fit true accepted = record {
      stays = legal_joined entries (entry ∷ []) empty_tables legal (accepted, tt);
      calm = vo_with entries entry ∙ name;
      backed = subst (λ (made : ℕ). IsBacked id (entries ++ entry ∷ []) (done_by (job_named_in (body_of (accepted_object made))) false))
          (sym (ap (λ given. unwrap_or given (standard_id (length tables.jobs + 1))) asked))
          (backed_by id (entries ++ entry ∷ []) (job_named_in (body_of (accepted_object id))) false (only_accepted id small) one_more);
      names = record {
        accepted = λ is. ap (λ (made : ℕ). done_by (job_named_in (body_of (accepted_object made))) false)
            (ap (λ given. unwrap_or given (standard_id (length tables.jobs + 1))) asked) ∙ ap (λ named. done_by named false) (named_accepted id small);
        duplicate = λ is. absurd (omega (arith, is));
      };
    }
    by_fit false accepted = nothing_added journal_full tt (record { accepted = λ is. absurd (omega (arith, is)); duplicate = λ is. absurd (omega (arith, is)) })

    by_rows : (answer : Bool) → nat_lt MAX_ROWS (length tables.rows + length job.files) ≡ answer
        → (IsAccepted (cond answer (Err (RowsFull (length tables.rows))) (add_job tables (max now tables.moment) job)) → IsAccepted (step tables (Submit now job)))
        → Fits (said_by tables shown entry (applied_by (used_of entries) entry (cond answer (Err (RowsFull (length tables.rows))) (add_job tables (max now tables.moment) job))))
    by_rows true is on = nothing_added rows_full tt (record { accepted = λ is. absurd (omega (arith, is)); duplicate = λ is. absurd (omega (arith, is)) })
    by_rows false is on = by_fit (fits (used_of entries) entry) (on tt)

    by_room : (answer : Bool)
        → (IsAccepted (cond answer (cond (nat_lt MAX_ROWS (length tables.rows + length job.files)) (Err (RowsFull (length tables.rows))) (add_job tables (max now tables.moment) job)) (Err (JobsFull (length tables.jobs)))) → IsAccepted (step tables (Submit now job)))
        → Fits (said_by tables shown entry (applied_by (used_of entries) entry (cond answer (cond (nat_lt MAX_ROWS (length tables.rows + length job.files)) (Err (RowsFull (length tables.rows))) (add_job tables (max now tables.moment) job)) (Err (JobsFull (length tables.jobs))))))
    by_room true on = by_rows (nat_lt MAX_ROWS (length tables.rows + length job.files)) refl on
    by_room false on = nothing_added jobs_full tt (record { accepted = λ is. absurd (omega (arith, is)); duplicate = λ is. absurd (omega (arith, is)) })

    by_known : (known : Option ℕ) → known ≡ number_of_id tables.jobs id
        → (IsAccepted (submit_by known tables (max now tables.moment) job) → IsAccepted (step tables (Submit now job)))
        → Fits (said_by tables shown entry (applied_by (used_of entries) entry (submit_by known tables (max now tables.moment) job)))
    by_known None is on = by_room (nat_lt (length tables.jobs) MAX_JOBS) on
    by_known (Some number) known on =
        let some = known_some id tables.jobs number (sym known) in
        let sum = jobs_submitted entries empty_tables id own legal in
        nothing_added (duplicate (id_of_job tables number))
        (subst (λ (named : ℕ). IsBacked id entries (done_by (job_named_in (body_of (object_of (duplicate_members named)))) true))
        (sym (found_at id 1 tables.jobs number formed.jobs (sym known)).same)
        (backed_by id entries (job_named_in (body_of (object_of (duplicate_members id)))) true (only_duplicate id small) (omega (arith, some, sum))))
        (record {
          accepted = λ is. absurd (omega (arith, is));
          duplicate = λ is. ap (λ (named : ℕ). done_by (job_named_in (body_of (object_of (duplicate_members named)))) true)
              (found_at id 1 tables.jobs number formed.jobs (sym known)).same ∙ ap (λ named. done_by named true) (named_duplicate id small);
        })

    known_here : option_and_then (number_of_id tables.jobs) job.id ≡ number_of_id tables.jobs id
    known_here = ap (option_and_then (number_of_id tables.jobs)) asked

    pub fits_submission : Fits (said_to tables (bodies_of entries) (used_of entries) writer (submission tables now job))
    fits_submission = by_known (option_and_then (number_of_id tables.jobs) job.id) known_here (λ accepted. accepted)

  by_read : (writer now : ℕ) (read : Result JobData DocFault) → ((job : JobData) → read ≡ Ok job → job.id ≡ Some id)
      → Fits (said_to (tables_of entries) (bodies_of entries) (used_of entries) writer (if_read read (submission (tables_of entries) now)))
  by_read writer now (Err fault) asked = nothing_added (bad_document fault) tt (record { accepted = λ is. absurd (omega (arith, is)); duplicate = λ is. absurd (omega (arith, is)) })
  by_read writer now (Ok job) asked = fits_submission writer now job (asked job refl)

  pub fits_said : (writer now : ℕ) (document : List ℕ) → ((job : JobData) → job_of document (settings_in (tables_of entries)) ≡ Ok job → job.id ≡ Some id)
      → Fits (said_over entries writer (submission_of document) now)
  fits_said writer now document asked = by_read writer now (job_of document (settings_in (tables_of entries))) asked

-- the service's replies to a document with an own id
pub answers_hold : ((entries : List Entry) → IsLegal entries → AreWellFormed (tables_of entries)) → (document sid vo : List ℕ) → sid_of document ≡ Ok sid
    → Answers submitting vo (submission_of document) (sid_id vo sid)
answers_hold formed document sid vo given = record {
  legal = λ entries writer now legal name. (said entries writer now legal name).stays;
  calm = λ entries writer now legal name. (said entries writer now legal name).calm;
  backed = λ entries writer now legal name. (said entries writer now legal name).backed;
  no_memory = tt;
  disk_failed = tt;
}
  where
    asked : (entries : List Entry) → vo_of entries ≡ Some vo → (job : JobData) → job_of document (settings_in (tables_of entries)) ≡ Ok job
        → job.id ≡ Some (sid_id vo sid)
    asked entries name job read =
        id_of_document document sid (settings_in (tables_of entries)) job given read
        ∙ ap (λ vo. Some (sid_id vo sid)) (vo_in_force (tables_of entries).settings vo (vo_stands entries empty_tables ∙ name))

    said : (entries : List Entry) (writer now : ℕ) → (legal : IsLegal entries) → (name : vo_of entries ≡ Some vo)
        → Fits vo (sid_id vo sid) (sid_is_small vo sid) (sid_not_standard vo sid) entries legal name (formed entries legal)
        (said_over entries writer (submission_of document) now)
    said entries writer now legal name =
        fits_said vo (sid_id vo sid) (sid_is_small vo sid) (sid_not_standard vo sid) entries legal name (formed entries legal) writer now document
        (asked entries name)

-- what the service says to a submission, where it says 200 or 409, names its job
pub says_job : ((entries : List Entry) → IsLegal entries → AreWellFormed (tables_of entries)) → (document sid vo : List ℕ) → sid_of document ≡ Ok sid
    → (entries : List Entry) (writer now : ℕ) → IsLegal entries → vo_of entries ≡ Some vo
    → NamesJob (sid_id vo sid) (submitting.reply entries writer (submission_of document) now).status (submitting.heard (submitting.reply entries writer (submission_of document) now))
says_job formed document sid vo given entries writer now legal name =
    (fits_said vo (sid_id vo sid) (sid_is_small vo sid) (sid_not_standard vo sid) entries legal name (formed entries legal) writer now document
    (λ job read. id_of_document document sid (settings_in (tables_of entries)) job given read
    ∙ ap (λ vo. Some (sid_id vo sid)) (vo_in_force (tables_of entries).settings vo (vo_stands entries empty_tables ∙ name)))).names
