-- The order of the rules: what each end of the chain of checks answers, and what a document that passes it keeps.
use Rattle.std.proofs.Common.{◌≡◌, ◌⊎◌, ◌&&◌, ◌||◌, ◌==◌, inl, inr, false, List, [], ◌∷◌, ◌++◌, length, map, codes, Option, Some, None, Result, Ok, Err, refl, ap, sym, ◌∙◌, subst}
use Rattle.std.specs.Prelude.{⊤, nat_lt, nat_le}
use Rattle.std.specs.List.{list_any, flat_map}
use Rattle.std.specs.Option.{option_or}
use Rattle.serde_json.specs.Data.{Data}
use Rattle.serde_json.specs.View.{view}
use Rattle.fts_tables.specs.SettingsData.{SettingsData, is_label}
use Rattle.fts_tables.specs.JobData.{JobData, IsNewJob, goes_elsewhere}
use Rattle.fts_joburl.specs.declared.fault.UrlFault.{UrlFault}
use Rattle.fts_jobdoc.specs.Json.{files_of, param}
use Rattle.fts_jobdoc.specs.Fields.{has_wrong_sources, has_wrong_destinations, has_bad_filesize, has_bad_activity, has_replicas, has_bad_retry, retry_of, has_bad_delay, delay_of, has_bad_priority, lacks_priority, priority_in, has_bad_queue_time, queue_hours_of, is_verified, is_set}
use Rattle.fts_tables.specs.FirstFault.{first_fault, unless}
use Rattle.fts_jobdoc.specs.Checks.{Gives}
use Rattle.fts_jobdoc.specs.Ends.{ends_of, urls_of, first_url_fault, url_refused, url_rule, has_same_url, breaks_chain, all_ends_read}
use Rattle.fts_jobdoc.specs.Documents.{shape_rules, ends_rules, files_rules, params_rules, kind_rules, later_rules, early_rules, all_rules, rules_of, priority_rules, kind_of, new_job, job_in, of_value}
use Rattle.fts_jobdoc.specs.Document.{IsReadFrom}
use Rattle.fts_jobdoc.specs.declared.document.Document.{Document}
use Rattle.fts_jobdoc.specs.declared.ends.FileEnds.{FileEnds}
use Rattle.fts_jobdoc.specs.declared.fault.DocFault.{DocFault}
use Rattle.fts_jobdoc.specs.declared.fault.DocFault.TheVariants.{Memory}
use Rattle.fts_jobdoc.proofs.FieldRules.{within_or, number_or_none, priority_given}
use Rattle.fts_jobdoc.proofs.Ruled.{first_fault-append, first_fault-cons, neither, all_kept, unbroken, and_parts}
use Rattle.fts_jobdoc.proofs.JobRules.{all_fit, all_from, sizes_fit, activities_fit, files_apart}
use Rattle.fts_jobdoc.proofs.KindRules.{few_files, files_shaped}

-- ---- the ends of the chain

-- what a rule says that was told as a refusal
pub told : (rule : Option DocFault) (fault : DocFault) → ◌≡◌ {A = Result ⊤ DocFault} (Err fault) (unless rule tt) → rule ≡ Some fault
told None fault e = absurd (cc)
told (Some other) fault e = ap Some (cc)

-- and one that was told as kept
pub kept : (rule : Option DocFault) → ◌≡◌ {A = Result ⊤ DocFault} (Ok tt) (unless rule tt) → rule ≡ None
kept None e = refl
kept (Some other) e = absurd (cc)

-- the first fault of all rules, by that of each group, over files that are the document's
by_groups : (document : Data) (settings : SettingsData) (files : List Data) (shape urls later : Option DocFault) → files ≡ files_of document
    → first_fault (shape_rules document files) ≡ shape → url_rule files ≡ urls
    → first_fault (later_rules document settings files (map ends_of files)) ≡ later
    → first_fault (rules_of document settings) ≡ option_or shape (option_or urls later)
unfolding rules_of
by_groups document settings files shape urls later e first second third =
    ap (λ f. first_fault (all_rules document settings f)) (sym e)
    ∙ first_fault-append (shape_rules document files) (url_rule files ∷ later_rules document settings files (map ends_of files))
    ∙ ap (option_or (first_fault (shape_rules document files)))
    (first_fault-cons (url_rule files) (later_rules document settings files (map ends_of files)))
    ∙ rw (first, second, third) refl

-- the first fault of the rules before the settings, by that of the shape and that of the URLs
by_early : (document : Data) (files : List Data) (shape urls : Option DocFault) → files ≡ files_of document
    → first_fault (shape_rules document files) ≡ shape → url_rule files ≡ urls → first_fault (early_rules document) ≡ option_or shape (option_or urls None)
unfolding early_rules
by_early document files shape urls e first second =
    ap (λ f. first_fault (shape_rules document f ++ url_rule f ∷ [])) (sym e)
    ∙ first_fault-append (shape_rules document files) (url_rule files ∷ [])
    ∙ ap (option_or (first_fault (shape_rules document files))) (first_fault-cons (url_rule files) [])
    ∙ rw (first, second) refl

-- the shape refuses
pub exit_shape : {T : Type 0} (document : Data) (files : List Data) (value : T) (fault : DocFault) → files ≡ files_of document
    → ◌≡◌ {A = Result ⊤ DocFault} (Err fault) (unless (first_fault (shape_rules document files)) tt)
    → Gives (Err fault) (unless (first_fault (early_rules document)) value)
exit_shape document files value fault e shape = inl (rw (by_early document files (Some fault) _ e (told _ fault shape) refl) refl)

-- one rule and none behind it
or_none : (rule : Option DocFault) → option_or rule None ≡ rule
or_none None = refl
or_none (Some fault) = refl

-- behind the shape the URLs decide
pub behind_shape : (document : Data) (files : List Data) (result : Result (List FileEnds) DocFault) → files ≡ files_of document
    → ◌≡◌ {A = Result ⊤ DocFault} (Ok tt) (unless (first_fault (shape_rules document files)) tt) → Gives result (all_ends_read files)
    → Gives result (unless (first_fault (early_rules document)) (map ends_of (files_of document)))
behind_shape document files result e shape urls =
    rw (by_early document files None (url_rule files) e (kept _ shape) refl, or_none (url_rule files), sym e) urls

-- both were kept
pub early_kept : (document : Data) → first_fault (early_rules document) ≡ None
    → (first_fault (shape_rules document (files_of document)) ≡ None) × (url_rule (files_of document) ≡ None)
early_kept document passed =
    let groups = neither _ _ (sym (by_early document (files_of document) _ _ refl refl refl) ∙ passed) in
    let urls = neither _ _ groups.1 in
    (groups.0, urls.0)

-- what a refusal says of a rule, unless memory ran out
refused_by : {T : Type 0} (rule : Option DocFault) (value : T) (fault : DocFault) → Gives (Err fault) (unless rule value)
    → (rule ≡ Some fault) ⊎ (fault ≡ Memory)
refused_by None value fault (inl e) = absurd (cc)
refused_by (Some other) value fault (inl e) = inl (ap Some (cc))
refused_by rule value fault (inr e) = inr (cc)

-- what was read of URLs that weren't refused
pub passed_by : {T : Type 0} (rule : Option DocFault) (value read : T) → Gives (Ok read) (unless rule value) → (rule ≡ None) × (read ≡ value)
passed_by None value read (inl e) = (refl, cc)
passed_by (Some other) value read (inl e) = absurd (cc)
passed_by rule value read (inr e) = absurd (cc)

-- where no rule before the settings is broken, the others decide
by_others : (document : Data) (settings : SettingsData) (files : List Data) (ends : List FileEnds) → files ≡ files_of document
    → ends ≡ map ends_of (files_of document) → first_fault (early_rules document) ≡ None
    → first_fault (rules_of document settings) ≡ first_fault (later_rules document settings files ends)
by_others document settings files ends e is early =
    let passed = early_kept document early in
    by_groups document settings (files_of document) None None _ refl passed.0 passed.1 refl
    ∙ ap (λ f. first_fault (later_rules document settings f (map ends_of (files_of document)))) (sym e)
    ∙ ap (λ xs. first_fault (later_rules document settings files xs)) (sym is)

-- one of the others refuses
pub exit_later : {T : Type 0} (document : Data) (settings : SettingsData) (files : List Data) (ends : List FileEnds) (value : T) (fault : DocFault)
    → files ≡ files_of document → ends ≡ map ends_of (files_of document) → first_fault (early_rules document) ≡ None
    → ◌≡◌ {A = Result ⊤ DocFault} (Err fault) (unless (first_fault (later_rules document settings files ends)) tt)
    → Gives (Err fault) (unless (first_fault (rules_of document settings)) value)
exit_later document settings files ends value fault e is early later =
    inl (rw (by_others document settings files ends e is early ∙ told _ fault later) refl)

-- none refuses
pub none_broken : (document : Data) (settings : SettingsData) (files : List Data) (ends : List FileEnds)
    → files ≡ files_of document → ends ≡ map ends_of (files_of document) → first_fault (early_rules document) ≡ None
    → ◌≡◌ {A = Result ⊤ DocFault} (Ok tt) (unless (first_fault (later_rules document settings files ends)) tt)
    → first_fault (rules_of document settings) ≡ None
none_broken document settings files ends e is early later = by_others document settings files ends e is early ∙ kept _ later

-- the first of three faults, where it is one of the first two
first_of_three : (shape urls later : Option DocFault) (fault : DocFault) → option_or shape (option_or urls None) ≡ Some fault
    → option_or shape (option_or urls later) ≡ Some fault
first_of_three (Some other) urls later fault e = e
first_of_three None (Some other) later fault e = e
first_of_three None None later fault e = absurd (cc)

-- what refuses before the settings refuses under them
early_refuses : (document : Data) (settings : SettingsData) (fault : DocFault) → first_fault (early_rules document) ≡ Some fault
    → first_fault (rules_of document settings) ≡ Some fault
early_refuses document settings fault early =
    by_groups document settings (files_of document) _ _ _ refl refl refl refl
    ∙ first_of_three (first_fault (shape_rules document (files_of document))) (url_rule (files_of document)) _ fault
    (sym (by_early document (files_of document) _ _ refl refl refl) ∙ early)

-- what is refused before the settings is refused under them
pub refused_under : (value : Option Data) (settings : SettingsData) (fault : DocFault) → IsReadFrom value (Err fault)
    → Gives (Err fault) (of_value (λ document. job_in document settings) value)
unfolding job_in
refused_under None settings fault (inl e) = inl (ap Err (cc))
refused_under None settings fault (inr e) = inr (ap Err (cc))
refused_under (Some document) settings fault (inl early) = inl (rw (early_refuses document settings fault early) refl)
refused_under (Some document) settings fault (inr memory) = inr (ap Err memory)

-- what a document comes to under settings its body comes to
pub read_under : (value : Option Data) (settings : SettingsData) (document : Document) (result : Result JobData DocFault)
    → IsReadFrom value (Ok document) → Gives result (job_in (view document.value) settings)
    → Gives result (of_value (λ document. job_in document settings) value)
read_under (Some value) settings document result read job = subst (λ (v : Data). Gives result (job_in v settings)) read.0 job
read_under None settings document result (inl e) job = absurd (cc)
read_under None settings document result (inr e) job = absurd (cc)

-- a refusal by these rules, unless memory ran out
pub refused_early : {T : Type 0} (value : Data) (made : T) (fault : DocFault) → Gives (Err fault) (unless (first_fault (early_rules value)) made)
    → (first_fault (early_rules value) ≡ Some fault) ⊎ (fault ≡ Memory)
refused_early value made fault refused = refused_by (first_fault (early_rules value)) made fault refused

-- the first fault behind the URLs, by that of each of the four groups
pub by_later : (document : Data) (settings : SettingsData) (files : List Data) (ends : List FileEnds)
    → first_fault (later_rules document settings files ends)
    ≡ option_or (first_fault (ends_rules settings ends)) (option_or (first_fault (files_rules (is_verified document) files))
    (option_or (first_fault (params_rules document)) (first_fault (kind_rules document files ends))))
unfolding later_rules
by_later document settings files ends =
    let fields = files_rules (is_verified document) files in
    let params = params_rules document in
    let kind = kind_rules document files ends in
    first_fault-append (ends_rules settings ends) (fields ++ (params ++ kind))
    ∙ ap (option_or (first_fault (ends_rules settings ends)))
    (first_fault-append fields (params ++ kind) ∙ ap (option_or (first_fault fields)) (first_fault-append params kind))

-- ---- what the rules keep

-- where no fault is refused there is none
no_url_fault : (fault : Option UrlFault) → url_refused fault ≡ None → fault ≡ None
no_url_fault None none = refl
no_url_fault (Some fault) none = absurd (cc)

-- what the rules of a document keep that breaks none, as far as its job needs it
pub record Keeps (document : Data) : Type 0 where
  pub some : (length (files_of document) == 0) ≡ false
  pub few : nat_lt 200 (length (files_of document)) ≡ false
  pub sources : list_any has_wrong_sources (files_of document) ≡ false
  pub dests : list_any has_wrong_destinations (files_of document) ≡ false
  pub urls : first_url_fault (flat_map urls_of (files_of document)) ≡ None
  pub distinct : list_any has_same_url (map ends_of (files_of document)) ≡ false
  pub sizes : list_any has_bad_filesize (files_of document) ≡ false
  pub activities : list_any has_bad_activity (files_of document) ≡ false
  pub retry : has_bad_retry document ≡ false
  pub delay : has_bad_delay document ≡ false
  pub priority : has_bad_priority document ≡ false
  pub replicas : (list_any has_replicas (files_of document) && nat_lt 1 (length (files_of document))) ≡ false
  pub hops : (is_set (codes "multihop") document && (list_any has_replicas (files_of document) || breaks_chain (map ends_of (files_of document)))) ≡ false
  pub queue_time : has_bad_queue_time document ≡ false

-- where none is broken
pub all_keep : (document : Data) (settings : SettingsData) → first_fault (rules_of document settings) ≡ None → Keeps document
unfolding shape_rules url_rule ends_rules files_rules params_rules kind_rules
all_keep document settings passed =
    let files = files_of document in
    let groups = neither _ _ (sym (by_groups document settings files _ _ _ refl refl refl refl) ∙ passed) in
    let behind = neither _ _ groups.1 in
    let places = neither _ _ (sym (by_later document settings files (map ends_of files)) ∙ behind.1) in
    let others = neither _ _ places.1 in
    let last = neither _ _ others.1 in
    let shape = all_kept (shape_rules document files) groups.0 in
    let ends = all_kept (ends_rules settings (map ends_of files)) places.0 in
    let fields = all_kept (files_rules (is_verified document) files) others.0 in
    let params = all_kept (params_rules document) last.0 in
    let kind = all_kept (kind_rules document files (map ends_of files)) last.1 in
    record {
      some = unbroken _ _ shape.1.0;
      few = unbroken _ _ shape.1.1.0;
      sources = unbroken _ _ shape.1.1.1.1.0;
      dests = unbroken _ _ shape.1.1.1.1.1.0;
      urls = no_url_fault _ behind.0;
      distinct = unbroken _ _ ends.1.0;
      sizes = unbroken _ _ fields.0;
      activities = unbroken _ _ fields.1.1.1.1.0;
      retry = unbroken _ _ params.1.0;
      delay = unbroken _ _ params.1.1.0;
      priority = unbroken _ _ params.1.1.1.0;
      replicas = unbroken _ _ kind.0;
      hops = unbroken _ _ kind.1.0;
      queue_time = unbroken _ _ kind.1.1.1.0;
    }

-- the job of such a document keeps the rules of its type
pub lawful : (document : Data) (settings : SettingsData) → first_fault (rules_of document settings) ≡ None → IsNewJob (new_job document settings)
unfolding new_job kind_of priority_in retry_of delay_of queue_hours_of has_bad_retry has_bad_delay has_bad_priority has_bad_queue_time
lawful document settings passed =
    let files = files_of document in
    let verified = is_verified document in
    let k = all_keep document settings passed in
    let fit = all_fit files k.sources k.dests k.urls k.distinct k.sizes k.activities in
    let shaped = files_shaped (is_set (codes "multihop") document) (list_any has_replicas files) verified files fit (few_files (length files) k.some k.few)
    refl k.replicas k.hops in
    record {
      priority = within_or 1 5 3 (param (codes "priority") document) k.priority refl;
      retry = number_or_none 10 (param (codes "retry") document) k.retry;
      delay = (and_parts (nat_le 0 (delay_of document)) _ (within_or 0 86400 0 (param (codes "retry_delay") document) k.delay refl)).1;
      queue_hours = number_or_none 8760 (param (codes "max_time_in_queue") document) k.queue_time;
      file_count = shaped.count;
      apart = all_from goes_elsewhere verified (files_apart verified) files 0 fit;
      sizes = all_from (λ made. nat_le made.size 9223372036854775807) verified (sizes_fit verified) files 0 fit;
      activities = all_from (λ made. is_label made.activity) verified (activities_fit verified) files 0 fit;
      shape = shaped.shape;
    }

-- a document that asks for a priority has no bad one
pub priority_kept : (document : Data) → ◌≡◌ {A = Result ⊤ DocFault} (Ok tt) (unless (first_fault (priority_rules document)) tt)
    → has_bad_priority document ≡ false
unfolding priority_rules lacks_priority has_bad_priority
priority_kept document passed =
    let rules = all_kept (priority_rules document) (kept _ passed) in
    priority_given (param (codes "priority") document) 1 5 (unbroken _ _ rules.1.1.0)
