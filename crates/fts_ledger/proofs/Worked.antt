-- Worked examples of the words in which the laws speak, computed: last claims, who takes a file from whom, and which benches fit.
use Rattle.std.proofs.Common.{◌≡◌, refl, inl, inr, ℕ, true, false, List, [], ◌∷◌, ◌++◌, Some, None}
use Rattle.std.specs.Prelude.{codes}
use Rattle.fts_tables.specs.SettingsData.{SettingsData, default_activity}
use Rattle.fts_tables.specs.JobData.{JobData}
use Rattle.fts_tables.specs.History.{IsLegal, out_of_list}
use Rattle.fts_tables.specs.declared.settings.Endpoint.{Endpoint}
use Rattle.fts_tables.specs.declared.rows.NewFile.{NewFile}
use Rattle.fts_tables.specs.declared.rows.JobKind.TheVariants.{Plain}
use Rattle.fts_tables.specs.declared.rows.Strategy.TheVariants.{Orderly}
use Rattle.fts_tables.specs.declared.rows.Outcome.TheVariants.{StoreFailed, Stopped}
use Rattle.fts_tables.specs.declared.commands.Entry.{Entry}
use Rattle.fts_tables.specs.declared.commands.Command.TheVariants.{Restart, Submit, Claim, Report, Expire}
use Rattle.fts_keep.specs.Applied.{entry_by}
use Rattle.fts_ledger.specs.Claims.{last_claim}
use Rattle.fts_ledger.specs.Reports.{AddsWork, IsUndisturbed, ReportsOwn}
use Rattle.fts_ledger.specs.Fitting.{Fits}

-- two endpoints
abbrev first_end : List ℕ
first_end = codes "https://a.example"

abbrev second_end : List ℕ
second_end = codes "https://b.example"

abbrev endpoint : List ℕ → Endpoint
endpoint name = record { name = name; inbound = 20; outbound = 20 }

abbrev settings : SettingsData
settings = record {
  vo = codes "demo";
  workers = 2;
  default_max_active = 20;
  endpoints = endpoint first_end ∷ endpoint second_end ∷ [];
  links = [];
  weights = record { name = default_activity; weight = 1 } ∷ [];
}

-- a job of one file, which may be tried again at once
abbrev file : NewFile
file = record {
  index = 0;
  source = record { endpoint = first_end; path = codes "f" };
  dest = record { endpoint = second_end; path = codes "f" };
  size = 0;
  wanted = None;
  activity = default_activity;
}

abbrev job : JobData
job = record { id = None; kind = Plain; strategy = Orderly; priority = 3; retry = 1; delay = 0; overwrite = false; queue_hours = 0; files = file ∷ [] }

-- the list when a lock was made: a restart, and a submission by writer 0
abbrev opening : List Entry
opening = entry_by 0 (Restart 1 settings) ∷ entry_by 0 (Submit 1 job) ∷ []

-- a claim by writer 3, a report by 4 of a file that it never claimed, and a claim of the file by 4
abbrev claim : Entry
claim = entry_by 3 (Claim 1 0)

abbrev strange : Entry
strange = entry_by 4 (Report 2 1 1 StoreFailed)

abbrev again : Entry
again = entry_by 4 (Claim 3 0)

-- all of these are legal: the machine doesn't ask who reports
these_are_legal : IsLegal (opening ++ claim ∷ strange ∷ again ∷ [])
these_are_legal = (tt, (tt, (tt, (tt, (tt, tt)))))

-- before the claim there is none
nobody_claimed_first : last_claim 1 opening [] ≡ None
nobody_claimed_first = refl

-- behind it it is the last, at the first attempt, and the file is out
three_claimed_last : last_claim 1 opening (claim ∷ []) ≡ Some (record { writer = 3; attempt = 1 })
three_claimed_last = refl

the_file_is_out : out_of_list (opening ++ claim ∷ []) ≡ 1 ∷ []
the_file_is_out = refl

-- behind the report it is the last still, though the file is in
three_claimed_last_still : last_claim 1 opening (claim ∷ strange ∷ []) ≡ Some (record { writer = 3; attempt = 1 })
three_claimed_last_still = refl

the_file_is_in : out_of_list (opening ++ claim ∷ strange ∷ []) ≡ []
the_file_is_in = refl

-- behind the second claim it is that one, at the second attempt
four_claimed_last : last_claim 1 opening (claim ∷ strange ∷ again ∷ []) ≡ Some (record { writer = 4; attempt = 2 })
four_claimed_last = refl

-- what was claimed in the opening list counts for nobody behind it
an_earlier_run_counts_for_nobody : last_claim 1 (opening ++ claim ∷ []) [] ≡ None
an_earlier_run_counts_for_nobody = refl

-- the report takes the file from writer 3, and is none of 4's own
the_report_takes_it : IsUndisturbed 3 opening (claim ∷ strange ∷ []) → ⊥
the_report_takes_it free = free (claim ∷ []) [] strange 1 refl refl (inr (refl, λ is. absurd (unlike is)))
  where
    unlike : ◌≡◌ {A = ℕ} 4 3 → ⊥
    unlike is = absurd cc

it_is_none_of_its_own : ReportsOwn 4 opening [] (claim ∷ strange ∷ []) → ⊥
it_is_none_of_its_own own = absurd (unlike (own (claim ∷ []) [] 2 1 1 StoreFailed refl))
  where
    unlike : ◌≡◌ {A = ℕ} 3 4 → ⊥
    unlike is = absurd cc

-- so does a restart, whatever it releases
abbrev restart : Entry
restart = entry_by 0 (Restart 2 settings)

the_restart_takes_it : IsUndisturbed 3 opening (claim ∷ restart ∷ []) → ⊥
the_restart_takes_it free = free (claim ∷ []) [] restart 1 refl refl (inl tt)

-- a second job may wait one hour, and its file is overdue while writer 3 copies the first one's
abbrev two_jobs : List Entry
two_jobs = opening ++ entry_by 0 (Submit 1 (record job { queue_hours = 1 })) ∷ []

abbrev expiry : Entry
expiry = entry_by 3 (Expire 3601)

-- an expiry by writer 3 cancels that file, and takes none from anybody: the first one is out, and 3's own, as before
an_expiry_is_legal : IsLegal (two_jobs ++ claim ∷ expiry ∷ [])
an_expiry_is_legal = (tt, (tt, (tt, (tt, (tt, tt)))))

the_file_is_out_still : out_of_list (two_jobs ++ claim ∷ expiry ∷ []) ≡ 1 ∷ []
the_file_is_out_still = refl

three_claimed_last_behind_it : last_claim 1 two_jobs (claim ∷ expiry ∷ []) ≡ Some (record { writer = 3; attempt = 1 })
three_claimed_last_behind_it = refl

it_is_no_claim_of_the_other : last_claim 2 two_jobs (claim ∷ expiry ∷ []) ≡ None
it_is_no_claim_of_the_other = refl

an_expiry_is_work : AddsWork 3 (claim ∷ expiry ∷ [])
an_expiry_is_work = ((λ is. tt), ((λ is. tt), tt))

-- an empty bench doesn't fit writer 3 behind its claim, and does behind the report
an_empty_bench_lacks_the_file : Fits 3 opening (claim ∷ []) [] → ⊥
an_empty_bench_lacks_the_file fits = fits.whole 1 (inl refl) refl

a_bench_may_be_empty_behind_the_report : Fits 3 opening (claim ∷ strange ∷ []) []
a_bench_may_be_empty_behind_the_report = record { ready = tt; each = tt; whole = λ one out own. absurd out }

-- a bench that holds the file fits, but none whose copy was called off where nobody asked
a_bench_holds_the_file : Fits 3 opening (claim ∷ []) (record { file = 1; attempt = 1; outcome = Some StoreFailed } ∷ [])
a_bench_holds_the_file = record {
  ready = refl;
  each = (
    record {
      ended = refl;
      claimed = record { earlier = []; now = 1; word = 0; later = []; split = refl; after = _; answered = refl; none_since = tt };
      stopped = λ is. absurd (unlike is);
    },
    tt,
  );
  whole = λ one out own. out;
}
  where
    unlike : Some StoreFailed ≡ Some Stopped → ⊥
    unlike is = absurd cc

none_is_stopped_unasked : Fits 3 opening (claim ∷ []) (record { file = 1; attempt = 1; outcome = Some Stopped } ∷ []) → ⊥
none_is_stopped_unasked fits = absurd (unlike (fits.each.0.stopped refl))
  where
    unlike : false ≡ true → ⊥
    unlike is = absurd cc
