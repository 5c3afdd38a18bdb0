-- Rounds and a session by rows that compute: what the definitions hold of, and what they refuse.
use Rattle.std.proofs.Common.{◌≡◌, refl, ap, inl, inr, ⊎_elim, subst, ℕ, Bool, true, false, List, [], ◌∷◌, ◌++◌, map, Option, Some, None, Ok, Err, arith}
use Rattle.std.specs.Prelude.{codes, replicate}
use Rattle.fts_tables.specs.JobData.{JobData}
use Rattle.fts_tables.specs.SettingsData.{SettingsData}
use Rattle.fts_tables.specs.History.{tables_of, out_of_list}
use Rattle.fts_tables.specs.declared.settings.Endpoint.{Endpoint}
use Rattle.fts_tables.specs.declared.rows.NewFile.{NewFile}
use Rattle.fts_tables.specs.declared.rows.FileState.{FileState}
use Rattle.fts_tables.specs.declared.rows.FileState.TheVariants.{Submitted, Active, Finished, Canceled}
use Rattle.fts_tables.specs.declared.rows.JobKind.TheVariants.{Plain}
use Rattle.fts_tables.specs.declared.rows.Strategy.TheVariants.{Orderly}
use Rattle.fts_tables.specs.declared.rows.Outcome.{Outcome}
use Rattle.fts_tables.specs.declared.rows.Outcome.TheVariants.{Verified}
use Rattle.fts_tables.specs.declared.commands.Entry.{Entry}
use Rattle.fts_tables.specs.declared.commands.Command.TheVariants.{Restart, Submit, CancelJob, Claim, Report, Expire}
use Rattle.fts_tables.specs.declared.commands.Refusal.TheVariants.{Idle}
use Rattle.fts_record.specs.Spelling.{spelled, command_bytes, number_bytes, text_bytes, settings_bytes, endpoint_bytes, link_bytes, weight_bytes}
use Rattle.fts_record.specs.Spelling.{job_bytes, limited_job_bytes, file_bytes, outcome_bytes}
use Rattle.fts_keep.specs.Keeps.{used_of}
use Rattle.fts_keep.specs.Applied.{Applies, DoubtMoves, entry_by}
use Rattle.fts_keep.specs.declared.fault.KeepFault.TheVariants.{Rule}
use Rattle.fts_workers.specs.Benches.{attempt_of}
use Rattle.fts_workers.specs.Rounds.{Walk, IsRound, Claims, ClaimStops, FindsNone, FindsNoneOverdue, StopsBy, applied_at, is_claim}
use Rattle.fts_workers.specs.declared.ends.RoundEnd.TheVariants.{Clear, Busy, DiskFailed}

-- 2023-11-14, in seconds since 1970
abbrev pub the_moment : ℕ
the_moment = 1700000000

-- a thread at a list: its moments and words are all the same, and its disk met no fault
abbrev pub at_list : List Entry → Walk
at_list entries = record {
  entries = entries;
  used = used_of entries;
  faults = 0;
  doubt = None;
  kept = None;
  moments = Some (the_moment, []);
  words = Some (0, []);
}

abbrev a_site : List ℕ
a_site = codes "https://a.example"

abbrev b_site : List ℕ
b_site = codes "https://b.example"

abbrev site : List ℕ → Endpoint
site name = record { name = name; inbound = 20; outbound = 20 }

-- two endpoints, and two files at once over each link between them
abbrev pub settings : SettingsData
settings = record {
  vo = codes "demo";
  workers = 4;
  default_max_active = 2;
  endpoints = site a_site ∷ site b_site ∷ [];
  links = [];
  weights = record { name = codes "default"; weight = 1 } ∷ [];
}

abbrev file : ℕ → List ℕ → List ℕ → NewFile
file index source dest = record {
  index = index;
  source = record { endpoint = a_site; path = source };
  dest = record { endpoint = b_site; path = dest };
  size = 0;
  wanted = None;
  activity = codes "default";
}

abbrev job : List NewFile → JobData
job files = record {
  id = None;
  kind = Plain;
  strategy = Orderly;
  priority = 3;
  retry = 0;
  delay = 0;
  overwrite = false;
  queue_hours = 0;
  files = files;
}

abbrev with_entry : List Entry → Entry → List Entry
with_entry entries entry = entries ++ entry ∷ []

abbrev claim : Entry
claim = entry_by 0 (Claim the_moment 0)

abbrev good : Outcome
good = Verified 3 (replicate 16 7)

abbrev report : List Entry → ℕ → Entry
report entries number = entry_by 0 (Report the_moment number (attempt_of (tables_of entries) number) good)

-- how the rows of a list stand
abbrev states : List Entry → List FileState
states entries = map (λ row. row.state) (tables_of entries).rows

-- ---- nothing was submitted: an expiry and a claim are tried, both find nothing, and the round is clear

abbrev pub restarted : List Entry
restarted = entry_by 0 (Restart the_moment settings) ∷ []

pub idle-round : IsRound 4 (at_list restarted) Clear (at_list restarted)
unfolding spelled command_bytes number_bytes text_bytes settings_bytes endpoint_bytes link_bytes weight_bytes
idle-round = inl (
  at_list restarted,
  (
    inr (record {
      entry = entry_by 0 (Expire the_moment);
      tried = record { now = the_moment; moment = (refl, refl); words = refl; is = refl; kept = refl };
      idle = refl;
      none = record { listed = refl; filled = refl; counts = omega arith; doubt = inl refl };
    }),
    inr (inl (
      record {
        entry = claim;
        tried = record { now = the_moment; moment = (refl, refl); word = 0; drawn = (refl, refl); is = refl; kept = refl };
        idle = refl;
        none = record { listed = refl; filled = refl; counts = omega arith; doubt = inl refl };
      },
      refl,
    )),
  ),
)

-- ---- three files over a link that takes two: two are claimed, and the round is busy with both

abbrev submitted : List Entry
submitted = with_entry restarted (entry_by 0 (Submit the_moment (job (
    file 0 (codes "s0") (codes "d0") ∷ file 1 (codes "s1") (codes "d1") ∷ file 2 (codes "s2") (codes "d2") ∷ []))))

abbrev one_claimed : List Entry
one_claimed = with_entry submitted claim

abbrev two_claimed : List Entry
two_claimed = with_entry one_claimed claim

none_overdue : (entries : List Entry) → applied_at (at_list entries) (entry_by 0 (Expire the_moment)) ≡ Err (Rule Idle)
    → FindsNoneOverdue (at_list entries) (at_list entries)
none_overdue entries idle = record {
  entry = entry_by 0 (Expire the_moment);
  tried = record { now = the_moment; moment = (refl, refl); words = refl; is = refl; kept = refl };
  idle = idle;
  none = record { listed = refl; filled = refl; counts = omega arith; doubt = inl refl };
}

none_to_claim : (entries : List Entry) → applied_at (at_list entries) claim ≡ Err (Rule Idle) → FindsNone (at_list entries) (at_list entries)
none_to_claim entries idle = record {
  entry = claim;
  tried = record { now = the_moment; moment = (refl, refl); word = 0; drawn = (refl, refl); is = refl; kept = refl };
  idle = idle;
  none = record { listed = refl; filled = refl; counts = omega arith; doubt = inl refl };
}

first-claim : Claims (at_list submitted) (at_list one_claimed)
unfolding spelled command_bytes number_bytes text_bytes settings_bytes endpoint_bytes link_bytes weight_bytes job_bytes limited_job_bytes file_bytes
first-claim = record {
  entry = claim;
  tried = record { now = the_moment; moment = (refl, refl); word = 0; drawn = (refl, refl); is = refl; kept = refl };
  adds = record { accepted = refl; listed = refl; filled = refl; counts = omega arith; settled = refl };
}

second-claim : Claims (at_list one_claimed) (at_list two_claimed)
unfolding spelled command_bytes number_bytes text_bytes settings_bytes endpoint_bytes link_bytes weight_bytes job_bytes limited_job_bytes file_bytes
second-claim = record {
  entry = claim;
  tried = record { now = the_moment; moment = (refl, refl); word = 0; drawn = (refl, refl); is = refl; kept = refl };
  adds = record { accepted = refl; listed = refl; filled = refl; counts = omega arith; settled = refl };
}

round-of-claims : IsRound 4 (at_list submitted) (Busy 2) (at_list two_claimed)
unfolding spelled command_bytes number_bytes text_bytes settings_bytes endpoint_bytes link_bytes weight_bytes job_bytes limited_job_bytes file_bytes
round-of-claims = inl (
  at_list submitted,
  (
    inr (none_overdue submitted refl),
    inl (at_list one_claimed, (first-claim, inl (at_list two_claimed, (second-claim, inr (inl (none_to_claim two_claimed refl, refl)))))),
  ),
)

states-claimed : states two_claimed ≡ Active ∷ Active ∷ Submitted ∷ []
states-claimed = refl

-- ---- the next round reports both, in the order of their claims, and claims the third

abbrev one_reported : List Entry
one_reported = with_entry two_claimed (report two_claimed 1)

abbrev both_reported : List Entry
both_reported = with_entry one_reported (report one_reported 2)

abbrev third_claimed : List Entry
third_claimed = with_entry both_reported claim

round-of-reports : IsRound 4 (at_list two_claimed) (Busy 1) (at_list third_claimed)
unfolding spelled command_bytes number_bytes text_bytes settings_bytes endpoint_bytes link_bytes weight_bytes job_bytes limited_job_bytes file_bytes outcome_bytes
round-of-reports = inl (
  at_list one_reported,
  (
    record {
      outcome = good;
      ended = refl;
      now = the_moment;
      moment = (refl, refl);
      words = refl;
      adds = record { accepted = refl; listed = refl; filled = refl; counts = omega arith; settled = refl };
      kept = refl;
    },
    inl (
      at_list both_reported,
      (
        record {
          outcome = good;
          ended = refl;
          now = the_moment;
          moment = (refl, refl);
          words = refl;
          adds = record { accepted = refl; listed = refl; filled = refl; counts = omega arith; settled = refl };
          kept = refl;
        },
        inl (
          at_list both_reported,
          (
            inr (none_overdue both_reported refl),
            inl (
              at_list third_claimed,
              (
                record {
                  entry = claim;
                  tried = record { now = the_moment; moment = (refl, refl); word = 0; drawn = (refl, refl); is = refl; kept = refl };
                  adds = record { accepted = refl; listed = refl; filled = refl; counts = omega arith; settled = refl };
                },
                inr (inl (none_to_claim third_claimed refl, refl)),
              ),
            ),
          ),
        ),
      ),
    ),
  ),
)

states-reported : states third_claimed ≡ Finished ∷ Finished ∷ Active ∷ []
states-reported = refl

-- ---- a cancellation while two are copied: both keep their slots until their reports, and are CANCELED then though verified

abbrev cancelled : List Entry
cancelled = with_entry two_claimed (entry_by 0 (CancelJob the_moment 1))

states-cancelled : states cancelled ≡ Active ∷ Active ∷ Canceled ∷ []
states-cancelled = refl

out-cancelled : out_of_list cancelled ≡ 1 ∷ 2 ∷ []
out-cancelled = refl

abbrev cancelled_reported : List Entry
cancelled_reported = with_entry (with_entry cancelled (report cancelled 1)) (report (with_entry cancelled (report cancelled 1)) 2)

states-cancelled-reported : states cancelled_reported ≡ Canceled ∷ Canceled ∷ Canceled ∷ []
states-cancelled-reported = refl

-- ---- a claim whose append the disk failed: its entry may be in doubt behind it

-- the disk counted a failure at the first list, and left this in doubt
abbrev at_failure : Option Entry → Walk
at_failure doubt = record {
  entries = submitted;
  used = used_of submitted;
  faults = 1;
  doubt = doubt;
  kept = None;
  moments = Some (the_moment, []);
  words = Some (0, []);
}

claim-in-doubt : ClaimStops (at_list submitted) DiskFailed (at_failure (Some claim))
unfolding spelled command_bytes number_bytes text_bytes settings_bytes endpoint_bytes link_bytes weight_bytes job_bytes limited_job_bytes file_bytes
claim-in-doubt = record {
  entry = claim;
  tried = record { now = the_moment; moment = (refl, refl); word = 0; drawn = (refl, refl); is = refl; kept = refl };
  stops = (refl, inl (omega arith));
  none = record { listed = refl; filled = refl; counts = omega arith; doubt = inr (inr (refl, inl (omega arith))) };
}

-- ---- what the definitions refuse

-- whether a claim is in doubt
abbrev is_claim_doubted : Option Entry → Bool
is_claim_doubted None = false
is_claim_doubted (Some entry) = is_claim entry.command

-- another entry than the one that was tried is in doubt
doubt-of-another : DoubtMoves 0 1 None (Some (entry_by 0 (Expire the_moment))) claim → ⊥
doubt-of-another (inl same) = cc
doubt-of-another (inr (inl none)) = cc
doubt-of-another (inr (inr own)) = let same : false ≡ true = ap is_claim_doubted own.0 in cc

-- an entry is in doubt though the disk counted no failure
doubt-without-failure : DoubtMoves 0 0 None (Some claim) claim → ⊥
doubt-without-failure (inl same) = cc
doubt-without-failure (inr (inl none)) = cc
doubt-without-failure (inr (inr own)) = ⊎_elim (λ less. omega (arith, less)) (λ most. omega (arith, most)) own.1

is_yes : Applies → Type 0
is_yes (Ok done) = Unit {0}
is_yes (Err fault) = ⊥

is_no : Bool → Type 0
is_no true = ⊥
is_no false = Unit {0}

-- a round ends by the disk at a claim that finds no row
disk-at-idle : (rose : Type 0) → StopsBy (Err (Rule Idle)) rose DiskFailed → ⊥
unfolding is_no
disk-at-idle rose stops = subst is_no stops.0 tt

-- a round ends by the disk whose own call met no fault
disk-of-another : (would : Applies) → StopsBy would ⊥ DiskFailed → ⊥
disk-of-another would stops = stops.1

-- a round ends clear by a command that was refused
clear-at-a-fault : (would : Applies) (rose : Type 0) → StopsBy would rose Clear → ⊥
clear-at-a-fault would rose stops = stops
