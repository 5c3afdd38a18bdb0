-- Groups of reasons: those of the failures that a snapshot counts, without number or digest, and those of files that were cancelled or expired.
use Rattle.std.specs.Prelude.{ℕ, Bool, List, [], ◌∷◌, codes}
use Rattle.fts_tables.specs.declared.rows.Reason.{Reason}
use Rattle.fts_tables.specs.declared.rows.Reason.TheVariants.{Cancelled, Ended, Expired, None as NoReason}
use Rattle.fts_counts.specs.Outcomes.{outcome_word}
use Rattle.fts_routes.specs.Queries.{is_one_of}

-- the group of why a row stands as it does
abbrev pub group_of : Reason → List ℕ
group_of NoReason = []
group_of Cancelled = codes "cancelled"
group_of Expired = codes "expired"
group_of (Ended outcome) = outcome_word outcome

-- the groups that there are
abbrev pub groups : List (List ℕ)
groups =
    codes "source missing" ∷ codes "destination exists" ∷ codes "source size" ∷ codes "source digest" ∷ codes "read back differs" ∷ codes "store failed"
    ∷ codes "stopped" ∷ codes "cancelled" ∷ codes "expired" ∷ []

-- whether a word names a group
abbrev pub is_group : List ℕ → Bool
is_group word = is_one_of groups word
