-- Amounts at places, and their sums.
use Rattle.std.specs.Prelude.{ℕ, ◌==◌, if◌then◌else◌, List, sum_by}
use Rattle.fts_metrics.specs.declared.sums.Share.{Share}

-- the sum of the amounts at a place
abbrev pub sum_at : ℕ → List Share → ℕ
sum_at place shares = sum_by (λ share. if share.place == place then share.amount else 0) shares
