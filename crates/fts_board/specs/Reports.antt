-- What is read of the reports of copies: how many bytes were copied.
use Rattle.std.specs.Prelude.{ℕ, min, List}
use Rattle.std.specs.List.{sum_by}
use Rattle.fts_chronicle.specs.declared.chronicle.CopyReport.{CopyReport}
use Rattle.fts_counts.specs.Outcomes.{bytes_by}

-- a sum of bytes as it is shown: at most the greatest number of 64 bits
abbrev pub bytes_shown : ℕ → ℕ
bytes_shown bytes = min bytes 18446744073709551615

-- the bytes of these reports together
abbrev pub bytes_of : List CopyReport → ℕ
bytes_of reports = bytes_shown (sum_by (λ report. bytes_by report.outcome) reports)
