-- What a report rests on, besides the form of the tables.
use Rattle.std.specs.Prelude.{◌≤◌, List}
use Rattle.std.specs.List.{AllByRecursion}
use Rattle.fts_tables.specs.declared.limits.TheConstants.{MAX_FILES}
use Rattle.fts_tables.specs.declared.rows.JobRow.{JobRow}

-- no job has more files than a job may have
abbrev pub HaveFewFiles : List JobRow → Type 0
HaveFewFiles jobs = AllByRecursion (λ job. job.count ≤ MAX_FILES) jobs
