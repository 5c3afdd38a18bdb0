-- The tally of a run: the claims since its Restart, and how the rows stand at the end.
use Rattle.std.specs.Prelude.{ℕ, List, count_by}
use Rattle.fts_tables.specs.Tables.{Tables, is_submitted, is_finished, is_failed, is_canceled}
use Rattle.fts_tables.specs.declared.commands.Entry.{Entry}
use Rattle.fts_laws.specs.Attempts.{claims_in}
use Rattle.fts_top.specs.declared.tally.Tally.{Tally}

-- the tally of tables, after so many claims
abbrev pub tally_with : ℕ → Tables → Tally
tally_with claims tables = record {
  claims = claims;
  finished = count_by (λ row. is_finished row.state) tables.rows;
  failed = count_by (λ row. is_failed row.state) tables.rows;
  cancelled = count_by (λ row. is_canceled row.state) tables.rows;
  waiting = count_by (λ row. is_submitted row.state) tables.rows;
}

-- the tally of tables, with the claims among the entries behind the Restart of the run
abbrev pub tally_of : List Entry → Tables → Tally
tally_of since tables = tally_with (claims_in since) tables

-- the tally where nothing was started
abbrev pub no_tally : Tally
no_tally = record { claims = 0; finished = 0; failed = 0; cancelled = 0; waiting = 0 }
