-- Where there is no such file no number passes.
use Rattle.std.proofs.Common.{◌≡◌, Option, None, refl, sym, subst}
use Rattle.fts_tables.specs.declared.rows.FileRow.{FileRow}
use Rattle.fts_chronicle.specs.Finishes.{is_owner, finishes_seen}
use Rattle.fts_chronicle.proofs.Seen.{none_seen}
use Rattle.fts_chronicle.proofs.finishes.see_job_of.Goals as goal

pub returns-in-None : goal.returns-in-None
returns-in-None c = subst (λ (found : Option FileRow). c.args.finishes.now ≡ finishes_seen (is_owner found) c.args.desk.now.tables c.args.now 1 c.args.finishes.now)
    c.in-None.ensures.row (sym (none_seen c.args.desk.now.tables c.args.now (is_owner None) 1 c.args.finishes.now (λ number low high. refl)))
