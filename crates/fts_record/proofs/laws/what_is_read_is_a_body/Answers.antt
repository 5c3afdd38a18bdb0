use Rattle.fts_record.proofs.Sizes.{read_some, read_short}
use Rattle.fts_record.proofs.laws.what_is_read_is_a_body.Goals as goal

pub returns : goal.returns
returns c = record { some = read_some; short = read_short }
