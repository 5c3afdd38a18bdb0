-- A quoted text is read back.
use Rattle.fts_log.proofs.ReadBack.{unquoted-quoted}
use Rattle.fts_log.proofs.laws.quoted_texts_are_read_back.Goals as goal

pub returns : goal.returns
returns c = record { back = unquoted-quoted }
