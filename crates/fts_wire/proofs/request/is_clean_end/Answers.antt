-- Where no head was found, the bytes are CR and LF alone, or not.
use Rattle.fts_wire.proofs.Next.{no_head_end}
use Rattle.fts_wire.proofs.request.is_clean_end.Goals as goal

pub returns-then-is_none : goal.returns-then-is_none
returns-then-is_none c = no_head_end c.args.bytes.now c.args.found c.count_blanks.result c.requires.known c.if-is_none.ensures c.count_blanks.ensures.count
