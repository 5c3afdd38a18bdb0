-- The body is the last part.
use Rattle.std.proofs.lemmas.List.{append-nil}
use Rattle.fts_load.proofs.requests.push_request.Goals as goal

pub returns : goal.returns
returns c = rw (append-nil c.args.body.now, c.as_bytes.ensures.value, c.as_bytes-2.ensures.value, c.format-number.ensures.text, c.as_bytes-3.ensures.value) at c.push.ensures
