-- A socket is named exactly where there is no port.
use Rattle.std.proofs.Common.{map, string_bytes}
use Rattle.fts_words.proofs.Named.{served_as}
use Rattle.fts_words.proofs.paths.socket_of.Goals as goal

pub returns-clause-port : goal.returns-clause-port
returns-clause-port c = served_as (map string_bytes c.args.words.now) c.accepted_value.result c.accepted_value.ensures
