use Rattle.std.proofs.Common.{Some, map, string_bytes}
use Rattle.fts_files.specs.Calls.{Done}
use Rattle.fts_files.specs.Script.{Ends}
use Rattle.fts_files.proofs.Playing.{plays_done}
use Rattle.fts_files.proofs.Moves.{moved_grew}
use Rattle.fts_files.proofs.parts.OpenPart.put_in_place.Goals as goal

pub returns-clause-moved : goal.returns-clause-moved
returns-clause-moved g c =
    moved_grew c.put_in_place.result (g.F.FileSystem.number c.args.self.now.file) c.args.part.now c.args.dest.now (map string_bytes c.args.folders.now) c.args.overwrite _ _
    (plays_done _ _ _ c.put_in_place.result (c.put_in_place.ensures (Ends (Some Done))))
