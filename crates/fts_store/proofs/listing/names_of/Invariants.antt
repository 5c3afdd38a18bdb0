use Rattle.std.proofs.Common.{◌≡◌, filter, map, take, string_bytes}
use Rattle.std.specs.Str.{is_utf8}
use Rattle.fts_store.proofs.listing.names_of.Given as goal

-- the texts among the pieces so far
abbrev pub invariant-pieces : goal.invariant-pieces
invariant-pieces l = map string_bytes l.names.items ≡ filter is_utf8 (map (λ piece. piece.now) (take l.piece-index l.piece-items))
