-- What the service reads in the bytes of a client's requests, computed for one document and one job.
use Rattle.std.proofs.Common.{◌≡◌, ℕ, suc, zero, Bool, true, List, [], length, take, None, codes, refl}
use Rattle.std.specs.Prelude.{◌&&◌}
use Rattle.std.specs.Str.{is_utf8, chars}
use Rattle.std.specs.Fmt.{digits}
use Rattle.httparse.proofs.OnLiterals.{httparse_on_literals}
use Rattle.uuid.specs.Text.{by_index}
use Rattle.fts_wire.specs.Requests.{next_of, is_open, Asks}
use Rattle.fts_client.specs.RequestBytes.{submission_bytes, query_bytes, id_text}
use Rattle.fts_client_laws.specs.Submitting.{submission_of}

-- the submission of a document is read as that one request
submission_read : next_of (submission_bytes 8446 (codes "{\"a\":1}")) ≡ Asks (submission_of (codes "{\"a\":1}")) []
unfolding httparse_on_literals is_utf8 chars lib.Utf8.encode digits
submission_read = refl

-- each part of it asks for nothing
abbrev are_open : ℕ → List ℕ → Bool
are_open zero bytes = true
are_open (suc count) bytes = is_open (next_of (take count bytes)) && are_open count bytes

parts_ask_nothing : are_open (length (submission_bytes 8446 (codes "{}"))) (submission_bytes 8446 (codes "{}")) ≡ true
unfolding httparse_on_literals is_utf8 chars lib.Utf8.encode digits
parts_ask_nothing = refl

-- a query is read as that request
query_read : next_of (query_bytes 8446 0x4000_8000_0000_0000_0001)
    ≡ Asks (record { method = codes "GET"; path = codes "/jobs/00000000-0000-4000-8000-000000000001"; query = None; body = []; close = true }) []
unfolding httparse_on_literals is_utf8 chars lib.Utf8.encode digits by_index id_text
query_read = refl
