-- The bytes of the two requests that a client writes (HTTP/1.1, RFC 9112, section 3): each is the last one on its connection.
use Rattle.std.specs.Prelude.{ℕ, List, ◌++◌, length, codes, decimal}
use Rattle.std.specs.Int.{to_be_bytes, w128}
use Rattle.uuid.specs.Text.{hyphenated_text, lower}

-- the head of the request that submits a document of so many bytes, on a line to this port
abbrev pub submission_head : ℕ → ℕ → List ℕ
submission_head port size =
    codes "POST /jobs HTTP/1.1\r\nHost: 127.0.0.1:" ++ decimal port ++ codes "\r\nContent-Length: " ++ decimal size
    ++ codes "\r\nConnection: close\r\n\r\n"

-- the request that submits a document
abbrev pub submission_bytes : ℕ → List ℕ → List ℕ
submission_bytes port document = submission_head port (length document) ++ document

-- an id as a UUID in lower case (RFC 9562)
unfoldable pub id_text : ℕ → List ℕ
id_text job = hyphenated_text lower (to_be_bytes w128 job)

-- the request that asks for the job with this id
abbrev pub query_bytes : ℕ → ℕ → List ℕ
query_bytes port job =
    codes "GET /jobs/" ++ id_text job ++ codes " HTTP/1.1\r\nHost: 127.0.0.1:" ++ decimal port
    ++ codes "\r\nConnection: close\r\n\r\n"
