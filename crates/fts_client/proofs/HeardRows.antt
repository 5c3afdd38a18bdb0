-- What a client takes from responses that are written out.
use Rattle.std.proofs.Common.{◌≡◌, ℕ, true, false, List, codes, refl}
use Rattle.std.specs.Str.{is_utf8, chars}
use Rattle.json.specs.Json.{value}
use Rattle.serde_json.proofs.OnLiterals.{serde_json_on_literals}
use Rattle.uuid.specs.Text.{by_index}
use Rattle.fts_client.specs.Worlds.{Done, Refused, CannotServe, NoAnswer}
use Rattle.fts_client.specs.Hearing.{heard_in}

-- an accepted submission, and one that was there before
accepted_heard : heard_in 200 (codes "{\"job_id\":\"00000000-0000-5000-8000-000000000001\"}") ≡ Done 0x5000_8000_0000_0000_0001 false
unfolding serde_json_on_literals is_utf8 chars value by_index
accepted_heard = refl

duplicate_heard : heard_in 409 (codes "{\"job_id\":\"00000000-0000-5000-8000-000000000001\",\"message\":\"duplicate\",\"rule\":34,\"status\":409}")
    ≡ Done 0x5000_8000_0000_0000_0001 true
unfolding serde_json_on_literals is_utf8 chars value by_index
duplicate_heard = refl

-- an id that is none, no text, or not there
no_id_heard : heard_in 200 (codes "{\"job_id\":\"a1\"}") ≡ NoAnswer
unfolding serde_json_on_literals is_utf8 chars value by_index
no_id_heard = refl

number_heard : heard_in 200 (codes "{\"job_id\":1}") ≡ NoAnswer
unfolding serde_json_on_literals is_utf8 chars value by_index
number_heard = refl

list_heard : heard_in 200 (codes "[]") ≡ NoAnswer
unfolding serde_json_on_literals is_utf8 chars value by_index
list_heard = refl

-- other statuses, whatever their bodies
refusal_heard : (body : List ℕ) → heard_in 400 body ≡ Refused 400
refusal_heard body = refl

full_heard : (body : List ℕ) → heard_in 507 body ≡ Refused 507
full_heard body = refl

failure_heard : (body : List ℕ) → heard_in 503 body ≡ CannotServe 503
failure_heard body = refl

memory_heard : (body : List ℕ) → heard_in 500 body ≡ CannotServe 500
memory_heard body = refl
