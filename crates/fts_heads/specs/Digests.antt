-- The digest of a place: 32 bits of the hash of its two texts. Any other function of the place would do: places are compared themselves.
use Rattle.std.specs.Prelude.{◌≡◌, ℕ, ◌%◌, ◌++◌, Bool, nat_lt, fold}
use Rattle.std.specs.Hash as fed
use Rattle.std.specs.Hash.DefaultHasher as sip
use Rattle.std.proofs.Common.{ap, ◌∙◌}
use Rattle.ordered.specs.Orders.{IsStrictOrder}
use Rattle.ordered.specs.ByNumbers.{is_first_by}
use Rattle.ordered.proofs.ByNumbers.{by_least, least_then, strict}
use Rattle.fts_tables.specs.declared.places.Place.{Place}
use Rattle.fts_heads.specs.declared.digest.Digested.{Digested}

-- the digest of a place: of the endpoint's name, and then of the path, the low half of the hash
abbrev pub digest_of : Place → ℕ
digest_of place = sip.finish (fold sip.write sip.initial (fed.str place.endpoint ++ fed.str place.path)) % 4294967296

-- by the digest, then the lesser number first
abbrev pub is_digested_before : Digested → Digested → Bool
is_digested_before one other = is_first_by one.digest other.digest (nat_lt one.number other.number)

-- numbers with the same digest are one where they are the same
same_digested : (one other : Digested) → one.digest ≡ other.digest → one.number ≡ other.number → one ≡ other
same_digested one other digest number = ap (λ n. record one { digest = n }) digest ∙ ap (λ n. record other { number = n }) number

-- it is an order
pub digests_in_order : IsStrictOrder is_digested_before
digests_in_order =
    strict is_digested_before (λ one other. (one.digest ≡ other.digest) × (one.number ≡ other.number))
    (least_then (λ (key : Digested). key.digest) _ (λ one other. one.number ≡ other.number) (by_least (λ (key : Digested). key.number)))
    (λ one other same. same_digested one other same.0 same.1)
