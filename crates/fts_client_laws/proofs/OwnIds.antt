-- The ids that are made of a client's own id: below 2^128, and none of those that the machine gives by itself.
use Rattle.std.proofs.Common.{◌≡◌, ℕ, ◌+◌, ◌*◌, ◌/◌, ◌^◌, ◌<◌, ◌≤◌, Bool, true, false, List, ◌++◌, length, take, refl, sym, subst, arith, not-suc-le-zero, leb-true}
use Rattle.std.specs.Prelude.{◌&&◌, nat_lt, nat_le}
use Rattle.std.specs.Int.{from_be_bytes, to_be_bytes, w128}
use Rattle.sha1.specs.Sha1.{sha1, digest_bytes, hash_after, padded_message}
use Rattle.uuid.specs.Parts.{with_version, with_variant}
use Rattle.uuid.specs.declared.Variant.TheVariants.{RFC4122}
use Rattle.uuid.specs.declared.Version.TheVariants.{Sha1}
use Rattle.fts_tables.specs.Moves.{standard_id}
use Rattle.fts_tables.specs.declared.limits.TheConstants.{MAX_JOBS}
use Rattle.fts_jobdoc.specs.Ids.{sid_id, name_id, base_namespace}
use Rattle.fts_laws.specs.Submissions.{is_standard_id}

-- the number that sixteen bytes are
abbrev worth : (a b c d e f g h i j k l m n o p : ℕ) → ℕ
worth a b c d e f g h i j k l m n o p =
    a * 256 ^ 15 + b * 256 ^ 14 + c * 256 ^ 13 + d * 256 ^ 12 + e * 256 ^ 11 + f * 256 ^ 10 + g * 256 ^ 9 + h * 256 ^ 8
    + i * 256 ^ 7 + j * 256 ^ 6 + k * 256 ^ 5 + l * 256 ^ 4 + m * 256 ^ 3 + n * 256 ^ 2 + o * 256 ^ 1 + p

worth_bounds : (a b c d e f g h i j k l m n o p : ℕ) → a < 256 → b < 256 → c < 256 → d < 256 → e < 256 → f < 256 → g < 256 → h < 256
    → i < 256 → j < 256 → k < 256 → l < 256 → m < 256 → n < 256 → o < 256 → p < 256 → 80 ≤ g
    → (worth a b c d e f g h i j k l m n o p < 2 ^ 128) × (standard_id MAX_JOBS < worth a b c d e f g h i j k l m n o p)
worth_bounds a b c d e f g h i j k l m n o p ha hb hc hd he hf hg hh hi hj hk hl hm hn ho hp least = (omega arith, omega arith)

-- the number that the first sixteen bytes of a digest make as a version 5 UUID
abbrev number_of_digest : List ℕ → ℕ
number_of_digest h = from_be_bytes w128 (with_version (with_variant (take 16 (digest_bytes h 5)) RFC4122) Sha1)

digest_bounds : (h : List ℕ) → (number_of_digest h < 2 ^ 128) × (standard_id MAX_JOBS < number_of_digest h)
unfolding digest_bytes
digest_bounds h = worth_bounds _ _ _ _ _ _ _ _ _ _ _ _ _ _ _ _ (omega arith) (omega arith) (omega arith) (omega arith) (omega arith) (omega arith) (omega arith) (omega arith)
    (omega arith) (omega arith) (omega arith) (omega arith) (omega arith) (omega arith) (omega arith) (omega arith) (omega arith)

-- the id of an own id is the number of some digest
sid_digest : (vo sid : List ℕ) → (h : List ℕ) × (sid_id vo sid ≡ number_of_digest h)
unfolding sid_id sha1
sid_digest vo sid =
    let message : List ℕ = name_id (to_be_bytes w128 base_namespace) vo ++ sid in
    (hash_after (padded_message message) (length (padded_message message) / 64), refl)

not_standard : (id : ℕ) → standard_id MAX_JOBS < id → is_standard_id id ≡ false
not_standard id above = by_test (nat_lt (standard_id 0) id) (nat_le id (standard_id MAX_JOBS)) refl
  where
    by_test : (one two : Bool) → nat_le id (standard_id MAX_JOBS) ≡ two → (one && two) ≡ false
    by_test true true is = let below = leb-true id (standard_id MAX_JOBS) is in absurd (not-suc-le-zero {n = 0} (omega (arith, below, above)))
    by_test true false is = refl
    by_test false true is = refl
    by_test false false is = refl

pub sid_is_small : (vo sid : List ℕ) → sid_id vo sid < 2 ^ 128
sid_is_small vo sid = let made = sid_digest vo sid in subst (λ id. id < 2 ^ 128) (sym made.1) (digest_bounds made.0).0

pub sid_not_standard : (vo sid : List ℕ) → is_standard_id (sid_id vo sid) ≡ false
sid_not_standard vo sid =
    let made = sid_digest vo sid in
    not_standard (sid_id vo sid) (subst (λ id. standard_id MAX_JOBS < id) (sym made.1) (digest_bounds made.0).1)
