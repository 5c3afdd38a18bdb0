-- The path of a part is short, has good segments, and is no path of a file.
use Rattle.std.proofs.Common.{◌≡◌, ℕ, ◌<◌, ◌≤◌, Bool, true, false, List, length, refl, subst, arith, rules}
use Rattle.std.specs.Prelude.{◌&&◌, not, bytes_eq, decimal, nat_le, IsTrue}
use Rattle.std.specs.List.{list_all}
use Rattle.std.proofs.lemmas.Fmt.{length-decimal-le}
use Rattle.std.proofs.lemmas.Slice.Eq.{bytes_eq-Decides}
use Rattle.fts_tables.specs.Names.{is_path_key, is_reserved, is_segment, segments, IsPathKey}
use Rattle.fts_tables.specs.Places.{is_same_place, part_path}
use Rattle.fts_copy.specs.Copy.{Order, IsOrder, HasSegments, part_of}

-- no number of a file has more than ten digits
pub part_path_short : (file : ℕ) → file < 4294967296 → length (part_path file) ≤ 20
part_path_short file below =
    let digits : length (decimal file) ≤ 10 = length-decimal-le 10 file (omega arith) (omega arith) (omega arith) in
    omega (arith, digits)

-- what holds with another test holds without it
and_false : (b : Bool) → (b && false) ≡ false
and_false true = refl
and_false false = refl

-- the path of a part lies in the reserved folder
reserved : (file : ℕ) → is_reserved (part_path file) ≡ true
reserved file = refl

-- so it is no path of a file
no_key : (file : ℕ) → is_path_key (part_path file) ≡ false
no_key file = rw (reserved file) (and_false (nat_le (length (part_path file)) 1024 && list_all is_segment (segments (part_path file))))

-- a path of a file is another
other_path : (path : List ℕ) (file : ℕ) → IsPathKey path → bytes_eq path (part_path file) ≡ false
other_path path file key = by_test (bytes_eq path (part_path file)) (bytes_eq-Decides path (part_path file)).0
  where
    by_test : (b : Bool) → (b ≡ true → path ≡ part_path file) → b ≡ false
    by_test false same = refl
    by_test true same = let is : is_path_key (part_path file) ≡ true = subst (λ p. is_path_key p ≡ true) (same refl) (search (rules, key)) in cc (no_key file)

-- neither place of an order is the part's
pub source_apart : (order : Order) → IsOrder order → is_same_place order.source (part_of order) ≡ false
source_apart order is = rw (other_path order.source.path order.file is.source) (and_false (bytes_eq order.source.endpoint order.dest.endpoint))

pub dest_apart : (order : Order) → IsOrder order → is_same_place order.dest (part_of order) ≡ false
dest_apart order is = rw (other_path order.dest.path order.file is.dest) (and_false (bytes_eq order.dest.endpoint order.dest.endpoint))

-- the second of three tests that hold
middle : (one two three : Bool) → IsTrue (one && two && three) → IsTrue two
middle true true three is = search rules
middle true false three is = is
middle false two three is = cc

-- a path of a file has good segments
pub key_has_segments : (path : List ℕ) → IsPathKey path → HasSegments path
key_has_segments path key = middle (nat_le (length path) 1024) (list_all is_segment (segments path)) (not (is_reserved path)) key
