-- How far a file goes.
use Rattle.std.specs.Prelude.{ℕ, ◌+◌, nat_le, Bool}

-- so many bytes at an offset end at 2^62 at most
abbrev pub fits_file : ℕ → ℕ → Bool
fits_file offset count = nat_le (offset + count) 4611686018427387904
