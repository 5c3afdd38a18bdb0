-- What looking for the end of a head finds.
use Rattle.std.specs.Prelude.{◌≡◌, ℕ, ◌-◌, ◌<◌, ◌≤◌, false, ◌==◌, List, [], ◌∷◌, length, take, drop, Option, Some, None}
use Rattle.std.specs.List.{concat, list_any}
use Rattle.fts_wire.specs.Head.{lines_of, head_lines}
use Rattle.fts_wire.specs.declared.lines.HeadEnd.{HeadEnd}

-- the first line of bytes has so many
pub record IsLineAt (bytes : List ℕ) (n : ℕ) : Type 0 where
  pub lines : lines_of bytes ≡ take n bytes ∷ lines_of (drop n bytes)
  pub some : 0 < n
  pub within : n ≤ length bytes

-- the length of the first line of bytes, where one has ended
abbrev pub IsFirstLine : List ℕ → Option ℕ → Type 0
IsFirstLine bytes None = lines_of bytes ≡ []
IsFirstLine bytes (Some n) = IsLineAt bytes n

-- a head that begins bytes: its lines, of which there are so many, and its length
pub record EndsAt (bytes : List ℕ) (end : HeadEnd) : Type 0 where
  pub lines : List (List ℕ)
  pub head : head_lines (lines_of bytes) ≡ Some lines
  pub own : concat lines ≡ take end.size bytes
  pub within : end.size ≤ length bytes
  pub some : 0 < end.size
  pub count : length lines ≡ end.lines

-- where the head ends that begins bytes, where its empty line is there
abbrev pub IsHeadEnd : List ℕ → Option HeadEnd → Type 0
IsHeadEnd bytes None = head_lines (lines_of bytes) ≡ None
IsHeadEnd bytes (Some end) = EndsAt bytes end

-- no line ends in the last bytes, so many, and all are fewer than a head may have
pub record EndsNoLine (bytes : List ℕ) (last : ℕ) : Type 0 where
  pub few : length bytes < 16384
  pub none : list_any (λ b. b == 10) (drop (length bytes - last) bytes) ≡ false
