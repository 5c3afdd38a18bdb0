-- What contracts see of a link in memory, and what one call makes of it.
use Rattle.std.specs.Prelude.{◌≡◌, ℕ, ◌+◌, ◌≤◌, Bool, true, false, ◌||◌, nat_lt, if◌then◌else◌, List, [], ◌∷◌, Option, Some, None, Result, Ok, Err, vec_len, vec_capacity}
use Rattle.std.specs.List.{AllByRecursion}
use Rattle.std.specs.VecDeque.{deque_len}
use Rattle.fts_wire.specs.Memory.{is_listed}
use Rattle.fts_wire.specs.Outside.{raised}
use Rattle.fts_wire.specs.declared.memory.MemoryLine.{MemoryLine}
use Rattle.fts_client.specs.Links.{LinkData}
use Rattle.fts_client.specs.declared.memory_link.MemoryLink.TheInside.{Inside}

-- a link in memory: its lines, the numbers of the dials that fail, and how many dials have failed
pub record MemoryLinkData : Type 0 where
  pub link : LinkData MemoryLine
  pub fail : List ℕ
  pub failed : ℕ

abbrev pub memory_link_data : Inside → MemoryLinkData
memory_link_data l = record {
  link = record { coming = Some l.coming.items; back = Some l.back.items; out = l.out; dials = l.dials; port = l.port; is_given = l.is_given };
  fail = l.fail.items;
  failed = l.failed;
}

-- whether a read or a write of a line has failed
abbrev pub has_failed : MemoryLine → Bool
has_failed line = nat_lt 0 line.source.faults || nat_lt 0 line.sink.faults

-- no line of these has failed
abbrev pub AreFresh : List MemoryLine → Type 0
AreFresh lines = AllByRecursion (λ line. has_failed line ≡ false) lines

-- how many of these lines have failed
abbrev pub failed_in : List MemoryLine → ℕ
failed_in [] = 0
failed_in (line ∷ lines) = (if has_failed line then 1 else 0) + failed_in lines

-- how many of the lines that came back have failed
abbrev pub failed_among : Option (List MemoryLine) → ℕ
failed_among None = 0
failed_among (Some lines) = failed_in lines

-- how often a link or a line of it has failed: at each failed dial, and once for each line that came back and has failed
abbrev pub link_faults : MemoryLinkData → ℕ
link_faults link = link.failed + failed_among link.link.back

-- there is room for each line that may come back, and no line to come has failed yet
pub record IsMemoryLink (l : Inside) : Type 0 where
  pub room : vec_len l.back + (l.out + deque_len l.coming) ≤ vec_capacity l.back
  pub fresh : AreFresh l.coming.items

-- no line is left
abbrev pub lacks_line : Option (List MemoryLine) → Bool
lacks_line None = false
lacks_line (Some []) = true
lacks_line (Some (line ∷ lines)) = false

-- whether the dial of this number fails: it is listed, or no line is left
abbrev pub is_failing : MemoryLinkData → ℕ → Bool
is_failing link number = is_listed link.fail number || lacks_line link.link.coming

-- a link after a dial with this result and these lines: one failed dial more where it failed
abbrev pub link_after : {T E : Type 0} → MemoryLinkData → LinkData MemoryLine → Result T E → MemoryLinkData
link_after old lines (Ok line) = record old { link = lines }
link_after old lines (Err fault) = record old { link = lines; failed = raised old.failed 1 }
