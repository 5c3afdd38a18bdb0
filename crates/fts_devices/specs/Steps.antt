-- What doors and lines decide, by what the system answered them.
use Rattle.std.specs.Prelude.{◌≡◌, ℕ, zero, ◌+◌, ◌<◌, ◌≤◌, ◌==◌, ◌||◌, ◌&&◌, nat_lt, Bool, true, false, if◌then◌else◌, ℤ, pos, negsuc, ◌/◌, min, List, [], ◌∷◌, Option, Some, None, Result, Ok, Err}
use Rattle.std.specs.Duration.{as_nanos}
use Rattle.std.specs.declared.time.Duration.{Duration}
use Rattle.fts_devices.specs.declared.steps.Seen.{Seen}
use Rattle.fts_devices.specs.declared.steps.Seen.TheVariants.{Line, Waiting, Nothing}
use Rattle.fts_devices.specs.declared.steps.Untaken.{Untaken}
use Rattle.fts_devices.specs.declared.steps.Untaken.TheVariants.{Gone, NotYet, NoListener}

-- the connection is gone: it was aborted, another lane took it, or a signal came first (ECONNABORTED, EAGAIN, EINTR)
abbrev pub is_gone : ℕ → Bool
is_gone errno = (errno == 103) || ((errno == 11) || (errno == 4))

-- there is no listener: a handle that isn't open, is no socket, or doesn't listen (EBADF, ENOTSOCK, EINVAL)
abbrev pub lacks_listener : ℕ → Bool
lacks_listener errno = (errno == 9) || (errno == 88) || (errno == 22)

-- what follows a refused accept; of all other numbers, as want of descriptors or of memory, that one is waited for
abbrev pub untaken_by : ℕ → Untaken
untaken_by errno = if is_gone errno then Gone else if lacks_listener errno then NoListener else NotYet

-- the octets of the address that a service listens on: this machine's own, 127.0.0.1 (RFC 1122, 3.2.1.3)
abbrev pub loopback : List ℕ
loopback = 127 ∷ 0 ∷ 0 ∷ 1 ∷ []

-- what stands at a path is a dead socket: the path is in use (EADDRINUSE) by a socket at which nobody listens (ECONNREFUSED)
abbrev pub is_dead : ℕ → Bool → ℕ → Bool
is_dead bind is_socket connect = (bind == 98) && (is_socket && (connect == 111))

-- what is left of a time, where some of it is
abbrev pub IsLeft : {E : Type 0} → Duration → Duration → Result Duration E → Type 0
IsLeft whole passed (Ok left) = (0 < as_nanos left) × (as_nanos left + as_nanos passed ≡ as_nanos whole)
IsLeft whole passed (Err error) = as_nanos whole ≤ as_nanos passed

-- a drain goes on behind a read of so many bytes: the client hasn't ended, and no more than is taken in has come
abbrev pub drains_on : ℕ → ℕ → ℕ → Bool
drains_on count taken most = if count == 0 then false else nat_lt taken most

-- a read shows the end of the input: there was room, and it gave no byte
abbrev pub is_end : ℕ → ℕ → Bool
is_end count room = if count == 0 then nat_lt 0 room else false

-- a client may still be sending where its line ends: neither has its input ended, nor has a read or a write failed
abbrev pub may_send : Bool → ℕ → ℕ → Bool
may_send is_at_end read_faults write_faults = if is_at_end then false else if read_faults == 0 then write_faults == 0 else false

-- a line has failed: a read or a write of it has
abbrev pub has_failed : ℕ → ℕ → Bool
has_failed read_faults write_faults = nat_lt 0 read_faults || nat_lt 0 write_faults

-- what was written last was answered: something came behind it, the input hasn't ended, and nothing has failed
abbrev pub is_answered : Bool → Bool → ℕ → ℕ → Bool
is_answered is_asked is_at_end read_faults write_faults =
    if is_asked then if is_at_end then false else if has_failed read_faults write_faults then false else true else false

-- what the events of a listener say: a connection waits (POLLIN), or there is none
abbrev pub waiting_at : ℤ → Seen
waiting_at (pos events) = if events == 1 then Waiting else Nothing
waiting_at (negsuc events) = Nothing

-- what the events of a silent line and those of its listener say: the line's own come first
abbrev pub seen_in : ℤ → ℤ → Seen
seen_in (pos zero) listener = waiting_at listener
seen_in line listener = Line

-- what a look found, by the system's count; where it failed, a read will tell
abbrev pub seen_by : ℤ → ℤ → ℤ → Seen
seen_by (pos count) line listener = seen_in line listener
seen_by (negsuc count) line listener = Line

-- how long a look for so many nanoseconds is, in milliseconds
abbrev pub poll_millis : ℕ → ℕ
poll_millis nanos = min (nanos / 1_000_000) 59_999 + 1

-- what is left of a line's own time, where nothing was answered on it and some of that time is left
abbrev pub IsOwnTime : Bool → Duration → Duration → Option Duration → Type 0
IsOwnTime true own passed left = left ≡ None
IsOwnTime false own passed (Some left) = (0 < as_nanos left) × (as_nanos left + as_nanos passed ≡ as_nanos own)
IsOwnTime false own passed None = as_nanos own ≤ as_nanos passed
