-- How long a line may take, and a dial of a client.
use Rattle.std.specs.Prelude.{◌≡◌, ℕ, ◌*◌}
use Rattle.std.specs.Duration.{as_nanos}
use Rattle.std.specs.declared.time.Duration.{Duration}
use Rattle.fts_devices.specs.declared.socket_line.LineLimits.{LineLimits}
use Rattle.fts_devices.specs.declared.tcp_link.LinkLimits.{LinkLimits}

-- a time of so many seconds
abbrev pub IsSeconds : ℕ → Duration → Type 0
IsSeconds seconds time = as_nanos time ≡ seconds * 1_000_000_000

-- a service's lines: 10 s for one read or write, 60 s for a request, 1 s in which a line that is silent from its beginning gives way to none, and 5 s and
-- 16 MiB for what still comes at a line's end
pub record IsOfService (limits : LineLimits) : Type 0 where
  pub wait : IsSeconds 10 limits.wait
  pub request : IsSeconds 60 limits.request
  pub own : IsSeconds 1 limits.own
  pub drain : IsSeconds 5 limits.drain
  pub drain_bytes : limits.drain_bytes ≡ 16_777_216

-- a client's link: 10 s until a connection stands, lines as a service's, and a rest of 1 s before the second dial and of 10 s at most before any
pub record IsOfClient (limits : LinkLimits) : Type 0 where
  pub connect : IsSeconds 10 limits.connect
  pub line : IsOfService limits.line
  pub first_rest : limits.first_rest ≡ 1_000
  pub longest_rest : limits.longest_rest ≡ 10_000
