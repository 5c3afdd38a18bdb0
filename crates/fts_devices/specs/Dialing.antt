-- Where a client dials, and how long it rests before.
use Rattle.std.specs.Prelude.{◌≡◌, ℕ, ◌*◌, ◌==◌, if◌then◌else◌, min}
use Rattle.std.specs.Net.Addr.{ipv4_octets}
use Rattle.std.specs.declared.net.ip_addr.IpAddr.{IpAddr}
use Rattle.std.specs.declared.net.ip_addr.IpAddr.TheVariants.{V4, V6}
use Rattle.fts_devices.specs.Steps.{loopback}

-- this machine's own address, on which a service listens
abbrev pub IsOwn : IpAddr → Type 0
IsOwn (V4 address) = ipv4_octets address ≡ loopback
IsOwn (V6 address) = ⊥

-- the rest behind this one, in milliseconds: the first where there was none, and else twice as long; the longest at most
abbrev pub rest_behind : ℕ → ℕ → ℕ → ℕ
rest_behind first longest rest = if rest == 0 then min first longest else min (rest * 2) longest
