-- What of an address counts.
use Rattle.std.specs.Prelude.{ℕ, List}
use Rattle.std.specs.declared.net.ip_addr.IpAddr.{IpAddr}
use Rattle.std.specs.declared.net.ip_addr.IpAddr.TheVariants.{V4, V6}
use Rattle.std.specs.Net.Addr.{ipv6_segments, embedded_segments}

-- the eight segments of sixteen bits; an IPv4 address a.b.c.d has those of ::ffff:a.b.c.d
abbrev pub segments_of : IpAddr → List ℕ
segments_of (V4 ip) = embedded_segments 0xffff ip
segments_of (V6 ip) = ipv6_segments ip
