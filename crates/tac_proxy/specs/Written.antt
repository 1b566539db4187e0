-- How a proxy writes version 2 for a caller by TCP ("The PROXY protocol, versions 1 & 2", sections
-- 2.2 and 2.2.1).
use Rattle.std.specs.Prelude.{◌≡◌, ℕ, ◌+◌, ◌/◌, ◌%◌, ◌≤◌, List, [], ◌∷◌, ◌++◌, length, flat_map}
use Rattle.std.specs.Prelude.{Option, Some}
use Rattle.std.specs.Option.{option_map_or}
use Rattle.std.specs.Net.Addr.{ipv4_octets, ipv6_octets, MatchIp, IsIpv4Addr, IsIpv6Addr}
use Rattle.std.specs.declared.net.ip_addr.IpAddr.{IpAddr}
use Rattle.std.specs.declared.net.ip_addr.IpAddr.TheVariants as Ip
use Rattle.tac_proxy.specs.Line.{socket_of, family_word}
use Rattle.tac_proxy.specs.Vectors.{Vector, vector_bytes, value_among}
use Rattle.tac_proxy.specs.Binary.{signature, proxy_command, tcp_over_ipv4, tcp_over_ipv6}
use Rattle.tac_proxy.specs.Certificate.{type_ssl, ssl_certificate}
use Rattle.tac_proxy.specs.declared.told.Certificate.{Certificate}
use Rattle.tac_proxy.specs.declared.told.Certificate.TheVariants.{NotTold}
use Rattle.tac_proxy.specs.declared.told.Header.{Header}
use Rattle.tac_proxy.specs.declared.told.Source.TheVariants.{Caller}

-- what a proxy tells: who called whom, and vectors
pub record Call : Type 0 where
  pub source : IpAddr
  pub source_port : ℕ
  pub target : IpAddr
  pub target_port : ℕ
  pub vectors : List Vector

abbrev pub octets : IpAddr → List ℕ
octets (Ip.V4 ip) = ipv4_octets ip
octets (Ip.V6 ip) = ipv6_octets ip

-- TCP over the family of an address
abbrev pub kind_byte : IpAddr → ℕ
kind_byte (Ip.V4 ip) = tcp_over_ipv4
kind_byte (Ip.V6 ip) = tcp_over_ipv6

-- a number in network order
abbrev pub two_bytes : ℕ → List ℕ
two_bytes n = (n / 256) ∷ (n % 256) ∷ []

-- what follows the first sixteen bytes
abbrev pub call_bytes : Call → List ℕ
call_bytes call =
    octets call.source
    ++ (octets call.target
    ++ (two_bytes call.source_port
    ++ (two_bytes call.target_port ++ flat_map vector_bytes call.vectors)))

-- the whole header
abbrev pub written : Call → List ℕ
written call =
    signature
    ++ (proxy_command ∷ kind_byte call.source ∷ [])
    ++ two_bytes (length (call_bytes call)) ++ call_bytes call

-- addresses of one family, and ports, as they are, and no more vectors than there is room for
pub record CanBeWritten (call : Call) : Type 0 where
  pub one_family : family_word call.target ≡ family_word call.source
  pub source : MatchIp call.source IsIpv4Addr IsIpv6Addr
  pub target : MatchIp call.target IsIpv4Addr IsIpv6Addr
  pub short : length (call_bytes call) ≤ 520

-- what the vectors tell of the certificate; nothing where its own lengths don't add up
abbrev pub certificate_told : Call → Option Certificate
certificate_told call =
    option_map_or ssl_certificate (value_among type_ssl call.vectors) (Some NotTold)

-- the header that tells this
abbrev pub call_header : Call → Certificate → Header
call_header call certificate = record {
  source = Caller (socket_of call.source call.source_port);
  certificate = certificate;
  used = 16 + length (call_bytes call);
}
