-- Version 2: sixteen bytes, and as many more as they say ("The PROXY protocol, versions 1 & 2",
-- sections 2.2 and 2.2.1).
use Rattle.std.specs.Prelude.{ℕ, ◌+◌, ◌*◌, ◌/◌, ◌%◌, ◌==◌, Bool, not, ◌&&◌, ◌||◌, nat_lt, nat_le}
use Rattle.std.specs.Prelude.{List, [], ◌∷◌, length, take, drop, slice_index, Option, Some, None}
use Rattle.std.specs.Prelude.{if◌then◌else◌}
use Rattle.std.specs.Net.Addr.{segments_of}
use Rattle.std.specs.declared.net.ip_addr.IpAddr.{IpAddr}
use Rattle.std.specs.declared.net.ip_addr.IpAddr.TheVariants as Ip
use Rattle.tac_proxy.specs.Line.{socket_of}
use Rattle.tac_proxy.specs.Certificate.{certificate_in}
use Rattle.tac_proxy.specs.declared.told.Certificate.{Certificate}
use Rattle.tac_proxy.specs.declared.told.Proxy.{Proxy}
use Rattle.tac_proxy.specs.declared.told.Proxy.TheVariants.{Need, Fault, Found}
use Rattle.tac_proxy.specs.declared.told.Source.{Source}
use Rattle.tac_proxy.specs.declared.told.Source.TheVariants.{Unknown, Caller}
use Rattle.tac_proxy.specs.declared.told.Source.TheVariants as sources
use Rattle.tac_proxy.specs.declared.binary.Transport.{Transport}
use Rattle.tac_proxy.specs.declared.binary.Transport.TheVariants.{Local, Tcp4, Tcp6, Other}

-- ---- the standard's numbers

abbrev pub signature : List ℕ
signature =
    0x0D ∷ 0x0A ∷ 0x0D ∷ 0x0A ∷ 0x00 ∷ 0x0D ∷ 0x0A ∷ 0x51 ∷ 0x55 ∷ 0x49 ∷ 0x54 ∷ 0x0A ∷ []

-- version 2 in the high four bits, and in the low four the command: LOCAL or PROXY
abbrev pub local_command : ℕ
local_command = 0x20

abbrev pub proxy_command : ℕ
proxy_command = 0x21

-- AF_INET or AF_INET6 in the high four bits, and STREAM in the low four
abbrev pub tcp_over_ipv4 : ℕ
tcp_over_ipv4 = 0x11

abbrev pub tcp_over_ipv6 : ℕ
tcp_over_ipv6 = 0x21

-- how many bytes may follow the first sixteen
abbrev pub most_bytes : ℕ
most_bytes = 520

-- ---- what is carried

-- a command other than these two is none, and so is a family or a protocol other than UNSPEC, INET,
-- INET6 and UNIX, and UNSPEC, STREAM and DGRAM; LOCAL says nothing of either
abbrev pub is_command : ℕ → Bool
is_command command = command == local_command || command == proxy_command

abbrev pub is_kind : ℕ → ℕ → Bool
is_kind command kind = command == local_command || (nat_le (kind / 16) 3 && nat_le (kind % 16) 2)

-- LOCAL: "the connection was established on purpose by the proxy without being relayed". Of what is
-- relayed, all but TCP tells of no caller
abbrev pub transport_of : ℕ → ℕ → Transport
transport_of command kind =
    if not (command == proxy_command)
    then Local
    else if kind == tcp_over_ipv4 then Tcp4 else if kind == tcp_over_ipv6 then Tcp6 else Other

-- the source's address, the target's, and the port of each
abbrev pub addresses_size : Transport → ℕ
addresses_size Local = 0
addresses_size Tcp4 = 4 + 4 + 2 + 2
addresses_size Tcp6 = 16 + 16 + 2 + 2
addresses_size Other = 0

-- a number in two bytes, in network order
abbrev pub number_at : ℕ → List ℕ → ℕ
number_at at bytes = slice_index bytes at * 256 + slice_index bytes (at + 1)

-- the address of so many octets
abbrev pub ipv4_of : List ℕ → IpAddr
ipv4_of octets = Ip.V4 (record { octets = octets })

abbrev pub ipv6_of : List ℕ → IpAddr
ipv6_of octets = Ip.V6 (record { segments = segments_of octets })

-- the source, by its address and the place of its port
abbrev pub source_in : Transport → List ℕ → Source
source_in Local bytes = sources.Local
source_in Tcp4 bytes = Caller (socket_of (ipv4_of (take 4 bytes)) (number_at 8 bytes))
source_in Tcp6 bytes = Caller (socket_of (ipv6_of (take 16 bytes)) (number_at 32 bytes))
source_in Other bytes = Unknown

-- the header that tells this, unless the lengths don't add up
abbrev pub found : ℕ → Source → Option Certificate → Proxy
found used source None = Fault
found used source (Some certificate) =
    Found (record { source = source; certificate = certificate; used = used })

-- the vectors after the addresses; nothing is read of what tells of no caller
abbrev pub vectors_in : Transport → List ℕ → List ℕ
vectors_in Local bytes = []
vectors_in Tcp4 bytes = drop 12 bytes
vectors_in Tcp6 bytes = drop 36 bytes
vectors_in Other bytes = []

-- what the bytes after the first sixteen tell, in a header of so many bytes
abbrev pub told : ℕ → Transport → List ℕ → Proxy
told used transport bytes =
    found used (source_in transport bytes) (certificate_in (vectors_in transport bytes))

-- ---- the header

abbrev pub command_of : List ℕ → ℕ
command_of bytes = slice_index bytes 12

abbrev pub kind_of : List ℕ → ℕ
kind_of bytes = slice_index bytes 13

-- how many bytes follow the first sixteen
abbrev pub size_of : List ℕ → ℕ
size_of bytes = number_at 14 bytes

abbrev pub carried : List ℕ → Transport
carried bytes = transport_of (command_of bytes) (kind_of bytes)

-- whether so many bytes can't follow
abbrev pub is_wrong_size : List ℕ → Bool
is_wrong_size bytes =
    nat_lt most_bytes (size_of bytes) || nat_lt (size_of bytes) (addresses_size (carried bytes))

-- whether one of the first so many bytes can't stand there
abbrev pub is_refused : ℕ → List ℕ → Bool
is_refused count bytes =
    (nat_lt 12 count && not (is_command (command_of bytes)))
    || (nat_lt 13 count && not (is_kind (command_of bytes) (kind_of bytes)))

-- what the first so many of the bytes begin with, where they agree with the signature: command and
-- kind are judged as soon as they are there, the size at sixteen bytes, and what follows them once
-- all of it is there
unfoldable pub judged : ℕ → List ℕ → Proxy
judged count bytes =
    if is_refused count bytes
    then Fault
    else if nat_lt count 16
    then Need
    else if is_wrong_size bytes
    then Fault
    else if nat_lt count (16 + size_of bytes)
    then Need
    else told (16 + size_of bytes) (carried bytes) (take (size_of bytes) (drop 16 bytes))

-- what the bytes begin with, where they agree with the signature
abbrev pub binary : List ℕ → Proxy
binary bytes = judged (length bytes) bytes
