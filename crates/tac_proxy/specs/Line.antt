-- Version 1: a line ("The PROXY protocol, versions 1 & 2", section 2.1).
use Rattle.std.specs.Prelude.{◌≡◌, ◌⊎◌, ℕ, ◌+◌, ◌^◌, ◌<◌, ◌≤◌, Bool, ◌||◌, List, ◌++◌, length, take}
use Rattle.std.specs.Prelude.{slice_index, codes, IsTrue}
use Rattle.std.specs.Fmt.{decimal}
use Rattle.std.specs.Net.Grammar.{IsIpText}
use Rattle.std.specs.declared.net.ip_addr.IpAddr.{IpAddr}
use Rattle.std.specs.declared.net.ip_addr.IpAddr.TheVariants as Ip
use Rattle.std.specs.declared.net.socket_addr.SocketAddr.{SocketAddr}
use Rattle.std.specs.declared.net.socket_addr.SocketAddr.TheVariants as Socket
use Rattle.tac_proxy.specs.Front.{agrees}
use Rattle.tac_proxy.specs.declared.told.Certificate.TheVariants.{NotTold}
use Rattle.tac_proxy.specs.declared.told.Header.{Header}
use Rattle.tac_proxy.specs.declared.told.Proxy.{Proxy}
use Rattle.tac_proxy.specs.declared.told.Proxy.TheVariants.{Need, Fault, Found}
use Rattle.tac_proxy.specs.declared.told.Source.{Source}
use Rattle.tac_proxy.specs.declared.told.Source.TheVariants.{Local, Unknown, Caller}

-- an address and a port
abbrev pub socket_of : IpAddr → ℕ → SocketAddr
socket_of (Ip.V4 ip) port = Socket.V4 (record { ip = ip; port = port })
socket_of (Ip.V6 ip) port =
    Socket.V6 (record { ip = ip; port = port; flowinfo = 0; scope_id = 0 })

-- the word for TCP over the family of an address
abbrev pub family_word : IpAddr → List ℕ
family_word (Ip.V4 ip) = codes "TCP4"
family_word (Ip.V6 ip) = codes "TCP6"

-- a port: a number from 0 to 65535, without leading zeros
abbrev pub IsPort : List ℕ → ℕ → Type 0
IsPort digits port = (digits ≡ decimal port) × (port < 2 ^ 16)

-- `PROXY TCP4 SRC DST SPORT DPORT`, or TCP6 with addresses of that family, tells the caller SRC
-- with the port SPORT
pub record TellsCaller (line : List ℕ) (caller : SocketAddr) : Type 0 where
  pub source : IpAddr
  pub target : IpAddr
  pub source_text : List ℕ
  pub target_text : List ℕ
  pub source_port : ℕ
  pub target_port : ℕ
  pub spelled :
      line ≡ codes "PROXY " ++ family_word source ++ codes " " ++ source_text ++ codes " "
      ++ target_text ++ codes " " ++ decimal source_port ++ codes " " ++ decimal target_port
  pub source_address : IsIpText source_text source
  pub target_address : IsIpText target_text target
  pub one_family : family_word target ≡ family_word source
  pub ports : (source_port < 2 ^ 16) × (target_port < 2 ^ 16)
  pub told : caller ≡ socket_of source source_port

-- `PROXY UNKNOWN`, alone or with anything after one more space, tells of no caller
abbrev pub TellsNone : List ℕ → Type 0
TellsNone line =
    (line ≡ codes "PROXY UNKNOWN") ⊎ ((rest : List ℕ) × (line ≡ codes "PROXY UNKNOWN " ++ rest))

-- what a line tells; none says that the proxy calls on its own
abbrev pub Tells : List ℕ → Source → Type 0
Tells line (Caller caller) = TellsCaller line caller
Tells line Unknown = TellsNone line
Tells line Local = ⊥

-- CR LF stands there
pub record HasEnd (bytes : List ℕ) (at : ℕ) : Type 0 where
  pub cr : slice_index bytes at ≡ 13
  pub lf : slice_index bytes (at + 1) ≡ 10

-- the first CR LF stands there
pub record EndsAt (bytes : List ℕ) (at : ℕ) : Type 0 where
  pub here : HasEnd bytes at
  pub first : (k : ℕ) → k < at → ¬ (HasEnd bytes k)

-- the bytes begin with a line that tells this, and that has at most 107 bytes with its CR LF
pub record BeginsWithLine (bytes : List ℕ) (header : Header) : Type 0 where
  pub size : ℕ
  pub ends : EndsAt bytes size
  pub short : size + 2 ≤ 107
  pub tells : Tells (take size bytes) header.source
  pub no_certificate : header.certificate ≡ NotTold
  pub used : header.used ≡ size + 2

-- what is told of a line that tells a caller, and that CR LF follows
abbrev pub line_header : List ℕ → SocketAddr → Header
line_header line caller = record {
  source = Caller caller;
  certificate = NotTold;
  used = length line + 2;
}

-- whether the bytes may be the beginning of a line, as far as there are any
abbrev pub is_begun : List ℕ → Bool
is_begun bytes =
    (agrees (codes "PROXY TCP4 ") bytes || agrees (codes "PROXY TCP6 ") bytes)
    || agrees (codes "PROXY UNKNOWN") bytes

-- the bytes may become a line: they begin as one, and may go on
pub record MayBecomeLine (bytes : List ℕ) : Type 0 where
  pub begun : IsTrue (is_begun bytes)
  pub open_end : (at : ℕ) → ¬ (HasEnd bytes at)
  pub short : length bytes < 107

-- what the bytes begin with, if it is a line
abbrev pub ReadsLine : List ℕ → Proxy → Type 0
ReadsLine bytes (Found header) = BeginsWithLine bytes header
ReadsLine bytes Need = MayBecomeLine bytes
ReadsLine bytes Fault =
    ¬ (MayBecomeLine bytes) × ((header : Header) → ¬ (BeginsWithLine bytes header))
