-- The header in front of a connection's bytes ("The PROXY protocol, versions 1 & 2", section 2).
use Rattle.std.specs.Prelude.{◌≡◌, ◌≤◌, ◌<◌, ℕ, List, length, take}
use Rattle.std.specs.Bool.{MatchBool}
use Rattle.tac_proxy.specs.Front.{agrees}
use Rattle.tac_proxy.specs.Line.{ReadsLine}
use Rattle.tac_proxy.specs.Binary.{signature, binary}
use Rattle.tac_proxy.specs.declared.told.Header.{Header}
use Rattle.tac_proxy.specs.declared.told.Proxy.{Proxy}
use Rattle.tac_proxy.specs.declared.told.Proxy.TheVariants.{Need, Fault, Found}

-- what bytes begin with: version 2 where they agree with its signature, and else a line
abbrev pub Reads : List ℕ → Proxy → Type 0
Reads bytes proxy =
    MatchBool (agrees signature bytes) (proxy ≡ binary bytes) (ReadsLine bytes proxy)

-- a fact of the header that was found
abbrev pub IfFound : Proxy → (Header → Type 0) → Type 0
IfFound Need P = Unit {0}
IfFound Fault P = Unit {0}
IfFound (Found header) P = P header

-- more bytes have to come
abbrev pub IsNeed : Proxy → Type 0
IsNeed Need = Unit {0}
IsNeed Fault = ⊥
IsNeed (Found header) = ⊥

-- these bytes and no others are the header: it is read of them alone, and not of fewer
pub record IsWhole (bytes : List ℕ) (header : Header) : Type 0 where
  pub there : header.used ≤ length bytes
  pub short : header.used ≤ 536
  pub alone : Reads (take header.used bytes) (Found header)
  pub fewer : (n : ℕ) → n < header.used → Reads (take n bytes) Need
