-- The connections that there are at once, and how many there may be of them.
use Rattle.std.specs.Prelude.{◌≡◌, ◌≢◌, ◌≤◌, ℕ, List, [], ◌∷◌, length, count_by}
use Rattle.std.specs.Prelude.{if◌then◌else◌}
use Rattle.std.specs.Str.{bytes_eq}
use Rattle.std.specs.declared.net.ip_addr.IpAddr.{IpAddr}
use Rattle.tac_census.specs.Address.{segments_of}

-- how many there may be in all, and of each that there is the segments of its address, the latest
-- first
pub record Connections : Type 0 where
  pub in_all : ℕ
  pub present : List (List ℕ)

-- no connections
abbrev pub none : ℕ → Connections
none in_all = record { in_all = in_all; present = [] }

-- how many there are of this address
abbrev pub count_of : IpAddr → Connections → ℕ
count_of address connections = count_by (bytes_eq (segments_of address)) connections.present

-- there are as many as may be in all
abbrev pub IsFull : Connections → Type 0
IsFull connections = length connections.present ≡ connections.in_all

-- there are as many of this address as may be of it, or more; a 0 sets no such cap
abbrev pub IsFullOf : IpAddr → ℕ → Connections → Type 0
IsFullOf address most connections = (most ≢ 0) × (most ≤ count_of address connections)

-- one more of this address
abbrev pub with_one : IpAddr → Connections → Connections
with_one address connections =
    record connections { present = segments_of address ∷ connections.present }

-- the list without the first of these segments, if there is one; which of them goes doesn't matter
abbrev pub without_first : List ℕ → List (List ℕ) → List (List ℕ)
without_first segments [] = []
without_first segments (first ∷ rest) =
    if bytes_eq segments first then rest else first ∷ without_first segments rest

-- one of this address less, if there is one
abbrev pub without : IpAddr → Connections → Connections
without address connections =
    record connections { present = without_first (segments_of address) connections.present }
