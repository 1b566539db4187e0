-- Addresses that begin with the same bits, and how they are written (RFC 4632, section 3.1; RFC
-- 4291, section 2.3).
use Rattle.std.specs.Prelude.{◌≡◌, ℕ, ◌-◌, ◌/◌, ◌%◌, ◌^◌, ◌≤◌, ◌==◌, ◌&&◌, nat_le, Bool, false}
use Rattle.std.specs.Prelude.{List, ◌++◌, codes, Option, Some, None}
use Rattle.std.specs.Cmp.{IsEquivalence, and_equiv, on_equiv, nat_eq_equiv, unsigned_Decides}
use Rattle.std.specs.Fmt.{decimal}
use Rattle.std.specs.Hash as fed
use Rattle.std.specs.Hash.{HashWrites, Alike, and-Alike, first_alike, on_Alike, same_Alike}
use Rattle.std.specs.Net.Text.{ip_text}
use Rattle.std.specs.Net.Addr.{ipv4_bits, ipv6_bits, MatchIp, IsCanonicalOf}
use Rattle.std.specs.Net.Grammar.{IsIpText}
use Rattle.std.specs.declared.net.ip_addr.IpAddr.{IpAddr}
use Rattle.std.specs.declared.net.ip_addr.IpAddr.TheVariants.{V4, V6}
use Rattle.basics.specs.Lines.{split_at_first}
use Rattle.basics.specs.Number.{number_of}

-- the addresses that begin with the same bits as one, so many of them
pub record Range : Type 0 where
  pub address : IpAddr
  pub length : ℕ

-- how many bits an address has
abbrev pub width : IpAddr → ℕ
width (V4 a) = 32
width (V6 a) = 128

-- the number that they are
abbrev pub value : IpAddr → ℕ
value (V4 a) = ipv4_bits a
value (V6 a) = ipv6_bits a

-- the number that the first so many are
abbrev pub front : IpAddr → ℕ → ℕ
front address length = value address / 2 ^ (width address - length)

-- whether an address begins as a prefix does
abbrev pub covers : Range → IpAddr → Bool
covers prefix address =
    width address == width prefix.address
    && front address prefix.length == front prefix.address prefix.length

-- whether two prefixes fix the same bits
abbrev pub same_prefix : Range → Range → Bool
same_prefix a b =
    (a.length == b.length && width a.address == width b.address)
    && value a.address == value b.address

pub same_prefix-equiv : IsEquivalence same_prefix
same_prefix-equiv =
    and_equiv
    (and_equiv (on_equiv (λ (r : Range). r.length) nat_eq_equiv)
    (on_equiv (λ (r : Range). width r.address) nat_eq_equiv))
    (on_equiv (λ (r : Range). value r.address) nat_eq_equiv)

-- what a hasher is fed of a prefix
abbrev pub fed_of : Range → HashWrites
fed_of r = fed.u8 r.length ++ fed.u128 (value r.address)

pub fed_of-alike : Alike same_prefix fed_of
fed_of-alike =
    and-Alike
    (first_alike (λ a b. width a.address == width b.address)
    (on_Alike (λ (r : Range). r.length) (same_Alike fed.u8 unsigned_Decides)))
    (on_Alike (λ (r : Range). value r.address) (same_Alike fed.u128 unsigned_Decides))

-- ---- how a prefix is written

-- an address alone is written without a length; else a slash and the length follow it
abbrev pub IsWrittenBy : Option (List ℕ × List ℕ) → List ℕ → IpAddr → ℕ → Type 0
IsWrittenBy None text address length = IsIpText text address × (length ≡ width address)
IsWrittenBy (Some parts) text address length =
    IsIpText parts.0 address × (number_of 3 parts.1 ≡ Some length) × (length ≤ width address)

abbrev pub IsWritten : List ℕ → IpAddr → ℕ → Type 0
IsWritten text address length = IsWrittenBy (split_at_first 47 text) text address length

-- the bits after the first so many are zero
abbrev pub IsBare : IpAddr → ℕ → Type 0
IsBare address length = value address % 2 ^ (width address - length) ≡ 0

-- whether IPv4 addresses are written as IPv6 here: the first 96 bits are those of ::ffff:0:0
abbrev pub is_mapped : IpAddr → ℕ → Bool
is_mapped address length =
    (width address == 128 && nat_le 96 length) && value address / 2 ^ 32 == 0xFFFF

abbrev pub IsPrefixText : List ℕ → Range → Type 0
IsPrefixText text prefix =
    IsWritten text prefix.address prefix.length × IsBare prefix.address prefix.length
    × (is_mapped prefix.address prefix.length ≡ false)

-- which prefix a text is: one that is written so, or none where none is
abbrev pub Reads : List ℕ → Option Range → Type 0
Reads text (Some prefix) = IsPrefixText text prefix
Reads text None = (prefix : Range) → ¬ (IsPrefixText text prefix)

-- how a prefix is printed
abbrev pub prefix_text : Range → List ℕ
prefix_text prefix = ip_text prefix.address ++ codes "/" ++ decimal prefix.length

-- ---- the address that is looked up

-- that of an IPv4 device is an IPv4 address, also where it came as IPv6
abbrev pub IsCanonical : IpAddr → IpAddr → Type 0
IsCanonical address canonical =
    MatchIp address (λ _. canonical ≡ address) (λ ip. IsCanonicalOf ip canonical)
