-- A text writes one prefix at most.
use Rattle.std.proofs.Common.{◌≡◌, ℕ, ◌<◌, ◌≤◌, List, Option, Some, None, true, false, subst, sym, ap, ◌∙◌, arith}
use Rattle.std.proofs.NetLemmas.Theorems.{IsIpText_unique}
use Rattle.std.specs.Net.Grammar.{IsIpText}
use Rattle.std.specs.declared.net.ip_addr.IpAddr.{IpAddr}
use Rattle.basics.specs.Lines.{split_at_first}
use Rattle.basics.specs.Number.{number_of}
use Rattle.tac_devices.specs.Prefix.{Range, width, IsWritten, IsWrittenBy, IsBare, is_mapped, IsPrefixText}

same_some : (n m : ℕ) → Some n ≡ Some m → n ≡ m
same_some n m e = cc

pub written_once : (text : List ℕ) (a b : IpAddr) (n m : ℕ) → IsWritten text a n → IsWritten text b m → (a ≡ b) × (n ≡ m)
written_once text a b n m h k = by (split_at_first 47 text) h k
  where
    by : (parts : Option (List ℕ × List ℕ)) → IsWrittenBy parts text a n → IsWrittenBy parts text b m → (a ≡ b) × (n ≡ m)
    by None h k = let e = IsIpText_unique text a b h.0 k.0 in (e, h.1 ∙ ap width e ∙ sym k.1)
    by (Some parts) h k = (IsIpText_unique parts.0 a b h.0 k.0, same_some n m (sym h.1 ∙ k.1))

-- a length over the width writes nothing
pub too_long : (text front digits : List ℕ) (a : IpAddr) (n : ℕ) → split_at_first 47 text ≡ Some (front, digits) → IsIpText front a → number_of 3 digits ≡ Some n → width a < n
    → (b : IpAddr) (m : ℕ) → IsWritten text b m → ⊥
too_long text front digits a n e one number long b m h =
    let k : IsWrittenBy (Some (front, digits)) text b m = subst (λ (parts : Option (List ℕ × List ℕ)). IsWrittenBy parts text b m) e h in
    let same = IsIpText_unique front a b one k.0 in
    let size = same_some n m (sym number ∙ k.1) in
    let fits : m ≤ width b = k.2 in
    let less : width b < m = rw (← same, ← size) long in
    omega arith

pub not_bare : (text : List ℕ) (a : IpAddr) (n : ℕ) → IsWritten text a n → ¬ (IsBare a n) → (prefix : Range) → IsPrefixText text prefix → ⊥
not_bare text a n w wrong prefix h =
    let e = written_once text a prefix.address n prefix.length w h.0 in
    wrong (rw (e.0, e.1) h.1)

pub mapped_wrong : (text : List ℕ) (a : IpAddr) (n : ℕ) → IsWritten text a n → is_mapped a n ≡ true → (prefix : Range) → IsPrefixText text prefix → ⊥
mapped_wrong text a n w mapped prefix h =
    let e = written_once text a prefix.address n prefix.length w h.0 in
    let is : is_mapped prefix.address prefix.length ≡ true = rw (← e.0, ← e.1) mapped in
    let wrong : true ≡ false = sym is ∙ h.2 in
    absurd (cc)
