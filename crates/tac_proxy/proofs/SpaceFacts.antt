-- No word of a line that tells a caller has a space.
use Rattle.std.proofs.Common.{◌≡◌, ℕ, ◌^◌, ◌<◌, ◌≤◌, inl, inr, Bool, true, false, List, [], ◌∷◌, ◌++◌, Some, decimal, refl, sym, ap, subst, arith, ne_eqb, lt-ltb}
use Rattle.std.proofs.lemmas.Bool.{cases_lt}
use Rattle.std.specs.List.{AllByRecursion}
use Rattle.std.specs.Char.{digit_value}
use Rattle.std.specs.Str.Parse.{AllDigits}
use Rattle.std.specs.Option.{option_map}
use Rattle.std.specs.Net.Grammar.{IsDotted, IsGroupsAfter, IsElided, IsIpText}
use Rattle.std.specs.declared.net.ip_addr.IpAddr.{IpAddr}
use Rattle.std.specs.declared.net.ip_addr.IpAddr.TheVariants as Ip
use Rattle.std.proofs.lemmas.Fmt.{decimal_is_IsNumeral}
use Rattle.basics.specs.Lines.{split_at_first}

-- no byte is a space, or a control character
pub record IsWord (text : List ℕ) : Type 0 where
  pub all : AllByRecursion (λ byte. 32 < byte) text

all_append : (a b : List ℕ) → AllByRecursion (λ byte. 32 < byte) a → AllByRecursion (λ byte. 32 < byte) b → AllByRecursion (λ byte. 32 < byte) (a ++ b)
all_append [] b h k = k
all_append (x ∷ a) b h k = (h.0, all_append a b h.1 k)

pub IsWord-append : (a b : List ℕ) → IsWord a → IsWord b → IsWord (a ++ b)
IsWord-append a b h k = record { all = all_append a b h.all k.all }

no_digit : (radix byte : ℕ) → radix ≤ 16 → digit_value byte < radix → 32 < byte
no_digit radix byte small digit =
    elim (cases_lt 32 byte) [
      | inl lt ↦ lt
      | inr le ↦ let other : digit_value byte ≡ 36 = rw (lt-ltb byte 48 (omega arith)) refl in absurd (omega arith)
    ]

all_digits : (radix : ℕ) (text : List ℕ) → radix ≤ 16 → AllDigits radix text → AllByRecursion (λ byte. 32 < byte) text
all_digits radix [] small h = tt
all_digits radix (x ∷ text) small h = (no_digit radix x small h.0, all_digits radix text small h.1)

pub IsWord-digits : (radix : ℕ) (text : List ℕ) → radix ≤ 16 → AllDigits radix text → IsWord text
IsWord-digits radix text small h = record { all = all_digits radix text small h }

pub IsWord-decimal : (n : ℕ) → n < 2 ^ 16 → IsWord (decimal n)
IsWord-decimal n small = IsWord-digits 10 (decimal n) (omega arith) (decimal_is_IsNumeral n (omega arith)).0.1

none : IsWord []
none = record { all = tt }

dot : IsWord (46 ∷ [])
dot = record { all = (omega arith, tt) }

colon : IsWord (58 ∷ [])
colon = record { all = (omega arith, tt) }

IsWord-dotted : (text octets : List ℕ) → IsDotted text octets → IsWord text
IsWord-dotted text octets h =
    let a = IsWord-decimal h.a (omega (arith, h.fit.0)) in
    let b = IsWord-decimal h.b (omega (arith, h.fit.1)) in
    let c = IsWord-decimal h.c (omega (arith, h.fit.2)) in
    let d = IsWord-decimal h.d (omega (arith, h.fit.3)) in
    let two = IsWord-append _ _ (IsWord-append _ _ a dot) b in
    let three = IsWord-append _ _ (IsWord-append _ _ two dot) c in
    subst IsWord (sym h.spelled) (IsWord-append _ _ (IsWord-append _ _ three dot) d)

IsWord-groups : (ipv4 : Bool) (lead text segments : List ℕ) → IsWord lead → IsGroupsAfter ipv4 lead text segments → IsWord text
IsWord-groups ipv4 lead text [] l h = subst IsWord (sym h) none
IsWord-groups ipv4 lead text (s ∷ segments) l (inl (group, rest, spelled, is, more)) =
    let digits = IsWord-digits 16 group (omega arith) is.0.0.1 in
    subst IsWord (sym spelled) (IsWord-append _ _ (IsWord-append _ _ l digits) (IsWord-groups ipv4 (58 ∷ []) rest segments colon more))
IsWord-groups ipv4 lead text (s ∷ segments) l (inr (last, octets, may, spelled, dotted, same)) =
    subst IsWord (sym spelled) (IsWord-append _ _ l (IsWord-dotted last octets dotted))

IsWord-elided : (text segments : List ℕ) → IsElided text segments → IsWord text
IsWord-elided text segments h =
    let head = IsWord-groups false [] h.head_text h.head none h.head_groups in
    let tail = IsWord-groups true [] h.tail_text h.tail none h.tail_groups in
    subst IsWord (sym h.spelled) (IsWord-append _ _ (IsWord-append _ _ head (IsWord-append _ _ colon colon)) tail)

pub IsWord-ip : (text : List ℕ) (ip : IpAddr) → IsIpText text ip → IsWord text
IsWord-ip text (Ip.V4 a) h = IsWord-dotted text _ h
IsWord-ip text (Ip.V6 a) (inl h) = IsWord-groups true [] text _ none h.0
IsWord-ip text (Ip.V6 a) (inr h) = IsWord-elided text _ h

above : (x : ℕ) → 32 < x → x ≡ 32 → ⊥
above x lt e = omega arith

split_by : (text rest : List ℕ) → AllByRecursion (λ byte. 32 < byte) text → split_at_first 32 (text ++ 32 ∷ rest) ≡ Some (text, rest)
split_by [] rest h = refl
split_by (x ∷ text) rest h = rw (ne_eqb x 32 (λ e. above x h.0 e)) (ap (option_map (λ parts. (x ∷ parts.0, parts.1))) (split_by text rest h.1))

-- a word is what stands before the first space
pub split-word : (text rest : List ℕ) → IsWord text → split_at_first 32 (text ++ 32 ∷ rest) ≡ Some (text, rest)
split-word text rest h = split_by text rest h.all
