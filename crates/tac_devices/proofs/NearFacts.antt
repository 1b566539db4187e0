-- The longest prefix that an address begins with.
use Rattle.std.proofs.Common.{◌≡◌, ℕ, ◌+◌, suc, drop, get_or, length, ◌<◌, ◌≤◌, Bool, true, false, cond, ◌&&◌, List, [], ◌∷◌, ◌++◌, nat_lt, Option, Some, None, refl, subst, sym, ap, ◌∙◌, append_assoc, arith}
use Rattle.std.proofs.lemmas.Bool.Decides.{nat_tests}
use Rattle.std.proofs.Math.Seq.{drop-cons}
use Rattle.std.proofs.Math.ListN.{drop_of_length-le}
use Rattle.std.proofs.lemmas.List.{append-nil}
use Rattle.std.proofs.lemmas.List.Elements.{All-nil, All-weaker, All-push, Contains-append_left, Contains-push}
use Rattle.std.specs.declared.net.ip_addr.IpAddr.{IpAddr}
use Rattle.tac_devices.specs.Prefix.{covers}
use Rattle.tac_devices.specs.declared.device.Device.{Device}
use Rattle.tac_devices.specs.Devices.{Spot, spots, spots_of, is_longer, nearer, nearest_from, nearest, IsNearestOf, IsNearest}

pub near-append : (address : IpAddr) (best : Option Spot) (xs ys : List Spot) → nearest_from address best (xs ++ ys) ≡ nearest_from address (nearest_from address best xs) ys
near-append address best [] ys = refl
near-append address best (x ∷ xs) ys = near-append address (nearer address best x) xs ys

pub near_goes : (address : IpAddr) (best next total : Option Spot) (items devices : List Device) (i : ℕ) (x : Device) → items ≡ devices → i < length items → x ≡ get_or items i x
    → next ≡ nearest_from address best (spots_of x) → nearest_from address best (spots (drop i devices)) ≡ total → nearest_from address next (spots (drop (i + 1) devices)) ≡ total
near_goes address best next total items devices i x same lt is e told =
    let left : drop i items ≡ x ∷ drop (suc i) items = drop-cons items i x lt ∙ ap (λ d. d ∷ drop (suc i) items) (sym is) in
    let here : drop i devices ≡ x ∷ drop (suc i) devices = rw (← same) left in
    let next_index : i + 1 ≡ suc i = omega arith in
    rw (e, next_index) (sym (near-append address best (spots_of x) (spots (drop (suc i) devices))) ∙ ap (λ (l : List Device). nearest_from address best (spots l)) (sym here) ∙ told)

pub near_done : (address : IpAddr) (best total : Option Spot) (items devices : List Device) (i : ℕ) → items ≡ devices → length items ≤ i
    → nearest_from address best (spots (drop i devices)) ≡ total → best ≡ total
near_done address best total items devices i same lt told =
    let left : drop i devices ≡ [] = rw (← same) (drop_of_length-le items lt) in
    sym (ap (λ (l : List Device). nearest_from address best (spots l)) left) ∙ told

-- ---- what is found is the nearest

module _ (address : IpAddr) (seen : List Spot) (s : Spot) where
  -- an address that doesn't begin so changes nothing
  passed : (best : Option Spot) → covers s.1.prefix address ≡ false → IsNearestOf seen address best → IsNearestOf (seen ++ s ∷ []) address best
  passed None hasnt h = All-push (λ (other : Spot). covers other.1.prefix address ≡ false) seen s h hasnt
  passed (Some b) hasnt h = (
    Contains-append_left seen (s ∷ []) b h.0,
    h.1,
    All-push (λ (other : Spot). covers other.1.prefix address ≡ true → other.1.prefix.length ≤ b.1.prefix.length) seen s h.2 (λ has. let wrong : true ≡ false = sym has ∙ hasnt in absurd (cc)),
  )

  first_found : covers s.1.prefix address ≡ true → IsNearestOf seen address None → IsNearestOf (seen ++ s ∷ []) address (Some s)
  first_found has h = (
    Contains-push seen s,
    has,
    All-push (λ (other : Spot). covers other.1.prefix address ≡ true → other.1.prefix.length ≤ s.1.prefix.length) seen s
        (All-weaker (λ (other : Spot). covers other.1.prefix address ≡ false) (λ (other : Spot). covers other.1.prefix address ≡ true → other.1.prefix.length ≤ s.1.prefix.length)
        (λ other hasnt. λ also. absurd (cc)) seen h)
        (λ _. omega arith),
  )

  longer_found : (b : Spot) → covers s.1.prefix address ≡ true → b.1.prefix.length < s.1.prefix.length → IsNearestOf seen address (Some b) → IsNearestOf (seen ++ s ∷ []) address (Some s)
  longer_found b has more h = (
    Contains-push seen s,
    has,
    All-push (λ (other : Spot). covers other.1.prefix address ≡ true → other.1.prefix.length ≤ s.1.prefix.length) seen s
        (All-weaker (λ (other : Spot). covers other.1.prefix address ≡ true → other.1.prefix.length ≤ b.1.prefix.length) (λ (other : Spot). covers other.1.prefix address ≡ true → other.1.prefix.length ≤ s.1.prefix.length)
        (λ other up. λ also. let fits = up also in omega arith) seen h.2)
        (λ _. omega arith),
  )

  stays : (b : Spot) → s.1.prefix.length ≤ b.1.prefix.length → IsNearestOf seen address (Some b) → IsNearestOf (seen ++ s ∷ []) address (Some b)
  stays b less h = (
    Contains-append_left seen (s ∷ []) b h.0,
    h.1,
    All-push (λ (other : Spot). covers other.1.prefix address ≡ true → other.1.prefix.length ≤ b.1.prefix.length) seen s h.2 (λ _. less),
  )

  -- one more
  pub one_more : (best : Option Spot) → IsNearestOf seen address best → IsNearestOf (seen ++ s ∷ []) address (nearer address best s)
  one_more best h = by (covers s.1.prefix address) refl
    where
      longer : (b : Spot) → covers s.1.prefix address ≡ true → IsNearestOf seen address (Some b) → (t : Bool) → nat_lt b.1.prefix.length s.1.prefix.length ≡ t
          → IsNearestOf (seen ++ s ∷ []) address (cond t (Some s) (Some b))
      longer b has h true e = longer_found b has (grind (arith, nat_tests)) h
      longer b has h false e = stays b (grind (arith, nat_tests)) h

      covered : covers s.1.prefix address ≡ true → (best : Option Spot) → IsNearestOf seen address best → IsNearestOf (seen ++ s ∷ []) address (cond (is_longer s best) (Some s) best)
      covered has None h = first_found has h
      covered has (Some b) h = longer b has h (nat_lt b.1.prefix.length s.1.prefix.length) refl

      by : (c : Bool) → covers s.1.prefix address ≡ c → IsNearestOf (seen ++ s ∷ []) address (cond (c && is_longer s best) (Some s) best)
      by true e = covered e best h
      by false e = passed best e h

pub nearest_more : (address : IpAddr) (seen rest : List Spot) (best : Option Spot) → IsNearestOf seen address best → IsNearestOf (seen ++ rest) address (nearest_from address best rest)
nearest_more address seen [] best h = subst (λ (l : List Spot). IsNearestOf l address best) (sym (append-nil seen)) h
nearest_more address seen (s ∷ rest) best h =
    subst (λ (l : List Spot). IsNearestOf l address (nearest_from address (nearer address best s) rest)) (append_assoc seen (s ∷ []) rest)
    (nearest_more address (seen ++ s ∷ []) rest (nearer address best s) (one_more address seen s best h))

pub nearest_is : (devices : List Device) (address : IpAddr) (found : Option Spot) → found ≡ nearest devices address → IsNearest devices address found
nearest_is devices address found e =
    rw e (nearest_more address [] (spots devices) None (All-nil (λ (other : Spot). covers other.1.prefix address ≡ false)))
