-- An address has one device at most.
use Rattle.std.proofs.Common.{◌≡◌, ◌⊎◌, inl, inr, ⊎_elim, ℕ, ◌-◌, ◌+◌, ◌*◌, ◌/◌, ◌%◌, ◌^◌, ◌<◌, ◌≤◌, eqb, true, false, ◌&&◌, List, [], ◌∷◌, length, map, Option, Some, None, All, Contains, refl, subst, sym, ap, ◌∙◌, arith}
use Rattle.std.proofs.Math.Nat.{div-add-mod}
use Rattle.std.proofs.lemmas.Bool.{and_parts, eqb-true, eq-eqb}
use Rattle.std.proofs.lemmas.List.Elements.{All-nil, All-cons, All-head, All-tail, All-contains, Contains-append_cases}
use Rattle.std.specs.Option.{option_map}
use Rattle.std.specs.Net.Addr.{ipv4_octets, IsCanonicalOf}
use Rattle.std.specs.declared.net.ipv4_addr.Ipv4Addr.{Ipv4Addr}
use Rattle.std.specs.declared.net.ipv6_addr.Ipv6Addr.{Ipv6Addr}
use Rattle.std.specs.declared.net.ip_addr.IpAddr.{IpAddr}
use Rattle.std.specs.declared.net.ip_addr.IpAddr.TheVariants.{V4, V6}
use Rattle.tac_devices.specs.Prefix.{Range, width, value, front, covers, same_prefix, IsBare, IsCanonical}
use Rattle.tac_devices.specs.declared.device.Device.{Device}
use Rattle.tac_devices.specs.Devices.{Spot, spots, IsNearestOf, IsNearest, IsFound, IsDeviceAt, Apart, IsTable}

-- ---- prefixes of one length that an address begins with

bare_same : (v w k : ℕ) → v / k ≡ w / k → v % k ≡ 0 → w % k ≡ 0 → v ≡ w
bare_same v w k same one two =
    sym (div-add-mod v k) ∙ ap (λ q. k * q + v % k) same ∙ ap (λ r. k * (w / k) + r) (one ∙ sym two) ∙ div-add-mod w k

plain_same : (v w m n x y : ℕ) → m ≡ n → x ≡ y → v / 2 ^ (m - x) ≡ w / 2 ^ (n - y) → v % 2 ^ (m - x) ≡ 0 → w % 2 ^ (n - y) ≡ 0 → v ≡ w
plain_same v w m n x y e f same one two =
    let power : 2 ^ (m - x) ≡ 2 ^ (n - y) = rw (e, f) refl in
    let one_too : v % 2 ^ (n - y) ≡ 0 = ap (λ k. v % k) (sym power) ∙ one in
    let same_too : v / 2 ^ (n - y) ≡ w / 2 ^ (n - y) = ap (λ k. v / k) (sym power) ∙ same in
    bare_same v w (2 ^ (n - y)) same_too one_too two

all_three : (a b c d e f : ℕ) → a ≡ b → c ≡ d → e ≡ f → ((eqb a b && eqb c d) && eqb e f) ≡ true
all_three a b c d e f one two three = rw (eq-eqb a b one, eq-eqb c d two, eq-eqb e f three) refl

pub same_covered : (p q : Range) (a : IpAddr) → p.length ≡ q.length → covers p a ≡ true → covers q a ≡ true → IsBare p.address p.length → IsBare q.address q.length → same_prefix p q ≡ true
same_covered p q a long one two bare also =
    let pieces = and_parts (eqb (width a) (width p.address)) (eqb (front a p.length) (front p.address p.length)) one in
    let others = and_parts (eqb (width a) (width q.address)) (eqb (front a q.length) (front q.address q.length)) two in
    let wide : width p.address ≡ width q.address = sym (eqb-true _ _ pieces.0) ∙ eqb-true _ _ others.0 in
    let fronts : front p.address p.length ≡ front q.address q.length =
    sym (eqb-true _ _ pieces.1) ∙ ap (front a) long ∙ eqb-true _ _ others.1 in
    let values = plain_same (value p.address) (value q.address) (width p.address) (width q.address) p.length q.length wide long fronts bare also in
    all_three p.length q.length (width p.address) (width q.address) (value p.address) (value q.address) long wide values

-- ---- no prefix stands twice

prefix_of : Spot → Range
prefix_of spot = spot.1.prefix

abbrev SpotsApart : List Spot → Type 0
SpotsApart [] = Unit {0}
SpotsApart (x ∷ xs) = All (λ (y : Spot). same_prefix y.1.prefix x.1.prefix ≡ false) xs × SpotsApart xs

unmapped : (P : Range → Type 0) (xs : List Spot) → All P (map (λ (s : Spot). s.1.prefix) xs) → All (λ (s : Spot). P s.1.prefix) xs
unmapped P [] h = All-nil (λ (s : Spot). P s.1.prefix)
unmapped P (x ∷ xs) h =
    All-cons (λ (s : Spot). P s.1.prefix) x xs (All-head P x.1.prefix (map (λ (s : Spot). s.1.prefix) xs) h)
    (unmapped P xs (All-tail P x.1.prefix (map (λ (s : Spot). s.1.prefix) xs) h))

spots_apart : (xs : List Spot) → Apart (map (λ (s : Spot). s.1.prefix) xs) → SpotsApart xs
spots_apart [] h = tt
spots_apart (x ∷ xs) h = (unmapped (λ other. same_prefix other x.1.prefix ≡ false) xs h.0, spots_apart xs h.1)

first_or_later : (x : Spot) (xs : List Spot) (y : Spot) → Contains (x ∷ xs) y → (x ≡ y) ⊎ Contains xs y
first_or_later x xs y h =
    ⊎_elim (λ t. inl (All-contains (λ (z : Spot). x ≡ z) (x ∷ []) y (All-cons (λ (z : Spot). x ≡ z) x [] refl (All-nil (λ (z : Spot). x ≡ z))) t)) (λ t. inr t)
    (Contains-append_cases (x ∷ []) xs y h)

none_within : (y : Spot) → Contains [] y → ⊥
none_within y h = let below : h.0 < length {A = Spot} [] = h.1 in omega arith

later_apart : (x y : Spot) (xs : List Spot) → All (λ (z : Spot). same_prefix z.1.prefix x.1.prefix ≡ false) xs → Contains xs y → same_prefix y.1.prefix x.1.prefix ≡ true → ⊥
later_apart x y xs apart there same =
    let not_so : same_prefix y.1.prefix x.1.prefix ≡ false = All-contains (λ (z : Spot). same_prefix z.1.prefix x.1.prefix ≡ false) xs y apart there in
    let wrong : true ≡ false = sym same ∙ not_so in
    absurd (cc)

contained_same : (xs : List Spot) (one two : Spot) → SpotsApart xs → Contains xs one → Contains xs two → same_prefix one.1.prefix two.1.prefix ≡ true → same_prefix two.1.prefix one.1.prefix ≡ true
    → one ≡ two
contained_same [] one two apart h k same also = absurd (none_within one h)
contained_same (x ∷ xs) one two apart h k same also =
    ⊎_elim (λ (e : x ≡ one). ⊎_elim (λ (f : x ≡ two). sym e ∙ f)
    (λ (later : Contains xs two). absurd (later_apart x two xs apart.0 later (subst (λ (z : Spot). same_prefix two.1.prefix z.1.prefix ≡ true) (sym e) also))) (first_or_later x xs two k))
    (λ (here : Contains xs one). ⊎_elim (λ (f : x ≡ two). absurd (later_apart x one xs apart.0 here (subst (λ (z : Spot). same_prefix one.1.prefix z.1.prefix ≡ true) (sym f) same)))
    (λ (later : Contains xs two). contained_same xs one two apart.1 here later same also) (first_or_later x xs two k))
    (first_or_later x xs one h)

-- ---- the nearest

none_and_some : (xs : List Spot) (a : IpAddr) (s : Spot) → IsNearestOf xs a None → IsNearestOf xs a (Some s) → ⊥
none_and_some xs a s none some =
    let not_so : covers s.1.prefix a ≡ false = All-contains (λ (z : Spot). covers z.1.prefix a ≡ false) xs s none some.0 in
    let wrong : true ≡ false = sym some.1 ∙ not_so in
    absurd (cc)

pub nearest_once : (devices : List Device) (a : IpAddr) (f g : Option Spot) → IsTable devices → IsNearest devices a f → IsNearest devices a g → f ≡ g
nearest_once devices a None None table h k = refl
nearest_once devices a None (Some g) table h k = absurd (none_and_some (spots devices) a g h k)
nearest_once devices a (Some f) None table h k = absurd (none_and_some (spots devices) a f k h)
nearest_once devices a (Some f) (Some g) table h k =
    let xs = spots devices in
    let up : f.1.prefix.length ≤ g.1.prefix.length = All-contains (λ (z : Spot). covers z.1.prefix a ≡ true → z.1.prefix.length ≤ g.1.prefix.length) xs f k.2 h.0 h.1 in
    let down : g.1.prefix.length ≤ f.1.prefix.length = All-contains (λ (z : Spot). covers z.1.prefix a ≡ true → z.1.prefix.length ≤ f.1.prefix.length) xs g h.2 k.0 k.1 in
    let long : f.1.prefix.length ≡ g.1.prefix.length = omega arith in
    let bare = unmapped (λ (p : Range). IsBare p.address p.length) xs table.bare in
    let one = All-contains (λ (z : Spot). IsBare z.1.prefix.address z.1.prefix.length) xs f bare h.0 in
    let two = All-contains (λ (z : Spot). IsBare z.1.prefix.address z.1.prefix.length) xs g bare k.0 in
    ap (λ (s : Spot). Some s) (contained_same xs f g (spots_apart xs table.apart) h.0 k.0
    (same_covered f.1.prefix g.1.prefix a long h.1 k.1 one two) (same_covered g.1.prefix f.1.prefix a (sym long) k.1 h.1 two one))

-- ---- one canonical address

same_octets : (a b : Ipv4Addr) → ipv4_octets a ≡ ipv4_octets b → a ≡ b
same_octets a b e = ap of_octets e
  where
    of_octets : List ℕ → Ipv4Addr
    of_octets octets = record { octets = octets }

canonical_of_once : (a : Ipv6Addr) (c d : IpAddr) → IsCanonicalOf a c → IsCanonicalOf a d → c ≡ d
canonical_of_once a (V4 c) (V4 d) h k = ap V4 (same_octets c d (h.1 ∙ sym k.1))
canonical_of_once a (V4 c) (V6 d) h k = absurd (k.0 h.0)
canonical_of_once a (V6 c) (V4 d) h k = absurd (h.0 k.0)
canonical_of_once a (V6 c) (V6 d) h k = ap V6 (h.1 ∙ sym k.1)

canonical_once : (a c d : IpAddr) → IsCanonical a c → IsCanonical a d → c ≡ d
canonical_once (V4 a) c d h k = h ∙ sym k
canonical_once (V6 a) c d h k = canonical_of_once a c d h k

pub found_once : (devices : List Device) (a : IpAddr) (f g : Option Spot) → IsTable devices → IsFound devices a f → IsFound devices a g → f ≡ g
found_once devices a f g table h k =
    nearest_once devices k.0 f g table (subst (λ (c : IpAddr). IsNearest devices c f) (canonical_once a h.0 k.0 h.1 k.1) h.2) k.2

pub device_once : (devices : List Device) (a : IpAddr) (d e : Option Device) → IsTable devices → IsDeviceAt devices a d → IsDeviceAt devices a e → d ≡ e
device_once devices a d e table h k =
    h.2 ∙ ap (λ (found : Option Spot). option_map (λ (spot : Spot). spot.0) found) (found_once devices a h.0 k.0 table h.1 k.1) ∙ sym k.2
