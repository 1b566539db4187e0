-- What the first so many bytes of version 2 are judged to be.
use Rattle.std.proofs.Common.{◌≡◌, ◌⊎◌, ℕ, ◌+◌, ◌-◌, ◌<◌, ◌≤◌, Bool, true, false, not, ◌&&◌, ◌||◌, cond, List, length, take, drop, Option, Some, None, refl, sym, ap, ◌∙◌, arith, inl, inr, lt-ltb, le-ltb}
use Rattle.std.specs.Prelude.{nat_lt}
use Rattle.std.proofs.lemmas.Bool.{cases_lt, ltb-true, ltb-false}
use Rattle.std.proofs.lemmas.List.{get_or-take, drop-take, take-take}
use Rattle.tac_proxy.specs.Binary.{most_bytes, addresses_size, told, found, command_of, kind_of, size_of, carried, is_command, is_kind, is_wrong_size, is_refused, judged, binary}
use Rattle.tac_proxy.specs.declared.binary.Transport.{Transport}
use Rattle.tac_proxy.specs.declared.told.Certificate.{Certificate}
use Rattle.tac_proxy.specs.declared.told.Header.{Header}
use Rattle.tac_proxy.specs.declared.told.Source.{Source}
use Rattle.tac_proxy.specs.declared.told.Proxy.{Proxy}
use Rattle.tac_proxy.specs.declared.told.Proxy.TheVariants.{Need, Fault, Found}

-- judged, by its tests
steps : Bool → Bool → Bool → Bool → Proxy → Proxy
steps refused short wrong open_end whole = cond refused Fault (cond short Need (cond wrong Fault (cond open_end Need whole)))

pub whole_of : List ℕ → Proxy
whole_of w = told (16 + size_of w) (carried w) (take (size_of w) (drop 16 w))

judged-steps : (n : ℕ) (w : List ℕ) → judged n w ≡ steps (is_refused n w) (nat_lt n 16) (is_wrong_size w) (nat_lt n (16 + size_of w)) (whole_of w)
unfolding judged steps whole_of
judged-steps n w = refl

all_false : (refused short wrong open_end : Bool) (whole : Proxy) → refused ≡ false → short ≡ false → wrong ≡ false → open_end ≡ false → steps refused short wrong open_end whole ≡ whole
unfolding steps
all_false refused short wrong open_end whole e f g h = rw (e, f, g, h) refl

pub binary_whole : (bytes : List ℕ) (size : ℕ) (transport : Transport) (block : List ℕ) (result : Proxy) → is_refused (length bytes) bytes ≡ false → 16 ≤ length bytes → size ≡ size_of bytes → transport ≡ carried bytes
    → (nat_lt most_bytes size || nat_lt size (addresses_size transport)) ≡ false → 16 + size ≤ length bytes → block ≡ take size (drop 16 bytes) → result ≡ told (16 + size) transport block → result ≡ binary bytes
unfolding whole_of
binary_whole bytes size transport block result refused long size_is carried_is wrong there block_is is =
    let same : result ≡ whole_of bytes = is ∙ by size transport block size_is carried_is block_is in
    let wrong_too : is_wrong_size bytes ≡ false = rw (← size_is, ← carried_is) wrong in
    let open_end : nat_lt (length bytes) (16 + size_of bytes) ≡ false = le-ltb (length bytes) (16 + size_of bytes) (rw (← size_is) there) in
    same ∙ sym (judged-steps (length bytes) bytes ∙ all_false _ _ _ _ _ refused (le-ltb (length bytes) 16 long) wrong_too open_end)
  where
    by : (s : ℕ) (t : Transport) (b : List ℕ) → s ≡ size_of bytes → t ≡ carried bytes → b ≡ take s (drop 16 bytes) → told (16 + s) t b ≡ whole_of bytes
    by s t b e f g = cc

-- ---- the first so many bytes

refused_by : (n : ℕ) (c k : Bool) → Bool
refused_by n c k = (nat_lt 12 n && not c) || (nat_lt 13 n && not k)

same_and : (n m : ℕ) (a b : Bool) → (n < m → a ≡ b) → (nat_lt n m && not a) ≡ (nat_lt n m && not b)
same_and n m a b same =
    elim (cases_lt n m) [
      | inl lt ↦ ap (λ (x : Bool). nat_lt n m && not x) (same lt)
      | inr le ↦ rw (le-ltb n m le) refl
    ]

command-take : (n : ℕ) (w : List ℕ) → 12 < n → command_of (take n w) ≡ command_of w
command-take n w lt = get_or-take n w 12 0 lt

kind-take : (n : ℕ) (w : List ℕ) → 13 < n → kind_of (take n w) ≡ kind_of w
kind-take n w lt = get_or-take n w 13 0 lt

size-take : (n : ℕ) (w : List ℕ) → 16 ≤ n → size_of (take n w) ≡ size_of w
size-take n w le = rw (get_or-take n w 14 0 (omega arith), get_or-take n w 15 0 (omega arith)) refl

carried-take : (n : ℕ) (w : List ℕ) → 16 ≤ n → carried (take n w) ≡ carried w
carried-take n w le = rw (command-take n w (omega arith), kind-take n w (omega arith)) refl

refused-take : (n : ℕ) (w : List ℕ) → is_refused n (take n w) ≡ is_refused n w
refused-take n w =
    let one = same_and 12 n (is_command (command_of (take n w))) (is_command (command_of w)) (λ lt. ap is_command (command-take n w lt)) in
    let two = same_and 13 n (is_kind (command_of (take n w)) (kind_of (take n w))) (is_kind (command_of w) (kind_of w))
    (λ lt. ap (λ (c : ℕ). is_kind c (kind_of (take n w))) (command-take n w (omega arith)) ∙ ap (is_kind (command_of w)) (kind-take n w lt)) in
    by one two
  where
    by : {a b c d : Bool} → a ≡ b → c ≡ d → (a || c) ≡ (b || d)
    by e f = cc

wrong-take : (n : ℕ) (w : List ℕ) → 16 ≤ n → is_wrong_size (take n w) ≡ is_wrong_size w
wrong-take n w le = by (size-take n w le) (carried-take n w le)
  where
    by : {s t : ℕ} {a b : Transport} → s ≡ t → a ≡ b → (nat_lt most_bytes s || nat_lt s (addresses_size a)) ≡ (nat_lt most_bytes t || nat_lt t (addresses_size b))
    by e f = cc

whole-take : (n : ℕ) (w : List ℕ) → 16 + size_of w ≤ n → whole_of (take n w) ≡ whole_of w
unfolding whole_of
whole-take n w le =
    let size : size_of (take n w) ≡ size_of w = size-take n w (omega arith) in
    let carries : carried (take n w) ≡ carried w = carried-take n w (omega arith) in
    let more : 16 + (n - 16) ≡ n = omega arith in
    let front : drop 16 (take n w) ≡ take (n - 16) (drop 16 w) = ap (λ (m : ℕ). drop 16 (take m w)) (sym more) ∙ drop-take 16 (n - 16) w in
    let block : take (size_of w) (drop 16 (take n w)) ≡ take (size_of w) (drop 16 w) = ap (take (size_of w)) front ∙ take-take (size_of w) (n - 16) (drop 16 w) (omega arith) in
    by size carries block
  where
    by : {s t : ℕ} {a b : Transport} {d : List ℕ} → s ≡ t → a ≡ b → take t (drop 16 (take n w)) ≡ d → told (16 + s) a (take s (drop 16 (take n w))) ≡ told (16 + t) b d
    by e f g = rw (e, f, g) refl

same_steps : (r s x x' y y' : Bool) (z z' : Proxy) → x ≡ x' → y ≡ y' → (y' ≡ false → z ≡ z') → steps r s x y z ≡ steps r s x' y' z'
unfolding steps
same_steps r s x x' y true z z' e f g = rw (e, f) refl
same_steps r s x x' y false z z' e f g = rw (e, f, g refl) refl

short_steps : (r x x' y y' : Bool) (z z' : Proxy) → steps r true x y z ≡ steps r true x' y' z'
unfolding steps
short_steps true x x' y y' z z' = refl
short_steps false x x' y y' z z' = refl

-- bytes past the first so many don't count
pub judged-take : (n : ℕ) (w : List ℕ) → judged n (take n w) ≡ judged n w
judged-take n w =
    judged-steps n (take n w) ∙ ap (λ (r : Bool). steps r (nat_lt n 16) (is_wrong_size (take n w)) (nat_lt n (16 + size_of (take n w))) (whole_of (take n w))) (refused-take n w)
    ∙ rest (cases_lt n 16) ∙ sym (judged-steps n w)
  where
    open_end : 16 ≤ n → nat_lt n (16 + size_of (take n w)) ≡ nat_lt n (16 + size_of w)
    open_end le = ap (λ (s : ℕ). nat_lt n (16 + s)) (size-take n w le)

    rest : (n < 16) ⊎ (16 ≤ n)
        → steps (is_refused n w) (nat_lt n 16) (is_wrong_size (take n w)) (nat_lt n (16 + size_of (take n w))) (whole_of (take n w)) ≡ steps (is_refused n w) (nat_lt n 16) (is_wrong_size w) (nat_lt n (16 + size_of w)) (whole_of w)
    rest (inl lt) = rw (lt-ltb n 16 lt) (short_steps _ _ _ _ _ _ _)
    rest (inr le) = same_steps _ _ _ _ _ _ _ _ (wrong-take n w le) (open_end le) (λ e. whole-take n w (ltb-false _ _ e))

-- ---- what is judged stays

or_false : (a b : Bool) → (a || b) ≡ false → (a ≡ false) × (b ≡ false)
or_false true b e = absurd cc
or_false false b e = (refl, e)

refused_less : (n m : ℕ) (w : List ℕ) → n ≤ m → is_refused m w ≡ false → is_refused n w ≡ false
refused_less n m w le e = by (is_command (command_of w)) (is_kind (command_of w) (kind_of w)) e
  where
    less : (k : ℕ) (c : Bool) → (nat_lt k m && not c) ≡ false → (nat_lt k n && not c) ≡ false
    less k true h = elim (nat_lt k n) as (λ b. (b && false) ≡ false) [ true ↦ refl | false ↦ refl ]
    less k false h = elim (cases_lt k n) [
      | inl lt ↦ let yes : nat_lt k m ≡ true = lt-ltb k m (omega arith) in let wrong : true ≡ false = sym (ap (λ b. b && true) yes) ∙ h in absurd (cc)
      | inr past ↦ rw (le-ltb k n past) refl
    ]

    by : (c k : Bool) → ((nat_lt 12 m && not c) || (nat_lt 13 m && not k)) ≡ false → ((nat_lt 12 n && not c) || (nat_lt 13 n && not k)) ≡ false
    by c k e =
        let parts = or_false _ _ e in
        rw (less 12 c parts.0, less 13 k parts.1) refl

-- sixteen bytes are judged alike, whatever follows
refused_same : (n m : ℕ) (w : List ℕ) → 16 ≤ n → 16 ≤ m → is_refused m w ≡ is_refused n w
refused_same n m w le le' = rw (lt-ltb 12 n (omega arith), lt-ltb 13 n (omega arith), lt-ltb 12 m (omega arith), lt-ltb 13 m (omega arith)) refl

at : (n : ℕ) (w : List ℕ) (a b c d : Bool) → is_refused n w ≡ a → nat_lt n 16 ≡ b → is_wrong_size w ≡ c → nat_lt n (16 + size_of w) ≡ d → judged n w ≡ steps a b c d (whole_of w)
at n w a b c d e f g h = judged-steps n w ∙ rw (e, f, g, h) refl

fault_first : (b c d : Bool) (p : Proxy) → steps true b c d p ≡ Fault
unfolding steps
fault_first b c d p = refl

need_short : (c d : Bool) (p : Proxy) → steps false true c d p ≡ Need
unfolding steps
need_short c d p = refl

fault_wrong : (d : Bool) (p : Proxy) → steps false false true d p ≡ Fault
unfolding steps
fault_wrong d p = refl

need_open : (p : Proxy) → steps false false false true p ≡ Need
unfolding steps
need_open p = refl

whole_last : (p : Proxy) → steps false false false false p ≡ p
unfolding steps
whole_last p = refl

pub judged_stays : (n m : ℕ) (w : List ℕ) → n ≤ m → (judged n w ≡ Need → ⊥) → judged m w ≡ judged n w
judged_stays n m w le decided = first (is_refused n w) refl
  where
    size : ℕ
    size = size_of w

    last : is_refused n w ≡ false → 16 ≤ n → is_wrong_size w ≡ false → (n < 16 + size) ⊎ (16 + size ≤ n) → judged m w ≡ judged n w
    last e le16 f (inl lt) = absurd (decided (at n w false false false true e (le-ltb n 16 le16) f (lt-ltb n (16 + size) lt) ∙ need_open (whole_of w)))
    last e le16 f (inr there) =
        at m w false false false false (refused_same n m w le16 (omega arith) ∙ e) (le-ltb m 16 (omega arith)) f (le-ltb m (16 + size) (omega arith))
        ∙ sym (at n w false false false false e (le-ltb n 16 le16) f (le-ltb n (16 + size) there))

    third : is_refused n w ≡ false → 16 ≤ n → (b : Bool) → is_wrong_size w ≡ b → judged m w ≡ judged n w
    third e le16 true f =
        at m w false false true _ (refused_same n m w le16 (omega arith) ∙ e) (le-ltb m 16 (omega arith)) f refl ∙ fault_wrong _ _
        ∙ sym (at n w false false true _ e (le-ltb n 16 le16) f refl ∙ fault_wrong _ _)
    third e le16 false f = last e le16 f (cases_lt n (16 + size))

    second : is_refused n w ≡ false → (n < 16) ⊎ (16 ≤ n) → judged m w ≡ judged n w
    second e (inl lt) = absurd (decided (at n w false true _ _ e (lt-ltb n 16 lt) refl refl ∙ need_short _ _ _))
    second e (inr le16) = third e le16 (is_wrong_size w) refl

    more : (b : Bool) → is_refused m w ≡ b → is_refused n w ≡ true → judged m w ≡ judged n w
    more true f e = at m w true _ _ _ f refl refl refl ∙ fault_first _ _ _ _ ∙ sym (at n w true _ _ _ e refl refl refl ∙ fault_first _ _ _ _)
    more false f e = let wrong : true ≡ false = sym e ∙ refused_less n m w le f in absurd (cc)

    first : (b : Bool) → is_refused n w ≡ b → judged m w ≡ judged n w
    first true e = more (is_refused m w) refl e
    first false e = second e (cases_lt n 16)

-- ---- a header that is found

steps_found : (a b c d : Bool) (p : Proxy) (h : Header) → steps a b c d p ≡ Found h → (a ≡ false) × (b ≡ false) × (c ≡ false) × (d ≡ false) × (p ≡ Found h)
unfolding steps
steps_found true b c d p h e = absurd cc
steps_found false true c d p h e = absurd cc
steps_found false false true d p h e = absurd cc
steps_found false false false true p h e = absurd cc
steps_found false false false false p h e = (refl, refl, refl, refl, e)

found_used : (used : ℕ) (source : Source) (certificate : Option Certificate) (h : Header) → found used source certificate ≡ Found h → h.used ≡ used
found_used used source None h e = absurd cc
found_used used source (Some certificate) h e = cc

whole_used : (w : List ℕ) (h : Header) → whole_of w ≡ Found h → h.used ≡ 16 + size_of w
unfolding whole_of
whole_used w h e = found_used (16 + size_of w) _ _ h e

size_bound : (w : List ℕ) → is_wrong_size w ≡ false → size_of w ≤ 520
size_bound w e = ltb-false _ _ (or_false _ _ e).0

pub record IsJudgedFound (n : ℕ) (w : List ℕ) (h : Header) : Type 0 where
  pub refused : is_refused n w ≡ false
  pub right : is_wrong_size w ≡ false
  pub used : h.used ≡ 16 + size_of w
  pub there : h.used ≤ n
  pub short : h.used ≤ 536
  pub whole : whole_of w ≡ Found h

pub found_parts : (n : ℕ) (w : List ℕ) (h : Header) → judged n w ≡ Found h → IsJudgedFound n w h
found_parts n w h e =
    let parts = steps_found _ _ _ _ _ h (sym (judged-steps n w) ∙ e) in
    let used = whole_used w h parts.4 in
    record {
      refused = parts.0;
      right = parts.2;
      used = used;
      there = omega (arith, used, ltb-false _ _ parts.3);
      short = omega (arith, used, size_bound w parts.2);
      whole = parts.4;
    }

-- it is found in its own bytes
pub found_alone : (n : ℕ) (w : List ℕ) (h : Header) → IsJudgedFound n w h → judged h.used w ≡ Found h
found_alone n w h is =
    let used : h.used ≡ 16 + size_of w = is.used in
    at h.used w false false false false (refused_less h.used n w is.there is.refused) (le-ltb h.used 16 (omega arith)) is.right (le-ltb h.used (16 + size_of w) (omega arith)) ∙ whole_last _ ∙ is.whole

-- and of fewer bytes it is waited on
pub found_fewer : (n m : ℕ) (w : List ℕ) (h : Header) → IsJudgedFound n w h → m < h.used → judged m w ≡ Need
found_fewer n m w h is lt = by (cases_lt m 16)
  where
    used : h.used ≡ 16 + size_of w
    used = is.used

    refused : is_refused m w ≡ false
    refused = refused_less m n w (omega (arith, is.there)) is.refused

    by : (m < 16) ⊎ (16 ≤ m) → judged m w ≡ Need
    by (inl few) = at m w false true _ _ refused (lt-ltb m 16 few) refl refl ∙ need_short _ _ _
    by (inr many) = at m w false false false true refused (le-ltb m 16 many) is.right (lt-ltb m (16 + size_of w) (omega (arith, is.used))) ∙ need_open _

steps_need : (a b c d : Bool) (p : Proxy) → (p ≡ Need → ⊥) → steps a b c d p ≡ Need → (b ≡ true) ⊎ ((c ≡ false) × (d ≡ true))
unfolding steps
steps_need true b c d p other e = absurd cc
steps_need false true c d p other e = inl refl
steps_need false false true d p other e = absurd cc
steps_need false false false true p other e = inr (refl, refl)
steps_need false false false false p other e = absurd (other e)

found_no_need : (used : ℕ) (source : Source) (certificate : Option Certificate) → found used source certificate ≡ Need → ⊥
found_no_need used source None e = cc
found_no_need used source (Some certificate) e = cc

whole_no_need : (w : List ℕ) → whole_of w ≡ Need → ⊥
unfolding whole_of
whole_no_need w e = found_no_need (16 + size_of w) _ _ e

pub need_bound : (n : ℕ) (w : List ℕ) → judged n w ≡ Need → n < 536
need_bound n w e =
    elim (steps_need _ _ _ _ _ (whole_no_need w) (sym (judged-steps n w) ∙ e)) [
      | inl short ↦ let lt = ltb-true _ _ short in omega arith
      | inr (right, open_end) ↦ let lt = ltb-true _ _ open_end in let le = size_bound w right in omega arith
    ]

-- twelve bytes or fewer are waited on
pub few_need : (n : ℕ) (w : List ℕ) → n ≤ 12 → judged n w ≡ Need
few_need n w le =
    let refused : is_refused n w ≡ false = rw (le-ltb 12 n le, le-ltb 13 n (omega arith)) refl in
    at n w false true _ _ refused (lt-ltb n 16 (omega arith)) refl refl ∙ need_short _ _ _
