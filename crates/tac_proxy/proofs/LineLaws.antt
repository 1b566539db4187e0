-- A line is read once, and stays what it is.
use Rattle.std.proofs.Common.{◌≡◌, inl, inr, ℕ, zero, suc, ◌+◌, ◌-◌, ◌<◌, ◌≤◌, Bool, true, false, ◌||◌, List, [], ◌∷◌, ◌++◌, length, get_or, take, drop, Option, Some, None, codes, refl, sym, ap, subst, ◌∙◌, arith, take_at}
use Rattle.std.specs.List.{AllByRecursion}
use Rattle.std.specs.declared.net.ip_addr.IpAddr.{IpAddr}
use Rattle.std.specs.declared.net.ip_addr.IpAddr.TheVariants as Ip
use Rattle.std.specs.declared.net.socket_addr.SocketAddr.{SocketAddr}
use Rattle.std.proofs.NetLemmas.Theorems.{IsIpText_unique}
use Rattle.std.proofs.lemmas.Option.{same_Some}
use Rattle.std.proofs.lemmas.Fmt.{decimal_injective}
use Rattle.std.proofs.lemmas.Bool.{cases_lt}
use Rattle.std.proofs.lemmas.List.{get_or-take, take-take, take-append-drop, length-take, get_or_append_left, get_or-append_right, get_or_at, get_or-append-add}
use Rattle.tac_proxy.specs.Line.{socket_of, family_word, TellsCaller, TellsNone, Tells, HasEnd, EndsAt, BeginsWithLine, line_header, is_begun, MayBecomeLine, ReadsLine}
use Rattle.tac_proxy.specs.Words.{SixWords, WordsTell}
use Rattle.tac_proxy.specs.declared.told.Header.{Header}
use Rattle.tac_proxy.specs.declared.told.Source.{Source}
use Rattle.tac_proxy.specs.declared.told.Source.TheVariants.{Local, Unknown, Caller}
use Rattle.tac_proxy.specs.declared.told.Proxy.{Proxy}
use Rattle.tac_proxy.specs.declared.told.Proxy.TheVariants.{Need, Fault, Found}
use Rattle.tac_proxy.proofs.FrontFacts.{agrees-take, read-take, read-within}
use Rattle.tac_proxy.proofs.SpaceFacts.{IsWord}
use Rattle.tac_proxy.proofs.WordFacts.{caller-words, line-six_words, words_are}

-- ---- a line tells one thing

words_once : (w : SixWords) (a b : SocketAddr) → WordsTell w a → WordsTell w b → a ≡ b
words_once w a b h k =
    let address = IsIpText_unique _ _ _ h.source_address k.source_address in
    let port : h.source_port ≡ k.source_port = decimal_injective _ _ (omega (arith, h.source_digits.1)) (omega (arith, k.source_digits.1)) (sym h.source_digits.0 ∙ k.source_digits.0) in
    h.told ∙ ap (λ (ip : IpAddr). socket_of ip h.source_port) address ∙ ap (socket_of k.source) port ∙ sym k.told

caller_once : (line : List ℕ) (a b : SocketAddr) → TellsCaller line a → TellsCaller line b → a ≡ b
caller_once line a b h k =
    let one = caller-words line a h in
    let two = caller-words line b k in
    let same : one.0 ≡ two.0 = same_Some _ _ (sym one.1 ∙ two.1) in
    words_once two.0 a b (subst (λ (w : SixWords). WordsTell w a) same one.2) two.2

seventh : (ip : IpAddr) (s t a b : List ℕ) → get_or (codes "PROXY " ++ family_word ip ++ codes " " ++ s ++ codes " " ++ t ++ codes " " ++ a ++ codes " " ++ b) 6 0 ≡ 84
seventh (Ip.V4 a) s t p q = refl
seventh (Ip.V6 a) s t p q = refl

caller_or_none : (line : List ℕ) (a : SocketAddr) → TellsCaller line a → TellsNone line → ⊥
caller_or_none line a h k =
    let t : get_or line 6 0 ≡ 84 = ap (λ (l : List ℕ). get_or l 6 0) h.spelled ∙ seventh h.source _ _ _ _ in
    elim k [
      | inl e ↦ let u : get_or line 6 0 ≡ 85 = ap (λ (l : List ℕ). get_or l 6 0) e in absurd (omega arith)
      | inr (rest, e) ↦ let u : get_or line 6 0 ≡ 85 = ap (λ (l : List ℕ). get_or l 6 0) e in absurd (omega arith)
    ]

tells_once : (line : List ℕ) (a b : Source) → Tells line a → Tells line b → a ≡ b
tells_once line (Caller a) (Caller b) h k = ap (λ (x : SocketAddr). Caller x) (caller_once line a b h k)
tells_once line (Caller a) Unknown h k = absurd (caller_or_none line a h k)
tells_once line Unknown (Caller b) h k = absurd (caller_or_none line b k h)
tells_once line Unknown Unknown h k = refl
tells_once line Local b h k = absurd h
tells_once line (Caller a) Local h k = absurd k
tells_once line Unknown Local h k = absurd k

-- ---- a line ends once

ends_once : (w : List ℕ) (a b : ℕ) → EndsAt w a → EndsAt w b → a ≡ b
ends_once w a b h k =
    elim (cases_lt a b) [
      | inl lt ↦ absurd (k.first a lt h.here)
      | inr le ↦ elim (cases_lt b a) [ inl lt ↦ absurd (h.first b lt k.here) | inr le' ↦ omega arith ]
    ]

end-within : (w : List ℕ) (at : ℕ) → HasEnd w at → at + 2 ≤ length w
end-within w at h = let lt = read-within w (at + 1) 10 (omega arith) h.lf in omega arith

end-untake : (n : ℕ) (w : List ℕ) (at : ℕ) → HasEnd (take n w) at → (at + 2 ≤ n) × HasEnd w at
end-untake n w at h =
    let cr = read-take n w at 13 (omega arith) h.cr in
    let lf = read-take n w (at + 1) 10 (omega arith) h.lf in
    (omega (arith, lf.0), record { cr = cr.1; lf = lf.1 })

end-take : (n : ℕ) (w : List ℕ) (at : ℕ) → at + 2 ≤ n → HasEnd w at → HasEnd (take n w) at
end-take n w at le h = record {
  cr = get_or-take n w at 0 (omega arith) ∙ h.cr;
  lf = get_or-take n w (at + 1) 0 (omega arith) ∙ h.lf;
}

-- ---- how a line begins

caller_begun : (ip : IpAddr) (s t a b rest : List ℕ) → is_begun ((codes "PROXY " ++ family_word ip ++ codes " " ++ s ++ codes " " ++ t ++ codes " " ++ a ++ codes " " ++ b) ++ rest) ≡ true
caller_begun (Ip.V4 a) s t p q rest = refl
caller_begun (Ip.V6 a) s t p q rest = refl

tells_begun : (line rest : List ℕ) (source : Source) → Tells line source → is_begun (line ++ rest) ≡ true
tells_begun line rest (Caller caller) h = ap (λ (l : List ℕ). is_begun (l ++ rest)) h.spelled ∙ caller_begun h.source _ _ _ _ rest
tells_begun line rest Unknown (inl e) = ap (λ (l : List ℕ). is_begun (l ++ rest)) e
tells_begun line rest Unknown (inr (more, e)) = ap (λ (l : List ℕ). is_begun (l ++ rest)) e
tells_begun line rest Local h = absurd h

or_each : (a b c a' b' c' : Bool) → (a ≡ true → a' ≡ true) → (b ≡ true → b' ≡ true) → (c ≡ true → c' ≡ true) → ((a || b) || c) ≡ true → ((a' || b') || c') ≡ true
or_each true b c a' b' c' f g h e = rw (f refl) refl
or_each false true c true b' c' f g h e = refl
or_each false true c false b' c' f g h e = rw (g refl) refl
or_each false false true true b' c' f g h e = refl
or_each false false true false true c' f g h e = refl
or_each false false true false false c' f g h e = h refl
or_each false false false a' b' c' f g h e = absurd cc

pub begun-take : (n : ℕ) (w : List ℕ) → is_begun w ≡ true → is_begun (take n w) ≡ true
begun-take n w h =
    or_each _ _ _ _ _ _ (agrees-take (codes "PROXY TCP4 ") w n) (agrees-take (codes "PROXY TCP6 ") w n) (agrees-take (codes "PROXY UNKNOWN") w n) h

pub begins_begun : (w : List ℕ) (header : Header) → BeginsWithLine w header → is_begun w ≡ true
begins_begun w header h =
    let whole = tells_begun (take h.size w) (drop h.size w) header.source h.tells in
    ap is_begun (sym (take-append-drop h.size w)) ∙ whole

-- ---- the first so many bytes

pub begins-there : (w : List ℕ) (header : Header) → BeginsWithLine w header → (header.used ≤ length w) × (header.used ≤ 107) × (2 ≤ header.used)
begins-there w header h =
    let within = end-within w h.size h.ends.here in
    (omega (arith, h.used), omega (arith, h.used, h.short), omega (arith, h.used))

pub begins-take : (n : ℕ) (w : List ℕ) (header : Header) → header.used ≤ n → BeginsWithLine w header → BeginsWithLine (take n w) header
begins-take n w header le h =
    let fits : h.size + 2 ≤ n = omega (arith, h.used) in
    record {
      size = h.size;
      ends =
          record {
            here = end-take n w h.size fits h.ends.here;
            first = λ k lt end. h.ends.first k lt (end-untake n w k end).1;
          };
      short = h.short;
      tells = subst (λ (l : List ℕ). Tells l header.source) (sym (take-take h.size n w (omega arith))) h.tells;
      no_certificate = h.no_certificate;
      used = h.used;
    }

pub begins-untake : (n : ℕ) (w : List ℕ) (header : Header) → BeginsWithLine (take n w) header → BeginsWithLine w header
begins-untake n w header h =
    let here = end-untake n w h.size h.ends.here in
    record {
      size = h.size;
      ends =
          record {
            here = here.1;
            first = λ k lt end. h.ends.first k lt (end-take n w k (omega (arith, here.0)) end);
          };
      short = h.short;
      tells = subst (λ (l : List ℕ). Tells l header.source) (take-take h.size n w (omega (arith, here.0))) h.tells;
      no_certificate = h.no_certificate;
      used = h.used;
    }

pub begins-fewer : (n : ℕ) (w : List ℕ) (header : Header) → n < header.used → BeginsWithLine w header → MayBecomeLine (take n w)
begins-fewer n w header lt h = record {
  begun = begun-take n w (begins_begun w header h);
  open_end = λ at end.
      let there = end-untake n w at end in
      h.ends.first at (omega (arith, there.0, h.used)) there.1;
  short = omega (arith, length-take n w, h.used, h.short);
}

pub may-take : (n : ℕ) (w : List ℕ) → MayBecomeLine w → MayBecomeLine (take n w)
may-take n w h = record {
  begun = begun-take n w h.begun;
  open_end = λ at end. h.open_end at (end-untake n w at end).1;
  short = omega (arith, length-take n w, h.short);
}

-- ---- what is read

header_once : (a b : Header) → a.source ≡ b.source → a.certificate ≡ b.certificate → a.used ≡ b.used → a ≡ b
header_once a b e f g = λ i. record { source = e i; certificate = f i; used = g i }

begins_once : (w : List ℕ) (a b : Header) → BeginsWithLine w a → BeginsWithLine w b → a ≡ b
begins_once w a b h k =
    let size = ends_once w h.size k.size h.ends k.ends in
    let told = subst (λ (n : ℕ). Tells (take n w) a.source) size h.tells in
    header_once a b (tells_once _ _ _ told k.tells) (h.no_certificate ∙ sym k.no_certificate) (h.used ∙ ap (λ (n : ℕ). n + 2) size ∙ sym k.used)

pub line_once : (w : List ℕ) (a b : Proxy) → ReadsLine w a → ReadsLine w b → a ≡ b
line_once w (Found a) (Found b) h k = ap Found (begins_once w a b h k)
line_once w (Found a) Need h k = absurd (k.open_end _ h.ends.here)
line_once w (Found a) Fault h k = absurd (k.1 a h)
line_once w Need (Found b) h k = absurd (h.open_end _ k.ends.here)
line_once w Need Need h k = refl
line_once w Need Fault h k = absurd (k.0 h)
line_once w Fault (Found b) h k = absurd (h.1 b k)
line_once w Fault Need h k = absurd (h.0 k)
line_once w Fault Fault h k = refl

-- a header and a fault stay, whatever follows
pub line_stays : (n : ℕ) (w : List ℕ) (proxy : Proxy) → (proxy ≡ Need → ⊥) → ReadsLine (take n w) proxy → ReadsLine w proxy
line_stays n w (Found header) judged h = begins-untake n w header h
line_stays n w Need judged h = absurd (judged refl)
line_stays n w Fault judged h = (
  λ may. h.0 (may-take n w may),
  λ header begins. elim (cases_lt n header.used) [
    | inl lt ↦ h.0 (begins-fewer n w header lt begins)
    | inr le ↦ h.1 header (begins-take n w header le begins)
  ],
)

-- ---- a line that tells a caller, as it is written

above_cr : (text : List ℕ) → IsWord text → (k : ℕ) → get_or text k 0 ≡ 13 → ⊥
above_cr text h k e = by text h.all k e
  where
    by : (text : List ℕ) → AllByRecursion (λ byte. 32 < byte) text → (k : ℕ) → get_or text k 0 ≡ 13 → ⊥
    by [] h k e = absurd (omega arith)
    by (x ∷ text) h zero e = let lt = h.0 in omega arith
    by (x ∷ text) h (suc k) e = by text h.1 k e

-- no CR
record IsFree (text : List ℕ) : Type 0 where
  free : (k : ℕ) → get_or text k 0 ≡ 13 → ⊥

free_append : (a b : List ℕ) → IsFree a → IsFree b → IsFree (a ++ b)
free_append a b h k = record {
  free = λ i e. elim (cases_lt i (length a)) [
    | inl lt ↦ h.free i (sym (get_or_append_left a b 0 i lt) ∙ e)
    | inr le ↦ k.free (i - length a) (sym (get_or-append_right a b (length a) i 0 refl le) ∙ e)
  ];
}

free_word : (text : List ℕ) → IsWord text → IsFree text
free_word text h = record { free = above_cr text h }

free_space : (text : List ℕ) → IsFree text → IsFree (32 ∷ text)
free_space text h = record { free = λ k e. by k e }
  where
    by : (k : ℕ) → get_or (32 ∷ text) k 0 ≡ 13 → ⊥
    by zero e = absurd (omega arith)
    by (suc k) e = h.free k e

caller_free : (line : List ℕ) (caller : SocketAddr) → TellsCaller line caller → IsFree line
caller_free line caller h =
    let (w, is, tells) = caller-words line caller h in
    let words = words_are w caller tells in
    subst IsFree (sym (line-six_words line w is))
    (free_append _ _ (free_word _ words.0) (free_space _ (free_append _ _ (free_word _ words.1) (free_space _ (free_append _ _ (free_word _ words.2) (free_space _ (free_append _ _ (free_word _ words.3)
    (free_space _ (free_append _ _ (free_word _ words.4) (free_space _ (free_word _ words.5)))))))))))

pub line_written : (line rest : List ℕ) (caller : SocketAddr) → TellsCaller line caller → length line + 2 ≤ 107 → BeginsWithLine (line ++ 13 ∷ 10 ∷ rest) (line_header line caller)
line_written line rest caller h short = record {
  size = length line;
  ends = record {
    here = record { cr = get_or_at line 13 (10 ∷ rest) 0 (length line) refl; lf = get_or-append-add line (13 ∷ 10 ∷ rest) 1 0 };
    first = λ k lt end. (caller_free line caller h).free k (sym (get_or_append_left line (13 ∷ 10 ∷ rest) 0 k lt) ∙ end.cr);
  };
  short = short;
  tells = subst (λ (l : List ℕ). TellsCaller l caller) (sym (take_at line (13 ∷ 10 ∷ rest) (length line) refl)) h;
  no_certificate = refl;
  used = refl;
}
