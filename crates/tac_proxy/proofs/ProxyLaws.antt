-- What is read of bytes, of more and of fewer.
use Rattle.std.proofs.Common.{◌≡◌, ◌⊎◌, inl, inr, ℕ, ◌+◌, ◌<◌, ◌≤◌, Bool, true, false, ◌||◌, ◌&&◌, eqb, eqb-true, List, [], ◌∷◌, ◌++◌, length, take, refl, sym, ap, subst, ◌∙◌, arith, take_at}
use Rattle.std.specs.Bool.{MatchBool}
use Rattle.std.proofs.lemmas.Bool.{cases_lt}
use Rattle.std.proofs.lemmas.List.{length-take, length-append, length-take-le}
use Rattle.tac_proxy.specs.Front.{agrees}
use Rattle.std.specs.declared.net.socket_addr.SocketAddr.{SocketAddr}
use Rattle.tac_proxy.specs.Line.{TellsCaller, line_header, is_begun, ReadsLine, BeginsWithLine}
use Rattle.tac_proxy.specs.Binary.{signature, judged, binary}
use Rattle.tac_proxy.specs.Proxy.{Reads, IfFound, IsNeed, IsWhole}
use Rattle.tac_proxy.specs.declared.told.Header.{Header}
use Rattle.tac_proxy.specs.declared.told.Proxy.{Proxy}
use Rattle.tac_proxy.specs.declared.told.Proxy.TheVariants.{Need, Fault, Found}
use Rattle.tac_proxy.proofs.FrontFacts.{agrees-take, agrees-more}
use Rattle.tac_proxy.proofs.LineLaws.{line_once, line_stays, begins_begun, begins-there, begins-take, begins-fewer, begun-take, line_written}
use Rattle.tac_proxy.proofs.BinaryFacts.{judged-take, judged_stays, found_parts, found_alone, found_fewer, need_bound, few_need}

either_by : {P Q R : Type 0} (b : Bool) → MatchBool b P Q → (b ≡ true → P → R) → (b ≡ false → Q → R) → R
either_by true h f g = f refl h
either_by false h f g = g refl h

pub reads_binary : (w : List ℕ) (proxy : Proxy) → agrees signature w ≡ true → proxy ≡ binary w → Reads w proxy
reads_binary w proxy e p = subst (λ (b : Bool). MatchBool b (proxy ≡ binary w) (ReadsLine w proxy)) (sym e) p

reads_line : (w : List ℕ) (proxy : Proxy) → agrees signature w ≡ false → ReadsLine w proxy → Reads w proxy
reads_line w proxy e p = subst (λ (b : Bool). MatchBool b (proxy ≡ binary w) (ReadsLine w proxy)) (sym e) p

not_both : {R : Type 0} (b : Bool) → b ≡ true → b ≡ false → R
not_both b e f = absurd cc

-- the first so many bytes as version 2
binary-take : (n : ℕ) (w : List ℕ) → n ≤ length w → binary (take n w) ≡ judged n w
binary-take n w le = ap (λ (m : ℕ). judged m (take n w)) (length-take-le n w le) ∙ judged-take n w

pub reads_once : (w : List ℕ) (a b : Proxy) → Reads w a → Reads w b → a ≡ b
reads_once w a b h k =
    either_by (agrees signature w) h
    (λ e one. either_by (agrees signature w) k (λ _ two. one ∙ sym two) (λ f _. not_both _ e f))
    (λ e one. either_by (agrees signature w) k (λ f _. not_both _ f e) (λ _ two. line_once w a b one two))

needless : (proxy : Proxy) → (IsNeed proxy → ⊥) → proxy ≡ Need → ⊥
needless proxy judged e = judged (subst IsNeed (sym e) tt)

stays_by : (n : ℕ) (w : List ℕ) (proxy : Proxy) → n ≤ length w → (IsNeed proxy → ⊥) → Reads (take n w) proxy → Reads w proxy
stays_by n w proxy le decided h =
    either_by (agrees signature (take n w)) h
    (λ e is.
    let told : proxy ≡ judged n w = is ∙ binary-take n w le in
    let more : judged n w ≡ Need → ⊥ = λ need. needless proxy decided (told ∙ need) in
    elim (cases_lt 12 n) [
      | inl many ↦ reads_binary w proxy (agrees-more signature w n (omega arith) e le) (told ∙ sym (judged_stays n (length w) w le more))
      | inr few ↦ absurd (more (few_need n w few))
    ])
    (λ e line.
    let other : agrees signature w ≡ false = not_more (agrees signature w) refl e in
    reads_line w proxy other (line_stays n w proxy (needless proxy decided) line))
  where
    not_more : (b : Bool) → agrees signature w ≡ b → agrees signature (take n w) ≡ false → agrees signature w ≡ false
    not_more true f e = not_both _ (agrees-take signature w n f) e
    not_more false f e = f

-- a header and a fault stay what they are, whatever bytes follow
pub reads_stay : (bytes more : List ℕ) (proxy : Proxy) → (IsNeed proxy → ⊥) → Reads bytes proxy → Reads (bytes ++ more) proxy
reads_stay bytes more proxy decided h =
    let front : take (length bytes) (bytes ++ more) ≡ bytes = take_at bytes more (length bytes) refl in
    stays_by (length bytes) (bytes ++ more) proxy (omega (arith, length-append bytes more)) decided (subst (λ (t : List ℕ). Reads t proxy) (sym front) h)

-- a line doesn't begin as the signature does
first_other : (x : ℕ) (w : List ℕ) (a b c : Bool) → (((eqb x 80 && a) || (eqb x 80 && b)) || (eqb x 80 && c)) ≡ true → agrees signature (x ∷ w) ≡ false
first_other x w a b c h = by (eqb x 80) refl h
  where
    by : (t : Bool) → eqb x 80 ≡ t → (((t && a) || (t && b)) || (t && c)) ≡ true → agrees signature (x ∷ w) ≡ false
    by true e h = ap (λ (y : ℕ). agrees signature (y ∷ w)) (eqb-true x 80 e)
    by false e h = absurd cc

not_signature : (w : List ℕ) → is_begun w ≡ true → 0 < length w → agrees signature w ≡ false
not_signature [] h lt = absurd (omega arith)
not_signature (x ∷ w) h lt = first_other x w _ _ _ h

binary_whole : (w : List ℕ) (header : Header) → agrees signature w ≡ true → Found header ≡ binary w → IsWhole w header
binary_whole w header e is =
    let parts = found_parts (length w) w header (sym is) in
    record {
      there = parts.there;
      short = parts.short;
      alone = reads_binary (take header.used w) (Found header) (agrees-take signature w header.used e) (sym (binary-take header.used w parts.there ∙ found_alone (length w) w header parts));
      fewer = λ n lt. reads_binary (take n w) Need (agrees-take signature w n e) (sym (binary-take n w (omega (arith, parts.there)) ∙ found_fewer (length w) n w header parts lt));
    }

line_whole : (w : List ℕ) (header : Header) → BeginsWithLine w header → IsWhole w header
line_whole w header h = record {
  there = there.0;
  short = omega (arith, there.1);
  alone = reads_line (take header.used w) (Found header) (other header.used (omega (arith, there.2))) (begins-take header.used w header (omega arith) h);
  fewer = λ n lt. few n lt (cases_lt 0 n);
}
  where
    there : (header.used ≤ length w) × (header.used ≤ 107) × (2 ≤ header.used)
    there = begins-there w header h

    other : (n : ℕ) → 0 < n → agrees signature (take n w) ≡ false
    other n some = not_signature (take n w) (begun-take n w (begins_begun w header h)) (omega (arith, some, length-take n w, there.0, there.2))

    few : (n : ℕ) → n < header.used → (0 < n) ⊎ (n ≤ 0) → Reads (take n w) Need
    few n lt (inl some) = reads_line (take n w) Need (other n some) (begins-fewer n w header lt h)
    few n lt (inr none) =
        let zero_is : n ≡ 0 = omega arith in
        subst (λ (m : ℕ). Reads (take m w) Need) (sym zero_is) (sym (few_need 0 [] (omega arith)))

pub reads_whole : (w : List ℕ) (proxy : Proxy) → Reads w proxy → IfFound proxy (IsWhole w)
reads_whole w Need h = tt
reads_whole w Fault h = tt
reads_whole w (Found header) h = either_by (agrees signature w) h (λ e is. binary_whole w header e is) (λ e line. line_whole w header line)

pub need_short : (w : List ℕ) (proxy : Proxy) → Reads w proxy → IsNeed proxy → length w < 536
need_short w Need h need =
    either_by (agrees signature w) h (λ e is. need_bound (length w) w (sym is)) (λ e may. omega (arith, may.short))
need_short w Fault h need = elim need [ ]
need_short w (Found header) h need = elim need [ ]

-- a line that tells a caller is read, whatever follows it
pub line_read : (bytes : List ℕ) (proxy : Proxy) → Reads bytes proxy → (line rest : List ℕ) (caller : SocketAddr) → TellsCaller line caller → length line + 2 ≤ 107 → bytes ≡ line ++ 13 ∷ 10 ∷ rest
    → proxy ≡ Found (line_header line caller)
line_read bytes proxy read line rest caller h short is =
    let w = line ++ 13 ∷ 10 ∷ rest in
    let header = line_header line caller in
    let begins = line_written line rest caller h short in
    let there = begins-there w header begins in
    let other : agrees signature w ≡ false = not_signature w (begins_begun w header begins) (omega (arith, there.0, there.2)) in
    reads_once bytes proxy (Found header) read (subst (λ (t : List ℕ). Reads t (Found header)) (sym is) (reads_line w (Found header) other begins))
