-- A header and its twelve bytes are one another's.
use Rattle.std.proofs.Common.{◌≡◌, ℕ, ◌^◌, ◌<◌, ◌≤◌, ◌+◌, List, [], ◌∷◌, ◌++◌, append_assoc, length, get_or, take, drop, refl, sym, ap, ◌∙◌, arith, inl, inr}
use Rattle.std.specs.Int.{w32, to_be_bytes, from_be_bytes}
use Rattle.std.proofs.lemmas.Bool.{cases_lt}
use Rattle.std.proofs.lemmas.List.{drop-drop, take-append-drop, take_all, length-take, length-drop, get_or-drop, get_or-take, get_or_past}
use Rattle.std.proofs.lemmas.Nat.{be_bytes_4, from_be_bytes-to_be_bytes_4}
use Rattle.tac_wire.specs.declared.header.Header.{Header}
use Rattle.tac_wire.specs.Header.{header_bytes, header_of}

abbrev pub IsBytes : List ℕ → Type 0
IsBytes bytes = (i : ℕ) → get_or bytes i 0 < 256

first_four : (bytes : List ℕ) → 4 ≤ length bytes → get_or bytes 0 0 ∷ get_or bytes 1 0 ∷ get_or bytes 2 0 ∷ get_or bytes 3 0 ∷ [] ≡ take 4 bytes
first_four [] h = absurd (omega arith)
first_four (a ∷ []) h = absurd (omega arith)
first_four (a ∷ b ∷ []) h = absurd (omega arith)
first_four (a ∷ b ∷ c ∷ []) h = absurd (omega arith)
first_four (a ∷ b ∷ c ∷ d ∷ rest) h = refl

-- the number in four bytes from a place has those bytes
four_back : (bytes : List ℕ) (at : ℕ) → at + 4 ≤ length bytes → IsBytes bytes → to_be_bytes w32 (from_be_bytes w32 (take 4 (drop at bytes))) ≡ take 4 (drop at bytes)
four_back bytes at long fits =
    be_bytes_4 (take 4 (drop at bytes)) _ (omega (arith, length-take 4 (drop at bytes), length-drop at bytes))
    (λ i. elim (cases_lt i 4) [
      | inl lt ↦ rw (get_or-take 4 (drop at bytes) i 0 lt, get_or-drop at bytes i 0) (fits (at + i))
      | inr le ↦ rw (get_or_past (take 4 (drop at bytes)) i 0 (omega (arith, length-take 4 (drop at bytes)))) (omega arith)
    ]) refl

same_parts : (p q r x y z : List ℕ) → p ≡ x → q ≡ y → r ≡ z → p ++ q ++ r ≡ x ++ y ++ z
same_parts p q r x y z e f g = cc

pub header_bytes-header_of : (bytes : List ℕ) → length bytes ≡ 12 → IsBytes bytes → header_bytes (header_of bytes) ≡ bytes
header_bytes-header_of bytes len fits =
    let rest = drop 4 bytes in
    let last : take 4 (drop 8 bytes) ≡ drop 8 bytes = take_all 4 (drop 8 bytes) (omega (arith, length-drop 8 bytes)) in
    let tail : take 4 rest ++ drop 8 bytes ≡ rest = ap (λ (t : List ℕ). take 4 rest ++ t) (sym (drop-drop 4 4 bytes)) ∙ take-append-drop 4 rest in
    let front : get_or bytes 0 0 ∷ get_or bytes 1 0 ∷ get_or bytes 2 0 ∷ get_or bytes 3 0 ∷ [] ≡ take 4 bytes = first_four bytes (omega arith) in
    let four = four_back bytes 4 (omega arith) fits in
    let eight = four_back bytes 8 (omega arith) fits in
    same_parts (get_or bytes 0 0 ∷ get_or bytes 1 0 ∷ get_or bytes 2 0 ∷ get_or bytes 3 0 ∷ []) (to_be_bytes w32 (from_be_bytes w32 (take 4 (drop 4 bytes)))) (to_be_bytes w32 (from_be_bytes w32 (take 4 (drop 8 bytes))))
    (take 4 bytes) (take 4 rest) (drop 8 bytes) front four (eight ∙ last)
    ∙ append_assoc (take 4 bytes) (take 4 rest) (drop 8 bytes) ∙ ap (λ (t : List ℕ). take 4 bytes ++ t) tail ∙ take-append-drop 4 bytes

-- the header is read again from its bytes
pub header_of-header_bytes : (header : Header) → header.session < 2 ^ 32 → header.length < 2 ^ 32 → header_of (header_bytes header) ≡ header
header_of-header_bytes header session len =
    let made : ℕ → ℕ → Header = λ first second. record header { session = first; length = second } in
    ap (λ (first : ℕ). made first (from_be_bytes w32 (to_be_bytes w32 header.length))) (from_be_bytes-to_be_bytes_4 header.session session)
    ∙ ap (made header.session) (from_be_bytes-to_be_bytes_4 header.length len)
