-- Texts of least symbols stand in the order of their words.
use Rattle.std.proofs.Common.{◌≡◌, ◌⊎◌, ◌<◌, ◌≤◌, ◌-◌, ℕ, Bool, true, false, ◌&&◌, IsTrue, List, [], ◌∷◌, ◌++◌, map, length, get_or, slice_index, replicate, zero, suc, ◌+◌, ◌*◌, take, drop, refl, sym, ap, ◌∙◌, subst, inl, inr, nat_le, leb-true, le-leb, arith}
use Rattle.std.proofs.lemmas.Bool.{cases_lt}
use Rattle.std.proofs.lemmas.List.{length-map, length-take, get_or-append_right, get_or-drop, take-append-le, take_all}
use Rattle.std.proofs.lemmas.List.Elements.{All-head, All-tail, All-nil, All-cons}
use Rattle.basics.specs.Symbol.{is_symbol, is_text}
use Rattle.basics.specs.TextOrder.{IsLower, IsBefore, IsLeast}
use Rattle.pol_scan.specs.Words.{IsWord, IsWordThat}
use Rattle.pol_scan.specs.Alphabet.{Alphabet, column_of, least_of, word_of, text_of, IsTextThat, IsAlphabet}

pub both : (a b : Bool) → IsTrue (a && b) → IsTrue a × IsTrue b
both true b h = (refl, h)
both false b h = absurd cc

from_both : (a b : Bool) → IsTrue a → IsTrue b → IsTrue (a && b)
from_both true b h k = k
from_both false b h k = absurd cc

-- which numbers symbols are
pub symbol_range : (symbol : ℕ) → IsTrue (is_symbol symbol) → (32 ≤ symbol) × (symbol < 127)
symbol_range symbol h =
    let p = both (nat_le 32 symbol) (nat_le symbol 126) h in
    let most = leb-true symbol 126 p.1 in
    (leb-true 32 symbol p.0, omega arith)

pub in_range : (symbol : ℕ) → 32 ≤ symbol → symbol < 127 → IsTrue (is_symbol symbol)
in_range symbol p q = from_both (nat_le 32 symbol) (nat_le symbol 126) (le-leb 32 symbol p) (le-leb symbol 126 (omega arith))

-- ---- keys

pub zero_at : (n k : ℕ) → slice_index (replicate n 0) k ≡ 0
zero_at zero k = refl
zero_at (suc n) zero = refl
zero_at (suc n) (suc k) = zero_at n k

-- a key is of one column and one label
pub one_pair : (a b x y : ℕ) → x < 256 → y < 256 → a * 256 + x ≡ b * 256 + y → (a ≡ b) × (x ≡ y)
one_pair a b x y p q e = (omega arith, omega arith)

-- ---- spelling in place

-- the next place holds what it did
pub next_place : (f : ℕ → ℕ) (word now : List ℕ) (i : ℕ) → i < length word → now ≡ map f (take i word) ++ drop i word → get_or now i 0 ≡ get_or word i 0
next_place f word now i h e =
    let front : length (map f (take i word)) ≡ i = length-map (take i word) f ∙ length-take i word ∙ omega arith in
    ap (λ l. get_or l i 0) e ∙ get_or-append_right (map f (take i word)) (drop i word) i i 0 front (omega arith) ∙ get_or-drop i word (i - i) 0 ∙ ap (λ n. get_or word n 0) (omega arith)

-- what a vector holds after all of it was written
pub rewritten : (items spelled : List ℕ) (len : ℕ) → len ≡ length items → length spelled ≡ length items → take len (spelled ++ drop (length spelled) items) ≡ spelled
rewritten items spelled len e k =
    take-append-le len spelled (drop (length spelled) items) (omega arith) ∙ take_all len spelled (omega arith)

module _ (alphabet : Alphabet) (laws : IsAlphabet alphabet) where
  -- the column of the symbol at a place, and the number of a least symbol
  pub column_within : (place : ℕ) → place < 95 → slice_index alphabet.columns place < alphabet.width
  column_within place lt =
      let at : 32 + place - 32 ≡ place = omega arith in
      subst (λ k. slice_index alphabet.columns k < alphabet.width) at (laws.within (32 + place) (in_range (32 + place) (omega arith) (omega arith)))

  pub least_range : (column : ℕ) → column < alphabet.width → (32 ≤ slice_index alphabet.least column) × (slice_index alphabet.least column < 127)
  least_range column lt = symbol_range (slice_index alphabet.least column) (laws.symbols column lt)

  pub is_text-text_of : (word : List ℕ) → IsWord alphabet.width word → IsTrue (is_text (text_of alphabet word))
  is_text-text_of [] w = refl
  is_text-text_of (c ∷ word) w = from_both (is_symbol (least_of alphabet c)) (is_text (text_of alphabet word))
      (laws.symbols c (All-head (λ x. x < alphabet.width) c word w)) (is_text-text_of word (All-tail (λ x. x < alphabet.width) c word w))

  pub word_of-text_of : (word : List ℕ) → IsWord alphabet.width word → word_of alphabet (text_of alphabet word) ≡ word
  word_of-text_of [] w = refl
  word_of-text_of (c ∷ word) w =
      let head = laws.own c (All-head (λ x. x < alphabet.width) c word w) in
      let tail = word_of-text_of word (All-tail (λ x. x < alphabet.width) c word w) in
      cc

  pub is_word-word_of : (text : List ℕ) → IsTrue (is_text text) → IsWord alphabet.width (word_of alphabet text)
  is_word-word_of [] t = All-nil (λ x. x < alphabet.width)
  is_word-word_of (s ∷ text) t =
      let p = both (is_symbol s) (is_text text) t in
      All-cons (λ x. x < alphabet.width) (column_of alphabet s) (word_of alphabet text) (laws.within s p.0) (is_word-word_of text p.1)

  -- a symbol below a column's least one is of an earlier column
  earlier : (symbol column : ℕ) → IsTrue (is_symbol symbol) → column < alphabet.width → symbol < least_of alphabet column → column_of alphabet symbol < column
  earlier symbol column s c h = by (cases_lt (column_of alphabet symbol) column) (cases_lt column (column_of alphabet symbol))
    where
      by : (column_of alphabet symbol < column) ⊎ (column ≤ column_of alphabet symbol) → (column < column_of alphabet symbol) ⊎ (column_of alphabet symbol ≤ column) → column_of alphabet symbol < column
      by (inl k) r = k
      by (inr k) (inl r) = absurd (omega (arith, laws.rising column (column_of alphabet symbol) r (laws.within symbol s), laws.least symbol s))
      by (inr k) (inr r) =
          let e : column_of alphabet symbol ≡ column = omega arith in
          absurd (omega (arith, subst (λ x. least_of alphabet x ≤ symbol) e (laws.least symbol s)))

  lower : (text word : List ℕ) → IsTrue (is_text text) → IsWord alphabet.width word → IsLower text (text_of alphabet word) → IsLower (word_of alphabet text) word
  lower [] word t w h = absurd h
  lower (s ∷ text) [] t w h = absurd h
  lower (s ∷ text) (c ∷ word) t w (inl h) = inl (earlier s c (both (is_symbol s) (is_text text) t).0 (All-head (λ x. x < alphabet.width) c word w) h)
  lower (s ∷ text) (c ∷ word) t w (inr h) =
      inr (
        ap (column_of alphabet) h.0 ∙ laws.own c (All-head (λ x. x < alphabet.width) c word w),
        lower text word (both (is_symbol s) (is_text text) t).1 (All-tail (λ x. x < alphabet.width) c word w) h.1,
      )

  pub earlier_word : (word : List ℕ) → IsWord alphabet.width word → (text : List ℕ) → IsTrue (is_text text) → IsBefore text (text_of alphabet word) → IsBefore (word_of alphabet text) word
  earlier_word word w text t (inl h) = inl (omega (arith, length-map text (column_of alphabet), length-map word (least_of alphabet)))
  earlier_word word w text t (inr h) = inr (omega (arith, h.0, length-map text (column_of alphabet), length-map word (least_of alphabet)), lower text word t w h.1)

  lower_text : (other word : List ℕ) → IsWord alphabet.width word → IsLower other word → IsLower (text_of alphabet other) (text_of alphabet word)
  lower_text [] word w h = absurd h
  lower_text (d ∷ other) [] w h = absurd h
  lower_text (d ∷ other) (c ∷ word) w (inl h) = inl (laws.rising d c h (All-head (λ x. x < alphabet.width) c word w))
  lower_text (d ∷ other) (c ∷ word) w (inr h) = inr (ap (least_of alphabet) h.0, lower_text other word (All-tail (λ x. x < alphabet.width) c word w) h.1)

  pub earlier_text : (word : List ℕ) → IsWord alphabet.width word → (other : List ℕ) → IsBefore other word → IsBefore (text_of alphabet other) (text_of alphabet word)
  earlier_text word w other (inl h) = inl (omega (arith, length-map other (least_of alphabet), length-map word (least_of alphabet)))
  earlier_text word w other (inr h) = inr (omega (arith, h.0, length-map other (least_of alphabet), length-map word (least_of alphabet)), lower_text other word w h.1)

  pub least_text : (word : List ℕ) → IsWord alphabet.width word → (test : List ℕ → Bool) → IsLeast (IsWordThat alphabet.width (λ w. IsTrue (test w))) word
      → IsLeast (IsTextThat (λ text. IsTrue (test (word_of alphabet text)))) (text_of alphabet word)
  least_text word w test least = (
    (is_text-text_of word w, subst (λ v. IsTrue (test v)) (sym (word_of-text_of word w)) least.0.1),
    λ other h before. least.1 (word_of alphabet other) (is_word-word_of other h.0, h.1) (earlier_word word w other h.0 before),
  )
