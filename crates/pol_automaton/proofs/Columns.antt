-- Columns that are classes of symbols: what reading and spelling a text leaves of it, finer
-- alphabets, and how many columns there are.
use Rattle.std.proofs.Common.{◌≡◌, ◌⊎◌, inl, inr, ◌<◌, ◌≤◌, ℕ, IsTrue, List, [], ◌∷◌, length, take, refl, sym, ap, subst, ◌∙◌, arith}
use Rattle.std.specs.List.{slice_index_or}
use Rattle.std.proofs.lemmas.Bool.{cases_lt}
use Rattle.std.proofs.lemmas.List.{length-take, get_or-take, get_or_default, get_or_past}
use Rattle.basics.specs.Symbol.{is_symbol, is_text}
use Rattle.pol_scan.specs.Alphabet.{Alphabet, IsAlphabet, column_of, least_of, word_of, text_of, SameColumn, HasClasses}
use Rattle.pol_scan.specs.Table.{walk}
use Rattle.pol_automaton.specs.Automaton.{Automaton, state_of}
use Rattle.pol_automaton.specs.Alike.{AreAlike, IsClassCount}
use Rattle.pol_automaton.proofs.Alikes.{AreRelated}
use Rattle.pol_automaton.proofs.Words.{both}

-- symbols of one column are so related
abbrev pub Relates : Alphabet → (ℕ → ℕ → Type 0) → Type 0
Relates alphabet related = (a b : ℕ) → IsTrue (is_symbol a) → IsTrue (is_symbol b) → SameColumn alphabet a b → related a b

pub by_classes : (alphabet : Alphabet) (related : ℕ → ℕ → Type 0) → HasClasses alphabet related → Relates alphabet related
by_classes alphabet related classes a b p q = (classes a b p q).0

-- each symbol of a text is so related to the one that spells its column
pub spelled_related : (alphabet : Alphabet) → IsAlphabet alphabet → (related : ℕ → ℕ → Type 0) → Relates alphabet related → (text : List ℕ) → IsTrue (is_text text)
    → AreRelated related text (text_of alphabet (word_of alphabet text))
spelled_related alphabet letters related relates [] h = tt
spelled_related alphabet letters related relates (symbol ∷ text) h =
    let p = both (is_symbol symbol) (is_text text) h in
    let column = column_of alphabet symbol in
    let lt = letters.within symbol p.0 in (
      relates symbol (least_of alphabet column) p.0 (letters.symbols column lt) (sym (letters.own column lt)),
      spelled_related alphabet letters related relates text p.1,
    )

-- ---- finer alphabets

-- symbols of one column of the first have one column of the second
abbrev pub Refines : Alphabet → Alphabet → Type 0
Refines fine coarse = Relates fine (SameColumn coarse)

one_word : (alphabet : Alphabet) (text other : List ℕ) → AreRelated (SameColumn alphabet) text other → word_of alphabet text ≡ word_of alphabet other
one_word alphabet [] [] h = refl
one_word alphabet [] (b ∷ other) h = absurd h
one_word alphabet (a ∷ text) [] h = absurd h
one_word alphabet (a ∷ text) (b ∷ other) h =
    let first : column_of alphabet a ≡ column_of alphabet b = h.0 in
    let rest : word_of alphabet text ≡ word_of alphabet other = one_word alphabet text other h.1 in
    cc

-- so an automaton reads what is spelled of a text by a finer alphabet as it reads the text
pub state_spelled : (alphabet : Alphabet) → IsAlphabet alphabet → (a : Automaton) → Refines alphabet a.alphabet → (text : List ℕ) → IsTrue (is_text text)
    → state_of a (text_of alphabet (word_of alphabet text)) ≡ state_of a text
state_spelled alphabet letters a refines text h =
    ap (walk a.table)
    (sym (one_word a.alphabet text (text_of alphabet (word_of alphabet text)) (spelled_related alphabet letters (SameColumn a.alphabet) refines text h)))

-- ---- how many columns there are

module _ (alphabet : Alphabet) (letters : IsAlphabet alphabet) where
  least_at : (column : ℕ) → column < alphabet.width → column < length alphabet.least
  least_at column lt = by (cases_lt column (length alphabet.least))
    where
      by : (column < length alphabet.least) ⊎ (length alphabet.least ≤ column) → column < length alphabet.least
      by (inl h) = h
      by (inr h) =
          let none : least_of alphabet column ≡ 0 = get_or_past alphabet.least column 0 h in
          let symbol = subst (λ (n : ℕ). IsTrue (is_symbol n)) none (letters.symbols column lt) in
          absurd cc

  enough : alphabet.width ≤ length alphabet.least
  enough = by (cases_lt (length alphabet.least) alphabet.width)
    where
      by : (length alphabet.least < alphabet.width) ⊎ (alphabet.width ≤ length alphabet.least) → alphabet.width ≤ length alphabet.least
      by (inl h) = absurd (omega (arith, least_at (length alphabet.least) h))
      by (inr h) = h

  size : length (take alphabet.width alphabet.least) ≡ alphabet.width
  size = omega (arith, length-take alphabet.width alphabet.least, enough)

  spelled_at : (column d : ℕ) → column < alphabet.width → slice_index_or (take alphabet.width alphabet.least) column d ≡ least_of alphabet column
  spelled_at column d lt =
      get_or-take alphabet.width alphabet.least column d lt ∙ get_or_default alphabet.least column d 0 (least_at column lt)

  module _ (entries : List (List ℕ)) (classes : HasClasses alphabet (AreAlike entries)) where
    pub class_count : IsClassCount entries alphabet.width
    class_count = record {
      symbols = take alphabet.width alphabet.least;
      many = size;
      all_symbols = λ k d lt.
          let in_width : k < alphabet.width = omega (arith, size) in
          subst (λ (n : ℕ). IsTrue (is_symbol n)) (sym (spelled_at k d in_width)) (letters.symbols k in_width);
      different = λ i j d lt in_range alike.
          let q : j < alphabet.width = omega (arith, size) in
          let p : i < alphabet.width = omega arith in
          let moved = subst (λ (n : ℕ). AreAlike entries n (slice_index_or (take alphabet.width alphabet.least) j d)) (spelled_at i d p) alike in
          let now = subst (AreAlike entries (least_of alphabet i)) (spelled_at j d q) moved in
          let one = (classes (least_of alphabet i) (least_of alphabet j) (letters.symbols i p) (letters.symbols j q)).1 now in
          let same : i ≡ j = sym (letters.own i p) ∙ one ∙ letters.own j q in
          omega arith;
      complete = λ symbol h.
          let column = column_of alphabet symbol in
          let lt = letters.within symbol h in (
            column,
            least_of alphabet column,
            omega (arith, size),
            spelled_at column (least_of alphabet column) lt,
            (classes symbol (least_of alphabet column) h (letters.symbols column lt)).0 (sym (letters.own column lt)),
          );
    }
