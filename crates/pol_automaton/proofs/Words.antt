-- Texts and the words that they are read as.
use Rattle.std.proofs.Common.{◌<◌, ℕ, Bool, true, false, ◌&&◌, IsTrue, List, [], ◌∷◌, refl}
use Rattle.std.proofs.lemmas.List.Elements.{All-nil, All-cons, All-head, All-tail}
use Rattle.basics.specs.Symbol.{is_symbol, is_text}
use Rattle.pol_scan.specs.Alphabet.{Alphabet, IsAlphabet, column_of, least_of, word_of, text_of}
use Rattle.pol_scan.specs.Words.{IsWord}

pub both : (a b : Bool) → IsTrue (a && b) → IsTrue a × IsTrue b
both true b h = (refl, h)
both false b h = absurd cc

pub from_both : (a b : Bool) → IsTrue a → IsTrue b → IsTrue (a && b)
from_both true b h k = k
from_both false b h k = absurd cc

pub is_word : (alphabet : Alphabet) → IsAlphabet alphabet → (text : List ℕ) → IsTrue (is_text text) → IsWord alphabet.width (word_of alphabet text)
is_word alphabet letters [] h = All-nil (λ c. c < alphabet.width)
is_word alphabet letters (symbol ∷ text) h =
    let p = both (is_symbol symbol) (is_text text) h in
    All-cons (λ c. c < alphabet.width) (column_of alphabet symbol) (word_of alphabet text) (letters.within symbol p.0) (is_word alphabet letters text p.1)

pub spells_text : (alphabet : Alphabet) → IsAlphabet alphabet → (word : List ℕ) → IsWord alphabet.width word → IsTrue (is_text (text_of alphabet word))
spells_text alphabet letters [] w = refl
spells_text alphabet letters (column ∷ word) w =
    from_both (is_symbol (least_of alphabet column)) (is_text (text_of alphabet word)) (letters.symbols column (All-head (λ c. c < alphabet.width) column word w))
    (spells_text alphabet letters word (All-tail (λ c. c < alphabet.width) column word w))
