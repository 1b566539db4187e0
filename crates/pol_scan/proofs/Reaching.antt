-- Every word is the same as the word of a found state, once each found state's row is known.
use Rattle.std.proofs.Common.{◌≡◌, ◌<◌, ℕ, List, [], ◌∷◌, ◌++◌, length, sym, subst, append-nil, append_assoc}
use Rattle.std.proofs.lemmas.List.Elements.{All-head, All-tail}
use Rattle.pol_scan.specs.Words.{IsWord, word_at, longer}
use Rattle.pol_scan.specs.Congruence.{Congruence}
use Rattle.pol_scan.specs.Discovery.{IsUpTo, IsCell}
use Rattle.pol_scan.proofs.OrderUp.{up_to_transitive, up_to_longer}

-- a found state represents the word: its word is the same and no later, and what is to hold of both
-- does
pub record Stands (congruence : Congruence) (words : List (List ℕ)) (holds : List ℕ → ℕ → Type 0) (word : List ℕ) : Type 0 where
  pub state : ℕ
  pub within : state < length words
  pub alike : congruence.same word (word_at words state)
  pub no_later : IsUpTo (word_at words state) word
  pub fits : holds word state

module _ (congruence : Congruence) (words : List (List ℕ)) (holds : List ℕ → ℕ → Type 0) where
  -- one more column
  stands_longer : (u : List ℕ) (column k : ℕ) (s : Stands congruence words holds u) → column < congruence.width → IsCell congruence words s.state column k → holds (longer u column) k
      → Stands congruence words holds (longer u column)
  stands_longer u column k s in_range cell fits = record {
    state = k;
    within = cell.within;
    alike = congruence.transitive (longer u column) (longer (word_at words s.state) column) (word_at words k)
        (congruence.followed u (word_at words s.state) column in_range s.alike) cell.leads;
    no_later = up_to_transitive (word_at words k) (longer (word_at words s.state) column) (longer u column)
        cell.no_later (up_to_longer (word_at words s.state) u column s.no_later);
    fits = fits;
  }

  -- What is to hold of every word considered holds of each beginning of it. Where the row of each
  -- state that represents a beginning is known, a state represents the whole word
  pub stands_on : (considered : List ℕ → Type 0) → ((u rest : List ℕ) → considered (u ++ rest) → considered u)
      → ((u : List ℕ) (column : ℕ) (s : Stands congruence words holds u) → column < congruence.width → considered (longer u column) → (k : ℕ) × IsCell congruence words s.state column k × holds (longer u column) k)
      → (u rest : List ℕ) → IsWord congruence.width rest → considered (u ++ rest) → Stands congruence words holds u → Stands congruence words holds (u ++ rest)
  stands_on considered front row u [] word c s = subst (Stands congruence words holds) (sym (append-nil u)) s
  stands_on considered front row u (column ∷ rest) word c s =
      let e : longer u column ++ rest ≡ u ++ column ∷ rest = append_assoc u (column ∷ []) rest in
      let c' : considered (longer u column ++ rest) = subst considered (sym e) c in
      let in_range : column < congruence.width = All-head (λ x. x < congruence.width) column rest word in
      let r = row u column s in_range (front (longer u column) rest c') in
      subst (Stands congruence words holds) e
      (stands_on considered front row (longer u column) rest (All-tail (λ x. x < congruence.width) column rest word) c'
      (stands_longer u column r.0 s in_range r.1 r.2))
