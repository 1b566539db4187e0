-- The rows of cells fill up, column by column and row by row.
use Rattle.std.proofs.Common.{◌≡◌, ◌⊎◌, ◌<◌, ◌≤◌, ◌+◌, ◌*◌, ℕ, Bool, List, [], ◌∷◌, ◌++◌, length, sym, ◌∙◌, subst, inl, inr, arith, length-append}
use Rattle.std.specs.List.{AllPairs, slice_index, slice_index_or}
use Rattle.std.proofs.lemmas.Bool.{cases_lt}
use Rattle.std.proofs.lemmas.List.{get_or_append_left, get_or_push}
use Rattle.std.proofs.lemmas.List.Elements.{All-push, All-weaker}
use Rattle.std.proofs.lemmas.Nat.{same_from_place}
use Rattle.basics.specs.TextOrder.{IsBefore}
use Rattle.pol_scan.proofs.OrderFacts.{before_push, before_transitive}
use Rattle.pol_scan.specs.Words.{word_at, longer}
use Rattle.pol_scan.specs.Congruence.{Congruence, HasIndexAbove, Keeps}
use Rattle.pol_scan.specs.Discovery.{IsCell, AreFound, AreAfter, IsFilled, StandsAt, Advances}
use Rattle.pol_scan.proofs.Finding.{cell_known, cell_kept, grown_by}

-- one more cell
filled_push : {S : Type 0} (old new : Congruence) (led leads : List ℕ → S → Type 0) → Keeps old led new leads → (words more : List (List ℕ)) (cells : List ℕ) (state column next : ℕ)
    → column < old.width → IsFilled old words cells state column → IsCell new (words ++ more) state column next → IsFilled new (words ++ more) (cells ++ next ∷ []) state (column + 1)
filled_push old new led leads keeps words more cells state column next in_range filled cell = record {
  size = rw keeps.columns (omega (arith, length-append cells (next ∷ []), filled.size));
  within = All-push (λ k. k < length (words ++ more)) cells next
      (All-weaker (λ k. k < length words) (λ k. k < length (words ++ more)) (λ k h. omega (arith, length-append words more)) cells filled.within) cell.within;
  rows = λ i c h k. subst (λ w. IsCell new (words ++ more) i c (slice_index (cells ++ next ∷ []) (i * w + c))) (sym keeps.columns)
      (by i c (subst (λ w. c < w) keeps.columns h) (subst (λ w. i * w + c < length (cells ++ next ∷ [])) keeps.columns k) (cases_lt (i * old.width + c) (length cells)));
}
  where
    by : (i c : ℕ) → c < old.width → i * old.width + c < length (cells ++ next ∷ []) → (i * old.width + c < length cells) ⊎ (length cells ≤ i * old.width + c)
        → IsCell new (words ++ more) i c (slice_index (cells ++ next ∷ []) (i * old.width + c))
    by i c h k (inl lt) =
        rw (get_or_append_left cells (next ∷ []) 0 (i * old.width + c) lt)
        (cell_kept new words more i c (slice_index cells (i * old.width + c))
        (cell_known old new led leads keeps words i c (slice_index cells (i * old.width + c)) (filled.rows i c h lt)))
    by i c h k (inr ge) =
        let here : i * old.width + c ≡ length cells = omega (arith, length-append cells (next ∷ [])) in
        let place = same_from_place i c state column old.width h in_range (here ∙ filled.size) in
        let read : next ≡ slice_index (cells ++ next ∷ []) (i * old.width + c) = sym (get_or_push cells next 0 (i * old.width + c) (sym here)) in
        subst (λ a. IsCell new (words ++ more) a c (slice_index (cells ++ next ∷ []) (i * old.width + c))) (sym place.0)
        (subst (λ b. IsCell new (words ++ more) state b (slice_index (cells ++ next ∷ []) (i * old.width + c))) (sym place.1)
        (subst (IsCell new (words ++ more) state column) read cell))

row_end : (congruence : Congruence) (words : List (List ℕ)) (cells : List ℕ) (state : ℕ) → IsFilled congruence words cells state congruence.width → IsFilled congruence words cells (state + 1) 0
row_end congruence words cells state filled = record {
  size = omega (arith, filled.size);
  within = filled.within;
  rows = filled.rows;
}

-- the next row begins after the words of the last
pub after_row : (words : List (List ℕ)) (state width : ℕ) → AllPairs IsBefore words → AreAfter words state width → state + 1 < length words → AreAfter words (state + 1) 0
after_row words state width rising after h k d lt =
    before_transitive (slice_index_or words k d) (longer (word_at words state) width) (longer (word_at words (state + 1)) 0)
    (after k d lt) (before_push (word_at words state) (word_at words (state + 1)) width 0 (rising state (state + 1) [] (omega arith) h))

pub stands_at_next_row : {S : Type 0} (congruence : Congruence) (leads : List ℕ → S → Type 0) (words : List (List ℕ)) (states : List S) (cells : List ℕ) (state : ℕ)
    → state < length words → StandsAt congruence leads words states cells state congruence.width → StandsAt congruence leads words states cells (state + 1) 0
stands_at_next_row congruence leads words states cells state from s = record {
  found = s.found;
  after = after_row words state congruence.width s.found.rising (s.after from);
  filled = row_end congruence words cells state s.filled;
}

-- a cell is kept, and the scan stands at the next place
pub stands_at_next : {S : Type 0} (old new : Congruence) (led leads : List ℕ → S → Type 0) → Keeps old led new leads
    → (before words : List (List ℕ)) (states keys : List S) (cells : List ℕ) (state column next : ℕ) (is_new : Bool) → column < old.width
    → StandsAt old led before states cells state column → Advances new leads before words keys state column next is_new
    → StandsAt new leads words keys (cells ++ next ∷ []) state (column + 1)
stands_at_next old new led leads keeps before words states keys cells state column next is_new in_range s a =
    let g = grown_by a in
    record {
      found = a.found;
      after = λ _. a.after;
      filled = subst (λ w. IsFilled new w (cells ++ next ∷ []) state (column + 1)) (sym g.1)
          (filled_push old new led leads keeps before g.0 cells state column next in_range s.filled (subst (λ w. IsCell new w state column next) g.1 a.cell));
    }

pub more_than : {S : Type 0} (congruence : Congruence) (leads : List ℕ → S → Type 0) (words : List (List ℕ)) (states : List S) (limit : ℕ)
    → AreFound congruence leads words states → limit < length words → HasIndexAbove congruence limit
more_than congruence leads words states limit found h = record { words = words; many = h; different = found.different }
