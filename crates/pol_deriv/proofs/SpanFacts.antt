-- One more list after the others.
use Rattle.std.proofs.Common.{◌≡◌, ◌≤◌, ◌-◌, inl, inr, ℕ, suc, List, [], ◌∷◌, ◌++◌, length, take, drop, refl, sym, ap, subst, ◌∙◌, arith, length-append}
use Rattle.std.specs.List.{slice_range}
use Rattle.std.proofs.lemmas.List.{take-append-le, drop-append-le, map-append, length-drop, drop_at, take_all}
use Rattle.pol_deriv.specs.declared.lists.Span.{Span}
use Rattle.pol_deriv.specs.Spans.{lists_of, AreWithin}
use Rattle.pol_deriv.proofs.Tables.{get_cases}

range-more : (xs more : List ℕ) (start end : ℕ) → start ≤ end → end ≤ length xs → slice_range (xs ++ more) start end ≡ slice_range xs start end
range-more xs more start end p q =
    ap (take (end - start)) (drop-append-le start xs more (omega (arith, p, q)))
    ∙ take-append-le (end - start) (drop start xs) more (omega (arith, length-drop start xs, p, q))

range-last : (xs list : List ℕ) → slice_range (xs ++ list) (length xs) (length (xs ++ list)) ≡ list
range-last xs list =
    ap (take (length (xs ++ list) - length xs)) (drop_at xs list (length xs) refl)
    ∙ take_all (length (xs ++ list) - length xs) list (omega (arith, length-append xs list))

pub lists-more : (numbers more : List ℕ) (spans : List Span) → AreWithin numbers spans → lists_of (numbers ++ more) spans ≡ lists_of numbers spans
lists-more numbers more [] within = refl
lists-more numbers more (span ∷ spans) within =
    let own = within 0 span refl in
    ap (λ (l : List ℕ). l ∷ lists_of (numbers ++ more) spans) (range-more numbers more span.start span.end own.0 own.1)
    ∙ ap (λ (ls : List (List ℕ)). slice_range numbers span.start span.end ∷ ls) (lists-more numbers more spans (λ k s e. within (suc k) s e))

pub within_more : (numbers more : List ℕ) (spans : List Span) → AreWithin numbers spans → AreWithin (numbers ++ more) spans
within_more numbers more spans within = λ k span e.
    let own = within k span e in
    (own.0, omega (arith, own.1, length-append numbers more))

module _ (numbers list : List ℕ) (spans : List Span) (span : Span) (within : AreWithin numbers spans) (start : span.start ≡ length numbers) (end : span.end ≡ length (numbers ++ list)) where
  pub push_within : AreWithin (numbers ++ list) (spans ++ span ∷ [])
  push_within = λ k s e.
      elim (get_cases spans span k s e) [
        | inl p ↦ within_more numbers list spans within k s p
        | inr q ↦ subst (λ (x : Span). (x.start ≤ x.end) × (x.end ≤ length (numbers ++ list))) (sym q.1) (omega (arith, start, end, length-append numbers list), omega (arith, end))
      ]

  pub push_lists : lists_of (numbers ++ list) (spans ++ span ∷ []) ≡ lists_of numbers spans ++ list ∷ []
  push_lists =
      map-append (λ (s : Span). slice_range (numbers ++ list) s.start s.end) spans (span ∷ [])
      ∙ ap (λ (ls : List (List ℕ)). ls ++ slice_range (numbers ++ list) span.start span.end ∷ []) (lists-more numbers list spans within)
      ∙ ap (λ (l : List ℕ). lists_of numbers spans ++ l ∷ [])
      (ap (λ (n : ℕ). slice_range (numbers ++ list) n span.end) start ∙ ap (slice_range (numbers ++ list) (length numbers)) end ∙ range-last numbers list)
