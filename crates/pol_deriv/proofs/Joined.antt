-- Joining terms part by part.
use Rattle.std.proofs.Common.{◌≡◌, inl, inr, ℕ, zero, suc, IsTrue, List, [], ◌∷◌, ◌++◌, length, Some, refl, sym, ap, subst, ◌∙◌, arith, length-append}
use Rattle.std.specs.List.{slice_get}
use Rattle.std.proofs.lemmas.Bool.{false≢true}
use Rattle.pol_pattern.specs.Flat.{class, group, star, Term, empty, put, none, alt, join_term}
use Rattle.pol_deriv.specs.Table.{Means, Grows}
use Rattle.pol_deriv.specs.Nodes.{term_at, begins_with_terms, without_part, part_before, is_alternative}
use Rattle.pol_deriv.proofs.Tables.{get-append, get-last, get_cases, term_means}

-- ---- one part

pub join-part : (term after : Term) → part_before term (join_term (without_part term) after) ≡ join_term term after
join-part empty after = refl
join-part (put (class c) rest) after = refl
join-part (put (group none) rest) after = refl
join-part (put (group (alt first terms)) rest) after = refl
join-part (put (star none) rest) after = refl
join-part (put (star (alt first terms)) rest) after = refl

pub part_fits : (term after : Term) → IsTrue (is_alternative term) → IsTrue (begins_with_terms (join_term (without_part term) after))
part_fits empty after h = absurd (false≢true h)
part_fits (put (class c) rest) after h = absurd (false≢true h)
part_fits (put (group none) rest) after h = absurd (false≢true h)
part_fits (put (group (alt first terms)) rest) after h = refl
part_fits (put (star none) rest) after h = absurd (false≢true h)
part_fits (put (star (alt first terms)) rest) after h = refl

-- ---- the parts that were passed

abbrev pub without_parts : ℕ → Term → Term
without_parts zero term = term
without_parts (suc count) term = without_part (without_parts count term)

-- the numbers are those of the term without none, one, two .. of its parts
abbrev pub Passed : List Term → List ℕ → Term → Type 0
Passed table numbers term = (i n : ℕ) → slice_get numbers i ≡ Some n → Means table n (without_parts i term)

pub passed_more : (table : List Term) (numbers : List ℕ) (at : ℕ) (term : Term) → Passed table numbers term → Means table at (without_parts (length numbers) term) → Passed table (numbers ++ at ∷ []) term
passed_more table numbers at term passed means = λ i n e.
    elim (get_cases numbers at i n e) [
      | inl p ↦ passed i n p
      | inr q ↦
          subst (λ (k : ℕ). Means table n (without_parts k term)) (sym q.0) (subst (λ (m : ℕ). Means table m (without_parts (length numbers) term)) (sym q.1) means)
    ]

pub passed_fewer : (table : List Term) (numbers : List ℕ) (last : ℕ) (term : Term) → Passed table (numbers ++ last ∷ []) term → Passed table numbers term
passed_fewer table numbers last term passed = λ i n e. passed i n (get-append numbers (last ∷ []) i n e)

pub passed_last : (table : List Term) (numbers : List ℕ) (last : ℕ) (term : Term) → Passed table (numbers ++ last ∷ []) term → Means table last (without_parts (length numbers) term)
passed_last table numbers last term passed = passed (length numbers) last (get-last numbers last)

pub without_more : (numbers : List ℕ) (last : ℕ) (term : Term) → without_parts (length (numbers ++ last ∷ [])) term ≡ without_part (without_parts (length numbers) term)
without_more numbers last term =
    let longer : length (numbers ++ last ∷ []) ≡ suc (length numbers) = omega (arith, length-append numbers (last ∷ [])) in
    ap (λ (k : ℕ). without_parts k term) longer

-- ---- steps of the two loops

pub left_less : (table : List Term) (numbers : List ℕ) (at rest : ℕ) (term : Term) → Means table at (without_parts (length numbers) term) → Means table rest (without_part (term_at table at))
    → Means table rest (without_parts (length (numbers ++ at ∷ [])) term)
left_less table numbers at rest term means less =
    subst (Means table rest) (ap without_part (term_means table at (without_parts (length numbers) term) means) ∙ sym (without_more numbers at term)) less

module _ (old new : List Term) (grows : Grows old new) (numbers : List ℕ) (last joined : ℕ) (front back : Term)
    (passed : Passed old (numbers ++ last ∷ []) front) (so_far : Means new joined (join_term (without_parts (length (numbers ++ last ∷ [])) front) back)) where
  last_term : term_at new last ≡ without_parts (length numbers) front
  last_term = term_means new last (without_parts (length numbers) front) (grows.kept last (without_parts (length numbers) front) (passed_last old numbers last front passed))

  joined_term : term_at new joined ≡ join_term (without_part (without_parts (length numbers) front)) back
  joined_term =
      term_means new joined (join_term (without_parts (length (numbers ++ last ∷ [])) front) back) so_far
      ∙ ap (λ (t : Term). join_term t back) (without_more numbers last front)

  pub part_fits_joined : IsTrue (is_alternative (term_at new last)) → IsTrue (begins_with_terms (term_at new joined))
  part_fits_joined h =
      subst (λ (t : Term). IsTrue (begins_with_terms t)) (sym joined_term)
      (part_fits (without_parts (length numbers) front) back (subst (λ (t : Term). IsTrue (is_alternative t)) last_term h))

  pub joined_more : (newer : List Term) (next : ℕ) → Means newer next (part_before (term_at new last) (term_at new joined)) → Means newer next (join_term (without_parts (length numbers) front) back)
  joined_more newer next means =
      let parts : part_before (term_at new last) (term_at new joined) ≡ join_term (without_parts (length numbers) front) back =
      ap (λ (t : Term). part_before t (term_at new joined)) last_term
      ∙ ap (part_before (without_parts (length numbers) front)) joined_term
      ∙ join-part (without_parts (length numbers) front) back in
      subst (Means newer next) parts means
