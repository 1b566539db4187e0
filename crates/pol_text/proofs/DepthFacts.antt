-- A chain that ends has no more subjects than the policy.
use Rattle.std.proofs.Common.{◌≡◌, ℕ, zero, suc, ◌+◌, ◌-◌, ◌<◌, ◌≤◌, get_or, Contains, ap, ◌∙◌, Bool, true, false, not, cond, ◌&&◌, ◌||◌, List, [], ◌∷◌, length, Option, None, Some, ◌⊎◌, inl, inr, refl, sym, arith}
use Rattle.std.specs.List.{list_all, list_any}
use Rattle.std.specs.Option.{option_map_or, option_and_then}
use Rattle.pol_names.specs.declared.subject_id.SubjectId.{SubjectId}
use Rattle.pol_text.specs.declared.subject.Subject.{Subject}
use Rattle.pol_names.specs.SubjectId.{same_id, group_id}
use Rattle.pol_text.specs.Policy.{id_of, find_subject, parent_of, ends_within, IsEndless, TellsEndless}
use Rattle.pol_text.proofs.SubjectFacts.{list_all_here}
use Rattle.pol_text.proofs.SettingFacts.{and_left, and_right, and_both}
use Rattle.pol_text.proofs.RightFacts.{or_false}

found_fails : (q : Subject → Bool) (id : SubjectId) (policy : List Subject) (p : Subject) → list_any q policy ≡ false → find_subject id policy ≡ Some p → q p ≡ false
found_fails q id [] p none h = absurd cc
found_fails q id (subject ∷ rest) p none h = by (same_id id (id_of subject)) (λ e. found_fails q id rest p (or_false _ _ none).1 e) h
  where
    by : (b : Bool) → (find_subject id rest ≡ Some p → q p ≡ false) → cond b (Some subject) (find_subject id rest) ≡ Some p → q p ≡ false
    by true below e = let same : subject ≡ p = cc in rw (← same) (or_false _ _ none).0
    by false below e = below e

parent_fails : (q : Subject → Bool) (policy : List Subject) (subject p : Subject) → list_any q policy ≡ false → parent_of policy subject ≡ Some p → q p ≡ false
parent_fails q policy subject p none h = by subject.parent h
  where
    by : (o : Option (List ℕ)) → option_and_then (λ name. find_subject (group_id name) policy) o ≡ Some p → q p ≡ false
    by None e = absurd cc
    by (Some name) e = found_fails q (group_id name) policy p none e

module _ (policy : List Subject) where
  -- who is within k is within k + 1
  more : (k : ℕ) (subject : Subject) → ends_within k policy subject ≡ true → ends_within (suc k) policy subject ≡ true
  unfolding ends_within
  more zero subject h = absurd cc
  more (suc k) subject h = by (parent_of policy subject) (λ p e. more k p e) h
    where
      by : (o : Option Subject) → ((p : Subject) → ends_within k policy p ≡ true → ends_within (suc k) policy p ≡ true) → option_map_or (ends_within k policy) o true ≡ true
          → option_map_or (ends_within (suc k) policy) o true ≡ true
      by None below e = refl
      by (Some p) below e = below p e

  more_by : (d k : ℕ) (subject : Subject) → ends_within k policy subject ≡ true → ends_within (d + k) policy subject ≡ true
  more_by zero k subject h = let none : 0 + k ≡ k = omega arith in rw none h
  more_by (suc d) k subject h = let next : suc d + k ≡ suc (d + k) = omega arith in rw next (more (d + k) subject (more_by d k subject h))

  -- within k + 1, but not within k
  abbrev new_at : ℕ → Subject → Bool
  new_at k subject = ends_within (suc k) policy subject && not (ends_within k policy subject)

  not_new : (k : ℕ) (subject : Subject) → new_at k subject ≡ false → ends_within (suc k) policy subject ≡ true → ends_within k policy subject ≡ true
  not_new k subject h e = by (ends_within k policy subject) (rw e at h)
    where
      by : (b : Bool) → not b ≡ false → b ≡ true
      by true f = refl
      by false f = sym f

  -- where nobody is new at k, whoever is within any number is within k
  stagnant : (k : ℕ) → list_any (new_at k) policy ≡ false → (m : ℕ) (subject : Subject) → new_at k subject ≡ false → ends_within m policy subject ≡ true → ends_within k policy subject ≡ true
  unfolding ends_within
  stagnant k none zero subject h e = absurd cc
  stagnant k none (suc m) subject h e = not_new k subject h (by (parent_of policy subject) refl (λ p f g. stagnant k none m p f g) e)
    where
      by : (o : Option Subject) → parent_of policy subject ≡ o → ((p : Subject) → new_at k p ≡ false → ends_within m policy p ≡ true → ends_within k policy p ≡ true)
          → option_map_or (ends_within m policy) o true ≡ true → ends_within (suc k) policy subject ≡ true
      by None at below f = rw at refl
      by (Some p) at below f = rw at (below p (parent_fails (new_at k) policy subject p none at) f)

  -- how many are within k
  count : ℕ → List Subject → ℕ
  count k [] = 0
  count k (subject ∷ rest) = cond (ends_within k policy subject) (suc (count k rest)) (count k rest)

  count_below : (k : ℕ) (xs : List Subject) → count k xs ≤ length xs
  unfolding count
  count_below k [] = omega arith
  count_below k (subject ∷ rest) = by (ends_within k policy subject) (count_below k rest)
    where
      by : (b : Bool) → count k rest ≤ length rest → cond b (suc (count k rest)) (count k rest) ≤ suc (length rest)
      by true below = omega arith
      by false below = omega arith

  count_more : (k : ℕ) (xs : List Subject) → count k xs ≤ count (suc k) xs
  unfolding count
  count_more k [] = omega arith
  count_more k (subject ∷ rest) = by (ends_within k policy subject) (ends_within (suc k) policy subject) (more k subject) (count_more k rest)
    where
      by : (a b : Bool) → (a ≡ true → b ≡ true) → count k rest ≤ count (suc k) rest
          → cond a (suc (count k rest)) (count k rest) ≤ cond b (suc (count (suc k) rest)) (count (suc k) rest)
      by true true up below = omega arith
      by true false up below = let no : false ≡ true = up refl in absurd cc
      by false true up below = omega arith
      by false false up below = below

  count_new : (k : ℕ) (xs : List Subject) → list_any (new_at k) xs ≡ true → suc (count k xs) ≤ count (suc k) xs
  unfolding count
  count_new k [] h = absurd cc
  count_new k (subject ∷ rest) h = by (ends_within k policy subject) (ends_within (suc k) policy subject) (more k subject) (count_more k rest) (λ e. count_new k rest e) h
    where
      by : (a b : Bool) → (a ≡ true → b ≡ true) → count k rest ≤ count (suc k) rest → (list_any (new_at k) rest ≡ true → suc (count k rest) ≤ count (suc k) rest)
          → ((b && not a) || list_any (new_at k) rest) ≡ true
          → suc (cond a (suc (count k rest)) (count k rest)) ≤ cond b (suc (count (suc k) rest)) (count (suc k) rest)
      by true true up le below e = let lt = below e in omega arith
      by true false up le below e = let no : false ≡ true = up refl in absurd cc
      by false true up le below e = omega arith
      by false false up le below e = below e

  count_all : (k : ℕ) (xs : List Subject) → length xs ≤ count k xs → list_all (ends_within k policy) xs ≡ true
  unfolding count
  count_all k [] h = refl
  count_all k (subject ∷ rest) h = by (ends_within k policy subject) (λ e. count_all k rest e) h
    where
      by : (b : Bool) → (length rest ≤ count k rest → list_all (ends_within k policy) rest ≡ true) → suc (length rest) ≤ cond b (suc (count k rest)) (count k rest)
          → (b && list_all (ends_within k policy) rest) ≡ true
      by true below e = below (omega arith)
      by false below e = let most = count_below k rest in absurd (omega arith)

  -- at some number up to k nobody is new
  record Settles (k : ℕ) : Type 0 where
    at : ℕ
    low : at ≤ k
    none : list_any (new_at at) policy ≡ false

  steps : (k : ℕ) → (k ≤ count k policy) ⊎ Settles k
  steps zero = inl (omega arith)
  steps (suc k) = by (steps k)
    where
      new : (b : Bool) → list_any (new_at k) policy ≡ b → k ≤ count k policy → (suc k ≤ count (suc k) policy) ⊎ Settles (suc k)
      new true e c = let lt = count_new k policy e in inl (omega arith)
      new false e c = inr (record { at = k; low = omega arith; none = e })

      by : (k ≤ count k policy) ⊎ Settles k → (suc k ≤ count (suc k) policy) ⊎ Settles (suc k)
      by (inl c) = new (list_any (new_at k) policy) refl c
      by (inr s) = let low = s.low in inr (record { at = s.at; low = omega arith; none = s.none })

  settled : (n m : ℕ) (s : Settles n) (xs : List Subject) → list_any (new_at s.at) xs ≡ false → list_all (ends_within m policy) xs ≡ true → list_all (ends_within n policy) xs ≡ true
  settled n m s [] none h = refl
  settled n m s (subject ∷ rest) none h =
      let parts = or_false _ _ none in
      let low = s.low in
      let early = stagnant s.at s.none m subject parts.0 (and_left _ _ h) in
      let up : n - s.at + s.at ≡ n = omega arith in
      let here : ends_within n policy subject ≡ true = rw up at (more_by (n - s.at) s.at subject early) in
      and_both _ _ here (settled n m s rest parts.1 (and_right (ends_within m policy subject) _ h))

  -- so whoever ends at all ends within the number of subjects
  pub all_end : (m : ℕ) → list_all (ends_within m policy) policy ≡ true → list_all (ends_within (length policy) policy) policy ≡ true
  all_end m h = by (steps (length policy))
    where
      by : (length policy ≤ count (length policy) policy) ⊎ Settles (length policy) → list_all (ends_within (length policy) policy) policy ≡ true
      by (inl c) = count_all (length policy) policy c
      by (inr s) = settled (length policy) m s policy s.none h

  any_at : (q : Subject → Bool) (xs : List Subject) (k : ℕ) (d : Subject) → k < length xs → list_any q xs ≡ false → q (get_or xs k d) ≡ false
  any_at q [] k d lt none = absurd (omega arith)
  any_at q (x ∷ xs) zero d lt none = (or_false _ _ none).0
  any_at q (x ∷ xs) (suc k) d lt none = any_at q xs k d (omega arith) (or_false _ _ none).1

  -- the same of one subject of the policy
  one_ends : (m : ℕ) (subject : Subject) → Contains policy subject → ends_within m policy subject ≡ true → ends_within (length policy) policy subject ≡ true
  one_ends m subject (k, within, here) h = by (steps (length policy))
    where
      by : (length policy ≤ count (length policy) policy) ⊎ Settles (length policy) → ends_within (length policy) policy subject ≡ true
      by (inl c) =
          sym (ap (ends_within (length policy) policy) here)
          ∙ list_all_here (ends_within (length policy) policy) policy k subject within (count_all (length policy) policy c)
      by (inr s) =
          let low = s.low in
          let old : new_at s.at subject ≡ false = sym (ap (new_at s.at) here) ∙ any_at (new_at s.at) policy k subject within s.none in
          let up : length policy - s.at + s.at ≡ length policy = omega arith in
          rw up at (more_by (length policy - s.at) s.at subject (stagnant s.at s.none m subject old h))

  pub tells_endless : TellsEndless policy
  tells_endless subject inside =
      ((λ (long : ends_within (length policy) policy subject ≡ false). λ (m : ℕ). by m long (ends_within m policy subject) refl), (λ (endless : IsEndless policy subject). endless (length policy)))
    where
      by : (m : ℕ) → ends_within (length policy) policy subject ≡ false → (b : Bool) → ends_within m policy subject ≡ b → ends_within m policy subject ≡ false
      by m long true h = let ends : ends_within (length policy) policy subject ≡ true = one_ends m subject inside h in absurd (cc)
      by m long false h = h
