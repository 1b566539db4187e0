-- Chains that are no longer than those of another policy, and who isn't a parent.
use Rattle.std.proofs.Common.{◌≡◌, ◌⊎◌, inl, inr, ℕ, zero, suc, Bool, true, false, not, List, [], ◌∷◌, length, map, Option, Some, None, refl, sym, ap, subst, ◌∙◌, if◌then◌else◌}
use Rattle.std.specs.Option.{option_map, option_map_or, option_and_then}
use Rattle.std.specs.List.{list_all, list_any}
use Rattle.std.specs.Str.{bytes_eq}
use Rattle.std.specs.Cmp.Lexicographic.{bytes_decides}
use Rattle.std.proofs.lemmas.Bool.{and_parts, and_from, or_from, not-true, false_from_ne_true}
use Rattle.pol_names.specs.SubjectId.{same_id, group_id}
use Rattle.pol_names.specs.declared.subject_id.SubjectId.{SubjectId}
use Rattle.pol_text.specs.declared.subject.Subject.{Subject}
use Rattle.pol_text.specs.Policy.{WellFormed, id_of, find_subject, ends_within, all_distinct}
use Rattle.pol_text.specs.Change.{with_changed, is_parent, chain_fault}
use Rattle.pol_text.proofs.DepthFacts.{all_end}
use Rattle.pol_text.proofs.Keeps.{same_id_is, all_found, changes, changes_keep, ids_map}
use Rattle.pol_update.specs.Planning.{IsUnder, IsWithin}
use Rattle.pol_update.proofs.Same.{found_first, found_after}
use Rattle.pol_update.proofs.Turns.{turns_changed}

-- ---- whoever is found

-- a test that whoever is found passes is passed by all
pub all_by_found : (test : Subject → Bool) (p : List Subject) → all_distinct (map id_of p) ≡ true → ((id : SubjectId) (s : Subject) → find_subject id p ≡ Some s → test s ≡ true) → list_all test p ≡ true
all_by_found test [] distinct holds = refl
all_by_found test (x ∷ rest) distinct holds =
    let parts = and_parts (not (list_any (same_id (id_of x)) (map id_of rest))) (all_distinct (map id_of rest)) distinct in
    let apart : list_any (same_id (id_of x)) (map id_of rest) ≡ false = not-true _ parts.0 in
    and_from (test x) (list_all test rest) (holds (id_of x) x (found_first x rest))
    (all_by_found test rest parts.1 (λ id s e. holds id s (found_after x rest apart id s e)))

-- ---- chains

module _ (p upper : List Subject) (under : (id : SubjectId) → IsUnder (find_subject id p) (find_subject id upper)) where
  ends_under : (n : ℕ) (s t : Subject) → IsUnder (Some s) (Some t) → ends_within n upper t ≡ true → ends_within n p s ≡ true
  unfolding ends_within
  ends_under zero s t u h = absurd cc
  ends_under (suc n) s t u h = by s.parent t.parent u h (ends_under n)
    where
      found : (a b : Option Subject) → IsUnder a b → option_map_or (ends_within n upper) b true ≡ true
          → ((s t : Subject) → IsUnder (Some s) (Some t) → ends_within n upper t ≡ true → ends_within n p s ≡ true) → option_map_or (ends_within n p) a true ≡ true
      found None b v h below = refl
      found (Some s) None v h below = absurd v
      found (Some s) (Some t) v h below = below s t v h

      same : (a b : Option (List ℕ)) → a ≡ b → option_map_or (ends_within n upper) (option_and_then (λ name. find_subject (group_id name) upper) b) true ≡ true
          → ((s t : Subject) → IsUnder (Some s) (Some t) → ends_within n upper t ≡ true → ends_within n p s ≡ true)
          → option_map_or (ends_within n p) (option_and_then (λ name. find_subject (group_id name) p) a) true ≡ true
      same None b e h below = refl
      same (Some name) None e h below = absurd cc
      same (Some name) (Some other) e h below =
          let names : name ≡ other = cc in
          found (find_subject (group_id name) p) (find_subject (group_id name) upper) (under (group_id name))
          (subst (λ (n' : List ℕ). option_map_or (ends_within n upper) (find_subject (group_id n') upper) true ≡ true) (sym names) h) below

      by : (a b : Option (List ℕ)) → (a ≡ None) ⊎ (a ≡ b) → option_map_or (ends_within n upper) (option_and_then (λ name. find_subject (group_id name) upper) b) true ≡ true
          → ((s t : Subject) → IsUnder (Some s) (Some t) → ends_within n upper t ≡ true → ends_within n p s ≡ true)
          → option_map_or (ends_within n p) (option_and_then (λ name. find_subject (group_id name) p) a) true ≡ true
      by None b u h below = refl
      by (Some name) b (inl none) h below = absurd cc
      by (Some name) b (inr e) h below = same (Some name) b e h below

  all_under : WellFormed upper → all_distinct (map id_of p) ≡ true → list_all (ends_within 8 p) p ≡ true
  all_under w distinct = all_by_found (ends_within 8 p) p distinct holds
    where
      by : (s : Subject) (id : SubjectId) (a b : Option Subject) → a ≡ Some s → find_subject id upper ≡ b → IsUnder a b → ends_within 8 p s ≡ true
      by s id None b e f u = absurd cc
      by s id (Some t) None e f u = absurd u
      by s id (Some t) (Some other) e f u =
          let same : t ≡ s = cc in
          subst (λ (x : Subject). ends_within 8 p x ≡ true) same (ends_under 8 t other u (all_found (ends_within 8 upper) id upper other w.short f))

      holds : (id : SubjectId) (s : Subject) → find_subject id p ≡ Some s → ends_within 8 p s ≡ true
      holds id s e = by s id (find_subject id p) (find_subject id upper) e refl (under id)

-- no chain is at fault
pub fine : (p : List Subject) → IsWithin p → all_distinct (map id_of p) ≡ true → chain_fault p ≡ None
fine p within distinct =
    let short : list_all (ends_within 8 p) p ≡ true = all_under p within.upper within.under within.well_formed distinct in
    let ends : list_all (ends_within (length p) p) p ≡ true = all_end p 8 short in
    rw (ends, short) refl

pub distinct_changed : (id : SubjectId) (f : Subject → Subject) (p : List Subject) → ((s : Subject) → id_of (f s) ≡ id_of s) → WellFormed p → all_distinct (map id_of (with_changed id f p)) ≡ true
distinct_changed id f p keeps w = ap all_distinct (ids_map (changes id f keeps) (changes_keep id f keeps) p) ∙ w.distinct

pub under_changed : (id : SubjectId) (f : Subject → Subject) (p upper : List Subject) → ((s : Subject) → id_of (f s) ≡ id_of s) → ((i : SubjectId) → IsUnder (find_subject i p) (find_subject i upper))
    → IsUnder (option_map f (find_subject id p)) (find_subject id upper) → (i : SubjectId) → IsUnder (find_subject i (with_changed id f p)) (find_subject i upper)
under_changed id f p upper keeps under own i = rw (turns_changed id f p keeps i) (by (same_id id i) refl)
  where
    by : (b : Bool) → same_id id i ≡ b → IsUnder (if b then option_map f (find_subject id p) else find_subject i p) (find_subject i upper)
    by true e = subst (λ (j : SubjectId). IsUnder (option_map f (find_subject id p)) (find_subject j upper)) (same_id_is id i e) own
    by false e = under i

-- ---- who is no parent

pub no_parent : (name : List ℕ) (p : List Subject) → all_distinct (map id_of p) ≡ true → ((id : SubjectId) (s : Subject) → find_subject id p ≡ Some s → ¬ (s.parent ≡ Some name)) → is_parent name p ≡ false
no_parent name [] distinct holds = refl
no_parent name (x ∷ rest) distinct holds =
    let parts = and_parts (not (list_any (same_id (id_of x)) (map id_of rest))) (all_distinct (map id_of rest)) distinct in
    let apart : list_any (same_id (id_of x)) (map id_of rest) ≡ false = not-true _ parts.0 in
    or_from (option_map_or (bytes_eq name) x.parent false) (is_parent name rest) (here x.parent (holds (id_of x) x (found_first x rest)))
    (no_parent name rest parts.1 (λ id s e. holds id s (found_after x rest apart id s e)))
  where
    here : (parent : Option (List ℕ)) → ¬ (parent ≡ Some name) → option_map_or (bytes_eq name) parent false ≡ false
    here None differs = refl
    here (Some other) differs = false_from_ne_true (bytes_eq name other) (λ e. differs (ap Some (sym ((bytes_decides name other).0 e))))
