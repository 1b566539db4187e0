-- A policy whose subjects are all among those of another has no more of them.
use Rattle.std.proofs.Common.{◌≡◌, suc, ◌≤◌, Bool, true, false, not, true≢false, List, [], ◌∷◌, length, map, Option, Some, None, is_some, refl, sym, ap, ◌∙◌, arith, if◌then◌else◌}
use Rattle.std.specs.List.{list_any}
use Rattle.std.proofs.lemmas.Bool.{and_parts, not-true}
use Rattle.pol_names.specs.SubjectId.{same_id}
use Rattle.pol_names.specs.declared.subject_id.SubjectId.{SubjectId}
use Rattle.pol_text.specs.declared.subject.Subject.{Subject}
use Rattle.pol_text.specs.Policy.{id_of, find_subject, all_distinct}
use Rattle.pol_text.specs.Change.{without}
use Rattle.pol_text.proofs.Keeps.{same_id_is}
use Rattle.pol_update.proofs.Same.{found_first, found_after, found_any}
use Rattle.pol_update.proofs.Turns.{turns_gone}

no_longer : (id : SubjectId) (p : List Subject) → length (without id p) ≤ length p
no_longer id [] = omega arith
no_longer id (x ∷ p) = by (same_id id (id_of x)) (no_longer id p)
  where
    by : (b : Bool) → length (without id p) ≤ length p → length (if b then without id p else x ∷ without id p) ≤ suc (length p)
    by true h = omega arith
    by false h = omega arith

-- who is there goes, and the list is shorter
shorter : (id : SubjectId) (p : List Subject) → is_some (find_subject id p) ≡ true → suc (length (without id p)) ≤ length p
shorter id [] there = absurd cc
shorter id (x ∷ p) there = by (same_id id (id_of x)) there (shorter id p)
  where
    by : (b : Bool) → is_some (if b then Some x else find_subject id p) ≡ true → (is_some (find_subject id p) ≡ true → suc (length (without id p)) ≤ length p)
        → suc (length (if b then without id p else x ∷ without id p)) ≤ suc (length p)
    by true h rest = let few = no_longer id p in omega arith
    by false h rest = let few = rest h in omega arith

pub no_more : (p all : List Subject) → all_distinct (map id_of p) ≡ true → ((id : SubjectId) → is_some (find_subject id p) ≡ true → is_some (find_subject id all) ≡ true) → length p ≤ length all
no_more [] all distinct among = omega arith
no_more (x ∷ p) all distinct among =
    let parts = and_parts (not (list_any (same_id (id_of x)) (map id_of p))) (all_distinct (map id_of p)) distinct in
    let apart : list_any (same_id (id_of x)) (map id_of p) ≡ false = not-true _ parts.0 in
    let here : suc (length (without (id_of x) all)) ≤ length all = shorter (id_of x) all (among (id_of x) (ap is_some (found_first x p))) in
    let rest : length p ≤ length (without (id_of x) all) = no_more p (without (id_of x) all) parts.1 (λ id there. left apart id there (find_subject id p) refl) in
    omega arith
  where
    other : list_any (same_id (id_of x)) (map id_of p) ≡ false → (id : SubjectId) (s : Subject) → find_subject id p ≡ Some s → same_id (id_of x) id ≡ false
    other apart id s e = by (same_id (id_of x) id) refl
      where
        by : (b : Bool) → same_id (id_of x) id ≡ b → same_id (id_of x) id ≡ false
        by false f = f
        by true f =
            let same : id_of x ≡ id = same_id_is (id_of x) id f in
            absurd (true≢false (sym (found_any id p s e) ∙ ap (λ (i : SubjectId). list_any (same_id i) (map id_of p)) (sym same) ∙ apart))

    left : list_any (same_id (id_of x)) (map id_of p) ≡ false → (id : SubjectId) → is_some (find_subject id p) ≡ true → (o : Option Subject) → find_subject id p ≡ o → is_some (find_subject id (without (id_of x) all)) ≡ true
    left apart id there None e = let no : is_some (find_subject id p) ≡ false = ap is_some e in absurd (true≢false (sym there ∙ no))
    left apart id there (Some s) e =
        let apart' = other apart id s e in
        ap is_some (turns_gone (id_of x) all id ∙ ap (λ (b : Bool). if b then None else find_subject id all) apart')
        ∙ among id (ap is_some (found_after x p apart id s e))
