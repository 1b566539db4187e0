-- Each subject of either policy is in the other exactly if the policies have the same.
use Rattle.std.proofs.Common.{◌≡◌, Bool, true, false, not, cond, ◌||◌, true≢false, List, [], ◌∷◌, map, Option, Some, None, refl, sym, ap, subst, ◌∙◌}
use Rattle.std.specs.Option.{option_map_or}
use Rattle.std.specs.List.{list_any, list_all}
use Rattle.std.proofs.lemmas.Bool.{and_parts, and_from, not-true}
use Rattle.pol_names.specs.SubjectId.{same_id}
use Rattle.pol_names.specs.declared.subject_id.SubjectId.{SubjectId}
use Rattle.pol_text.specs.declared.subject.Subject.{Subject}
use Rattle.pol_text.specs.Policy.{id_of, find_subject, all_distinct}
use Rattle.pol_text.specs.Same.{same_subject, same_subject-Decides}
use Rattle.pol_text.proofs.Keeps.{same_id_is, same_id_self, all_found, found_same}
use Rattle.pol_update.specs.Update.{HaveSame, has_subject}

has_is : (policy : List Subject) (s : Subject) → has_subject policy s ≡ true → find_subject (id_of s) policy ≡ Some s
has_is policy s = by (find_subject (id_of s) policy)
  where
    by : (found : Option Subject) → option_map_or (λ present. same_subject present s) found false ≡ true → found ≡ Some s
    by None e = absurd cc
    by (Some t) e = ap Some ((same_subject-Decides t s).0 e)

has_from : (policy : List Subject) (s : Subject) → find_subject (id_of s) policy ≡ Some s → has_subject policy s ≡ true
has_from policy s e = rw e ((same_subject-Decides s s).1 refl)

-- ---- what the tests tell

passed_on : (policy subjects : List Subject) → list_all (has_subject policy) subjects ≡ true → (id : SubjectId) (s : Subject) → find_subject id subjects ≡ Some s
    → find_subject id policy ≡ Some s
passed_on policy subjects all id s e =
    let same = same_id_is id (id_of s) (found_same id subjects s e) in
    subst (λ (i : SubjectId). find_subject i policy ≡ Some s) (sym same) (has_is policy s (all_found (has_subject policy) id subjects s all e))

pub same_from : (one other : List Subject) → list_all (has_subject one) other ≡ true → list_all (has_subject other) one ≡ true → HaveSame one other
same_from one other back there id = by (find_subject id other) refl
  where
    none : (found : Option Subject) → find_subject id one ≡ found → find_subject id other ≡ None → find_subject id one ≡ None
    none None e nobody = e
    none (Some s) e nobody = let both = passed_on other one there id s e in absurd cc

    by : (found : Option Subject) → find_subject id other ≡ found → find_subject id one ≡ find_subject id other
    by None e = none (find_subject id one) refl e ∙ sym e
    by (Some s) e = passed_on one other back id s e ∙ sym e

-- ---- what they tell is all that there is

pub found_any : (id : SubjectId) (p : List Subject) (s : Subject) → find_subject id p ≡ Some s → list_any (same_id id) (map id_of p) ≡ true
found_any id [] s e = absurd cc
found_any id (x ∷ p) s e = by (same_id id (id_of x)) e (found_any id p s)
  where
    by : (b : Bool) → cond b (Some x) (find_subject id p) ≡ Some s → (find_subject id p ≡ Some s → list_any (same_id id) (map id_of p) ≡ true) → (b || list_any (same_id id) (map id_of p)) ≡ true
    by true e rest = refl
    by false e rest = rest e

pub found_after : (x : Subject) (p : List Subject) → list_any (same_id (id_of x)) (map id_of p) ≡ false → (id : SubjectId) (s : Subject) → find_subject id p ≡ Some s
    → find_subject id (x ∷ p) ≡ Some s
found_after x p apart id s e = by (same_id id (id_of x)) refl
  where
    by : (b : Bool) → same_id id (id_of x) ≡ b → cond b (Some x) (find_subject id p) ≡ Some s
    by false t = e
    by true t =
        let there = found_any id p s e in
        let same = same_id_is id (id_of x) t in
        absurd (true≢false (sym there ∙ ap (λ (i : SubjectId). list_any (same_id i) (map id_of p)) same ∙ apart))

pub found_first : (x : Subject) (p : List Subject) → find_subject (id_of x) (x ∷ p) ≡ Some x
found_first x p = rw (same_id_self (id_of x)) refl

pub all_from : (policy subjects : List Subject) → all_distinct (map id_of subjects) ≡ true → ((id : SubjectId) (s : Subject) → find_subject id subjects ≡ Some s → find_subject id policy ≡ Some s)
    → list_all (has_subject policy) subjects ≡ true
all_from policy [] distinct holds = refl
all_from policy (x ∷ rest) distinct holds =
    let parts = and_parts (not (list_any (same_id (id_of x)) (map id_of rest))) (all_distinct (map id_of rest)) distinct in
    let apart : list_any (same_id (id_of x)) (map id_of rest) ≡ false = not-true _ parts.0 in
    let here = has_from policy x (holds (id_of x) x (found_first x rest)) in
    and_from (has_subject policy x) (list_all (has_subject policy) rest) here
    (all_from policy rest parts.1 (λ id s e. holds id s (found_after x rest apart id s e)))

pub all_of_same : (one other : List Subject) → all_distinct (map id_of other) ≡ true → HaveSame one other → list_all (has_subject one) other ≡ true
all_of_same one other distinct same = all_from one other distinct (λ id s e. same id ∙ e)

-- two subjects are the same exactly if their test tells so
pub some_alike : (s t : Subject) (b : Bool) → b ≡ same_subject s t → (b ≡ true → Some s ≡ Some t) × (Some s ≡ Some t → b ≡ true)
some_alike s t b e = (
  λ yes. ap Some ((same_subject-Decides s t).0 (sym e ∙ yes)),
  λ same. let one : s ≡ t = cc in e ∙ (same_subject-Decides s t).1 one,
)
