-- Subjects by kind and name.
use Rattle.std.proofs.Common.{◌≡◌, ℕ, suc, ◌+◌, ◌≤◌, Bool, true, false, not, cond, ◌&&◌, List, [], ◌∷◌, length, map, Option, None, Some, refl, sym, ap, ◌∙◌, arith, slice_get, get_or}
use Rattle.std.specs.List.{position, position_or_len, list_all}
use Rattle.std.proofs.lemmas.List.{length-map}
use Rattle.std.proofs.lemmas.Grind.{common_steps}
use Rattle.std.proofs.lemmas.Option.{slice_get_past, slice_get_read}
use Rattle.std.proofs.lemmas.Bool.Decides.{nat_tests}
use Rattle.std.specs.Prelude.{nat_lt, is_some, option_copied, IfSome, IsTrue, ◌<◌, zero}
use Rattle.std.specs.Option.{option_and_then}
use Rattle.std.specs.Borrow.{Bor}
use Rattle.pol_names.specs.declared.subject_id.SubjectId.{SubjectId}
use Rattle.pol_text.specs.declared.subject.Subject.{Subject}
use Rattle.pol_names.specs.SubjectId.{same_id, group_id}
use Rattle.pol_text.specs.Policy.{id_of, find_subject, parent_of}

-- the subject at the place of its kind and name
pub at_place : (id : SubjectId) (policy : List Subject) → find_subject id policy ≡ slice_get policy (position_or_len (same_id id) (map id_of policy))
at_place id [] = refl
at_place id (subject ∷ rest) = by (same_id id (id_of subject)) (at_place id rest)
  where
    place : ℕ
    place = position_or_len (same_id id) (map id_of rest)

    by : (b : Bool) → find_subject id rest ≡ slice_get rest place
        → cond b (Some subject) (find_subject id rest) ≡ slice_get (subject ∷ rest) (cond (not b) (1 + place) 0)
    by true h = refl
    by false h = let e : 1 + place ≡ suc place = omega arith in h ∙ sym (ap (slice_get (subject ∷ rest)) e)

pub place_is : (id : SubjectId) (ids : List SubjectId) (place : ℕ) → position (same_id id) ids ≡ Some place → position_or_len (same_id id) ids ≡ place
place_is id ids place e = grind (arith, common_steps)

pub found_at : (id : SubjectId) (policy : List Subject) (place : ℕ) → position (same_id id) (map id_of policy) ≡ Some place → find_subject id policy ≡ slice_get policy place
found_at id policy place e = at_place id policy ∙ ap (slice_get policy) (place_is id (map id_of policy) place e)

pub found_nowhere : (id : SubjectId) (policy : List Subject) → position (same_id id) (map id_of policy) ≡ None → find_subject id policy ≡ None
found_nowhere id policy e =
    let past : length (map id_of policy) ≤ position_or_len (same_id id) (map id_of policy) = grind (arith, common_steps) in
    at_place id policy ∙ slice_get_past policy _ (rw (← length-map policy id_of) past)

-- what a slice's `get` says
pub got : {X : Type 0} (r : Option (Bor X)) (xs : List X) (i : ℕ) → is_some r ≡ nat_lt i (length xs) → IfSome r (λ x. x.now ≡ get_or xs i x.now)
    → option_copied r ≡ slice_get xs i
got None xs i there same = let past : length xs ≤ i = grind (arith, nat_tests) in sym (slice_get_past xs i past)
got (Some x) xs i there same = let within : i < length xs = grind (arith, nat_tests) in sym (slice_get_read xs (length xs) i x.now refl within same)

-- ---- what holds of every subject holds of one that is found

both : (a b : Bool) → (a && b) ≡ true → (a ≡ true) × (b ≡ true)
both true b e = (refl, e)
both false b e = absurd cc

pub list_all_here : {X : Type 0} (p : X → Bool) (xs : List X) (k : ℕ) (d : X) → k < length xs → list_all p xs ≡ true → p (get_or xs k d) ≡ true
list_all_here p [] k d lt all = absurd (omega arith)
list_all_here p (x ∷ xs) zero d lt all = (both (p x) (list_all p xs) all).0
list_all_here p (x ∷ xs) (suc k) d lt all = list_all_here p xs k d (omega arith) (both (p x) (list_all p xs) all).1

pub found_passes : (p : Subject → Bool) (id : SubjectId) (policy : List Subject) (s : Subject) → list_all p policy ≡ true → find_subject id policy ≡ Some s → p s ≡ true
found_passes p id [] s all e = absurd cc
found_passes p id (x ∷ rest) s all e = by (same_id id (id_of x)) e (found_passes p id rest s (both (p x) (list_all p rest) all).1)
  where
    by : (b : Bool) → cond b (Some x) (find_subject id rest) ≡ Some s → (find_subject id rest ≡ Some s → p s ≡ true) → p s ≡ true
    by true h later = let same : x ≡ s = cc in ap p (sym same) ∙ (both (p x) (list_all p rest) all).0
    by false h later = later h

pub found_right : (p : Subject → Bool) (id : SubjectId) (policy : List Subject) (r : Option (Bor Subject)) → list_all p policy ≡ true → option_copied r ≡ find_subject id policy
    → IfSome r (λ s. IsTrue (p s.now))
found_right p id policy None all e = tt
found_right p id policy (Some s) all e = found_passes p id policy s.now all (sym e)

pub parent_right : (p : Subject → Bool) (subject : Subject) (policy : List Subject) (r : Option (Bor Subject)) → list_all p policy ≡ true → option_copied r ≡ parent_of policy subject
    → IfSome r (λ s. IsTrue (p s.now))
parent_right p subject policy r all e = by subject.parent e
  where
    by : (name : Option (List ℕ)) → option_copied r ≡ option_and_then (λ n. find_subject (group_id n) policy) name → IfSome r (λ s. IsTrue (p s.now))
    by None h = none r h
      where
        none : (o : Option (Bor Subject)) → option_copied o ≡ None → IfSome o (λ s. IsTrue (p s.now))
        none None k = tt
        none (Some s) k = absurd cc
    by (Some n) h = found_right p (group_id n) policy r all h

-- where a subject stands is where it is found
pub indexed : (id : SubjectId) (policy : List Subject) (place : Option ℕ) → position (same_id id) (map id_of policy) ≡ place
    → find_subject id policy ≡ option_and_then (slice_get policy) place
indexed id policy None e = found_nowhere id policy e
indexed id policy (Some k) e = found_at id policy k e
