-- A new subject at the end keeps a policy well formed.
use Rattle.std.proofs.Common.{◌≡◌, ℕ, zero, suc, ◌<◌, Bool, true, false, not, cond, ◌&&◌, ◌||◌, List, [], ◌∷◌, ◌++◌, length, map, Option, None, Some, refl, sym, ap, ◌∙◌, arith, is_some, length-append}
use Rattle.std.specs.Option.{option_map_or, option_and_then}
use Rattle.std.specs.List.{list_any, list_all}
use Rattle.std.proofs.lemmas.Bool.{and_parts, and_from, or_parts, or_from, not-true, not_from_false}
use Rattle.std.proofs.lemmas.List.Folds.{list_all-append}
use Rattle.std.proofs.lemmas.List.{map_push}
use Rattle.pol_names.specs.declared.subject_id.SubjectId.{SubjectId}
use Rattle.pol_text.specs.declared.subject.Subject.{Subject}
use Rattle.pol_names.specs.Name.{is_name}
use Rattle.pol_names.specs.SubjectId.{same_id, group_id}
use Rattle.pol_text.specs.Policy.{id_of, find_subject, ends_within, all_distinct, all_of, is_right_subject, has_parent, WellFormed, max_subjects}
use Rattle.pol_text.specs.Change.{has_room_below}
use Rattle.pol_text.proofs.Keeps.{all_found, all_from, all_both, differs_back, same_id_is, found_same}
use Rattle.pol_text.proofs.RightSubject.{right_parts}

-- ---- look-ups in the longer list

found_still : (id : SubjectId) (p q : List Subject) (s : Subject) → find_subject id p ≡ Some s → find_subject id (p ++ q) ≡ Some s
found_still id [] q s e = cc
found_still id (x ∷ p) q s e = by (same_id id (id_of x)) e (found_still id p q s)
  where
    by : (b : Bool) → cond b (Some x) (find_subject id p) ≡ Some s → (find_subject id p ≡ Some s → find_subject id (p ++ q) ≡ Some s) → cond b (Some x) (find_subject id (p ++ q)) ≡ Some s
    by true e rest = e
    by false e rest = rest e

some_still : (id : SubjectId) (p q : List Subject) → is_some (find_subject id p) ≡ true → is_some (find_subject id (p ++ q)) ≡ true
some_still id p q there = by (find_subject id p) refl there
  where
    by : (o : Option Subject) → find_subject id p ≡ o → is_some o ≡ true → is_some (find_subject id (p ++ q)) ≡ true
    by None e h = cc
    by (Some s) e h = ap is_some (found_still id p q s e)

has_parent_still : (p q : List Subject) (parent : Option (List ℕ)) → all_of (λ name. is_some (find_subject (group_id name) p)) parent ≡ true
    → all_of (λ name. is_some (find_subject (group_id name) (p ++ q))) parent ≡ true
has_parent_still p q None h = refl
has_parent_still p q (Some name) h = some_still (group_id name) p q h

-- where each parent is there, the chains stay
ends_still : (p q : List Subject) → list_all (has_parent p) p ≡ true → (n : ℕ) (s : Subject) → has_parent p s ≡ true → ends_within n (p ++ q) s ≡ ends_within n p s
unfolding ends_within
ends_still p q all zero s h = refl
ends_still p q all (suc n) s h = by (ends_still p q all n) s.parent h
  where
    found : ((t : Subject) → has_parent p t ≡ true → ends_within n (p ++ q) t ≡ ends_within n p t) → (name : List ℕ) (o : Option Subject)
        → find_subject (group_id name) p ≡ o → is_some o ≡ true
        → option_map_or (ends_within n (p ++ q)) (find_subject (group_id name) (p ++ q)) true ≡ option_map_or (ends_within n p) (find_subject (group_id name) p) true
    found below name None e there = cc
    found below name (Some t) e there =
        ap (λ o. option_map_or (ends_within n (p ++ q)) o true) (found_still (group_id name) p q t e)
        ∙ below t (all_found (has_parent p) (group_id name) p t all e)
        ∙ sym (ap (λ o. option_map_or (ends_within n p) o true) e)

    by : ((t : Subject) → has_parent p t ≡ true → ends_within n (p ++ q) t ≡ ends_within n p t) → (parent : Option (List ℕ))
        → all_of (λ name. is_some (find_subject (group_id name) p)) parent ≡ true
        → option_map_or (ends_within n (p ++ q)) (option_and_then (λ name. find_subject (group_id name) (p ++ q)) parent) true
        ≡ option_map_or (ends_within n p) (option_and_then (λ name. find_subject (group_id name) p) parent) true
    by below None h = refl
    by below (Some name) h = found below name (find_subject (group_id name) p) refl h

-- ---- the new subject

pub absent_any : (id : SubjectId) (p : List Subject) → find_subject id p ≡ None → list_any (same_id id) (map id_of p) ≡ false
absent_any id [] e = refl
absent_any id (x ∷ p) e = by (same_id id (id_of x)) e (absent_any id p)
  where
    by : (b : Bool) → cond b (Some x) (find_subject id p) ≡ None → (find_subject id p ≡ None → list_any (same_id id) (map id_of p) ≡ false) → (b || list_any (same_id id) (map id_of p)) ≡ false
    by true e rest = cc
    by false e rest = rest e

any_push : (a id : SubjectId) (ids : List SubjectId) → list_any (same_id a) ids ≡ false → same_id a id ≡ false → list_any (same_id a) (ids ++ id ∷ []) ≡ false
any_push a id [] none other = or_from (same_id a id) false other refl
any_push a id (x ∷ ids) none other =
    let parts = or_parts (same_id a x) (list_any (same_id a) ids) none in
    or_from (same_id a x) (list_any (same_id a) (ids ++ id ∷ [])) parts.0 (any_push a id ids parts.1 other)

distinct_push : (id : SubjectId) (ids : List SubjectId) → all_distinct ids ≡ true → list_any (same_id id) ids ≡ false → all_distinct (ids ++ id ∷ []) ≡ true
distinct_push id [] d none = refl
distinct_push id (x ∷ ids) d none =
    let parts = and_parts (not (list_any (same_id x) ids)) (all_distinct ids) d in
    let others = or_parts (same_id id x) (list_any (same_id id) ids) none in
    and_from (not (list_any (same_id x) (ids ++ id ∷ []))) (all_distinct (ids ++ id ∷ []))
    (not_from_false (list_any (same_id x) (ids ++ id ∷ [])) (any_push x id ids (not-true _ parts.0) (differs_back id x others.0)))
    (distinct_push id ids parts.1 others.1)

-- room below a group: it is there, and its chain has at most 7
module _ (p : List Subject) (w : WellFormed p) where
  room_parent : (parent : Option (List ℕ)) → all_of (λ group. has_room_below group p) parent ≡ true → all_of (λ name. is_some (find_subject (group_id name) p)) parent ≡ true
  room_parent None h = refl
  room_parent (Some name) h = by (find_subject (group_id name) p) h
    where
      by : (o : Option Subject) → option_map_or (ends_within 7 p) o false ≡ true → is_some o ≡ true
      by None h = h
      by (Some s) h = refl

  room_short : (y : Subject) (q : List Subject) → all_of (λ group. has_room_below group p) y.parent ≡ true → ends_within 8 (p ++ q) y ≡ true
  unfolding ends_within
  room_short y q h = by y.parent h
    where
      found : (name : List ℕ) (o : Option Subject) → find_subject (group_id name) p ≡ o → option_map_or (ends_within 7 p) o false ≡ true
          → option_map_or (ends_within 7 (p ++ q)) (find_subject (group_id name) (p ++ q)) true ≡ true
      found name None e h = cc
      found name (Some s) e h =
          ap (λ o. option_map_or (ends_within 7 (p ++ q)) o true) (found_still (group_id name) p q s e)
          ∙ ends_still p q w.parents 7 s (all_found (has_parent p) (group_id name) p s w.parents e) ∙ h

      by : (parent : Option (List ℕ)) → all_of (λ group. has_room_below group p) parent ≡ true
          → option_map_or (ends_within 7 (p ++ q)) (option_and_then (λ name. find_subject (group_id name) (p ++ q)) parent) true ≡ true
      by None h = refl
      by (Some name) h = found name (find_subject (group_id name) p) refl h

  -- the longer policy
  pub kept_add : (y : Subject) → find_subject (id_of y) p ≡ None → length p < max_subjects → all_of (λ group. has_room_below group p) y.parent ≡ true → is_right_subject y ≡ true
      → WellFormed (p ++ y ∷ [])
  kept_add y absent room below right =
      record {
        few = omega (arith, length-append p (y ∷ []));
        distinct = ap all_distinct (map_push id_of p y) ∙ distinct_push (id_of y) (map id_of p) w.distinct (absent_any (id_of y) p absent);
        right = both is_right_subject w.right right;
        parents = both (has_parent (p ++ y ∷ [])) (all_from (has_parent p) (has_parent (p ++ y ∷ [])) (λ s h. has_parent_still p (y ∷ []) s.parent h) p w.parents)
            (has_parent_still p (y ∷ []) y.parent (room_parent y.parent below));
        short = both (ends_within 8 (p ++ y ∷ []))
            (all_from (λ s. has_parent p s && ends_within 8 p s) (ends_within 8 (p ++ y ∷ []))
            (λ s h. let parts = and_parts (has_parent p s) (ends_within 8 p s) h in ends_still p (y ∷ []) w.parents 8 s parts.0 ∙ parts.1)
            p (all_both (has_parent p) (ends_within 8 p) p w.parents w.short))
            (room_short y (y ∷ []) below);
      }
    where
      both : (test : Subject → Bool) → list_all test p ≡ true → test y ≡ true → list_all test (p ++ y ∷ []) ≡ true
      both test all here = list_all-append test p (y ∷ []) ∙ and_from (list_all test p) (list_all test (y ∷ [])) all (and_from (test y) true here refl)

-- a group's name is a name
pub group_name : (p : List Subject) → WellFormed p → (parent : Option (List ℕ)) → all_of (λ name. is_some (find_subject (group_id name) p)) parent ≡ true → all_of is_name parent ≡ true
group_name p w None h = refl
group_name p w (Some name) h = by (find_subject (group_id name) p) refl h
  where
    by : (o : Option Subject) → find_subject (group_id name) p ≡ o → is_some o ≡ true → is_name name ≡ true
    by None e h = cc
    by (Some s) e h =
        let same : group_id name ≡ id_of s = same_id_is (group_id name) (id_of s) (found_same (group_id name) p s e) in
        ap (λ t. is_name t.name) same ∙ (right_parts s (all_found is_right_subject (group_id name) p s w.right e)).name
