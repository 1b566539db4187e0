-- A policy without a subject that is no parent is well formed.
use Rattle.std.proofs.Common.{◌≡◌, ℕ, zero, suc, ◌≤◌, Bool, true, false, not, ◌&&◌, true≢false, List, [], ◌∷◌, length, map, remove, Option, None, Some, refl, sym, ap, subst, ◌∙◌, arith, is_some, slice_get, if◌then◌else◌}
use Rattle.std.specs.Option.{option_map_or, option_and_then}
use Rattle.std.specs.List.{list_any, list_all}
use Rattle.std.specs.Str.{bytes_eq}
use Rattle.std.proofs.lemmas.Bool.{and_parts, and_from, and_right, or_parts, or_from, not-true, not_from_false, false_from_ne_true}
use Rattle.pol_names.specs.declared.subject_id.Kind.{Kind}
use Rattle.pol_names.specs.declared.subject_id.Kind.TheVariants.{Group, User}
use Rattle.pol_names.specs.declared.subject_id.SubjectId.{SubjectId}
use Rattle.pol_text.specs.declared.subject.Subject.{Subject}
use Rattle.pol_names.specs.SubjectId.{same_id, group_id}
use Rattle.pol_text.specs.Policy.{id_of, find_subject, ends_within, all_distinct, all_of, is_right_subject, has_parent, WellFormed}
use Rattle.pol_text.specs.Change.{without, is_parent}
use Rattle.pol_text.proofs.Keeps.{all_found, all_from, all_both, same_id_is, any_at}
use Rattle.pol_text.proofs.Placed.{AreFields, Placed}

-- ---- what is left

all_without : (test : Subject → Bool) (id : SubjectId) (p : List Subject) → list_all test p ≡ true → list_all test (without id p) ≡ true
all_without test id [] all = refl
all_without test id (x ∷ p) all =
    let parts = and_parts (test x) (list_all test p) all in
    by (same_id id (id_of x)) parts.0 (all_without test id p parts.1)
  where
    by : (b : Bool) → test x ≡ true → list_all test (without id p) ≡ true → list_all test (if b then without id p else x ∷ without id p) ≡ true
    by true here rest = rest
    by false here rest = and_from (test x) (list_all test (without id p)) here rest

any_without : (a id : SubjectId) (p : List Subject) → list_any (same_id a) (map id_of p) ≡ false → list_any (same_id a) (map id_of (without id p)) ≡ false
any_without a id [] none = refl
any_without a id (x ∷ p) none =
    let parts = or_parts (same_id a (id_of x)) (list_any (same_id a) (map id_of p)) none in
    by (same_id id (id_of x)) parts.0 (any_without a id p parts.1)
  where
    by : (b : Bool) → same_id a (id_of x) ≡ false → list_any (same_id a) (map id_of (without id p)) ≡ false → list_any (same_id a) (map id_of (if b then without id p else x ∷ without id p)) ≡ false
    by true here rest = rest
    by false here rest = or_from (same_id a (id_of x)) (list_any (same_id a) (map id_of (without id p))) here rest

distinct_without : (id : SubjectId) (p : List Subject) → all_distinct (map id_of p) ≡ true → all_distinct (map id_of (without id p)) ≡ true
distinct_without id [] d = refl
distinct_without id (x ∷ p) d =
    let parts = and_parts (not (list_any (same_id (id_of x)) (map id_of p))) (all_distinct (map id_of p)) d in
    by (same_id id (id_of x)) (any_without (id_of x) id p (not-true _ parts.0)) (distinct_without id p parts.1)
  where
    by : (b : Bool) → list_any (same_id (id_of x)) (map id_of (without id p)) ≡ false → all_distinct (map id_of (without id p)) ≡ true
        → all_distinct (map id_of (if b then without id p else x ∷ without id p)) ≡ true
    by true here rest = rest
    by false here rest =
        and_from (not (list_any (same_id (id_of x)) (map id_of (without id p)))) (all_distinct (map id_of (without id p))) (not_from_false (list_any (same_id (id_of x)) (map id_of (without id p))) here) rest

few_without : (id : SubjectId) (p : List Subject) → length (without id p) ≤ length p
few_without id [] = omega arith
few_without id (x ∷ p) = by (same_id id (id_of x)) (few_without id p)
  where
    by : (b : Bool) → length (without id p) ≤ length p → length (if b then without id p else x ∷ without id p) ≤ length (x ∷ p)
    by true h = omega arith
    by false h = omega arith

-- ---- look-ups of others

found_without : (id other : SubjectId) (p : List Subject) → same_id id other ≡ false → find_subject other (without id p) ≡ find_subject other p
found_without id other [] apart = refl
found_without id other (x ∷ p) apart = by (same_id id (id_of x)) refl (found_without id other p apart)
  where
    by : (b : Bool) → same_id id (id_of x) ≡ b → find_subject other (without id p) ≡ find_subject other p
        → find_subject other (if b then without id p else x ∷ without id p) ≡ (if same_id other (id_of x) then Some x else find_subject other p)
    by true h rest =
        let differs : same_id other (id_of x) ≡ false = false_from_ne_true (same_id other (id_of x)) (λ e. true≢false (
        sym h ∙ ap (same_id id) (sym (same_id_is other (id_of x) e)) ∙ apart)) in
        rest ∙ ap (λ (t : Bool). if t then Some x else find_subject other p) (sym differs)
    by false h rest = ap (λ o. if same_id other (id_of x) then Some x else o) rest

-- the subject's parent, if it has one, isn't the one of this kind and name
abbrev pub is_apart : SubjectId → Subject → Bool
is_apart id subject = all_of (λ name. not (same_id id (group_id name))) subject.parent

module _ (id : SubjectId) (p : List Subject) (aparts : list_all (is_apart id) p ≡ true) where
  has_parent_without : (parent : Option (List ℕ)) → all_of (λ name. not (same_id id (group_id name))) parent ≡ true → all_of (λ name. is_some (find_subject (group_id name) p)) parent ≡ true
      → all_of (λ name. is_some (find_subject (group_id name) (without id p))) parent ≡ true
  has_parent_without None apart h = refl
  has_parent_without (Some name) apart h = ap is_some (found_without id (group_id name) p (not-true _ apart)) ∙ h

  ends_without : (n : ℕ) (s : Subject) → is_apart id s ≡ true → ends_within n (without id p) s ≡ ends_within n p s
  unfolding ends_within
  ends_without zero s apart = refl
  ends_without (suc n) s apart = by (ends_without n) s.parent apart
    where
      found : ((t : Subject) → is_apart id t ≡ true → ends_within n (without id p) t ≡ ends_within n p t) → (name : List ℕ) (o : Option Subject) → find_subject (group_id name) p ≡ o
          → option_map_or (ends_within n (without id p)) o true ≡ option_map_or (ends_within n p) o true
      found below name None e = refl
      found below name (Some t) e = below t (all_found (is_apart id) (group_id name) p t aparts e)

      by : ((t : Subject) → is_apart id t ≡ true → ends_within n (without id p) t ≡ ends_within n p t) → (parent : Option (List ℕ))
          → all_of (λ name. not (same_id id (group_id name))) parent ≡ true
          → option_map_or (ends_within n (without id p)) (option_and_then (λ name. find_subject (group_id name) (without id p)) parent) true
          ≡ option_map_or (ends_within n p) (option_and_then (λ name. find_subject (group_id name) p) parent) true
      by below None apart = refl
      by below (Some name) apart =
          ap (λ o. option_map_or (ends_within n (without id p)) o true) (found_without id (group_id name) p (not-true _ apart))
          ∙ found below name (find_subject (group_id name) p) refl

  kept_without : WellFormed p → WellFormed (without id p)
  kept_without w =
      record {
        few = omega (arith, few_without id p);
        distinct = distinct_without id p w.distinct;
        right = all_without is_right_subject id p w.right;
        parents = all_without (has_parent (without id p)) id p
            (all_from (λ s. is_apart id s && has_parent p s) (has_parent (without id p))
            (λ s h. let parts = and_parts (is_apart id s) (has_parent p s) h in has_parent_without s.parent parts.0 parts.1)
            p (all_both (is_apart id) (has_parent p) p aparts w.parents));
        short = all_without (ends_within 8 (without id p)) id p
            (all_from (λ s. is_apart id s && ends_within 8 p s) (ends_within 8 (without id p))
            (λ s h. let parts = and_parts (is_apart id s) (ends_within 8 p s) h in ends_without 8 s parts.0 ∙ parts.1)
            p (all_both (is_apart id) (ends_within 8 p) p aparts w.short));
      }

-- ---- who is no parent

apart_from_user : (name : List ℕ) (parent : Option (List ℕ)) → all_of (λ other. not (same_id (record { kind = User; name = name }) (group_id other))) parent ≡ true
apart_from_user name None = refl
apart_from_user name (Some other) = refl

apart_from_group : (name : List ℕ) (parent : Option (List ℕ)) → option_map_or (bytes_eq name) parent false ≡ false → all_of (λ other. not (same_id (group_id name) (group_id other))) parent ≡ true
apart_from_group name None h = refl
apart_from_group name (Some other) h = not_from_false (same_id (group_id name) (group_id other)) (and_right true (bytes_eq name other) h)

all_apart_user : (name : List ℕ) (p : List Subject) → list_all (is_apart (record { kind = User; name = name })) p ≡ true
all_apart_user name [] = refl
all_apart_user name (x ∷ p) = and_from (is_apart (record { kind = User; name = name }) x) (list_all (is_apart (record { kind = User; name = name })) p) (apart_from_user name x.parent) (all_apart_user name p)

all_apart_group : (name : List ℕ) (p : List Subject) → is_parent name p ≡ false → list_all (is_apart (group_id name)) p ≡ true
all_apart_group name [] h = refl
all_apart_group name (x ∷ p) h =
    let parts = or_parts (option_map_or (bytes_eq name) x.parent false) (is_parent name p) h in
    and_from (is_apart (group_id name) x) (list_all (is_apart (group_id name)) p) (apart_from_group name x.parent parts.0) (all_apart_group name p parts.1)

all_apart : (kind : Kind) (name : List ℕ) (p : List Subject) → (kind ≡ Group → is_parent name p ≡ false) → list_all (is_apart (record { kind = kind; name = name })) p ≡ true
all_apart Group name p unused = all_apart_group name p (unused refl)
all_apart User name p unused = all_apart_user name p

-- ---- the subject at its place

none_without : (id : SubjectId) (p : List Subject) → list_any (same_id id) (map id_of p) ≡ false → p ≡ without id p
none_without id [] none = refl
none_without id (x ∷ p) none =
    let parts = or_parts (same_id id (id_of x)) (list_any (same_id id) (map id_of p)) none in
    ap (λ l. x ∷ l) (none_without id p parts.1) ∙ ap (λ (t : Bool). if t then without id p else x ∷ without id p) (sym parts.0)

remove_is_without : (id : SubjectId) (p : List Subject) (i : ℕ) (s : Subject) → slice_get p i ≡ Some s → same_id id (id_of s) ≡ true → all_distinct (map id_of p) ≡ true
    → remove p i ≡ without id p
remove_is_without id [] i s at same d = cc
remove_is_without id (x ∷ p) zero s at same d =
    let e : x ≡ s = cc in
    let here : same_id id (id_of x) ≡ true = ap (λ t. same_id id (id_of t)) e ∙ same in
    let none : list_any (same_id (id_of x)) (map id_of p) ≡ false = not-true _ ((and_parts (not (list_any (same_id (id_of x)) (map id_of p))) (all_distinct (map id_of p)) d).0) in
    let none2 : list_any (same_id id) (map id_of p) ≡ false = ap (λ t. list_any (same_id t) (map id_of p)) (same_id_is id (id_of x) here) ∙ none in
    none_without id p none2 ∙ ap (λ (t : Bool). if t then without id p else x ∷ without id p) (sym here)
remove_is_without id (x ∷ p) (suc i) s at same d =
    let parts = and_parts (not (list_any (same_id (id_of x)) (map id_of p))) (all_distinct (map id_of p)) d in
    let none : list_any (same_id (id_of x)) (map id_of p) ≡ false = not-true _ parts.0 in
    let other : same_id id (id_of x) ≡ false = false_from_ne_true (same_id id (id_of x)) (λ h. true≢false (sym (any_at (id_of x) p i s at (ap (λ t. same_id t (id_of s)) (sym (same_id_is id (id_of x) h)) ∙ same)) ∙ none)) in
    ap (λ l. x ∷ l) (remove_is_without id p i s at same parts.1) ∙ ap (λ (t : Bool). if t then without id p else x ∷ without id p) (sym other)

map_remove : {X Y : Type 0} (f : X → Y) (xs : List X) (i : ℕ) → map f (remove xs i) ≡ remove (map f xs) i
map_remove f [] zero = refl
map_remove f [] (suc i) = refl
map_remove f (x ∷ xs) zero = refl
map_remove f (x ∷ xs) (suc i) = ap (λ l. f x ∷ l) (map_remove f xs i)

module _ {id : SubjectId} {now p : List Subject} {keys : List SubjectId} {i : ℕ} {s : Subject} (h : Placed id now p keys i s) where
  pub removed_now : remove p i ≡ without id now
  removed_now = remove_is_without id p i s h.at h.same h.fields.0.distinct ∙ ap (without id) h.view

  pub fields_removed : (id.kind ≡ Group → is_parent id.name now ≡ false) → AreFields (remove p i) (remove keys i)
  fields_removed unused =
      let apart = all_apart id.kind id.name p (λ e. ap (is_parent id.name) h.view ∙ unused e) in
      let left : remove p i ≡ without id p = remove_is_without id p i s h.at h.same h.fields.0.distinct in
      (subst WellFormed (sym left) (kept_without id p apart h.fields.0), ap (λ l. remove l i) h.fields.1 ∙ sym (map_remove id_of p i))
