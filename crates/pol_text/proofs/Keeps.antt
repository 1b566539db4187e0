-- A change in one subject's place keeps a policy well formed.
use Rattle.std.proofs.Common.{◌≡◌, ℕ, zero, suc, Bool, true, false, not, cond, ◌&&◌, ◌||◌, true≢false, List, [], ◌∷◌, map, Option, None, Some, refl, sym, ap, subst, ◌∙◌, slice_get, slice_set, is_some, if◌then◌else◌}
use Rattle.std.specs.Option.{option_map, option_map_or, option_and_then}
use Rattle.std.specs.List.{list_any, list_all}
use Rattle.std.specs.Str.{bytes_eq}
use Rattle.std.specs.Cmp.Lexicographic.{bytes_decides}
use Rattle.std.proofs.lemmas.Bool.{and_parts, and_from, or_parts, or_right, not-true, false_from_ne_true}
use Rattle.std.proofs.lemmas.List.{length-map}
use Rattle.pol_names.specs.declared.subject_id.Kind.{Kind}
use Rattle.pol_names.specs.declared.subject_id.Kind.TheVariants.{Group, User}
use Rattle.pol_names.specs.declared.subject_id.SubjectId.{SubjectId}
use Rattle.pol_text.specs.declared.subject.Subject.{Subject}
use Rattle.pol_names.specs.SubjectId.{same_kind, same_id, group_id}
use Rattle.pol_text.specs.Policy.{id_of, find_subject, parent_of, ends_within, all_distinct, all_of, is_right_subject, has_parent, WellFormed}
use Rattle.pol_text.specs.Places.{changed_at}
use Rattle.pol_text.specs.Change.{with_changed}

-- ---- identifiers

same_kind_is : (a b : Kind) → same_kind a b ≡ true → a ≡ b
same_kind_is Group Group e = refl
same_kind_is Group User e = cc
same_kind_is User Group e = cc
same_kind_is User User e = refl

same_kind_self : (a : Kind) → same_kind a a ≡ true
same_kind_self Group = refl
same_kind_self User = refl

pub same_id_is : (a b : SubjectId) → same_id a b ≡ true → a ≡ b
same_id_is a b e =
    let parts = and_parts (same_kind a.kind b.kind) (bytes_eq a.name b.name) e in
    let kinds : a.kind ≡ b.kind = same_kind_is a.kind b.kind parts.0 in
    let names : a.name ≡ b.name = (bytes_decides a.name b.name).0 parts.1 in
    λ i. record { kind = kinds i; name = names i }

pub same_id_self : (a : SubjectId) → same_id a a ≡ true
same_id_self a = and_from (same_kind a.kind a.kind) (bytes_eq a.name a.name) (same_kind_self a.kind) ((bytes_decides a.name a.name).1 refl)

-- two that differ from the first side differ from the other
pub differs_back : (a b : SubjectId) → same_id a b ≡ false → same_id b a ≡ false
differs_back a b e = false_from_ne_true (same_id b a) (λ h. true≢false (sym (same_id_self b) ∙ ap (λ t. same_id t b) (same_id_is b a h) ∙ e))

-- ---- tests of all

pub all_found : (test : Subject → Bool) (id : SubjectId) (p : List Subject) (s : Subject) → list_all test p ≡ true → find_subject id p ≡ Some s → test s ≡ true
all_found test id [] s all e = cc
all_found test id (x ∷ p) s all e =
    let parts = and_parts (test x) (list_all test p) all in
    by (same_id id (id_of x)) e parts.0 (all_found test id p s parts.1)
  where
    by : (b : Bool) → cond b (Some x) (find_subject id p) ≡ Some s → test x ≡ true → (find_subject id p ≡ Some s → test s ≡ true) → test s ≡ true
    by true h here rest = let same : x ≡ s = cc in subst (λ t. test t ≡ true) same here
    by false h here rest = rest h

pub found_same : (id : SubjectId) (p : List Subject) (s : Subject) → find_subject id p ≡ Some s → same_id id (id_of s) ≡ true
found_same id [] s e = cc
found_same id (x ∷ p) s e = by (same_id id (id_of x)) refl e (found_same id p s)
  where
    by : (b : Bool) → same_id id (id_of x) ≡ b → cond b (Some x) (find_subject id p) ≡ Some s → (find_subject id p ≡ Some s → same_id id (id_of s) ≡ true) → same_id id (id_of s) ≡ true
    by true h e rest = let same : x ≡ s = cc in subst (λ t. same_id id (id_of t) ≡ true) same h
    by false h e rest = rest e

pub all_at : {X : Type 0} (test : X → Bool) (p : List X) (i : ℕ) (s : X) → list_all test p ≡ true → slice_get p i ≡ Some s → test s ≡ true
all_at test [] i s all e = cc
all_at test (x ∷ p) zero s all e = let same : x ≡ s = cc in subst (λ t. test t ≡ true) same ((and_parts (test x) (list_all test p) all).0)
all_at test (x ∷ p) (suc i) s all e = all_at test p i s ((and_parts (test x) (list_all test p) all).1) e

all_set : {X : Type 0} (test : X → Bool) (p : List X) (i : ℕ) (y : X) → list_all test p ≡ true → test y ≡ true → list_all test (slice_set p i y) ≡ true
all_set test [] i y all e = refl
all_set test (x ∷ p) zero y all e = and_from (test y) (list_all test p) e ((and_parts (test x) (list_all test p) all).1)
all_set test (x ∷ p) (suc i) y all e =
    let parts = and_parts (test x) (list_all test p) all in
    and_from (test x) (list_all test (slice_set p i y)) parts.0 (all_set test p i y parts.1 e)

pub set_back : {X : Type 0} (p : List X) (i : ℕ) (s : X) → slice_get p i ≡ Some s → slice_set p i s ≡ p
set_back [] i s at = refl
set_back (x ∷ p) zero s at = let e : s ≡ x = cc in ap (λ t. t ∷ p) e
set_back (x ∷ p) (suc i) s at = ap (λ l. x ∷ l) (set_back p i s at)

pub all_from : {X : Type 0} (test other : X → Bool) → ((x : X) → test x ≡ true → other x ≡ true) → (p : List X) → list_all test p ≡ true → list_all other p ≡ true
all_from test other h [] all = refl
all_from test other h (x ∷ p) all =
    let parts = and_parts (test x) (list_all test p) all in
    and_from (other x) (list_all other p) (h x parts.0) (all_from test other h p parts.1)

pub all_both : {X : Type 0} (test other : X → Bool) (p : List X) → list_all test p ≡ true → list_all other p ≡ true → list_all (λ x. test x && other x) p ≡ true
all_both test other [] all all2 = refl
all_both test other (x ∷ p) all all2 =
    let a = and_parts (test x) (list_all test p) all in
    let b = and_parts (other x) (list_all other p) all2 in
    and_from (test x && other x) (list_all (λ x. test x && other x) p) (and_from (test x) (other x) a.0 b.0) (all_both test other p a.1 b.1)

-- the same at each image
all_map : (g : Subject → Subject) (test other : Subject → Bool) → ((x : Subject) → other (g x) ≡ test x) → (p : List Subject) → list_all test p ≡ true → list_all other (map g p) ≡ true
all_map g test other h [] all = refl
all_map g test other h (x ∷ p) all =
    let parts = and_parts (test x) (list_all test p) all in
    and_from (other (g x)) (list_all other (map g p)) (h x ∙ parts.0) (all_map g test other h p parts.1)

-- ---- the subject at its place

none_same : (id : SubjectId) (f : Subject → Subject) (p : List Subject) → list_any (same_id id) (map id_of p) ≡ false → p ≡ with_changed id f p
none_same id f [] none = refl
none_same id f (x ∷ p) none =
    let parts = or_parts (same_id id (id_of x)) (list_any (same_id id) (map id_of p)) none in
    ap (λ (t : Bool). (if t then f x else x) ∷ p) (sym parts.0) ∙ ap (λ l. (if same_id id (id_of x) then f x else x) ∷ l) (none_same id f p parts.1)

pub any_at : (a : SubjectId) (p : List Subject) (i : ℕ) (s : Subject) → slice_get p i ≡ Some s → same_id a (id_of s) ≡ true → list_any (same_id a) (map id_of p) ≡ true
any_at a [] i s at same = cc
any_at a (x ∷ p) zero s at same = let e : x ≡ s = cc in ap (λ t. same_id a (id_of t) || list_any (same_id a) (map id_of p)) e ∙ ap (λ (t : Bool). t || list_any (same_id a) (map id_of p)) same
any_at a (x ∷ p) (suc i) s at same = or_right (same_id a (id_of x)) (list_any (same_id a) (map id_of p)) (any_at a p i s at same)

-- a change at the place is the change by kind and name, since these are distinct
pub set_is_changed : (id : SubjectId) (f : Subject → Subject) (p : List Subject) (i : ℕ) (s : Subject) → slice_get p i ≡ Some s → same_id id (id_of s) ≡ true
    → all_distinct (map id_of p) ≡ true → slice_set p i (f s) ≡ with_changed id f p
set_is_changed id f [] i s at same d = cc
set_is_changed id f (x ∷ p) zero s at same d =
    let e : x ≡ s = cc in
    let here : same_id id (id_of x) ≡ true = ap (λ t. same_id id (id_of t)) e ∙ same in
    let none : list_any (same_id (id_of x)) (map id_of p) ≡ false = not-true _ ((and_parts (not (list_any (same_id (id_of x)) (map id_of p))) (all_distinct (map id_of p)) d).0) in
    let none2 : list_any (same_id id) (map id_of p) ≡ false = ap (λ t. list_any (same_id t) (map id_of p)) (same_id_is id (id_of x) here) ∙ none in
    ap (λ t. f t ∷ p) (sym e) ∙ ap (λ (t : Bool). (if t then f x else x) ∷ p) (sym here) ∙ ap (λ l. (if same_id id (id_of x) then f x else x) ∷ l) (none_same id f p none2)
set_is_changed id f (x ∷ p) (suc i) s at same d =
    let parts = and_parts (not (list_any (same_id (id_of x)) (map id_of p))) (all_distinct (map id_of p)) d in
    let none : list_any (same_id (id_of x)) (map id_of p) ≡ false = not-true _ parts.0 in
    let other : same_id id (id_of x) ≡ false = false_from_ne_true (same_id id (id_of x)) (λ h. true≢false (sym (any_at (id_of x) p i s at (ap (λ t. same_id t (id_of s)) (sym (same_id_is id (id_of x) h)) ∙ same)) ∙ none)) in
    ap (λ (t : Bool). (if t then f x else x) ∷ slice_set p i (f s)) (sym other) ∙ ap (λ l. (if same_id id (id_of x) then f x else x) ∷ l) (set_is_changed id f p i s at same parts.1)

-- ---- changes that leave kinds and names

found_map : (g : Subject → Subject) → ((s : Subject) → id_of (g s) ≡ id_of s) → (id : SubjectId) (p : List Subject) → find_subject id (map g p) ≡ option_map g (find_subject id p)
found_map g keeps id [] = refl
found_map g keeps id (x ∷ p) = ap (λ t. if same_id id t then Some (g x) else find_subject id (map g p)) (keeps x) ∙ by (same_id id (id_of x)) (found_map g keeps id p)
  where
    by : (b : Bool) → find_subject id (map g p) ≡ option_map g (find_subject id p) → (if b then Some (g x) else find_subject id (map g p)) ≡ option_map g (if b then Some x else find_subject id p)
    by true rest = refl
    by false rest = rest

pub ids_map : (g : Subject → Subject) → ((s : Subject) → id_of (g s) ≡ id_of s) → (p : List Subject) → map id_of (map g p) ≡ map id_of p
ids_map g keeps [] = refl
ids_map g keeps (x ∷ p) = ap (λ t. t ∷ map id_of (map g p)) (keeps x) ∙ ap (λ l. id_of x ∷ l) (ids_map g keeps p)

some_map : {X Y : Type 0} (g : X → Y) (o : Option X) → is_some (option_map g o) ≡ is_some o
some_map g None = refl
some_map g (Some x) = refl

has_parent_map : (g : Subject → Subject) → ((s : Subject) → id_of (g s) ≡ id_of s) → (p : List Subject) (parent : Option (List ℕ))
    → all_of (λ name. is_some (find_subject (group_id name) (map g p))) parent ≡ all_of (λ name. is_some (find_subject (group_id name) p)) parent
has_parent_map g keeps p None = refl
has_parent_map g keeps p (Some name) = ap is_some (found_map g keeps (group_id name) p) ∙ some_map g (find_subject (group_id name) p)

-- ---- and parents

parent_map : (g : Subject → Subject) → ((s : Subject) → id_of (g s) ≡ id_of s) → (p : List Subject) (parent : Option (List ℕ))
    → option_and_then (λ name. find_subject (group_id name) (map g p)) parent ≡ option_map g (option_and_then (λ name. find_subject (group_id name) p) parent)
parent_map g keeps p None = refl
parent_map g keeps p (Some name) = found_map g keeps (group_id name) p

ends_map : (g : Subject → Subject) → ((s : Subject) → id_of (g s) ≡ id_of s) → ((s : Subject) → (g s).parent ≡ s.parent) → (p : List Subject) (n : ℕ) (s : Subject)
    → ends_within n (map g p) (g s) ≡ ends_within n p s
unfolding ends_within
ends_map g keeps same p zero s = refl
ends_map g keeps same p (suc n) s =
    ap (λ o. option_map_or (ends_within n (map g p)) (option_and_then (λ name. find_subject (group_id name) (map g p)) o) true) (same s)
    ∙ ap (λ o. option_map_or (ends_within n (map g p)) o true) (parent_map g keeps p s.parent)
    ∙ by (ends_map g keeps same p n) (parent_of p s)
  where
    by : ((q : Subject) → ends_within n (map g p) (g q) ≡ ends_within n p q) → (o : Option Subject)
        → option_map_or (ends_within n (map g p)) (option_map g o) true ≡ option_map_or (ends_within n p) o true
    by below None = refl
    by below (Some q) = below q

module _ (id : SubjectId) (f : Subject → Subject) (keeps : (s : Subject) → id_of (f s) ≡ id_of s) where
  abbrev pub changes : Subject → Subject
  changes s = if same_id id (id_of s) then f s else s

  pub changes_keep : (s : Subject) → id_of (changes s) ≡ id_of s
  changes_keep s = by (same_id id (id_of s))
    where
      by : (b : Bool) → id_of (if b then f s else s) ≡ id_of s
      by true = keeps s
      by false = refl

  changes_keep_parent : ((s : Subject) → (f s).parent ≡ s.parent) → (s : Subject) → (changes s).parent ≡ s.parent
  changes_keep_parent same s = by (same_id id (id_of s))
    where
      by : (b : Bool) → (if b then f s else s).parent ≡ s.parent
      by true = same s
      by false = refl

  -- all but the chains
  pub kept_but_short : (p : List Subject) (i : ℕ) (s : Subject) → slice_get p i ≡ Some s → same_id id (id_of s) ≡ true
      → is_right_subject (f s) ≡ true → all_of (λ name. is_some (find_subject (group_id name) p)) (f s).parent ≡ true → WellFormed p
      → list_all (ends_within 8 (with_changed id f p)) (with_changed id f p) ≡ true → WellFormed (with_changed id f p)
  kept_but_short p i s at same right parent w short =
      let changed : slice_set p i (f s) ≡ with_changed id f p = set_is_changed id f p i s at same w.distinct in
      record {
        few = rw (length-map p changes) w.few;
        distinct = ap all_distinct (ids_map changes changes_keep p) ∙ w.distinct;
        right = subst (λ l. list_all is_right_subject l ≡ true) changed (all_set is_right_subject p i (f s) w.right right);
        parents = all_from (has_parent p) (has_parent (map changes p)) (λ x h. has_parent_map changes changes_keep p x.parent ∙ h) (with_changed id f p)
            (subst (λ l. list_all (has_parent p) l ≡ true) changed (all_set (has_parent p) p i (f s) w.parents parent));
        short = short;
      }

  pub kept : ((s : Subject) → (f s).parent ≡ s.parent) → (p : List Subject) (i : ℕ) (s : Subject) → slice_get p i ≡ Some s → same_id id (id_of s) ≡ true
      → is_right_subject (f s) ≡ true → WellFormed p → WellFormed (with_changed id f p)
  kept same_parent p i s at same right w =
      kept_but_short p i s at same right
      (ap (λ o. all_of (λ name. is_some (find_subject (group_id name) p)) o) (same_parent s) ∙ all_at (has_parent p) p i s w.parents at)
      w (all_map changes (ends_within 8 p) (ends_within 8 (map changes p)) (ends_map changes changes_keep (changes_keep_parent same_parent) p 8) p w.short)

  -- what a change at the place leaves of the policy's fields
  pub kept_at : ((s : Subject) → (f s).parent ≡ s.parent) → (p : List Subject) (i : ℕ) (s : Subject) → slice_get p i ≡ Some s → same_id id (id_of s) ≡ true
      → is_right_subject (f s) ≡ true → (keys : List SubjectId) → WellFormed p × (keys ≡ map id_of p)
      → WellFormed (slice_set p i (f s)) × (keys ≡ map id_of (slice_set p i (f s)))
  kept_at same_parent p i s at same right keys w =
      let changed : slice_set p i (f s) ≡ with_changed id f p = set_is_changed id f p i s at same w.0.distinct in
      subst (λ l. WellFormed l × (keys ≡ map id_of l)) (sym changed) (kept same_parent p i s at same right w.0, w.1 ∙ sym (ids_map changes changes_keep p))

-- the change at a place, by its element
pub set_at : {X : Type 0} (f : X → X) (p : List X) (i : ℕ) (s : X) → slice_get p i ≡ Some s → slice_set p i (f s) ≡ changed_at i f p
set_at f [] i s at = cc
set_at f (x ∷ p) zero s at = let e : s ≡ x = cc in ap (λ t. f t ∷ p) e
set_at f (x ∷ p) (suc i) s at = ap (λ l. x ∷ l) (set_at f p i s at)
