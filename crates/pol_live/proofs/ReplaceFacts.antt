-- What another policy leaves as it was, where it takes the place of the one before.
use Rattle.std.proofs.Common.{◌≡◌, ℕ, suc, ◌+◌, ◌<◌, Bool, true, false, true≢false, cond, ◌||◌, List, [], ◌∷◌, ◌++◌, Option, None, Some, refl, sym, ap, subst, ◌∙◌, if◌then◌else◌, length, get_or, drop, drop-cons, add-one}
use Rattle.std.specs.Cmp.Lexicographic.{pointwise}
use Rattle.std.specs.List.{filter_map, cons_option}
use Rattle.std.specs.Option.{option_eq, option_map_or}
use Rattle.std.specs.Str.{bytes_eq}
use Rattle.std.proofs.lemmas.Bool.{and_parts, or_right}
use Rattle.std.proofs.lemmas.List.{append_assoc}
use Rattle.std.proofs.lemmas.Option.{same_Some}
use Rattle.std.proofs.lemmas.Slice.Eq.{bytes_eq-Decides, slice_eq-Decides}
use Rattle.pol_names.specs.declared.subject_id.SubjectId.{SubjectId}
use Rattle.pol_names.specs.SubjectId.{same_id}
use Rattle.pol_text.specs.declared.subject.Rule.{Rule}
use Rattle.pol_text.specs.declared.subject.Subject.{Subject}
use Rattle.pol_text.specs.Policy.{id_of, find_subject, WellFormed}
use Rattle.pol_text.specs.Same.{same_rule, same_rule-Decides}
use Rattle.pol_live.specs.declared.touching.Touched.{Touched}
use Rattle.pol_live.specs.Renewing.{is_among, IsAlike, LeavesOthers, had_rules, was_alike, touched_between}
use Rattle.pol_live.specs.Rise.{IsRenewalRise, IsReplacingRise, Rises}
use Rattle.pol_live.proofs.RenewFacts.{same_id_self, found_id, leaves_others}

-- ---- the subjects that are listed

-- one more subject is gone through
pub listed_on : (list : Subject → Option SubjectId) (was now : List SubjectId) (i : ℕ) (p : List Subject) (s : Subject) → i < length p → get_or p i s ≡ s
    → now ≡ was ++ cons_option (list s) [] → was ++ filter_map list (drop i p) ≡ filter_map list p → now ++ filter_map list (drop (i + 1) p) ≡ filter_map list p
listed_on list was now i p s lt at grows so =
    let later = drop (suc i) p in
    let front : drop i p ≡ s ∷ later = drop-cons p i s lt ∙ ap (λ (x : Subject). x ∷ later) at in
    ap (λ (n : ℕ). now ++ filter_map list (drop n p)) (add-one i)
    ∙ ap (λ (xs : List SubjectId). xs ++ filter_map list later) grows
    ∙ append_assoc was (cons_option (list s) []) (filter_map list later)
    ∙ ap (λ (xs : List SubjectId). was ++ xs) (joined (list s) (filter_map list later))
    ∙ ap (λ (xs : List Subject). was ++ filter_map list xs) (sym front)
    ∙ so
  where
    joined : (o : Option SubjectId) (rest : List SubjectId) → cons_option o [] ++ rest ≡ cons_option o rest
    joined None rest = refl
    joined (Some x) rest = refl

among_listed : (list : Subject → Option SubjectId) (id : SubjectId) (p : List Subject) (s : Subject) → find_subject id p ≡ Some s → list s ≡ Some (id_of s)
    → is_among (filter_map list p) s ≡ true
among_listed list id [] s found here = cc
among_listed list id (x ∷ p) s found here = by (same_id id (id_of x)) found (λ h. among_listed list id p s h here)
  where
    past : (o : Option SubjectId) → is_among (filter_map list p) s ≡ true → is_among (cons_option o (filter_map list p)) s ≡ true
    past None there = there
    past (Some y) there = or_right (same_id y (id_of s)) (is_among (filter_map list p) s) there

    by : (b : Bool) → cond b (Some x) (find_subject id p) ≡ Some s → (find_subject id p ≡ Some s → is_among (filter_map list p) s ≡ true)
        → is_among (filter_map list (x ∷ p)) s ≡ true
    by true h later =
        let it : list x ≡ Some (id_of s) = ap list (same_Some x s h) ∙ here in
        ap (λ (o : Option SubjectId). is_among (cons_option o (filter_map list p)) s) it
        ∙ ap (λ (b : Bool). b || is_among (filter_map list p) s) (same_id_self (id_of s))
    by false h later = past (list x) (later h)

-- one that isn't listed passes the test
unlisted : (test : Subject → Bool) (id : SubjectId) (p : List Subject) (s : Subject) → find_subject id p ≡ Some s
    → is_among (filter_map (λ x. if test x then None else Some (id_of x)) p) s ≡ false → test s ≡ true
unlisted test id p s found none = by (test s) refl
  where
    by : (b : Bool) → test s ≡ b → test s ≡ true
    by true e = e
    by false e =
        let listed = among_listed (λ x. if test x then None else Some (id_of x)) id p s found (ap (λ (b : Bool). if b then None else Some (id_of s)) e) in
        absurd (true≢false (sym listed ∙ none))

-- ---- what the tests tell

was_there : (test : Subject → Bool) (o : Option Subject) → option_map_or test o false ≡ true → (was : Subject) × (o ≡ Some was) × (test was ≡ true)
was_there test None e = absurd (true≢false (sym e))
was_there test (Some was) e = (was, refl, e)

same_rules : (a b : List Rule) → pointwise same_rule a b ≡ true → a ≡ b
same_rules a b e = (slice_eq-Decides same_rule-Decides a b (pointwise same_rule a b) refl).0 e

same_group : (a b : Option (List ℕ)) → option_eq bytes_eq a b ≡ true → a ≡ b
same_group None None e = refl
same_group None (Some y) e = absurd (true≢false (sym e))
same_group (Some x) None e = absurd (true≢false (sym e))
same_group (Some x) (Some y) e = ap Some ((bytes_eq-Decides x y).0 e)

-- ---- what stays

alike_between : (old new : List Subject) → IsAlike (touched_between old new) old new
alike_between old new = record {
  untouched = λ id s found none.
      let was = was_there _ (find_subject (id_of s) old) (unlisted (was_alike old) id new s found none) in
      let both = and_parts (pointwise same_rule was.0.rules s.rules) (option_eq bytes_eq was.0.parent s.parent) was.2 in
      (was.0, ap (λ (i : SubjectId). find_subject i old) (found_id id new s found) ∙ was.1, same_rules was.0.rules s.rules both.0, same_group was.0.parent s.parent both.1);
  unwritten = λ id s found none.
      let was = was_there _ (find_subject (id_of s) old) (unlisted (had_rules old) id new s found none) in
      (was.0, ap (λ (i : SubjectId). find_subject i old) (found_id id new s found) ∙ was.1, same_rules was.0.rules s.rules was.2);
}

module _ (before policy : List Subject) (touched : Touched) (is : touched ≡ touched_between before policy) where
  pub alike_replaced : IsAlike touched before policy
  alike_replaced = subst (λ (t : Touched). IsAlike t before policy) (sym is) (alike_between before policy)

  module _ (after : List Subject) (same : after ≡ policy) where
    pub leaves_replaced : WellFormed policy → LeavesOthers touched.all before after
    leaves_replaced well = subst (λ (p : List Subject). LeavesOthers touched.all before p) (sym same) (leaves_others touched before policy alike_replaced well.parents)

    pub rises_replaced : (a b : ℕ) → Rises (IsRenewalRise touched policy) a b → Rises (IsReplacingRise before after) a b
    rises_replaced a b h =
        subst (λ (p : List Subject). Rises (IsReplacingRise before p) a b) (sym same) (subst (λ (t : Touched). Rises (IsRenewalRise t policy) a b) is h)
