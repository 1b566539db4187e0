-- Chains, a step at a time.
use Rattle.std.proofs.Common.{◌≡◌, ℕ, zero, suc, ◌+◌, ◌-◌, ◌<◌, ◌≤◌, map, Bool, true, false, cond, List, [], ◌∷◌, ◌++◌, Option, None, Some, refl, sym, ap, ◌∙◌, arith, append_assoc, append-nil, IsTrue, Contains}
use Rattle.std.specs.List.{list_all}
use Rattle.std.specs.Option.{option_map_or, option_and_then, unwrap_or}
use Rattle.pol_pattern.specs.Matching.{matches}
use Rattle.pol_names.specs.declared.subject_id.SubjectId.{SubjectId}
use Rattle.pol_text.specs.declared.subject.Rule.{Rule}
use Rattle.pol_text.specs.declared.subject.Subject.{Subject}
use Rattle.pol_names.specs.declared.decision.Decision.{Decision}
use Rattle.pol_names.specs.declared.decision.By.TheVariants as by
use Rattle.pol_text.specs.Policy.{id_of, parent_of, ends_within, chain_within, chain, find_subject, FollowsParent, InheritsEntries, Entry, numbered, own_entries, entries_along, entries, first_entry, first_match}
use Rattle.pol_names.specs.SubjectId.{same_id, group_id}
use Rattle.std.specs.Prelude.{IfSome, option_copied}
use Rattle.std.specs.Borrow.{Bor}
use Rattle.pol_text.proofs.SubjectFacts.{list_all_here}

-- one subject fewer is left
pub ends_within_step : (policy : List Subject) (subject : Subject) (most i : ℕ) (parent : Option Subject) → i < most → parent_of policy subject ≡ parent
    → ends_within (most - i) policy subject ≡ option_map_or (ends_within (most - (i + 1)) policy) parent true
unfolding ends_within
ends_within_step policy subject most i parent lt e =
    let left : most - i ≡ suc (most - (i + 1)) = omega arith in
    ap (λ (n : ℕ). ends_within n policy subject) left ∙ ap (λ (p : Option Subject). option_map_or (ends_within (most - (i + 1)) policy) p true) e

pub ends_within_none : (policy : List Subject) (subject : Subject) → ends_within 0 policy subject ≡ false
unfolding ends_within
ends_within_none policy subject = refl

pub chain_within_step : (policy : List Subject) (subject : Subject) (most i : ℕ) (parent : Option Subject) → i < most → parent_of policy subject ≡ parent
    → chain_within (most - i) policy subject ≡ subject ∷ option_map_or (chain_within (most - (i + 1)) policy) parent []
unfolding chain_within
chain_within_step policy subject most i parent lt e =
    let left : most - i ≡ suc (most - (i + 1)) = omega arith in
    ap (λ (n : ℕ). chain_within n policy subject) left ∙ ap (λ (p : Option Subject). subject ∷ option_map_or (chain_within (most - (i + 1)) policy) p []) e

pub chain_within_none : (policy : List Subject) (subject : Subject) → chain_within 0 policy subject ≡ []
unfolding chain_within
chain_within_none policy subject = refl

-- ---- a chain that ends

pub chain_within_ends : (most : ℕ) (policy : List Subject) (subject : Subject) → ends_within most policy subject ≡ true
    → chain_within most policy subject ≡ subject ∷ option_map_or (chain_within most policy) (parent_of policy subject) []
unfolding ends_within chain_within
chain_within_ends zero policy subject e = absurd cc
chain_within_ends (suc most) policy subject e =
    ap (λ (rest : List Subject). subject ∷ rest) (by (parent_of policy subject) e (λ group. chain_within_ends most policy group))
  where
    by : (parent : Option Subject) → option_map_or (ends_within most policy) parent true ≡ true
        → ((group : Subject) → ends_within most policy group ≡ true → chain_within most policy group ≡ group ∷ option_map_or (chain_within most policy) (parent_of policy group) [])
        → option_map_or (chain_within most policy) parent [] ≡ option_map_or (chain_within (suc most) policy) parent []
    by None h later = refl
    by (Some group) h later = later group h

pub follows_parent : (policy : List Subject) → IsTrue (list_all (ends_within 8 policy) policy) → (subject : Subject) → Contains policy subject → FollowsParent policy subject
follows_parent policy short subject (k, within, here) =
    chain_within_ends 8 policy subject (sym (ap (ends_within 8 policy) here) ∙ list_all_here (ends_within 8 policy) policy k subject within short)

-- ---- the kinds and names along a chain

pub ids_step : (policy : List Subject) (subject : Subject) (most i : ℕ) (parent : Option Subject) (ids next all : List SubjectId) → i < most → parent_of policy subject ≡ parent
    → ids ++ map id_of (chain_within (most - i) policy subject) ≡ all → next ≡ ids ++ id_of subject ∷ []
    → next ++ map id_of (option_map_or (chain_within (most - (i + 1)) policy) parent []) ≡ all
ids_step policy subject most i parent ids next all lt e so_far pushed =
    ap (λ (front : List SubjectId). front ++ map id_of (option_map_or (chain_within (most - (i + 1)) policy) parent [])) pushed
    ∙ append_assoc ids (id_of subject ∷ []) (map id_of (option_map_or (chain_within (most - (i + 1)) policy) parent []))
    ∙ ap (λ (rest : List Subject). ids ++ map id_of rest) (sym (chain_within_step policy subject most i parent lt e))
    ∙ so_far

pub ids_end : (policy : List Subject) (subject : Subject) (most i : ℕ) (ids all : List SubjectId) → most ≤ i
    → ids ++ map id_of (chain_within (most - i) policy subject) ≡ all → ids ≡ all
ids_end policy subject most i ids all past so_far =
    let none_left : most - i ≡ 0 = omega arith in
    sym (append-nil ids) ∙ ap (λ (rest : List Subject). ids ++ map id_of rest) (sym (ap (λ (n : ℕ). chain_within n policy subject) none_left ∙ chain_within_none policy subject)) ∙ so_far

-- ---- the first rule that matches along a chain

-- the first of numbered rules and what follows
first_numbered : (owner : SubjectId) (n : ℕ) (rules : List Rule) (rest : List Entry) (line : List ℕ)
    → first_entry (numbered owner n rules ++ rest) line ≡ unwrap_or (first_match owner n rules line) (first_entry rest line)
first_numbered owner n [] rest line = refl
first_numbered owner n (rule ∷ rules) rest line = by (matches rule.pattern line) (first_numbered owner (suc n) rules rest line)
  where
    here : Decision
    here = record { verdict = rule.verdict; by = by.Rule owner n }

    by : (b : Bool) → first_entry (numbered owner (suc n) rules ++ rest) line ≡ unwrap_or (first_match owner (suc n) rules line) (first_entry rest line)
        → cond b here (first_entry (numbered owner (suc n) rules ++ rest) line) ≡ unwrap_or (cond b (Some here) (first_match owner (suc n) rules line)) (first_entry rest line)
    by true h = refl
    by false h = h

pub first_step : (policy : List Subject) (subject : Subject) (line : List ℕ) (most i : ℕ) (parent : Option Subject) → i < most → parent_of policy subject ≡ parent
    → first_entry (entries_along (chain_within (most - i) policy subject)) line
    ≡ unwrap_or (first_match (id_of subject) 1 subject.rules line) (first_entry (entries_along (option_map_or (chain_within (most - (i + 1)) policy) parent [])) line)
first_step policy subject line most i parent lt e =
    ap (λ (subjects : List Subject). first_entry (entries_along subjects) line) (chain_within_step policy subject most i parent lt e)
    ∙ first_numbered (id_of subject) 1 subject.rules (entries_along (option_map_or (chain_within (most - (i + 1)) policy) parent [])) line

pub first_end : (policy : List Subject) (subject : Subject) (line : List ℕ) (most i : ℕ) → most ≤ i
    → first_entry (entries_along (chain_within (most - i) policy subject)) line ≡ first_entry [] line
first_end policy subject line most i past =
    let none_left : most - i ≡ 0 = omega arith in
    ap (λ (subjects : List Subject). first_entry (entries_along subjects) line) (ap (λ (n : ℕ). chain_within n policy subject) none_left ∙ chain_within_none policy subject)

-- ---- the rules along a chain

pub inherits_entries : (policy : List Subject) → IsTrue (list_all (ends_within 8 policy) policy) → (subject : Subject) → Contains policy subject → InheritsEntries policy subject
inherits_entries policy short subject inside =
    ap entries_along (follows_parent policy short subject inside) ∙ ap (λ (rest : List Entry). own_entries subject ++ rest) (by (parent_of policy subject))
  where
    by : (parent : Option Subject) → entries_along (option_map_or (chain policy) parent []) ≡ option_map_or (entries policy) parent []
    by None = refl
    by (Some group) = refl

-- who is found is in the policy
pub found_inside : (id : SubjectId) (policy : List Subject) (s : Subject) → find_subject id policy ≡ Some s → Contains policy s
found_inside id [] s e = absurd cc
found_inside id (x ∷ rest) s e = by (same_id id (id_of x)) e (found_inside id rest s)
  where
    by : (b : Bool) → cond b (Some x) (find_subject id rest) ≡ Some s → (find_subject id rest ≡ Some s → Contains rest s) → Contains (x ∷ rest) s
    by true h later = (0, omega arith, let same : x ≡ s = cc in same)
    by false h later = let (k, within, here) = later h in (suc k, omega arith, here)

pub parent_inside : (policy : List Subject) (subject : Subject) (r : Option (Bor Subject)) → option_copied r ≡ parent_of policy subject → IfSome r (λ s. Contains policy s.now)
parent_inside policy subject None e = tt
parent_inside policy subject (Some s) e = by subject.parent (sym e)
  where
    by : (name : Option (List ℕ)) → option_and_then (λ n. find_subject (group_id n) policy) name ≡ Some s.now → Contains policy s.now
    by None h = absurd cc
    by (Some n) h = found_inside (group_id n) policy s.now h
