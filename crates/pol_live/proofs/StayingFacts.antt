-- A rule that is put in the place of one that is the same changes nothing.
use Rattle.std.proofs.Common.{◌≡◌, ℕ, zero, suc, ◌+◌, ◌<◌, ◌≤◌, Bool, true, false, true≢false, cond, not, ◌&&◌, List, [], ◌∷◌, ◌++◌, map, Option, None, Some, refl, sym, ap, subst, ◌∙◌, arith, nat_le, nat_lt, length, is_some, slice_get, if◌then◌else◌, lt-ltb, le-leb}
use Rattle.std.specs.Prelude.{insert, remove}
use Rattle.std.specs.Option.{option_map, option_map_or, option_and_then}
use Rattle.std.specs.List.{list_any}
use Rattle.std.proofs.lemmas.Bool.{and_parts, or_parts}
use Rattle.std.proofs.lemmas.List.Edits.{length-remove}
use Rattle.std.proofs.lemmas.Option.{same_Some, slice_get_within}
use Rattle.pol_names.specs.declared.subject_id.SubjectId.{SubjectId}
use Rattle.pol_names.specs.SubjectId.{same_id}
use Rattle.pol_text.specs.declared.subject.Rule.{Rule}
use Rattle.pol_text.specs.declared.subject.Subject.{Subject}
use Rattle.pol_text.specs.Policy.{id_of, find_subject, all_distinct, WellFormed}
use Rattle.pol_text.specs.Change.{with_changed, with_rule_at, without_rule_at}
use Rattle.pol_live.specs.declared.touching.Touched.{Touched}
use Rattle.pol_live.specs.Renewing.{is_among, IsAlike}
use Rattle.pol_live.proofs.RenewFacts.{same_id_is, same_id_self, found_id, find_at}
use Rattle.pol_live.proofs.PlaceFacts.{found_few}

-- ---- lists

put_back : (rules : List Rule) (at : ℕ) (rule : Rule) → slice_get rules at ≡ Some rule → insert (remove rules at) at rule ≡ rules
put_back [] at rule e = cc
put_back (x ∷ rules) zero rule e = ap (λ (r : Rule). r ∷ rules) (sym (same_Some x rule e))
put_back (x ∷ rules) (suc at) rule e = ap (λ (xs : List Rule). x ∷ xs) (put_back rules at rule e)

-- ---- a change of one subject

changed_none : (id : SubjectId) (f : Subject → Subject) (p : List Subject) → list_any (same_id id) (map id_of p) ≡ false → with_changed id f p ≡ p
changed_none id f [] e = refl
changed_none id f (x ∷ p) e =
    let parts = or_parts (same_id id (id_of x)) (list_any (same_id id) (map id_of p)) e in
    λ i. (if parts.0 i then f x else x) ∷ changed_none id f p parts.1 i

changed_found : (id : SubjectId) (f : Subject → Subject) → ((s : Subject) → id_of (f s) ≡ id_of s) → (p : List Subject) (s : Subject) → find_subject id p ≡ Some s
    → find_subject id (with_changed id f p) ≡ Some (f s)
changed_found id f keeps [] s e = cc
changed_found id f keeps (x ∷ p) s e = by (same_id id (id_of x)) refl e (changed_found id f keeps p s)
  where
    by : (b : Bool) → same_id id (id_of x) ≡ b → cond b (Some x) (find_subject id p) ≡ Some s → (find_subject id p ≡ Some s → find_subject id (with_changed id f p) ≡ Some (f s))
        → find_subject id ((if b then f x else x) ∷ with_changed id f p) ≡ Some (f s)
    by true h e later =
        ap (λ (t : SubjectId). if same_id id t then Some (f x) else find_subject id (with_changed id f p)) (keeps x)
        ∙ ap (λ (b : Bool). if b then Some (f x) else find_subject id (with_changed id f p)) h ∙ ap (λ (t : Subject). Some (f t)) (same_Some x s e)
    by false h e later = ap (λ (b : Bool). if b then Some x else find_subject id (with_changed id f p)) h ∙ later e

is_false : (b : Bool) → not b ≡ true → b ≡ false
is_false false e = refl
is_false true e = absurd (true≢false (sym e))

changed_back : (id : SubjectId) (f g : Subject → Subject) → ((s : Subject) → id_of (f s) ≡ id_of s) → (p : List Subject) (s : Subject) → all_distinct (map id_of p) ≡ true → find_subject id p ≡ Some s
    → g (f s) ≡ s → with_changed id g (with_changed id f p) ≡ p
changed_back id f g keeps [] s d found back = refl
changed_back id f g keeps (x ∷ p) s d found back =
    let parts = and_parts (not (list_any (same_id (id_of x)) (map id_of p))) (all_distinct (map id_of p)) d in
    by (same_id id (id_of x)) refl found (is_false (list_any (same_id (id_of x)) (map id_of p)) parts.0) (λ later. changed_back id f g keeps p s parts.1 later back)
  where
    by : (b : Bool) → same_id id (id_of x) ≡ b → cond b (Some x) (find_subject id p) ≡ Some s → list_any (same_id (id_of x)) (map id_of p) ≡ false
        → (find_subject id p ≡ Some s → with_changed id g (with_changed id f p) ≡ p) → with_changed id g ((if b then f x else x) ∷ with_changed id f p) ≡ x ∷ p
    by true h e alone later =
        let it : x ≡ s = same_Some x s e in
        let kept : same_id id (id_of (f x)) ≡ true = ap (same_id id) (keeps x) ∙ h in
        let head : (if same_id id (id_of (f x)) then g (f x) else f x) ≡ x = ap (λ (b : Bool). if b then g (f x) else f x) kept ∙ ap (λ (t : Subject). g (f t)) it ∙ back ∙ sym it in
        let none : list_any (same_id id) (map id_of p) ≡ false = ap (λ (t : SubjectId). list_any (same_id t) (map id_of p)) (same_id_is id (id_of x) h) ∙ alone in
        let rest : with_changed id g (with_changed id f p) ≡ p = ap (with_changed id g) (changed_none id f p none) ∙ changed_none id g p none in
        λ i. head i ∷ rest i
    by false h e alone later = let rest = later e in λ i. (if h i then g x else x) ∷ rest i

-- ---- a rule

split : (o : Option Subject) (at : ℕ) (rule : Rule) → option_and_then (λ subject. slice_get subject.rules at) o ≡ Some rule → (s : Subject) × (o ≡ Some s) × (slice_get s.rules at ≡ Some rule)
split None at rule e = cc
split (Some s) at rule e = (s, refl, e)

module _ (id : SubjectId) (p : List Subject) (at : ℕ) (rule : Rule) (well : WellFormed p) (there : option_and_then (λ subject. slice_get subject.rules at) (find_subject id p) ≡ Some rule) where
  pub may_remove : option_map_or (λ subject. nat_lt at (length subject.rules)) (find_subject id p) false ≡ true
  may_remove =
      let it = split (find_subject id p) at rule there in
      ap (λ (o : Option Subject). option_map_or (λ subject. nat_lt at (length subject.rules)) o false) it.1 ∙ lt-ltb at (length it.0.rules) (slice_get_within it.0.rules at rule it.2)

  pub may_insert : (q : List Subject) → q ≡ with_changed id (without_rule_at at) p
      → option_map_or (λ subject. nat_le at (length subject.rules) && nat_lt (length subject.rules) 256) (find_subject id q) false ≡ true
  may_insert q is =
      let it = split (find_subject id p) at rule there in
      let within : at < length it.0.rules = slice_get_within it.0.rules at rule it.2 in
      let few : length it.0.rules ≤ 256 = found_few id p it.0 well.right it.1 in
      let long : length (remove it.0.rules at) + 1 ≡ length it.0.rules = length-remove it.0.rules at within in
      let first : nat_le at (length (remove it.0.rules at)) ≡ true = le-leb at (length (remove it.0.rules at)) (omega arith) in
      let second : nat_lt (length (remove it.0.rules at)) 256 ≡ true = lt-ltb (length (remove it.0.rules at)) 256 (omega arith) in
      let found : find_subject id q ≡ Some (without_rule_at at it.0) = ap (find_subject id) is ∙ changed_found id (without_rule_at at) (λ _. refl) p it.0 it.1 in
      ap (λ (o : Option Subject). option_map_or (λ subject. nat_le at (length subject.rules) && nat_lt (length subject.rules) 256) o false) found
      ∙ (λ i. first i && second i)

  pub put_same : (q r : List Subject) → q ≡ with_changed id (without_rule_at at) p → r ≡ with_changed id (with_rule_at at rule) q → r ≡ p
  put_same q r taken put =
      let it = split (find_subject id p) at rule there in
      let back : with_rule_at at rule (without_rule_at at it.0) ≡ it.0 = ap (λ (rules : List Rule). record it.0 { rules = rules }) (put_back it.0.rules at rule it.2) in
      put ∙ ap (with_changed id (with_rule_at at rule)) taken
      ∙ changed_back id (without_rule_at at) (with_rule_at at rule) (λ _. refl) p it.0 well.distinct it.1 back

-- the subject has its rules still
pub rule_there : (o : Option Subject) (rules : List Rule) (at : ℕ) (rule : Rule) → option_map (λ subject. subject.rules) o ≡ Some rules → slice_get rules at ≡ Some rule
    → option_and_then (λ subject. slice_get subject.rules at) o ≡ Some rule
rule_there None rules at rule has e = cc
rule_there (Some s) rules at rule has e = ap (λ (r : List Rule). slice_get r at) (same_Some s.rules rules has) ∙ e

-- ---- a subject

pub has_rules_still : (touched : Touched) (old new : List Subject) (k : ℕ) (was : Subject) → IsAlike touched old new → all_distinct (map id_of old) ≡ true → slice_get old k ≡ Some was
    → (is_some (find_subject (id_of was) new) && not (is_among touched.rewritten was)) ≡ true → option_map (λ subject. subject.rules) (find_subject (id_of was) new) ≡ Some was.rules
has_rules_still touched old new k was alike distinct at still =
    let parts = and_parts (is_some (find_subject (id_of was) new)) (not (is_among touched.rewritten was)) still in
    by (find_subject (id_of was) new) refl parts.0 (is_false (is_among touched.rewritten was) parts.1)
  where
    by : (o : Option Subject) → find_subject (id_of was) new ≡ o → is_some o ≡ true → is_among touched.rewritten was ≡ false → option_map (λ subject. subject.rules) o ≡ Some was.rules
    by None found there none = absurd cc
    by (Some s) found there none =
        let same : id_of was ≡ id_of s = found_id (id_of was) new s found in
        let other : is_among touched.rewritten s ≡ false = ap (λ (t : SubjectId). list_any (λ x. same_id x t) touched.rewritten) (sym same) ∙ none in
        let before = alike.unwritten (id_of was) s found other in
        let it : was ≡ before.0 = same_Some was before.0 (sym (find_at old k was distinct at) ∙ before.1) in
        ap Some (sym (ap (λ (t : Subject). t.rules) it ∙ before.2))
