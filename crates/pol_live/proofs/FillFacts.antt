-- The automaton of a subject's own rules, and that of those it inherits, make that of its chain.
use Rattle.std.proofs.Common.{◌≡◌, inl, inr, ℕ, zero, suc, ◌-◌, ◌<◌, ◌≤◌, Bool, true, false, true≢false, ◌||◌, ◌&&◌, not, nat_lt, List, [], ◌∷◌, ◌++◌, length, map, Option, None, Some, Result, Ok, Err, OnOk, OnErr, refl, sym, ap, subst, ◌∙◌, arith, slice_get, is_some, IsTrue, IfSome, Contains}
use Rattle.std.specs.List.{list_all}
use Rattle.std.specs.Option.{option_map_or, option_and_then, option_copied}
use Rattle.std.specs.Borrow.{Bor}
use Rattle.std.proofs.lemmas.Bool.{and_parts}
use Rattle.std.proofs.lemmas.Bool.Decides.{nat_tests}
use Rattle.std.proofs.lemmas.Option.{slice_get-get_or, slice_get_within, slice_get_read, get_or_from_slice_get}
use Rattle.pol_automaton.specs.Automaton.{Automaton}
use Rattle.pol_names.specs.SubjectId.{group_id}
use Rattle.pol_residual.specs.Residuals.{SameResiduals, HasMoreResiduals}
use Rattle.pol_text.specs.declared.subject.Rule.{Rule}
use Rattle.pol_text.specs.declared.subject.Subject.{Subject}
use Rattle.pol_text.specs.Policy.{id_of, find_subject, has_parent, all_of, parent_of, ends_within, own_entries, entries_along, entries, InheritsEntries}
use Rattle.pol_text.proofs.ChainFacts.{chain_within_step}
use Rattle.pol_live.specs.declared.parts.Parts.{Parts}
use Rattle.pol_meaning.specs.Along.{patterns_of, patterns_along}
use Rattle.pol_meaning.specs.Sizes.{IsLarge, most_residuals}
use Rattle.pol_live.specs.Kept.{IsFit, IsOf, IsPutAt, AreParts, Grows, slot, own_patterns, has_rules, is_keeper}
use Rattle.pol_live.specs.Rise.{is_joined}
use Rattle.pol_live.proofs.AlongFacts.{patterns_append, patterns_own}
use Rattle.pol_live.proofs.SlotFacts.{whole_put, put_there}

-- ---- more entries after these have no fewer residuals

same_front : (xs ys : List (List ℕ)) (text other : List ℕ) → SameResiduals (xs ++ ys) text other → SameResiduals xs text other
same_front [] ys text other same = tt
same_front (x ∷ xs) ys text other (inl sure) = inl sure
same_front (x ∷ xs) ys text other (inr same) = inr (same.0, same_front xs ys text other same.1)

more_by : (xs ys : List (List ℕ)) (limit : ℕ) → ((text other : List ℕ) → SameResiduals ys text other → SameResiduals xs text other) → HasMoreResiduals xs limit → HasMoreResiduals ys limit
more_by xs ys limit so more = record {
  texts = more.texts;
  many = more.many;
  different = record { all_texts = more.different.all_texts; different = λ i j d lt within same. more.different.different i j d lt within (so _ _ same) };
}

pub more_front : (xs ys : List (List ℕ)) (limit : ℕ) → HasMoreResiduals xs limit → HasMoreResiduals (xs ++ ys) limit
more_front xs ys limit = more_by xs (xs ++ ys) limit (same_front xs ys)

-- ---- a subject and what it inherits

-- the patterns that a subject inherits
abbrev pub inherited : List Subject → Subject → List (List ℕ)
inherited policy subject = option_map_or (patterns_along policy) (parent_of policy subject) []

-- a subject without a group inherits nothing
pub inherits_none : (policy : List Subject) (subject : Subject) → subject.parent ≡ None → InheritsEntries policy subject
inherits_none policy subject e =
    let none : parent_of policy subject ≡ None = ap (option_and_then (λ name. find_subject (group_id name) policy)) e in
    ap entries_along (chain_within_step policy subject 8 0 None (omega arith) none) ∙ sym (ap (λ (p : Option Subject). own_entries subject ++ option_map_or (entries policy) p []) none)

pub patterns_inherit : (policy : List Subject) (subject : Subject) → InheritsEntries policy subject → patterns_along policy subject ≡ own_patterns subject ++ inherited policy subject
patterns_inherit policy subject inherits =
    ap patterns_of inherits ∙ by (parent_of policy subject)
  where
    by : (parent : Option Subject) → patterns_of (own_entries subject ++ option_map_or (entries policy) parent []) ≡ own_patterns subject ++ option_map_or (patterns_along policy) parent []
    by None =
        patterns_append (own_entries subject) []
        ∙ ap (λ (front : List (List ℕ)). front ++ []) (patterns_own (id_of subject) 1 subject.rules)
    by (Some group) =
        patterns_append (own_entries subject) (entries policy group)
        ∙ ap (λ (front : List (List ℕ)). front ++ patterns_along policy group) (patterns_own (id_of subject) 1 subject.rules)

no_rules : (subject : Subject) → has_rules subject ≡ false → own_patterns subject ≡ []
no_rules subject = by subject.rules
  where
    by : (rules : List Rule) → nat_lt 0 (length rules) ≡ false → map (λ rule. rule.pattern) rules ≡ []
    by [] h = refl
    by (rule ∷ rules) h = let past : length (rule ∷ rules) ≤ 0 = grind (arith, nat_tests) in absurd (omega arith)

module _ (policy : List Subject) (parts : Parts) (right : AreParts policy parts) where
  -- what there is of a subject's own rules
  pub own_is : (k : ℕ) (subject : Subject) (alone : Bool) → slice_get policy k ≡ Some subject
      → (IsTrue (has_rules subject || alone) → IsTrue (is_some (slot parts.owns k))) → IsOf (own_patterns subject) (slot parts.owns k)
  own_is k subject alone here there = by (slot parts.owns k) refl there
    where
      by : (o : Option Automaton) → slot parts.owns k ≡ o → (IsTrue (has_rules subject || alone) → IsTrue (is_some o)) → IsOf (own_patterns subject) o
      by None e h = no_rules subject (empty (has_rules subject) h)
        where
          empty : (b : Bool) → (IsTrue (b || alone) → IsTrue (is_some {T = Automaton} None)) → b ≡ false
          empty false h = refl
          empty true h = absurd (true≢false (sym (h refl)))
      by (Some d) e h = (right.owns k subject d here e).0

  -- what there is of those that it inherits
  pub above_is : (subject : Subject) (parent : Option ℕ) → parent_of policy subject ≡ option_and_then (slice_get policy) parent → IfSome parent (λ at. at < length policy)
      → IfSome parent (λ at. IsTrue (is_some (slot parts.wholes at))) → IsOf (inherited policy subject) (option_and_then (slot parts.wholes) parent)
  above_is subject None found within there = ap (λ (p : Option Subject). option_map_or (patterns_along policy) p []) found
  above_is subject (Some at) found within there = by (slot parts.wholes at) refl there
    where
      by : (o : Option Automaton) → slot parts.wholes at ≡ o → IsTrue (is_some o) → IsOf (inherited policy subject) o
      by None e h = absurd cc
      by (Some d) e h =
          let there = slice_get-get_or policy at subject within in
          let fit = right.wholes at _ d there e in
          subst (λ (es : List (List ℕ)). IsFit es d) (sym (ap (λ (p : Option Subject). option_map_or (patterns_along policy) p []) (found ∙ there))) fit

-- some automaton is there
pub one_there : (parts : Parts) (index : ℕ) (parent : Option ℕ) (rules : Bool) → (IsTrue (rules || not (is_some parent)) → IsTrue (is_some (slot parts.owns index)))
    → IfSome parent (λ at. IsTrue (is_some (slot parts.wholes at))) → IsTrue (is_some (slot parts.owns index) || is_some (option_and_then (slot parts.wholes) parent))
one_there parts index None rules own above = by (is_some (slot parts.owns index)) (own (right rules))
  where
    right : (b : Bool) → IsTrue (b || true)
    right true = refl
    right false = refl

    by : (b : Bool) → IsTrue b → IsTrue (b || false)
    by true h = refl
    by false h = h
one_there parts index (Some at) rules own above = by (is_some (slot parts.owns index)) (is_some (slot parts.wholes at)) above
  where
    by : (a b : Bool) → IsTrue b → IsTrue (a || b)
    by true b h = refl
    by false b h = h

-- ---- sizes

pub large_own : (policy : List Subject) (subject : Subject) → InheritsEntries policy subject → HasMoreResiduals (own_patterns subject) most_residuals → IsLarge policy subject
large_own policy subject inherits more =
    subst (λ (es : List (List ℕ)). HasMoreResiduals es most_residuals) (sym (patterns_inherit policy subject inherits)) (more_front (own_patterns subject) (inherited policy subject) most_residuals more)

-- ---- chains that end

pub ends_above : (most : ℕ) (policy : List Subject) (subject group : Subject) → ends_within most policy subject ≡ true → parent_of policy subject ≡ Some group
    → (0 < most) × (ends_within (most - 1) policy group ≡ true)
unfolding ends_within
ends_above zero policy subject group ends parent = absurd cc
ends_above (suc most) policy subject group ends parent =
    let less : suc most - 1 ≡ most = omega arith in
    (omega arith, ap (λ (n : ℕ). ends_within n policy group) less ∙ sym (ap (λ (p : Option Subject). option_map_or (ends_within most policy) p true) parent) ∙ ends)

-- ---- answers

pub ok_so : {X E A B : Type 0} (r : Result X E) → (A → B) → OnOk r A → OnOk r B
ok_so (Ok x) so h = so h
ok_so (Err e) so h = tt

pub ok_so2 : {X E A B C : Type 0} (r : Result X E) → (A → B → C) → OnOk r A → OnOk r B → OnOk r C
ok_so2 (Ok x) so h k = so h k
ok_so2 (Err e) so h k = tt

-- what was right stays so
pub right_so : {X E : Type 0} (policy : List Subject) (r : Result X E) (old new : Parts) → AreParts policy old → OnErr r (new ≡ old) → OnOk r (AreParts policy new) → AreParts policy new
right_so policy (Ok x) old new right same h = h
right_so policy (Err e) old new right same h = subst (AreParts policy) (sym same) right

-- nothing was found
pub not_there : (r : Option (Bor Automaton)) (o : Option Automaton) → option_copied r ≡ o → is_some r ≡ false → o ≡ None
not_there None o e h = sym e
not_there (Some x) o e h = absurd (true≢false h)

-- something was
pub found_there : (r : Option (Bor Automaton)) (o : Option Automaton) → option_copied r ≡ o → is_some r ≡ true → IsTrue (is_some o)
found_there None o e h = absurd (true≢false (sym h))
found_there (Some x) o e h = ap is_some (sym e)

-- ---- the automata of one more subject

module _ (policy : List Subject) (at : ℕ) (subject : Subject) (here : slice_get policy at ≡ Some subject) (inherits : InheritsEntries policy subject)
    (parent : Option ℕ) (found : parent_of policy subject ≡ option_and_then (slice_get policy) parent) (within : IfSome parent (λ at. at < length policy))
    (mid : Parts) (right : AreParts policy mid) (alone : Bool) (own : IsTrue (has_rules subject || alone) → IsTrue (is_some (slot mid.owns at)))
    (above : IfSome parent (λ at. IsTrue (is_some (slot mid.wholes at)))) where
  of_own : IsOf (own_patterns subject) (slot mid.owns at)
  of_own = own_is policy mid right at subject alone here own

  of_above : IsOf (inherited policy subject) (option_and_then (slot mid.wholes) parent)
  of_above = above_is policy mid right subject parent found within above

  pub whole_filled : {X E : Type 0} (r : Result X E) (new : Parts) → slot mid.wholes at ≡ None → OnOk r (new.owns ≡ mid.owns)
      → ((first rest : List (List ℕ)) → IsOf first (slot mid.owns at) → IsOf rest (option_and_then (slot mid.wholes) parent) → OnOk r (IsPutAt at (first ++ rest) mid.wholes new.wholes))
      → OnOk r (AreParts policy new × Grows mid new × IsTrue (is_some (slot new.wholes at)))
  whole_filled r new none owns put = ok_so2 r parts (put _ _ of_own of_above) owns
    where
      parts : IsPutAt at (own_patterns subject ++ inherited policy subject) mid.wholes new.wholes → new.owns ≡ mid.owns
          → AreParts policy new × Grows mid new × IsTrue (is_some (slot new.wholes at))
      parts (d, fit, wholes) same =
          let its = subst (λ (es : List (List ℕ)). IsFit es d) (sym (patterns_inherit policy subject inherits)) fit in
          let both = whole_put policy at subject here mid new right same none (d, its, wholes) in
          let many = right.many_wholes in
          let lt : at < length mid.wholes = let in_policy = slice_get_within policy at subject here in omega arith in
          (both.0, both.1, ap (λ (ws : List (Option Automaton)). is_some (slot ws at)) wholes ∙ ap is_some (put_there mid.wholes at d lt))

  pub whole_large : ((first rest : List (List ℕ)) → IsOf first (slot mid.owns at) → IsOf rest (option_and_then (slot mid.wholes) parent) → HasMoreResiduals (first ++ rest) most_residuals)
      → IsLarge policy subject
  whole_large more = subst (λ (es : List (List ℕ)). HasMoreResiduals es most_residuals) (sym (patterns_inherit policy subject inherits)) (more _ _ of_own of_above)

pub contains_at : (policy : List Subject) (at : ℕ) (subject : Subject) → slice_get policy at ≡ Some subject → Contains policy subject
contains_at policy at subject here = (at, slice_get_within policy at subject here, get_or_from_slice_get policy at subject subject here)

-- who has an automaton isn't large
pub small_there : (policy : List Subject) (parts : Parts) (k : ℕ) (subject : Subject) → AreParts policy parts → slice_get policy k ≡ Some subject
    → IsTrue (is_some (slot parts.wholes k)) → ¬ (IsLarge policy subject)
small_there policy parts k subject right here = by (slot parts.wholes k) refl
  where
    by : (o : Option Automaton) → slot parts.wholes k ≡ o → IsTrue (is_some o) → ¬ (IsLarge policy subject)
    by None e h = absurd cc
    by (Some d) e h = (right.wholes k subject d here e).1

pub all_at : (test : Subject → Bool) (p : List Subject) (i : ℕ) (s : Subject) → list_all test p ≡ true → slice_get p i ≡ Some s → test s ≡ true
all_at test [] i s all e = cc
all_at test (x ∷ p) zero s all e = let same : x ≡ s = cc in subst (λ t. test t ≡ true) same ((and_parts (test x) (list_all test p) all).0)
all_at test (x ∷ p) (suc i) s all e = all_at test p i s ((and_parts (test x) (list_all test p) all).1) e

-- whether two automata are joined for a subject
pub joined_is : (policy : List Subject) (parts : Parts) (at : ℕ) (subject : Subject) (parent : Option ℕ) → AreParts policy parts → slice_get policy at ≡ Some subject
    → (is_keeper subject ≡ true → IsTrue (is_some (slot parts.owns at))) → is_some parent ≡ is_some subject.parent
    → IfSome parent (λ at. IsTrue (is_some (slot parts.wholes at)))
    → (is_some (slot parts.owns at) && is_some (option_and_then (slot parts.wholes) parent)) ≡ is_joined subject
joined_is policy parts at subject None right here own grouped above =
    nothing (is_some (slot parts.owns at)) ∙ sym (nothing (has_rules subject)) ∙ ap (λ (b : Bool). has_rules subject && b) grouped
  where
    nothing : (b : Bool) → (b && false) ≡ false
    nothing true = refl
    nothing false = refl
joined_is policy parts at subject (Some group) right here own grouped above =
    ap (λ (b : Bool). is_some (slot parts.owns at) && b) above ∙ ap (λ (b : Bool). b && true) (by (slot parts.owns at) (has_rules subject) refl refl own)
    ∙ ap (λ (b : Bool). has_rules subject && b) grouped
  where
    by : (o : Option Automaton) (rules : Bool) → slot parts.owns at ≡ o → has_rules subject ≡ rules → (is_keeper subject ≡ true → IsTrue (is_some o)) → is_some o ≡ rules
    by None true e h there = there (ap (λ (b : Bool). b || not (is_some subject.parent)) h)
    by None false e h there = refl
    by (Some d) true e h there = refl
    by (Some d) false e h there =
        let keeper = (right.owns at subject d here e).1 in
        absurd (true≢false (sym keeper ∙ ap (λ (b : Bool). b || not (is_some subject.parent)) h ∙ ap not (sym grouped)))

pub some_index : (policy : List Subject) (r : Option ℕ) (o : Option Subject) → o ≡ option_and_then (slice_get policy) r → is_some o ≡ true → is_some r ≡ true
some_index policy None o e h = absurd (true≢false (sym h ∙ ap is_some e))
some_index policy (Some at) o e h = refl

-- a subject of a well-formed policy that names a group has it
pub group_there : (policy : List Subject) (subject : Subject) (name : List ℕ) → list_all (has_parent policy) policy ≡ true → Contains policy subject → subject.parent ≡ Some name
    → is_some (find_subject (group_id name) policy) ≡ true
group_there policy subject name parents (k, lt, at) named =
    ap (all_of (λ n. is_some (find_subject (group_id n) policy))) (sym named)
    ∙ all_at (has_parent policy) policy k subject parents (slice_get_read policy (length policy) k subject refl lt (sym at))
