-- The rules along a chain, a subject at a time.
use Rattle.std.proofs.Common.{◌≡◌, ℕ, suc, ◌+◌, ◌-◌, ◌<◌, ◌≤◌, map, List, [], ◌∷◌, ◌++◌, Option, refl, sym, ap, ◌∙◌, arith, append_assoc, append-nil, take, length, get_or, zero}
use Rattle.std.specs.Option.{option_map_or}
use Rattle.pol_names.specs.declared.subject_id.SubjectId.{SubjectId}
use Rattle.pol_text.specs.declared.subject.Rule.{Rule}
use Rattle.pol_text.specs.declared.subject.Subject.{Subject}
use Rattle.pol_text.specs.Policy.{id_of, parent_of, chain_within, Entry, numbered, own_entries, entries_along}
use Rattle.pol_live.specs.declared.along.ChainRule.{ChainRule}
use Rattle.pol_meaning.specs.Along.{patterns_of}
use Rattle.pol_live.specs.ChainRules.{chain_rule}

-- one subject fewer is left
pub chain_step : (policy : List Subject) (subject : Subject) (i : ℕ) (parent : Option Subject) → i < 8 → parent_of policy subject ≡ parent
    → chain_within (8 - i) policy subject ≡ subject ∷ option_map_or (chain_within (8 - (i + 1)) policy) parent []
unfolding chain_within
chain_step policy subject i parent lt e =
    let left : 8 - i ≡ suc (8 - (i + 1)) = omega arith in
    ap (λ (n : ℕ). chain_within n policy subject) left ∙ ap (λ (p : Option Subject). subject ∷ option_map_or (chain_within (8 - (i + 1)) policy) p []) e

pub chain_none : (policy : List Subject) (subject : Subject) (i : ℕ) → 8 ≤ i → chain_within (8 - i) policy subject ≡ []
unfolding chain_within
chain_none policy subject i past =
    let none_left : 8 - i ≡ 0 = omega arith in
    ap (λ (n : ℕ). chain_within n policy subject) none_left

-- what is left of the entries, at a subject and after it
pub entries_step : (policy : List Subject) (subject : Subject) (i : ℕ) (parent : Option Subject) → i < 8 → parent_of policy subject ≡ parent
    → entries_along (chain_within (8 - i) policy subject) ≡ own_entries subject ++ entries_along (option_map_or (chain_within (8 - (i + 1)) policy) parent [])
entries_step policy subject i parent lt e = ap entries_along (chain_step policy subject i parent lt e)

pub entries_none : (policy : List Subject) (subject : Subject) (i : ℕ) → 8 ≤ i → entries_along (chain_within (8 - i) policy subject) ≡ []
entries_none policy subject i past = ap entries_along (chain_none policy subject i past)

-- ---- patterns

pub patterns_append : (xs ys : List Entry) → patterns_of (xs ++ ys) ≡ patterns_of xs ++ patterns_of ys
patterns_append [] ys = refl
patterns_append (x ∷ xs) ys = ap (λ (rest : List (List ℕ)). x.rule.pattern ∷ rest) (patterns_append xs ys)

pub patterns_own : (owner : SubjectId) (n : ℕ) (rules : List Rule) → patterns_of (numbered owner n rules) ≡ map (λ rule. rule.pattern) rules
patterns_own owner n [] = refl
patterns_own owner n (rule ∷ rules) = ap (λ (rest : List (List ℕ)). rule.pattern ∷ rest) (patterns_own owner (suc n) rules)

-- one more of a subject's own patterns
pub more_patterns : (known : List (List ℕ)) (rules : List Rule) (i : ℕ) (rule : Rule) → i < length rules → get_or rules i rule ≡ rule
    → known ++ map (λ rule. rule.pattern) (take (i + 1) rules) ≡ (known ++ map (λ rule. rule.pattern) (take i rules)) ++ rule.pattern ∷ []
more_patterns known rules i rule lt at =
    let longer : i + 1 ≡ suc i = omega arith in
    ap (λ (n : ℕ). known ++ map (λ rule. rule.pattern) (take n rules)) longer
    ∙ ap (λ (more : List (List ℕ)). known ++ more) (one_more rules i rule lt at)
    ∙ sym (append_assoc known (map (λ rule. rule.pattern) (take i rules)) (rule.pattern ∷ []))
  where
    one_more : (rules : List Rule) (i : ℕ) (rule : Rule) → i < length rules → get_or rules i rule ≡ rule
        → map (λ rule. rule.pattern) (take (suc i) rules) ≡ map (λ rule. rule.pattern) (take i rules) ++ rule.pattern ∷ []
    one_more [] i rule lt at = absurd (omega arith)
    one_more (r ∷ rules) zero rule lt at = ap (λ (x : Rule). x.pattern ∷ []) at
    one_more (r ∷ rules) (suc i) rule lt at = ap (λ (rest : List (List ℕ)). r.pattern ∷ rest) (one_more rules i rule (omega arith) at)

-- the patterns found so far, and those of a subject
pub patterns_step : (policy : List Subject) (subject : Subject) (i : ℕ) (parent : Option Subject) (found all : List (List ℕ)) → i < 8 → parent_of policy subject ≡ parent
    → found ++ patterns_of (entries_along (chain_within (8 - i) policy subject)) ≡ all
    → (found ++ map (λ rule. rule.pattern) subject.rules) ++ patterns_of (entries_along (option_map_or (chain_within (8 - (i + 1)) policy) parent [])) ≡ all
patterns_step policy subject i parent found all lt e so_far =
    let own = map (λ (rule : Rule). rule.pattern) subject.rules in
    let later = entries_along (option_map_or (chain_within (8 - (i + 1)) policy) parent []) in
    append_assoc found own (patterns_of later)
    ∙ ap (λ (back : List (List ℕ)). found ++ back)
    (sym (ap patterns_of (entries_step policy subject i parent lt e) ∙ patterns_append (own_entries subject) later
    ∙ ap (λ (front : List (List ℕ)). front ++ patterns_of later) (patterns_own (id_of subject) 1 subject.rules)))
    ∙ so_far

pub patterns_end : (policy : List Subject) (subject : Subject) (i : ℕ) (found all : List (List ℕ)) → 8 ≤ i
    → found ++ patterns_of (entries_along (chain_within (8 - i) policy subject)) ≡ all → found ≡ all
patterns_end policy subject i found all past so_far =
    sym (append-nil found) ∙ ap (λ (back : List Entry). found ++ patterns_of back) (sym (entries_none policy subject i past)) ∙ so_far

-- ---- rules

rules_append : (xs ys : List Entry) → map chain_rule (xs ++ ys) ≡ map chain_rule xs ++ map chain_rule ys
rules_append [] ys = refl
rules_append (x ∷ xs) ys = ap (λ (rest : List ChainRule). chain_rule x ∷ rest) (rules_append xs ys)

-- the rules found so far, and those of a subject
pub rules_step : (policy : List Subject) (subject : Subject) (i : ℕ) (parent : Option Subject) (found next all : List ChainRule) → i < 8 → parent_of policy subject ≡ parent
    → found ++ map chain_rule (entries_along (chain_within (8 - i) policy subject)) ≡ all → next ≡ found ++ map chain_rule (own_entries subject)
    → next ++ map chain_rule (entries_along (option_map_or (chain_within (8 - (i + 1)) policy) parent [])) ≡ all
rules_step policy subject i parent found next all lt e so_far added =
    let later = entries_along (option_map_or (chain_within (8 - (i + 1)) policy) parent []) in
    ap (λ (front : List ChainRule). front ++ map chain_rule later) added
    ∙ append_assoc found (map chain_rule (own_entries subject)) (map chain_rule later)
    ∙ ap (λ (back : List ChainRule). found ++ back) (sym (rules_append (own_entries subject) later) ∙ ap (map chain_rule) (sym (entries_step policy subject i parent lt e)))
    ∙ so_far

pub rules_end : (policy : List Subject) (subject : Subject) (i : ℕ) (found all : List ChainRule) → 8 ≤ i
    → found ++ map chain_rule (entries_along (chain_within (8 - i) policy subject)) ≡ all → found ≡ all
rules_end policy subject i found all past so_far =
    sym (append-nil found) ∙ ap (λ (back : List Entry). found ++ map chain_rule back) (sym (entries_none policy subject i past)) ∙ so_far

-- one more of a subject's own rules
pub more_rules : (owner : SubjectId) (n : ℕ) (rules : List Rule) (i : ℕ) (rule : Rule) → i < length rules → get_or rules i rule ≡ rule
    → map chain_rule (numbered owner n (take (suc i) rules)) ≡ map chain_rule (numbered owner n (take i rules)) ++ record { owner = owner; number = n + i; verdict = rule.verdict } ∷ []
more_rules owner n [] i rule lt at = absurd (omega arith)
more_rules owner n (r ∷ rules) zero rule lt at =
    let here : n ≡ n + 0 = omega arith in
    ap (λ (x : Rule). record { owner = owner; number = n; verdict = x.verdict } ∷ []) at ∙ ap (λ (m : ℕ). record { owner = owner; number = m; verdict = rule.verdict } ∷ []) here
more_rules owner n (r ∷ rules) (suc i) rule lt at =
    let next : suc n + i ≡ n + suc i = omega arith in
    ap (λ (rest : List ChainRule). record { owner = owner; number = n; verdict = r.verdict } ∷ rest)
    (more_rules owner (suc n) rules i rule (omega arith) at ∙ ap (λ (m : ℕ). map chain_rule (numbered owner (suc n) (take i rules)) ++ record { owner = owner; number = m; verdict = rule.verdict } ∷ []) next)

pub add_step : (owner : SubjectId) (rules : List Rule) (i : ℕ) (rule : Rule) (old found next : List ChainRule) → i < length rules → get_or rules i rule ≡ rule
    → found ≡ old ++ map chain_rule (numbered owner 1 (take i rules)) → next ≡ found ++ record { owner = owner; number = i + 1; verdict = rule.verdict } ∷ []
    → next ≡ old ++ map chain_rule (numbered owner 1 (take (i + 1) rules))
add_step owner rules i rule old found next lt at so_far pushed =
    let number : 1 + i ≡ i + 1 = omega arith in
    let longer : i + 1 ≡ suc i = omega arith in
    pushed
    ∙ ap (λ (front : List ChainRule). front ++ record { owner = owner; number = i + 1; verdict = rule.verdict } ∷ []) so_far
    ∙ append_assoc old (map chain_rule (numbered owner 1 (take i rules))) (record { owner = owner; number = i + 1; verdict = rule.verdict } ∷ [])
    ∙ ap (λ (m : ℕ). old ++ (map chain_rule (numbered owner 1 (take i rules)) ++ record { owner = owner; number = m; verdict = rule.verdict } ∷ [])) (sym number)
    ∙ ap (λ (back : List ChainRule). old ++ back) (sym (more_rules owner 1 rules i rule lt at))
    ∙ ap (λ (m : ℕ). old ++ map chain_rule (numbered owner 1 (take m rules))) (sym longer)
