-- The first keeper of a chain: the subjects before it add nothing.
use Rattle.std.proofs.Common.{◌≡◌, ℕ, zero, suc, ◌-◌, ◌<◌, ◌≤◌, Bool, true, false, true≢false, not, nat_lt, List, [], ◌∷◌, ◌++◌, length, Option, Some, refl, sym, ap, ◌∙◌, arith, slice_get, is_some, if◌then◌else◌}
use Rattle.std.specs.Option.{option_map_or}
use Rattle.std.proofs.lemmas.Bool.{or_parts}
use Rattle.std.proofs.lemmas.Bool.Decides.{nat_tests}
use Rattle.pol_text.specs.declared.subject.Rule.{Rule}
use Rattle.pol_text.specs.declared.subject.Subject.{Subject}
use Rattle.pol_text.specs.Policy.{id_of, parent_of, ends_within, chain_within, Entry, numbered, own_entries, entries, InheritsEntries}
use Rattle.pol_live.specs.Kept.{has_rules, is_keeper, first_keeper}

pub some_there : {X : Type 0} (xs : List X) (k : ℕ) → k < length xs → (x : X) × (slice_get xs k ≡ Some x)
some_there [] k lt = absurd (omega arith)
some_there (x ∷ xs) zero lt = (x, refl)
some_there (x ∷ xs) (suc k) lt = some_there xs k (omega arith)

-- a chain that ends within some subjects has one
some_chain : (most : ℕ) (policy : List Subject) (subject : Subject) → ends_within most policy subject ≡ true
    → chain_within most policy subject ≡ subject ∷ option_map_or (chain_within (most - 1) policy) (parent_of policy subject) []
unfolding ends_within chain_within
some_chain zero policy subject ends = absurd cc
some_chain (suc most) policy subject ends =
    let less : most ≡ suc most - 1 = omega arith in
    ap (λ (n : ℕ). subject ∷ option_map_or (chain_within n policy) (parent_of policy subject) []) less

pub keeper_here : (most : ℕ) (policy : List Subject) (subject : Subject) → ends_within most policy subject ≡ true → is_keeper subject ≡ true
    → Some subject ≡ first_keeper (chain_within most policy subject)
keeper_here most policy subject ends keeper =
    let rest = option_map_or (chain_within (most - 1) policy) (parent_of policy subject) [] in
    sym (ap first_keeper (some_chain most policy subject ends) ∙ ap (λ (b : Bool). if b then Some subject else first_keeper rest) keeper)

pub keeper_above : (most : ℕ) (policy : List Subject) (subject group : Subject) → ends_within most policy subject ≡ true → is_keeper subject ≡ false
    → parent_of policy subject ≡ Some group → first_keeper (chain_within (most - 1) policy group) ≡ first_keeper (chain_within most policy subject)
keeper_above most policy subject group ends passed parent =
    let rest = option_map_or (chain_within (most - 1) policy) (parent_of policy subject) [] in
    sym (ap first_keeper (some_chain most policy subject ends) ∙ ap (λ (b : Bool). if b then Some subject else first_keeper rest) passed
    ∙ ap (λ (p : Option Subject). first_keeper (option_map_or (chain_within (most - 1) policy) p [])) parent)

no_entries : (subject : Subject) → has_rules subject ≡ false → own_entries subject ≡ []
no_entries subject = by subject.rules
  where
    by : (rules : List Rule) → nat_lt 0 (length rules) ≡ false → numbered (id_of subject) 1 rules ≡ []
    by [] h = refl
    by (rule ∷ rules) h = let past : length (rule ∷ rules) ≤ 0 = grind (arith, nat_tests) in absurd (omega arith)

-- who is no keeper has the entries of its group
pub entries_above : (policy : List Subject) (subject group : Subject) → is_keeper subject ≡ false → InheritsEntries policy subject → parent_of policy subject ≡ Some group
    → entries policy group ≡ entries policy subject
entries_above policy subject group passed inherits parent =
    let none = no_entries subject (or_parts (has_rules subject) _ passed).0 in
    sym (inherits ∙ ap (λ (es : List Entry). es ++ option_map_or (entries policy) (parent_of policy subject) []) none
    ∙ ap (λ (p : Option Subject). option_map_or (entries policy) p []) parent)

-- and it has a group
pub has_group : (subject : Subject) → is_keeper subject ≡ false → is_some subject.parent ≡ true
has_group subject passed = by (is_some subject.parent) (or_parts (has_rules subject) _ passed).1
  where
    by : (b : Bool) → not b ≡ false → b ≡ true
    by true h = refl
    by false h = absurd (true≢false h)
