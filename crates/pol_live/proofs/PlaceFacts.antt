-- Rules by their places along a chain, and subjects that a policy has.
use Rattle.std.proofs.Common.{◌≡◌, ℕ, zero, suc, ◌+◌, ◌-◌, ◌<◌, ◌≤◌, Bool, true, false, cond, nat_le, List, [], ◌∷◌, ◌++◌, length, Option, None, Some, refl, sym, ap, ◌∙◌, arith, slice_get, get_or, nat_lt, is_some, IfSome, IsTrue}
use Rattle.std.specs.List.{list_all}
use Rattle.std.specs.Option.{option_map_or, option_copied}
use Rattle.std.specs.Borrow.{Bor}
use Rattle.std.proofs.lemmas.Bool.{and_parts}
use Rattle.std.proofs.lemmas.Bool.Decides.{nat_tests}
use Rattle.std.proofs.lemmas.Option.{slice_get_past, slice_get_read}
use Rattle.pol_names.specs.SubjectId.{same_id}
use Rattle.pol_names.specs.declared.subject_id.SubjectId.{SubjectId}
use Rattle.pol_text.specs.declared.subject.Rule.{Rule}
use Rattle.pol_text.specs.declared.subject.Subject.{Subject}
use Rattle.pol_text.specs.Policy.{id_of, find_subject, parent_of, chain_within, Entry, numbered, own_entries, entries_along, is_right_subject, is_right_rule, max_rules}
use Rattle.pol_live.proofs.AlongFacts.{entries_step, entries_none}

-- ---- subjects that a policy has

few_right : (s : Subject) → is_right_subject s ≡ true → length s.rules ≤ max_rules
few_right s right =
    let front = (and_parts _ (list_all is_right_rule s.rules) right).0 in
    let few = (and_parts _ (nat_le (length s.rules) max_rules) front).1 in
    grind (arith, nat_tests)

pub found_few : (id : SubjectId) (policy : List Subject) (s : Subject) → list_all is_right_subject policy ≡ true → find_subject id policy ≡ Some s → length s.rules ≤ max_rules
found_few id [] s right e = absurd cc
found_few id (x ∷ rest) s right e = by (same_id id (id_of x)) e (found_few id rest s (and_parts (is_right_subject x) (list_all is_right_subject rest) right).1)
  where
    by : (b : Bool) → cond b (Some x) (find_subject id rest) ≡ Some s → (find_subject id rest ≡ Some s → length s.rules ≤ max_rules) → length s.rules ≤ max_rules
    by true h later = let same : x ≡ s = cc in few_right s (ap is_right_subject (sym same) ∙ (and_parts (is_right_subject x) (list_all is_right_subject rest) right).0)
    by false h later = later h

pub few_at : (policy : List Subject) (r : Option (Bor Subject)) (k : ℕ) → list_all is_right_subject policy ≡ true → option_copied r ≡ slice_get policy k → IfSome r (λ s. length s.now.rules ≤ max_rules)
few_at policy None k right e = tt
few_at policy (Some s) k right e = by policy k right (sym e)
  where
    by : (policy : List Subject) (k : ℕ) → list_all is_right_subject policy ≡ true → slice_get policy k ≡ Some s.now → length s.now.rules ≤ max_rules
    by [] k right e = absurd cc
    by (x ∷ rest) zero right e = let same : x ≡ s.now = cc in few_right s.now (ap is_right_subject (sym same) ∙ (and_parts (is_right_subject x) (list_all is_right_subject rest) right).0)
    by (x ∷ rest) (suc k) right e = by rest k (and_parts (is_right_subject x) (list_all is_right_subject rest) right).1 e

pub right_few : (r : Option (Bor Subject)) → IfSome r (λ s. IsTrue (is_right_subject s.now)) → IfSome r (λ s. length s.now.rules ≤ max_rules)
right_few None right = tt
right_few (Some s) right = few_right s.now right

-- ---- what a slice's `get` says

pub got : {X : Type 0} (r : Option (Bor X)) (xs : List X) (i : ℕ) → is_some r ≡ nat_lt i (length xs) → IfSome r (λ x. x.now ≡ get_or xs i x.now)
    → option_copied r ≡ slice_get xs i
got None xs i there same = let past : length xs ≤ i = grind (arith, nat_tests) in sym (slice_get_past xs i past)
got (Some x) xs i there same = let within : i < length xs = grind (arith, nat_tests) in sym (slice_get_read xs (length xs) i x.now refl within same)

-- ---- entries by their places

-- before, or after
get_front : {X : Type 0} (xs ys : List X) (k : ℕ) → k < length xs → slice_get (xs ++ ys) k ≡ slice_get xs k
get_front [] ys k lt = absurd (omega arith)
get_front (x ∷ xs) ys zero lt = refl
get_front (x ∷ xs) ys (suc k) lt = get_front xs ys k (omega arith)

get_back : {X : Type 0} (xs ys : List X) (k : ℕ) → length xs ≤ k → slice_get (xs ++ ys) k ≡ slice_get ys (k - length xs)
get_back [] ys k le = let e : k - 0 ≡ k = omega arith in rw e refl
get_back (x ∷ xs) ys zero le = absurd (omega arith)
get_back (x ∷ xs) ys (suc k) le = let e : suc k - suc (length xs) ≡ k - length xs = omega arith in rw e (get_back xs ys k (omega arith))

numbered_length : (owner : SubjectId) (n : ℕ) (rules : List Rule) → length (numbered owner n rules) ≡ length rules
numbered_length owner n [] = refl
numbered_length owner n (rule ∷ rules) = ap suc (numbered_length owner (suc n) rules)

numbered_at : (owner : SubjectId) (n : ℕ) (rules : List Rule) (k : ℕ) (rule : Rule) → slice_get rules k ≡ Some rule
    → slice_get (numbered owner n rules) k ≡ Some (record { owner = owner; number = n + k; rule = rule })
numbered_at owner n [] k rule e = absurd cc
numbered_at owner n (r ∷ rules) zero rule e =
    let same : r ≡ rule = cc in let here : n ≡ n + 0 = omega arith in
    ap (λ (x : Rule). Some (record { owner = owner; number = n; rule = x })) same ∙ ap (λ (m : ℕ). Some (record { owner = owner; number = m; rule = rule })) here
numbered_at owner n (r ∷ rules) (suc k) rule e =
    let next : suc n + k ≡ n + suc k = omega arith in
    numbered_at owner (suc n) rules k rule e ∙ ap (λ (m : ℕ). Some (record { owner = owner; number = m; rule = rule })) next

within_get : {X : Type 0} (xs : List X) (k : ℕ) (x : X) → slice_get xs k ≡ Some x → k < length xs
within_get [] k x e = absurd cc
within_get (y ∷ xs) zero x e = omega arith
within_get (y ∷ xs) (suc k) x e = let below = within_get xs k x e in omega arith

past_get : {X : Type 0} (xs : List X) (k : ℕ) → slice_get xs k ≡ None → length xs ≤ k
past_get [] k e = omega arith
past_get (y ∷ xs) zero e = absurd cc
past_get (y ∷ xs) (suc k) e = let below = past_get xs k e in omega arith

-- a rule of the subject itself
pub place_here : (policy : List Subject) (subject : Subject) (i : ℕ) (parent : Option Subject) (left : ℕ) (rule : Rule) → i < 8 → parent_of policy subject ≡ parent → slice_get subject.rules left ≡ Some rule
    → slice_get (entries_along (chain_within (8 - i) policy subject)) left ≡ Some (record { owner = id_of subject; number = left + 1; rule = rule })
place_here policy subject i parent left rule lt e at =
    let within = within_get subject.rules left rule at in
    let own : left < length (own_entries subject) = rw (numbered_length (id_of subject) 1 subject.rules) within in
    let number : 1 + left ≡ left + 1 = omega arith in
    ap (λ (es : List Entry). slice_get es left) (entries_step policy subject i parent lt e)
    ∙ get_front (own_entries subject) _ left own
    ∙ numbered_at (id_of subject) 1 subject.rules left rule at
    ∙ ap (λ (m : ℕ). Some (record { owner = id_of subject; number = m; rule = rule })) number

-- one after its own
pub place_later : (policy : List Subject) (subject : Subject) (i : ℕ) (parent : Option Subject) (left : ℕ) → i < 8 → parent_of policy subject ≡ parent → slice_get subject.rules left ≡ None
    → slice_get (entries_along (chain_within (8 - i) policy subject)) left
    ≡ slice_get (entries_along (option_map_or (chain_within (8 - (i + 1)) policy) parent [])) (left - length subject.rules)
place_later policy subject i parent left lt e at =
    let count = numbered_length (id_of subject) 1 subject.rules in
    let own : length (own_entries subject) ≤ left = rw count (past_get subject.rules left at) in
    let later = entries_along (option_map_or (chain_within (8 - (i + 1)) policy) parent []) in
    ap (λ (es : List Entry). slice_get es left) (entries_step policy subject i parent lt e)
    ∙ get_back (own_entries subject) later left own
    ∙ ap (λ (n : ℕ). slice_get later (left - n)) count

-- what is left of a chain is its end
pub place_none : (policy : List Subject) (subject : Option Subject) (i left : ℕ) → 8 ≤ i
    → slice_get (entries_along (option_map_or (chain_within (8 - i) policy) subject [])) left ≡ None
place_none policy None i left past = refl
place_none policy (Some subject) i left past = ap (λ (es : List Entry). slice_get es left) (entries_none policy subject i past)
