-- What a meter counts, a step after another.
use Rattle.std.proofs.Common.{◌≡◌, ◌⊎◌, inl, inr, ℕ, zero, suc, ◌+◌, ◌<◌, ◌≤◌, min, Bool, true, false, true≢false, ◌&&◌, is_some, IsTrue, List, [], ◌∷◌, length, Option, None, Some, refl, sym, ap, ◌∙◌, arith, slice_get, slice_set, if◌then◌else◌}
use Rattle.std.proofs.lemmas.Option.{same_Some, none-some, slice_get_within}
use Rattle.pol_scan.specs.Table.{count}
use Rattle.pol_automaton.specs.Automaton.{Automaton}
use Rattle.pol_residual.specs.Residuals.{IsResidualCount}
use Rattle.pol_text.specs.declared.subject.Subject.{Subject}
use Rattle.pol_live.specs.declared.parts.Parts.{Parts}
use Rattle.pol_meaning.specs.Along.{patterns_along}
use Rattle.pol_live.specs.Kept.{AreParts, AreAll, HaveKeepers, Grows, slot, is_keeper, own_patterns}
use Rattle.pol_live.specs.Rise.{most, is_joined, IsCount, IsSum, IsRise, IsBuildRise, Rises}
use Rattle.pol_live.specs.Counting.{Raised, NotLowered, Counts, weight, states_of}

min_on : (a x y m : ℕ) → min (min (a + x) m + y) m ≡ min (a + (x + y)) m
min_on a x y m = omega arith

min_none : (a m : ℕ) → a ≤ m → a ≡ min (a + 0) m
min_none a m le = omega arith

min_least : (a x m : ℕ) → min (a + x) m ≤ m
min_least a x m = omega arith

min_more : (a x m : ℕ) → a ≤ m → a ≤ min (a + x) m
min_more a x m le = omega arith

pub raised_none : (a : ℕ) → Raised a a 0
raised_none a le = min_none a most le

pub raised_on : (a b c x y : ℕ) → Raised a b x → Raised b c y → Raised a c (x + y)
raised_on a b c x y h k le =
    let first = h le in
    let fits : b ≤ most = rw first (min_least a x most) in
    k fits ∙ ap (λ (n : ℕ). min (n + y) most) first ∙ min_on a x y most

pub not_lowered : (a b x : ℕ) → Raised a b x → NotLowered a b
not_lowered a b x h le = let is = h le in (rw is (min_more a x most le), rw is (min_least a x most))

pub not_lowered_on : (a b c : ℕ) → NotLowered a b → NotLowered b c → NotLowered a c
not_lowered_on a b c h k le =
    let first = h le in
    let second = k first.1 in
    (omega arith, second.1)

-- ---- one more automaton

pub weight_put : (counts : Subject → Bool) (policy : List Subject) (xs : List (Option Automaton)) (at : ℕ) (subject : Subject) (d : Automaton)
    → slice_get policy at ≡ Some subject → slot xs at ≡ None → at < length xs
    → weight counts policy (slice_set xs at (Some d)) ≡ weight counts policy xs + (if counts subject then count d.table else 0)
weight_put counts [] xs at subject d here none lt = cc
weight_put counts (s ∷ rest) [] at subject d here none lt = absurd (omega arith)
weight_put counts (s ∷ rest) (Some x ∷ xs) zero subject d here none lt = absurd (none-some x (sym none))
weight_put counts (s ∷ rest) (None ∷ xs) zero subject d here none lt =
    let e : s ≡ subject = same_Some s subject here in
    let swap : (if counts subject then count d.table else 0) + weight counts rest xs ≡ weight counts rest xs + (if counts subject then count d.table else 0) = omega arith in
    ap (λ (t : Subject). (if counts t then count d.table else 0) + weight counts rest xs) e ∙ swap
weight_put counts (s ∷ rest) (None ∷ xs) (suc at) subject d here none lt = weight_put counts rest xs at subject d here none (omega arith)
weight_put counts (s ∷ rest) (Some x ∷ xs) (suc at) subject d here none lt =
    let later = weight_put counts rest xs at subject d here none (omega arith) in
    omega arith

-- ---- the rise

-- what was made for a subject: an automaton where there was none, or nothing that counts
abbrev pub Made : Bool → Bool → List (List ℕ) → Option Automaton → Option Automaton → Type 0
Made true counts entries old new = (counts ≡ true) × (old ≡ None) × ((d : Automaton) × (new ≡ Some d) × IsResidualCount entries (count d.table))
Made false counts entries old new = (counts ≡ false) ⊎ (new ≡ old)

-- what an automaton counts
abbrev counted : Bool → Option Automaton → ℕ
counted c None = 0
counted c (Some d) = if c then count d.table else 0

one_made : (entries : List (List ℕ)) (m c : Bool) (o x : Option Automaton) → Made m c entries o x → (n : ℕ) × IsCount m entries n × (counted c x ≡ counted c o + n)
one_made entries true c o x (yes_counts, none, (d, some, size)) =
    let new : counted c x ≡ count d.table = ap (counted c) some ∙ ap (λ (b : Bool). if b then count d.table else 0) yes_counts in
    let old : counted c o ≡ 0 = ap (counted c) none in
    (count d.table, size, omega arith)
one_made entries false c o x (inl h) =
    let new = ap (λ (b : Bool). counted b x) h ∙ nothing x in
    let old = ap (λ (b : Bool). counted b o) h ∙ nothing o in
    (0, refl, omega arith)
  where
    nothing : (p : Option Automaton) → counted false p ≡ 0
    nothing None = refl
    nothing (Some d) = refl
one_made entries false c o x (inr h) = let same = ap (counted c) h in (0, refl, omega arith)

module _ (made counts : Subject → Bool) (entries : Subject → List (List ℕ)) where
  pub sum_made : (policy : List Subject) (old new : List (Option Automaton)) → length old ≡ length policy → length new ≡ length policy
      → ((k : ℕ) (s : Subject) → slice_get policy k ≡ Some s → Made (made s) (counts s) (entries s) (slot old k) (slot new k))
      → (n : ℕ) × IsSum (λ s. IsCount (made s) (entries s)) policy n × (weight counts policy new ≡ weight counts policy old + n)
  sum_made [] old new long longer each = (0, refl, refl)
  sum_made (s ∷ rest) [] new long longer each = absurd (omega arith)
  sum_made (s ∷ rest) (o ∷ old) [] long longer each = absurd (omega arith)
  sum_made (s ∷ rest) (o ∷ old) (x ∷ new) long longer each =
      let later = sum_made rest old new (omega arith) (omega arith) (λ k t e. each (suc k) t e) in
      let here = one_made (entries s) (made s) (counts s) o x (each zero s refl) in
      let heavier : weight counts (s ∷ rest) (x ∷ new) ≡ weight counts (s ∷ rest) (o ∷ old) + (here.0 + later.0) = heavy o x here.0 later.0 here.2 later.2 in
      ((here.0 + later.0), (here.0, later.0, here.1, later.1, refl), heavier)
    where
      heavy : (o x : Option Automaton) (n m : ℕ) → counted (counts s) x ≡ counted (counts s) o + n → weight counts rest new ≡ weight counts rest old + m
          → weight counts (s ∷ rest) (x ∷ new) ≡ weight counts (s ∷ rest) (o ∷ old) + (n + m)
      heavy None None n m h k = omega arith
      heavy None (Some d) n m h k = omega arith
      heavy (Some d) None n m h k = omega arith
      heavy (Some d) (Some e) n m h k = omega arith

-- ---- a subject's automata

pub counts_on : (a b c x y z : ℕ) → Counts a b x y → Counts b c y z → Counts a c x z
counts_on a b c x y z h k =
    let sum : z ≡ x + (h.0 + k.0) = let first = h.1 in let second = k.1 in omega arith in
    (h.0 + k.0, sum, raised_on a b c h.0 k.0 h.2 k.2)

pub counts_none : (a x : ℕ) → Counts a a x x
counts_none a x = let same : x ≡ x + 0 = omega arith in (0, same, raised_none a)

pub whole_counts : (policy : List Subject) (at : ℕ) (subject : Subject) (old mid new : Parts) (a b c : ℕ) → slice_get policy at ≡ Some subject → slot mid.wholes at ≡ None
    → at < length mid.wholes → mid.wholes ≡ old.wholes → Counts a b (weight (λ _. true) policy old.owns) (weight (λ _. true) policy mid.owns)
    → (joins : Bool) → joins ≡ is_joined subject
    → ((whole : Automaton) × (new.wholes ≡ slice_set mid.wholes at (Some whole)) × Raised b c (if joins then count whole.table else 0))
    → new.owns ≡ mid.owns → Counts a c (states_of policy old) (states_of policy new)
whole_counts policy at subject old mid new a b c here none within same first joins is (whole, put, raised) owns =
    let n = if joins then count whole.table else 0 in
    let heavier : weight is_joined policy new.wholes ≡ weight is_joined policy mid.wholes + n =
    ap (weight is_joined policy) put ∙ weight_put is_joined policy mid.wholes at subject whole here none within
    ∙ ap (λ (j : Bool). weight is_joined policy mid.wholes + (if j then count whole.table else 0)) (sym is) in
    let wholes = ap (weight is_joined policy) same in
    let its = ap (weight (λ _. true) policy) owns in
    let more = first.1 in
    let sum : states_of policy new ≡ states_of policy old + (first.0 + n) = omega arith in
    (first.0 + n, sum, raised_on a b c first.0 n first.2 raised)

-- ---- the rise of all

-- what is there of the automata in the end, where some were there before
module _ (policy : List Subject) (old new : Parts) (before : AreParts policy old) (right : AreParts policy new) (grows : Grows old new) (own chain : Subject → Bool)
    (owns_before : (k : ℕ) (s : Subject) → slice_get policy k ≡ Some s
    → (own s ≡ true → slot old.owns k ≡ None) × (own s ≡ false → is_keeper s ≡ true → IsTrue (is_some (slot old.owns k))))
    (wholes_before : (k : ℕ) (s : Subject) → slice_get policy k ≡ Some s
    → (chain s ≡ true → slot old.wholes k ≡ None) × (chain s ≡ false → IsTrue (is_some (slot old.wholes k))))
    (all : AreAll policy new) (keepers : HaveKeepers policy new) where
  own_made : (k : ℕ) (s : Subject) → slice_get policy k ≡ Some s → Made (is_keeper s && own s) true (own_patterns s) (slot old.owns k) (slot new.owns k)
  own_made k s here = by (is_keeper s) (own s) (slot old.owns k) (slot new.owns k) refl refl refl refl
    where
      by : (keeper anew : Bool) (o n : Option Automaton) → is_keeper s ≡ keeper → own s ≡ anew → slot old.owns k ≡ o → slot new.owns k ≡ n → Made (keeper && anew) true (own_patterns s) o n
      by true true o None h e p q = let some = keepers k s here h in absurd (true≢false (sym some ∙ ap is_some q))
      by true true o (Some d) h e p q = (refl, sym p ∙ (owns_before k s here).0 e, (d, refl, (right.owns k s d here q).0.0.index))
      by true false None n h e p q = let some = (owns_before k s here).1 e h in absurd (true≢false (sym some ∙ ap is_some p))
      by true false (Some d) n h e p q = inr (sym q ∙ grows.0 k d p)
      by false anew None None h e p q = inr refl
      by false anew (Some d) n h e p q = absurd (true≢false (sym (before.owns k s d here p).1 ∙ h))
      by false anew None (Some d) h e p q = absurd (true≢false (sym (right.owns k s d here q).1 ∙ h))

  whole_made : (k : ℕ) (s : Subject) → slice_get policy k ≡ Some s → Made (is_joined s && chain s) (is_joined s) (patterns_along policy s) (slot old.wholes k) (slot new.wholes k)
  whole_made k s here = by (is_joined s) (chain s) (slot old.wholes k) (slot new.wholes k) refl refl refl
    where
      by : (joined anew : Bool) (o n : Option Automaton) → chain s ≡ anew → slot old.wholes k ≡ o → slot new.wholes k ≡ n → Made (joined && anew) joined (patterns_along policy s) o n
      by false anew o n e p q = inl refl
      by true true o None e p q = let some = all k (slice_get_within policy k s here) in absurd (true≢false (sym some ∙ ap is_some q))
      by true true o (Some d) e p q = (refl, sym p ∙ (wholes_before k s here).0 e, (d, refl, (right.wholes k s d here q).0.index))
      by true false None n e p q = let some = (wholes_before k s here).1 e in absurd (true≢false (sym some ∙ ap is_some p))
      by true false (Some d) n e p q = inr (sym q ∙ grows.1 k d p)

  pub rise_made : (a b : ℕ) → Counts a b (states_of policy old) (states_of policy new) → a ≤ most → Rises (IsRise (λ s. is_keeper s && own s) (λ s. is_joined s && chain s) policy) a b
  rise_made a b counts fits =
      let owns = sum_made (λ s. is_keeper s && own s) (λ _. true) own_patterns policy old.owns new.owns before.many_owns right.many_owns own_made in
      let wholes = sum_made (λ s. is_joined s && chain s) is_joined (patterns_along policy) policy old.wholes new.wholes before.many_wholes right.many_wholes whole_made in
      let owns_more = owns.2 in
      let wholes_more = wholes.2 in
      let more = counts.1 in
      let sum : counts.0 ≡ owns.0 + wholes.0 = omega arith in
      (counts.0, (owns.0, wholes.0, owns.1, wholes.1, sum), counts.2 fits)

-- all of what a policy is built
build_made : (each all : Subject → ℕ → Type 0) → ((s : Subject) (n : ℕ) → each s n → all s n) → (policy : List Subject) (n : ℕ) → IsSum each policy n → IsSum all policy n
build_made each all so [] n sum = sum
build_made each all so (s ∷ rest) n (here, later, h, k, e) = (here, later, so s here h, build_made each all so rest later k, e)

pub build_rise : (policy : List Subject) (a b : ℕ) → Rises (IsRise (λ s. is_keeper s && true) (λ s. is_joined s && true) policy) a b → Rises (IsBuildRise policy) a b
build_rise policy a b (n, (owns, chains, h, k, sum), is) =
    (n, (owns, chains, build_made _ _ (λ s m. plain (is_keeper s) (own_patterns s) m) policy owns h, build_made _ _ (λ s m. plain (is_joined s) (patterns_along policy s) m) policy chains k, sum), is)
  where
    plain : (b : Bool) (entries : List (List ℕ)) (m : ℕ) → IsCount (b && true) entries m → IsCount b entries m
    plain true entries m h = h
    plain false entries m h = h
