-- Places for automata: what stands where, and what stays when one is put.
use Rattle.std.proofs.Common.{◌≡◌, ◌⊎◌, ℕ, zero, suc, ◌<◌, true, true≢false, List, [], ◌∷◌, ◌++◌, length, Option, None, Some, refl, sym, ap, subst, ◌∙◌, inl, inr, arith, slice_get, slice_set, is_some, IsTrue}
use Rattle.std.proofs.lemmas.List.{length-set}
use Rattle.std.proofs.lemmas.Option.{same_Some, none-some, slice_get_within}
use Rattle.pol_automaton.specs.Automaton.{Automaton}
use Rattle.pol_text.specs.declared.subject.Subject.{Subject}
use Rattle.pol_live.specs.declared.parts.Parts.{Parts}
use Rattle.pol_meaning.specs.Along.{patterns_along}
use Rattle.pol_live.specs.Kept.{IsFit, IsPutAt, AreParts, AreAll, Stays, Grows, slot, own_patterns, is_keeper}

-- ---- one place

-- the automaton that was put, or one that was there
put_cases : (xs : List (Option Automaton)) (at : ℕ) (d : Automaton) (k : ℕ) (a : Automaton) → slot (slice_set xs at (Some d)) k ≡ Some a
    → ((k ≡ at) × (d ≡ a)) ⊎ (slot xs k ≡ Some a)
put_cases [] at d k a e = inr e
put_cases (x ∷ xs) zero d zero a e = inl (refl, same_Some d a e)
put_cases (x ∷ xs) zero d (suc k) a e = inr e
put_cases (x ∷ xs) (suc at) d zero a e = inr e
put_cases (x ∷ xs) (suc at) d (suc k) a e = by (put_cases xs at d k a e)
  where
    by : ((k ≡ at) × (d ≡ a)) ⊎ (slot xs k ≡ Some a) → ((suc k ≡ suc at) × (d ≡ a)) ⊎ (slot xs k ≡ Some a)
    by (inl h) = inl (ap suc h.0, h.1)
    by (inr h) = inr h

pub put_there : (xs : List (Option Automaton)) (at : ℕ) (d : Automaton) → at < length xs → slot (slice_set xs at (Some d)) at ≡ Some d
put_there [] at d lt = absurd (omega arith)
put_there (x ∷ xs) zero d lt = refl
put_there (x ∷ xs) (suc at) d lt = put_there xs at d (omega arith)

pub push_none : (xs : List (Option Automaton)) → ((k : ℕ) → slot xs k ≡ None) → (k : ℕ) → slot (xs ++ None ∷ []) k ≡ None
push_none [] none zero = refl
push_none [] none (suc k) = refl
push_none (x ∷ xs) none zero = none zero
push_none (x ∷ xs) none (suc k) = push_none xs (λ i. none (suc i)) k

pub put_stays : (xs : List (Option Automaton)) (at : ℕ) (d : Automaton) → slot xs at ≡ None → Stays xs (slice_set xs at (Some d))
put_stays [] at d none k a e = e
put_stays (x ∷ xs) zero d none zero a e = absurd (none-some a (sym none ∙ e))
put_stays (x ∷ xs) zero d none (suc k) a e = e
put_stays (x ∷ xs) (suc at) d none zero a e = e
put_stays (x ∷ xs) (suc at) d none (suc k) a e = put_stays xs at d none k a e

-- what holds of all automata and of the one that is put
put_holds : (R : Subject → Automaton → Type 0) (policy : List Subject) (xs : List (Option Automaton)) (at : ℕ) (subject : Subject) (d : Automaton)
    → ((k : ℕ) (s : Subject) (a : Automaton) → slice_get policy k ≡ Some s → slot xs k ≡ Some a → R s a)
    → slice_get policy at ≡ Some subject → R subject d
    → (k : ℕ) (s : Subject) (a : Automaton) → slice_get policy k ≡ Some s → slot (slice_set xs at (Some d)) k ≡ Some a → R s a
put_holds R policy xs at subject d all here new k s a its e = by (put_cases xs at d k a e)
  where
    by : ((k ≡ at) × (d ≡ a)) ⊎ (slot xs k ≡ Some a) → R s a
    by (inl h) =
        let same : subject ≡ s = same_Some subject s (sym here ∙ ap (slice_get policy) (sym h.0) ∙ its) in
        let P : Subject → Type 0 = λ t. R t d in
        let Q : Automaton → Type 0 = λ b. R s b in
        subst Q h.1 (subst P same new)
    by (inr h) = all k s a its h

-- ---- the automata of a policy

pub grows_itself : (parts : Parts) → Grows parts parts
grows_itself parts = (λ k d h. h, λ k d h. h)

pub grows_on : (a b c : Parts) → Grows a b → Grows b c → Grows a c
grows_on a b c h k = (λ i d e. k.0 i d (h.0 i d e), λ i d e. k.1 i d (h.1 i d e))

some_stays : (xs ys : List (Option Automaton)) (k : ℕ) → Stays xs ys → is_some (slot xs k) ≡ true → is_some (slot ys k) ≡ true
some_stays xs ys k stays = by (slot xs k) refl
  where
    by : (o : Option Automaton) → slot xs k ≡ o → is_some o ≡ true → is_some (slot ys k) ≡ true
    by None e h = cc
    by (Some d) e h = ap is_some (stays k d e)

pub stays_some : (xs ys : List (Option Automaton)) (k : ℕ) → Stays xs ys → IsTrue (is_some (slot xs k)) → IsTrue (is_some (slot ys k))
stays_some xs ys k stays h = some_stays xs ys k stays h

module _ (policy : List Subject) (at : ℕ) (subject : Subject) (here : slice_get policy at ≡ Some subject) where
  own_same : (old new : Parts) → AreParts policy old → new.wholes ≡ old.wholes → new.owns ≡ old.owns → AreParts policy new × Grows old new
  own_same old new right wholes owns = (
    record {
      many_owns = ap (λ (xs : List (Option Automaton)). length xs) owns ∙ right.many_owns;
      many_wholes = ap (λ (xs : List (Option Automaton)). length xs) wholes ∙ right.many_wholes;
      owns = λ k s d its e. right.owns k s d its (ap (λ (xs : List (Option Automaton)). slot xs k) (sym owns) ∙ e);
      wholes = λ k s d its e. right.wholes k s d its (ap (λ (xs : List (Option Automaton)). slot xs k) (sym wholes) ∙ e);
    },
    (λ k d e. ap (λ (xs : List (Option Automaton)). slot xs k) owns ∙ e, λ k d e. ap (λ (xs : List (Option Automaton)). slot xs k) wholes ∙ e),
  )

  pub own_put : (old new : Parts) → AreParts policy old → new.wholes ≡ old.wholes
      → (new.owns ≡ old.owns) ⊎ ((slot old.owns at ≡ None) × IsPutAt at (own_patterns subject) old.owns new.owns)
      → (new.owns ≡ old.owns) ⊎ (is_keeper subject ≡ true) → AreParts policy new × Grows old new
  own_put old new right wholes (inl owns) keeper = own_same old new right wholes owns
  own_put old new right wholes (inr put) (inl owns) = own_same old new right wholes owns
  own_put old new right wholes (inr (none, (d, fit, owns))) (inr keeper) = (
    record {
      many_owns = ap (λ (xs : List (Option Automaton)). length xs) owns ∙ length-set old.owns at (Some d) ∙ right.many_owns;
      many_wholes = ap (λ (xs : List (Option Automaton)). length xs) wholes ∙ right.many_wholes;
      owns = λ k s a its e.
          put_holds (λ t b. IsFit (own_patterns t) b × (is_keeper t ≡ true)) policy old.owns at subject d right.owns here (fit, keeper) k s a its
          (ap (λ (xs : List (Option Automaton)). slot xs k) (sym owns) ∙ e);
      wholes = λ k s a its e. right.wholes k s a its (ap (λ (xs : List (Option Automaton)). slot xs k) (sym wholes) ∙ e);
    },
    (
      λ k a e. ap (λ (xs : List (Option Automaton)). slot xs k) owns ∙ put_stays old.owns at d none k a e,
      λ k a e. ap (λ (xs : List (Option Automaton)). slot xs k) wholes ∙ e,
    ),
  )

  pub whole_put : (old new : Parts) → AreParts policy old → new.owns ≡ old.owns → slot old.wholes at ≡ None
      → IsPutAt at (patterns_along policy subject) old.wholes new.wholes → AreParts policy new × Grows old new
  whole_put old new right owns none (d, fit, wholes) = (
    record {
      many_owns = ap (λ (xs : List (Option Automaton)). length xs) owns ∙ right.many_owns;
      many_wholes = ap (λ (xs : List (Option Automaton)). length xs) wholes ∙ length-set old.wholes at (Some d) ∙ right.many_wholes;
      owns = λ k s a its e. right.owns k s a its (ap (λ (xs : List (Option Automaton)). slot xs k) (sym owns) ∙ e);
      wholes = λ k s a its e.
          put_holds (λ t b. IsFit (patterns_along policy t) b) policy old.wholes at subject d right.wholes here fit k s a its (ap (λ (xs : List (Option Automaton)). slot xs k) (sym wholes) ∙ e);
    },
    (
      λ k a e. ap (λ (xs : List (Option Automaton)). slot xs k) owns ∙ e,
      λ k a e. ap (λ (xs : List (Option Automaton)). slot xs k) wholes ∙ put_stays old.wholes at d none k a e,
    ),
  )

-- no subject is without one
pub all_there : (policy : List Subject) (parts : Parts) (k : ℕ) → AreAll policy parts → slot parts.wholes k ≡ None → slice_get policy k ≡ None
all_there policy parts k all none = by (slice_get policy k) refl
  where
    by : (o : Option Subject) → slice_get policy k ≡ o → o ≡ None
    by None e = refl
    by (Some s) e = absurd (true≢false (sym (all k (slice_get_within policy k s e)) ∙ ap is_some none))

slot_within : {X : Type 0} (xs : List (Option X)) (k : ℕ) (x : X) → slot xs k ≡ Some x → k < length xs
slot_within [] k x e = absurd cc
slot_within (y ∷ xs) zero x e = omega arith
slot_within (y ∷ xs) (suc k) x e = let below = slot_within xs k x e in omega arith

get_there : {X : Type 0} (xs : List X) (k : ℕ) → k < length xs → IsTrue (is_some (slice_get xs k))
get_there [] k lt = absurd (omega arith)
get_there (x ∷ xs) zero lt = refl
get_there (x ∷ xs) (suc k) lt = get_there xs k (omega arith)

-- where there is an automaton there is a subject
pub subject_there : (policy : List Subject) (parts : Parts) (k : ℕ) (d : Automaton) → AreParts policy parts → slot parts.wholes k ≡ Some d → IsTrue (is_some (slice_get policy k))
subject_there policy parts k d are there =
    let within = slot_within parts.wholes k d there in
    let many = are.many_wholes in
    get_there policy k (omega arith)

below_next : (k i : ℕ) → k < suc i → (k < i) ⊎ (k ≡ i)
below_next zero zero lt = inr refl
below_next zero (suc i) lt = inl (omega arith)
below_next (suc k) zero lt = absurd (omega arith)
below_next (suc k) (suc i) lt = by (below_next k i (omega arith))
  where
    by : (k < i) ⊎ (k ≡ i) → (suc k < suc i) ⊎ (suc k ≡ suc i)
    by (inl h) = inl (omega arith)
    by (inr h) = inr (ap suc h)

-- one more subject has its automaton
pub more_there : (old new : Parts) (i : ℕ) → Grows old new → ((k : ℕ) → k < i → IsTrue (is_some (slot old.wholes k))) → IsTrue (is_some (slot new.wholes i))
    → (k : ℕ) → k < suc i → IsTrue (is_some (slot new.wholes k))
more_there old new i grows before here k lt = by (below_next k i lt)
  where
    by : (k < i) ⊎ (k ≡ i) → IsTrue (is_some (slot new.wholes k))
    by (inl h) = stays_some old.wholes new.wholes k grows.1 (before k h)
    by (inr h) = subst (λ (j : ℕ). IsTrue (is_some (slot new.wholes j))) (sym h) here

pub more_keepers : (policy : List Subject) (old new : Parts) (i : ℕ) (subject : Subject) → Grows old new → slice_get policy i ≡ Some subject
    → ((k : ℕ) (s : Subject) → k < i → slice_get policy k ≡ Some s → is_keeper s ≡ true → IsTrue (is_some (slot old.owns k)))
    → (is_keeper subject ≡ true → IsTrue (is_some (slot new.owns i)))
    → (k : ℕ) (s : Subject) → k < suc i → slice_get policy k ≡ Some s → is_keeper s ≡ true → IsTrue (is_some (slot new.owns k))
more_keepers policy old new i subject grows at before here k s lt its keeper = by (below_next k i lt)
  where
    by : (k < i) ⊎ (k ≡ i) → IsTrue (is_some (slot new.owns k))
    by (inl h) = stays_some old.owns new.owns k grows.0 (before k s h its keeper)
    by (inr h) =
        let same : s ≡ subject = same_Some s subject (sym its ∙ ap (slice_get policy) h ∙ at) in
        subst (λ (j : ℕ). IsTrue (is_some (slot new.owns j))) (sym h) (here (ap is_keeper (sym same) ∙ keeper))

-- ---- a list of places, one after another

push_front : {X : Type 0} (xs : List (Option X)) (x : Option X) (k : ℕ) → k < length xs → slot (xs ++ x ∷ []) k ≡ slot xs k
push_front [] x k lt = absurd (omega arith)
push_front (y ∷ xs) x zero lt = refl
push_front (y ∷ xs) x (suc k) lt = push_front xs x k (omega arith)

push_back : {X : Type 0} (xs : List (Option X)) (x : Option X) → slot (xs ++ x ∷ []) (length xs) ≡ x
push_back [] x = refl
push_back (y ∷ xs) x = push_back xs x

-- what holds of each place, and of one more
pub more_each : {X : Type 0} (P : Subject → Option X → Type 0) (policy : List Subject) (xs : List (Option X)) (x : Option X) (i : ℕ) (subject : Subject) → length xs ≡ i
    → slice_get policy i ≡ Some subject → P subject x → ((k : ℕ) (s : Subject) → k < i → slice_get policy k ≡ Some s → P s (slot xs k))
    → (k : ℕ) (s : Subject) → k < suc i → slice_get policy k ≡ Some s → P s (slot (xs ++ x ∷ []) k)
more_each {X} P policy xs x i subject long here new before k s lt its = by (below_next k i lt)
  where
    by : (k < i) ⊎ (k ≡ i) → P s (slot (xs ++ x ∷ []) k)
    by (inl h) =
        let within : k < length xs = omega arith in
        let Q : Option X → Type 0 = λ o. P s o in
        subst Q (sym (push_front xs x k within)) (before k s h its)
    by (inr h) =
        let same : subject ≡ s = same_Some subject s (sym here ∙ ap (slice_get policy) (sym h) ∙ its) in
        let at : slot (xs ++ x ∷ []) k ≡ x = ap (slot (xs ++ x ∷ [])) (h ∙ sym long) ∙ push_back xs x in
        let Q : Option X → Type 0 = λ o. P s o in
        let R : Subject → Type 0 = λ t. P t x in
        subst Q (sym at) (subst R same new)
