-- The linear form of a term says its derivatives.
use Rattle.std.proofs.Common.{◌≡◌, ◌⊎◌, ◌↔◌, ℕ, Bool, true, false, IsTrue, List, [], ◌∷◌, ◌++◌, cond, map, refl, sym, ap, subst, ◌∙◌, inl, inr}
use Rattle.std.proofs.lemmas.Bool.{false≢true, or_cases, or_left, or_right, and_parts, and_from}
use Rattle.std.proofs.lemmas.List.{map-append}
use Rattle.pol_pattern.specs.Flat.{Class, Factor, class, group, star, Term, empty, put, Terms, none, alt, join_term}
use Rattle.pol_pattern.specs.Sets.{InFactor, InTerm, InTerms}
use Rattle.pol_residual.specs.Derivative.{IsAmong, Derivative, of_class, of_group, of_star, after_star}
use Rattle.pol_deriv.specs.Linear.{factor_holds_empty, term_holds_empty, terms_hold_empty, factor_linear, linear, terms_linear, Leads}
use Rattle.pol_deriv.proofs.Inversion.{derivative-empty, derivative-class, derivative-group, derivative-star}
use Rattle.pol_deriv.proofs.Language.{join-empty, join_assoc}

-- ---- the empty text

both_empty : (front back : List ℕ) → [] ≡ front ++ back → (front ≡ []) × (back ≡ [])
both_empty [] back e = (refl, sym e)
both_empty (x ∷ front) back e = absurd cc

no_class : (symbol : ℕ) → [] ≡ symbol ∷ [] → ⊥
no_class symbol e = cc

mutual
  pub factor_empty : (factor : Factor) → IsTrue (factor_holds_empty factor) ↔ InFactor factor []
  factor_empty (class c) = (λ h. absurd (false≢true h), λ w. absurd (no_class w.0 w.1))
  factor_empty (group terms) = terms_empty terms
  factor_empty (star terms) = (λ h. ([], tt, refl), λ w. refl)

  pub term_empty : (term : Term) → IsTrue (term_holds_empty term) ↔ InTerm term []
  term_empty empty = (λ h. refl, λ e. refl)
  term_empty (put factor rest) = (
    λ h.
        let p = and_parts (factor_holds_empty factor) (term_holds_empty rest) h in
        ([], [], refl, (factor_empty factor).0 p.0, (term_empty rest).0 p.1),
    λ w.
        let p = both_empty w.0 w.1 w.2 in
        and_from (factor_holds_empty factor) (term_holds_empty rest) ((factor_empty factor).1 (subst (InFactor factor) p.0 w.3)) ((term_empty rest).1 (subst (InTerm rest) p.1 w.4)),
  )

  pub terms_empty : (terms : Terms) → IsTrue (terms_hold_empty terms) ↔ InTerms terms []
  terms_empty none = (λ h. absurd (false≢true h), λ h. absurd h)
  terms_empty (alt first others) = (
    λ h. elim (or_cases (term_holds_empty first) (terms_hold_empty others) h) [ inl p ↦ inl ((term_empty first).0 p) | inr q ↦ inr ((terms_empty others).0 q) ],
    λ h. elim h [ inl p ↦ or_left (term_holds_empty first) (terms_hold_empty others) ((term_empty first).1 p) | inr q ↦ or_right (term_holds_empty first) (terms_hold_empty others) ((terms_empty others).1 q) ],
  )

-- ---- a term that follows

-- a pair, with more after its term
abbrev pub followed_by : Term → Class × Term → Class × Term
followed_by after pair = (pair.0, join_term pair.1 after)

map_cond : (f : Class × Term → Class × Term) (b : Bool) (pairs : List (Class × Term)) → cond b (map f pairs) [] ≡ map f (cond b pairs [])
map_cond f true pairs = refl
map_cond f false pairs = refl

module _ (after : Term) where
  mutual
    pub factor_linear-join : (factor : Factor) (m : Term) → factor_linear factor (join_term m after) ≡ map (followed_by after) (factor_linear factor m)
    factor_linear-join (class c) m = refl
    factor_linear-join (group terms) m = terms_linear-join terms m
    factor_linear-join (star terms) m = terms_linear-join terms (put (star terms) m)

    pub linear-join : (term m : Term) → linear term (join_term m after) ≡ map (followed_by after) (linear term m)
    linear-join empty m = refl
    linear-join (put factor rest) m =
        ap (λ (k : Term). factor_linear factor k ++ cond (factor_holds_empty factor) (linear rest (join_term m after)) []) (sym (join_assoc rest m after))
        ∙ ap (λ (l : List (Class × Term)). l ++ cond (factor_holds_empty factor) (linear rest (join_term m after)) []) (factor_linear-join factor (join_term rest m))
        ∙ ap (λ (l : List (Class × Term)). map (followed_by after) (factor_linear factor (join_term rest m)) ++ l)
        (ap (λ (l : List (Class × Term)). cond (factor_holds_empty factor) l []) (linear-join rest m) ∙ map_cond (followed_by after) (factor_holds_empty factor) (linear rest m))
        ∙ sym (map-append (followed_by after) (factor_linear factor (join_term rest m)) (cond (factor_holds_empty factor) (linear rest m) []))

    pub terms_linear-join : (terms : Terms) (m : Term) → terms_linear terms (join_term m after) ≡ map (followed_by after) (terms_linear terms m)
    terms_linear-join none m = refl
    terms_linear-join (alt first others) m =
        ap (λ (l : List (Class × Term)). l ++ terms_linear others (join_term m after)) (linear-join first m)
        ∙ ap (λ (l : List (Class × Term)). map (followed_by after) (linear first m) ++ l) (terms_linear-join others m)
        ∙ sym (map-append (followed_by after) (linear first m) (terms_linear others m))

-- ---- what pairs say of a symbol

module _ (symbol : ℕ) where
  pub leads_left : (front back : List (Class × Term)) (next : Term) → Leads symbol front next → Leads symbol (front ++ back) next
  leads_left [] back next h = absurd h
  leads_left (pair ∷ front) back next (inl h) = inl h
  leads_left (pair ∷ front) back next (inr h) = inr (leads_left front back next h)

  pub leads_right : (front back : List (Class × Term)) (next : Term) → Leads symbol back next → Leads symbol (front ++ back) next
  leads_right [] back next h = h
  leads_right (pair ∷ front) back next h = inr (leads_right front back next h)

  pub leads_cases : (front back : List (Class × Term)) (next : Term) → Leads symbol (front ++ back) next → Leads symbol front next ⊎ Leads symbol back next
  leads_cases [] back next h = inr h
  leads_cases (pair ∷ front) back next (inl h) = inl (inl h)
  leads_cases (pair ∷ front) back next (inr h) = elim (leads_cases front back next h) [ inl p ↦ inl (inr p) | inr q ↦ inr q ]

  leads_followed : (after : Term) (pairs : List (Class × Term)) (next : Term) → Leads symbol pairs next → Leads symbol (map (followed_by after) pairs) (join_term next after)
  leads_followed after [] next h = absurd h
  leads_followed after (pair ∷ pairs) next (inl h) = inl (h.0, ap (λ (t : Term). join_term t after) h.1)
  leads_followed after (pair ∷ pairs) next (inr h) = inr (leads_followed after pairs next h)

  followed_leads : (after : Term) (pairs : List (Class × Term)) (next : Term) → Leads symbol (map (followed_by after) pairs) next → (inner : Term) × Leads symbol pairs inner × (next ≡ join_term inner after)
  followed_leads after [] next h = absurd h
  followed_leads after (pair ∷ pairs) next (inl h) = (pair.1, inl (h.0, refl), h.1)
  followed_leads after (pair ∷ pairs) next (inr h) =
      let w = followed_leads after pairs next h in
      (w.0, inr w.1, w.2)

  -- ---- what holds the empty text is passed over

  mutual
    factor_passed : (factor : Factor) (rest next : Term) → IsTrue (factor_holds_empty factor) → Derivative symbol rest next → Derivative symbol (put factor rest) next
    factor_passed (class c) rest next e d = absurd (false≢true e)
    factor_passed (group terms) rest next e d =
        let w = terms_passed terms rest next e d in
        of_group w.0 w.1 w.2
    factor_passed (star terms) rest next e d = after_star d

    term_passed : (term rest next : Term) → IsTrue (term_holds_empty term) → Derivative symbol rest next → Derivative symbol (join_term term rest) next
    term_passed empty rest next e d = d
    term_passed (put factor term) rest next e d =
        let p = and_parts (factor_holds_empty factor) (term_holds_empty term) e in
        factor_passed factor (join_term term rest) next p.0 (term_passed term rest next p.1 d)

    terms_passed : (terms : Terms) (rest next : Term) → IsTrue (terms_hold_empty terms) → Derivative symbol rest next
        → (alternative : Term) × IsAmong terms alternative × Derivative symbol (join_term alternative rest) next
    terms_passed none rest next e d = absurd (false≢true e)
    terms_passed (alt first others) rest next e d =
        elim (or_cases (term_holds_empty first) (terms_hold_empty others) e) [
          | inl p ↦ (first, inl refl, term_passed first rest next p d)
          | inr q ↦
              let w = terms_passed others rest next q d in
              (w.0, inr w.1, w.2)
        ]

  -- ---- each pair is a derivative

  leads_if : (b : Bool) (pairs : List (Class × Term)) (next : Term) → Leads symbol (cond b pairs []) next → IsTrue b × Leads symbol pairs next
  leads_if true pairs next h = (refl, h)
  leads_if false pairs next h = absurd h

  if_leads : (b : Bool) (pairs : List (Class × Term)) (next : Term) → IsTrue b → Leads symbol pairs next → Leads symbol (cond b pairs []) next
  if_leads true pairs next e h = h
  if_leads false pairs next e h = absurd (false≢true e)

  mutual
    factor_derives : (factor : Factor) (rest next : Term) → Leads symbol (factor_linear factor rest) next → Derivative symbol (put factor rest) next
    factor_derives (class c) rest next (inl h) = subst (Derivative symbol (put (class c) rest)) (sym h.1) (of_class h.0)
    factor_derives (class c) rest next (inr h) = absurd h
    factor_derives (group terms) rest next h =
        let w = terms_derive terms rest next h in
        of_group w.0 w.1 w.2
    factor_derives (star terms) rest next h =
        let w = star_derives terms (put (star terms) rest) next h in
        subst (Derivative symbol (put (star terms) rest)) (sym w.4) (of_star w.2 w.3)

    pub linear_derives : (term rest next : Term) → Leads symbol (linear term rest) next → Derivative symbol (join_term term rest) next
    linear_derives empty rest next h = absurd h
    linear_derives (put factor term) rest next h =
        elim (leads_cases (factor_linear factor (join_term term rest)) (cond (factor_holds_empty factor) (linear term rest) []) next h) [
          | inl p ↦ factor_derives factor (join_term term rest) next p
          | inr q ↦
              let w = leads_if (factor_holds_empty factor) (linear term rest) next q in
              factor_passed factor (join_term term rest) next w.0 (linear_derives term rest next w.1)
        ]

    terms_derive : (terms : Terms) (rest next : Term) → Leads symbol (terms_linear terms rest) next
        → (alternative : Term) × IsAmong terms alternative × Derivative symbol (join_term alternative rest) next
    terms_derive none rest next h = absurd h
    terms_derive (alt first others) rest next h =
        elim (leads_cases (linear first rest) (terms_linear others rest) next h) [
          | inl p ↦ (first, inl refl, linear_derives first rest next p)
          | inr q ↦
              let w = terms_derive others rest next q in
              (w.0, inr w.1, w.2)
        ]

    star_derives : (terms : Terms) (after next : Term) → Leads symbol (terms_linear terms after) next
        → (alternative inner : Term) × IsAmong terms alternative × Derivative symbol alternative inner × (next ≡ join_term inner after)
    star_derives none after next h = absurd h
    star_derives (alt first others) after next h =
        elim (leads_cases (linear first after) (terms_linear others after) next h) [
          | inl p ↦
              let w = followed_leads after (linear first empty) next (subst (λ (l : List (Class × Term)). Leads symbol l next) (linear-join after first empty) p) in
              (first, w.0, inl refl, subst (λ (t : Term). Derivative symbol t w.0) (join-empty first) (linear_derives first empty w.0 w.1), w.2)
          | inr q ↦
              let w = star_derives others after next q in
              (w.0, w.1, inr w.2, w.3, w.4)
        ]

  -- ---- each derivative is that of a pair, or of what follows

  mutual
    pub derives_linear : (term rest next : Term) → Derivative symbol (join_term term rest) next → Leads symbol (linear term rest) next ⊎ (IsTrue (term_holds_empty term) × Derivative symbol rest next)
    derives_linear empty rest next d = inr (refl, d)
    derives_linear (put (class c) term) rest next d = inl (inl (let w = derivative-class d in (w.1, w.0)))
    derives_linear (put (group terms) term) rest next d =
        let w = derivative-group d in
        elim (terms_linear_has terms w.alternative (join_term term rest) next w.among w.derivative) [
          | inl p ↦ inl (leads_left (terms_linear terms (join_term term rest)) (cond (terms_hold_empty terms) (linear term rest) []) next p)
          | inr e ↦
              elim (derives_linear term rest next e.1) [
                | inl p ↦ inl (leads_right (terms_linear terms (join_term term rest)) (cond (terms_hold_empty terms) (linear term rest) []) next (if_leads (terms_hold_empty terms) (linear term rest) next e.0 p))
                | inr k ↦ inr (and_from (terms_hold_empty terms) (term_holds_empty term) e.0 k.0, k.1)
              ]
        ]
    derives_linear (put (star terms) term) rest next d =
        let star_after = put (star terms) (join_term term rest) in
        elim (derivative-star d) [
          | inl w ↦ inl (leads_left (terms_linear terms star_after) (linear term rest) next
              (subst (Leads symbol (terms_linear terms star_after)) (sym w.joined) (star_linear_has terms w.alternative star_after w.inner w.among w.derivative)))
          | inr e ↦
              elim (derives_linear term rest next e) [
                | inl p ↦ inl (leads_right (terms_linear terms star_after) (linear term rest) next p)
                | inr k ↦ inr k
              ]
        ]

    terms_linear_has : (terms : Terms) (alternative rest next : Term) → IsAmong terms alternative → Derivative symbol (join_term alternative rest) next
        → Leads symbol (terms_linear terms rest) next ⊎ (IsTrue (terms_hold_empty terms) × Derivative symbol rest next)
    terms_linear_has none alternative rest next among d = absurd among
    terms_linear_has (alt first others) alternative rest next (inl same) d =
        elim (derives_linear first rest next (subst (λ (t : Term). Derivative symbol (join_term t rest) next) same d)) [
          | inl p ↦ inl (leads_left (linear first rest) (terms_linear others rest) next p)
          | inr k ↦ inr (or_left (term_holds_empty first) (terms_hold_empty others) k.0, k.1)
        ]
    terms_linear_has (alt first others) alternative rest next (inr among) d =
        elim (terms_linear_has others alternative rest next among d) [
          | inl p ↦ inl (leads_right (linear first rest) (terms_linear others rest) next p)
          | inr k ↦ inr (or_right (term_holds_empty first) (terms_hold_empty others) k.0, k.1)
        ]

    star_linear_has : (terms : Terms) (alternative after inner : Term) → IsAmong terms alternative → Derivative symbol alternative inner
        → Leads symbol (terms_linear terms after) (join_term inner after)
    star_linear_has none alternative after inner among d = absurd among
    star_linear_has (alt first others) alternative after inner (inl same) d =
        elim (derives_linear first empty inner (subst (λ (t : Term). Derivative symbol t inner) (same ∙ sym (join-empty first)) d)) [
          | inl p ↦
              leads_left (linear first after) (terms_linear others after) (join_term inner after)
              (subst (λ (l : List (Class × Term)). Leads symbol l (join_term inner after)) (sym (linear-join after first empty)) (leads_followed after (linear first empty) inner p))
          | inr k ↦ absurd (derivative-empty k.1)
        ]
    star_linear_has (alt first others) alternative after inner (inr among) d =
        leads_right (linear first after) (terms_linear others after) (join_term inner after) (star_linear_has others alternative after inner among d)

  -- the derivatives of a term are those that its linear form says
  pub linear_is : (term next : Term) → Derivative symbol term next ↔ Leads symbol (linear term empty) next
  linear_is term next = (
    λ d. elim (derives_linear term empty next (subst (λ (t : Term). Derivative symbol t next) (sym (join-empty term)) d)) [
      | inl p ↦ p
      | inr k ↦ absurd (derivative-empty k.1)
    ],
    λ h. subst (λ (t : Term). Derivative symbol t next) (join-empty term) (linear_derives term empty next h),
  )
