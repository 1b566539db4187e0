-- Alike symbols give the same derivatives, and so alike texts the same residuals.
use Rattle.std.proofs.Common.{inl, inr, ◌<◌, ℕ, IsTrue, List, [], ◌∷◌, length, sym, subst, ◌∙◌}
use Rattle.std.specs.List.{slice_index_or}
use Rattle.std.specs.Prelude.{All}
use Rattle.std.proofs.lemmas.List.Elements.{All-head, All-tail}
use Rattle.pol_pattern.specs.Flat.{Class, Factor, class, group, star, Term, empty, put, Terms, none, alt, join_term}
use Rattle.pol_residual.specs.Derivative.{IsAmong, Derivative, of_class, of_group, of_star, after_star, Derivatives, Residual, at_first, by_more}
use Rattle.pol_automaton.specs.After.{After, after_more}
use Rattle.pol_residual.specs.Residuals.{InResidual, SameTerms, SameResiduals}
use Rattle.pol_automaton.specs.Alike.{AllInFactor, AllInTerm, AllInTerms, HoldsAlike, AreAlike}
use Rattle.pol_automaton.proofs.AfterText.{residual_after, after_residual}

-- ---- facts of all classes of a part

module _ (P Q R : Class → Type 0) (both : (c : Class) → P c → Q c → R c) where
  mutual
    factor_both : (factor : Factor) → AllInFactor P factor → AllInFactor Q factor → AllInFactor R factor
    factor_both (class c) p q = both c p q
    factor_both (group terms) p q = terms_both terms p q
    factor_both (star terms) p q = terms_both terms p q

    term_both : (term : Term) → AllInTerm P term → AllInTerm Q term → AllInTerm R term
    term_both empty p q = tt
    term_both (put factor term) p q = (factor_both factor p.0 q.0, term_both term p.1 q.1)

    pub terms_both : (terms : Terms) → AllInTerms P terms → AllInTerms Q terms → AllInTerms R terms
    terms_both none p q = tt
    terms_both (alt term terms) p q = (term_both term p.0 q.0, terms_both terms p.1 q.1)

module _ (P : Class → Type 0) where
  all_joined : (term others : Term) → AllInTerm P term → AllInTerm P others → AllInTerm P (join_term term others)
  all_joined empty others p q = q
  all_joined (put factor term) others p q = (p.0, all_joined term others p.1 q)

  all_among : (terms : Terms) (term : Term) → IsAmong terms term → AllInTerms P terms → AllInTerm P term
  all_among none term among p = absurd among
  all_among (alt first others) term (inl e) p = subst (AllInTerm P) (sym e) p.0
  all_among (alt first others) term (inr among) p = all_among others term among p.1

  -- a derivative has no other classes
  all_derived : (symbol : ℕ) (term next : Term) → Derivative symbol term next → AllInTerm P term → AllInTerm P next
  all_derived symbol term next (of_class h) p = p.1
  all_derived symbol term next (of_group {rest} alternative among d) p =
      all_derived symbol (join_term alternative rest) next d (all_joined alternative rest (all_among _ alternative among p.0) p.1)
  all_derived symbol term next (of_star {terms} {alternative} {rest} {next = inner} among d) p =
      all_joined inner (put (star terms) rest) (all_derived symbol alternative inner d (all_among terms alternative among p.0)) p
  all_derived symbol term next (after_star {rest} d) p = all_derived symbol rest next d p.1

  -- nor has a residual
  all_residual : (flat : Terms) → AllInTerms P flat → (text : List ℕ) (term : Term) → Residual flat text term → AllInTerm P term
  all_residual flat p text term (at_first among) = all_among flat term among p
  all_residual flat p text term (by_more {text = before} {symbol} {term = own} r d) =
      all_derived symbol own term d (all_residual flat p before own r)

-- ---- the same derivatives

derived_alike : (a b : ℕ) (term next : Term) → AllInTerm (HoldsAlike a b) term → Derivative a term next → Derivative b term next
derived_alike a b term next p (of_class h) = of_class (subst IsTrue p.0 h)
derived_alike a b term next p (of_group {rest} alternative among d) =
    of_group alternative among (derived_alike a b (join_term alternative rest) next
    (all_joined (HoldsAlike a b) alternative rest (all_among (HoldsAlike a b) _ alternative among p.0) p.1) d)
derived_alike a b term next p (of_star {terms} {alternative} {next = inner} among d) =
    of_star among (derived_alike a b alternative inner (all_among (HoldsAlike a b) terms alternative among p.0) d)
derived_alike a b term next p (after_star {rest} d) = after_star (derived_alike a b rest next p.1 d)

-- ---- texts of which each two symbols at one place are related

abbrev pub AreRelated : (ℕ → ℕ → Type 0) → List ℕ → List ℕ → Type 0
AreRelated related [] [] = Unit {0}
AreRelated related (a ∷ text) (b ∷ other) = related a b × AreRelated related text other
AreRelated related _ _ = ⊥

pub related_more : (P Q : ℕ → ℕ → Type 0) → ((a b : ℕ) → P a b → Q a b) → (text other : List ℕ) → AreRelated P text other → AreRelated Q text other
related_more P Q more [] [] h = tt
related_more P Q more [] (b ∷ other) h = h
related_more P Q more (a ∷ text) [] h = h
related_more P Q more (a ∷ text) (b ∷ other) h = (more a b h.0, related_more P Q more text other h.1)

pub related_back : (P Q : ℕ → ℕ → Type 0) → ((a b : ℕ) → P a b → Q b a) → (text other : List ℕ) → AreRelated P text other → AreRelated Q other text
related_back P Q back [] [] h = tt
related_back P Q back [] (b ∷ other) h = h
related_back P Q back (a ∷ text) [] h = h
related_back P Q back (a ∷ text) (b ∷ other) h = (back a b h.0, related_back P Q back text other h.1)

-- no class of the set's terms tells related symbols apart
abbrev AreTold : (ℕ → ℕ → Type 0) → (Term → Type 0) → Type 0
AreTold related set = (a b : ℕ) → related a b → (term : Term) → set term → AllInTerm (HoldsAlike a b) term

after_alike : (related : ℕ → ℕ → Type 0) (set : Term → Type 0) → AreTold related set → (text other : List ℕ) → AreRelated related text other
    → (term : Term) → After set text term → After set other term
after_alike related set told [] [] r term h = h
after_alike related set told [] (b ∷ other) r term h = absurd r
after_alike related set told (a ∷ text) [] r term h = absurd r
after_alike related set told (a ∷ text) (b ∷ other) r term h =
    let stepped : AreTold related (Derivatives a set) = λ x y p next w. all_derived (HoldsAlike x y) a w.0 next w.2 (told x y p w.0 w.1) in
    after_more (Derivatives a set) (Derivatives b set) other (λ next w. (w.0, w.1, derived_alike a b w.0 next (told a b r.0 w.0 w.1) w.2)) term
    (after_alike related (Derivatives a set) stepped text other r.1 term h)

residual_alike : (flat : Terms) (text other : List ℕ) → AreRelated (λ a b. AllInTerms (HoldsAlike a b) flat) text other
    → (term : Term) → Residual flat text term → Residual flat other term
residual_alike flat text other r term h =
    after_residual flat [] other term
    (after_alike (λ a b. AllInTerms (HoldsAlike a b) flat) (Residual flat [])
    (λ a b p own first. all_residual (HoldsAlike a b) flat p [] own first) text other r term (residual_after flat text term h))

-- ---- of entries

pub alike_symmetric : (entries : List (List ℕ)) (a b : ℕ) → AreAlike entries a b → AreAlike entries b a
alike_symmetric entries a b alike = λ k d lt flat spells.
    let p = alike k d lt flat spells in
    terms_both (HoldsAlike a b) (HoldsAlike a b) (HoldsAlike b a) (λ c x y. sym x) flat p p

pub alike_transitive : (entries : List (List ℕ)) (a b c : ℕ) → AreAlike entries a b → AreAlike entries b c → AreAlike entries a c
alike_transitive entries a b c alike more = λ k d lt flat spells.
    terms_both (HoldsAlike a b) (HoldsAlike b c) (HoldsAlike a c) (λ held x y. x ∙ y) flat (alike k d lt flat spells) (more k d lt flat spells)

in_residual_alike : (entries : List (List ℕ)) (text other : List ℕ) → AreRelated (AreAlike entries) text other → (k : ℕ) (d : List ℕ) → k < length entries
    → (term : Term) → InResidual (slice_index_or entries k d) text term → InResidual (slice_index_or entries k d) other term
in_residual_alike entries text other r k d lt term h = (
  h.0,
  h.1,
  residual_alike h.0 text other
      (related_more (AreAlike entries) (λ a b. AllInTerms (HoldsAlike a b) h.0) (λ a b alike. alike k d lt h.0 h.1) text other r) term h.2,
)

same_all : (entries : List (List ℕ)) (text other : List ℕ) → All (λ source. SameTerms source text other) entries → SameResiduals entries text other
same_all [] text other all = tt
same_all (source ∷ entries) text other all =
    inr (All-head (λ s. SameTerms s text other) source entries all, same_all entries text other (All-tail (λ s. SameTerms s text other) source entries all))

pub same_alike : (entries : List (List ℕ)) (text other : List ℕ) → AreRelated (AreAlike entries) text other → SameResiduals entries text other
same_alike entries text other r = same_all entries text other (λ k d lt term. (
  in_residual_alike entries text other r k d lt term,
  in_residual_alike entries other text (related_back (AreAlike entries) (AreAlike entries) (alike_symmetric entries) text other r) k d lt term,
))
