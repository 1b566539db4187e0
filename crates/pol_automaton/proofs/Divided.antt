-- Columns divided by the classes of one part after another.
use Rattle.std.proofs.Common.{◌≡◌, ◌↔◌, ◌<◌, ◌+◌, ℕ, zero, suc, List, [], ◌∷◌, ◌++◌, length, get_or, take, sym, ap, subst, ◌∙◌, arith}
use Rattle.std.specs.Prelude.{All}
use Rattle.std.specs.Global.{Vec}
use Rattle.std.proofs.lemmas.List.{take_more, get_or_append_left, get_or-append-add, length-append}
use Rattle.std.proofs.lemmas.List.Elements.{All-append, All-from_recursion}
use Rattle.pol_pattern.specs.Flat.{Class, Factor, class, group, star, Term, empty, put, Terms, none, alt, factor_value, term_value, terms_value}
use Rattle.pol_pattern.specs.Spelling.{Spells}
use Rattle.pol_pattern.specs.declared.flat.Factor.{Factor as FactorValue}
use Rattle.pol_scan.specs.Alphabet.{Alphabet, SameColumn, HasClasses}
use Rattle.pol_automaton.specs.Alike.{AllInFactor, AllInTerm, AllInTerms, HoldsAlike, AreAlike}

-- columns that are divided by one relation after another are divided by both
pub divided_more : (start now next : Alphabet) (P Q R : ℕ → ℕ → Type 0) → HasClasses now (λ a b. SameColumn start a b × P a b)
    → HasClasses next (λ a b. SameColumn now a b × Q a b) → ((a b : ℕ) → R a b ↔ (P a b × Q a b)) → HasClasses next (λ a b. SameColumn start a b × R a b)
divided_more start now next P Q R before after is a b p q =
    let first = before a b p q in
    let then = after a b p q in
    let both = is a b in (
      λ h. let w = then.0 h in let v = first.0 w.0 in (v.0, both.1 (v.1, w.1)),
      λ h. let w = both.0 h.1 in then.1 (first.1 (h.0, w.0), w.1),
    )

pub divided_not : (start : Alphabet) (P : ℕ → ℕ → Type 0) → ((a b : ℕ) → P a b) → HasClasses start (λ a b. SameColumn start a b × P a b)
divided_not start P always a b p q = (λ h. (h, always a b), λ h. h.0)

-- ---- how far a call may go down: less with each part

abbrev mutual
  pub factor_weight : Factor → ℕ
  factor_weight (class c) = 0
  factor_weight (group terms) = 2 + terms_weight terms
  factor_weight (star terms) = 2 + terms_weight terms

  pub term_weight : Term → ℕ
  term_weight empty = 0
  term_weight (put factor term) = 1 + factor_weight factor + term_weight term

  pub terms_weight : Terms → ℕ
  terms_weight none = 0
  terms_weight (alt term terms) = 1 + term_weight term + terms_weight terms

pub lighter_factor : (factors : List FactorValue) (i : ℕ) (factor : FactorValue) → i < length factors → factor ≡ get_or factors i factor
    → factor_weight (factor_value factor) < term_weight (term_value factors)
lighter_factor [] i factor lt e = absurd (omega arith)
lighter_factor (first ∷ factors) zero factor lt e = rw e (omega arith)
lighter_factor (first ∷ factors) (suc i) factor lt e = omega (arith, lighter_factor factors i factor (omega arith) e)

pub lighter_term : (terms : List (Vec FactorValue)) (i : ℕ) (term : Vec FactorValue) → i < length terms → term ≡ get_or terms i term
    → term_weight (term_value term.items) < terms_weight (terms_value terms)
lighter_term [] i term lt e = absurd (omega arith)
lighter_term (first ∷ terms) zero term lt e = rw e (omega arith)
lighter_term (first ∷ terms) (suc i) term lt e = omega (arith, lighter_term terms i term (omega arith) e)

-- ---- one part more

module _ (P : Class → Type 0) where
  factors_push : (factors : List FactorValue) (last : FactorValue)
      → AllInTerm P (term_value (factors ++ last ∷ [])) ↔ (AllInTerm P (term_value factors) × AllInFactor P (factor_value last))
  factors_push [] last = (λ h. (tt, h.0), λ h. (h.1, tt))
  factors_push (first ∷ factors) last =
      let rest = factors_push factors last in
      (λ h. let w = rest.0 h.1 in ((h.0, w.0), w.1), λ h. (h.0.0, rest.1 (h.0.1, h.1)))

  terms_push : (terms : List (Vec FactorValue)) (last : Vec FactorValue)
      → AllInTerms P (terms_value (terms ++ last ∷ [])) ↔ (AllInTerms P (terms_value terms) × AllInTerm P (term_value last.items))
  terms_push [] last = (λ h. (tt, h.0), λ h. (h.1, tt))
  terms_push (first ∷ terms) last =
      let rest = terms_push terms last in
      (λ h. let w = rest.0 h.1 in ((h.0, w.0), w.1), λ h. (h.0.0, rest.1 (h.0.1, h.1)))

  pub factors_more : (factors : List FactorValue) (i : ℕ) (own : FactorValue) → i < length factors → own ≡ get_or factors i own
      → AllInTerm P (term_value (take (i + 1) factors)) ↔ (AllInTerm P (term_value (take i factors)) × AllInFactor P (factor_value own))
  factors_more factors i own lt is =
      let more : take (i + 1) factors ≡ take i factors ++ own ∷ [] = take_more factors i own lt ∙ ap (λ (x : FactorValue). take i factors ++ x ∷ []) (sym is) in
      subst (λ (l : List FactorValue). AllInTerm P (term_value l) ↔ (AllInTerm P (term_value (take i factors)) × AllInFactor P (factor_value own))) (sym more)
      (factors_push (take i factors) own)

  pub terms_more : (terms : List (Vec FactorValue)) (i : ℕ) (own : Vec FactorValue) → i < length terms → own ≡ get_or terms i own
      → AllInTerms P (terms_value (take (i + 1) terms)) ↔ (AllInTerms P (terms_value (take i terms)) × AllInTerm P (term_value own.items))
  terms_more terms i own lt is =
      let more : take (i + 1) terms ≡ take i terms ++ own ∷ [] = take_more terms i own lt ∙ ap (λ (x : Vec FactorValue). take i terms ++ x ∷ []) (sym is) in
      subst (λ (l : List (Vec FactorValue)). AllInTerms P (terms_value l) ↔ (AllInTerms P (terms_value (take i terms)) × AllInTerm P (term_value own.items))) (sym more)
      (terms_push (take i terms) own)

-- ---- one entry more

-- the columns of the first are divided by the classes of the source
pub record IsDividedBy (start divided : Alphabet) (source : List ℕ) : Type 0 where
  pub flat : Terms
  pub spelled : Spells source flat
  pub only : (other : Terms) → Spells source other → other ≡ flat
  pub classes : HasClasses divided (λ a b. SameColumn start a b × AllInTerms (HoldsAlike a b) flat)

pub classes_more : (start divided : Alphabet) (entries : List (List ℕ)) (source : List ℕ) → HasClasses start (AreAlike entries) → IsDividedBy start divided source
    → HasClasses divided (AreAlike (entries ++ source ∷ []))
classes_more start divided entries source before d a b p q =
    let first = before a b p q in
    let then = d.classes a b p q in (
      λ h. let w = then.0 h in All-append OneAlike entries (source ∷ []) (first.0 w.0) (All-from_recursion OneAlike (source ∷ []) (own w.1, tt)),
      λ alike. then.1 (first.1 (front alike), back alike d.flat d.spelled),
    )
  where
    OneAlike : List ℕ → Type 0
    OneAlike text = (flat : Terms) → Spells text flat → AllInTerms (HoldsAlike a b) flat

    own : AllInTerms (HoldsAlike a b) d.flat → OneAlike source
    own h other spells = subst (AllInTerms (HoldsAlike a b)) (sym (d.only other spells)) h

    front : All OneAlike (entries ++ source ∷ []) → All OneAlike entries
    front all = λ k e lt. subst OneAlike (get_or_append_left entries (source ∷ []) e k lt) (all k e (omega (arith, length-append entries (source ∷ []))))

    back : All OneAlike (entries ++ source ∷ []) → OneAlike source
    back all = subst OneAlike (get_or-append-add entries (source ∷ []) 0 []) (all (length entries + 0) [] (omega (arith, length-append entries (source ∷ []))))
