-- A term holds a symbol followed by a text exactly if one of its derivatives by the symbol holds
-- the text.
use Rattle.std.proofs.Common.{◌≡◌, ℕ, IsTrue, List, [], ◌∷◌, ◌++◌, refl, sym, ap, subst, ◌∙◌, inl, inr, append_assoc, append-nil}
use Rattle.std.specs.List.{AllByRecursion, concat}
use Rattle.pol_pattern.specs.Flat.{holds_symbol, class, group, star, Term, empty, put, Terms, none, alt, join_term}
use Rattle.pol_pattern.specs.Sets.{InFactor, InTerm, InTerms}
use Rattle.pol_residual.specs.Derivative.{IsAmong, Derivative, of_class, of_group, of_star, after_star, DerivativeLaw}

-- ---- terms one after another

pub join-empty : (term : Term) → join_term term empty ≡ term
join-empty empty = refl
join-empty (put factor term) = ap (put factor) (join-empty term)

pub join_assoc : (a b c : Term) → join_term (join_term a b) c ≡ join_term a (join_term b c)
join_assoc empty b c = refl
join_assoc (put factor a) b c = ap (put factor) (join_assoc a b c)

pub joined_holds : (a b : Term) (front back : List ℕ) → InTerm a front → InTerm b back → InTerm (join_term a b) (front ++ back)
joined_holds empty b front back p q = subst (λ (f : List ℕ). InTerm b (f ++ back)) (sym p) q
joined_holds (put factor a) b front back (x, y, whole, p, r) q =
    (x, y ++ back, ap (λ (f : List ℕ). f ++ back) whole ∙ append_assoc x y back, p, joined_holds a b y back r q)

pub record Splits (a b : Term) (text : List ℕ) : Type 0 where
  pub front : List ℕ
  pub back : List ℕ
  pub whole : text ≡ front ++ back
  pub first : InTerm a front
  pub second : InTerm b back

pub joined_splits : (a b : Term) (text : List ℕ) → InTerm (join_term a b) text → Splits a b text
joined_splits empty b text h = record { front = []; back = text; whole = refl; first = refl; second = h }
joined_splits (put factor a) b text (x, y, whole, p, h) =
    let s = joined_splits a b y h in
    record {
      front = x ++ s.front;
      back = s.back;
      whole = whole ∙ ap (λ (t : List ℕ). x ++ t) s.whole ∙ sym (append_assoc x s.front s.back);
      first = (x, s.front, refl, p, s.first);
      second = s.second;
    }

-- ---- one of some terms

pub among_holds : (terms : Terms) (term : Term) (text : List ℕ) → IsAmong terms term → InTerm term text → InTerms terms text
among_holds none term text among held = absurd among
among_holds (alt first others) term text (inl same) held = inl (subst (λ (t : Term). InTerm t text) same held)
among_holds (alt first others) term text (inr among) held = inr (among_holds others term text among held)

pub holds_among : (terms : Terms) (text : List ℕ) → InTerms terms text → (term : Term) × IsAmong terms term × InTerm term text
holds_among none text held = absurd held
holds_among (alt first others) text (inl held) = (first, inl refl, held)
holds_among (alt first others) text (inr held) =
    let w = holds_among others text held in
    (w.0, inr w.1, w.2)

module _ (symbol : ℕ) where
  -- ---- what a derivative holds

  derivative_star : (terms : Terms) (alternative rest next : Term) (text : List ℕ) → IsAmong terms alternative
      → ((front : List ℕ) → InTerm next front → InTerm alternative (symbol ∷ front))
      → InTerm (join_term next (put (star terms) rest)) text → InTerm (put (star terms) rest) (symbol ∷ text)
  derivative_star terms alternative rest next text among inner held =
      let s = joined_splits next (put (star terms) rest) text held in
      let front = s.second.0 in
      let parts = s.second.3.0 in (
        symbol ∷ (s.front ++ front),
        s.second.1,
        ap (λ (t : List ℕ). symbol ∷ t) (s.whole ∙ ap (λ (t : List ℕ). s.front ++ t) s.second.2 ∙ sym (append_assoc s.front front s.second.1)),
        (
          (symbol ∷ s.front) ∷ parts,
          (among_holds terms alternative (symbol ∷ s.front) among (inner s.front s.first), s.second.3.1),
          ap (λ (t : List ℕ). symbol ∷ (s.front ++ t)) s.second.3.2,
        ),
        s.second.4,
      )

  pub derivative_holds : {term next : Term} (text : List ℕ) → Derivative symbol term next → InTerm next text → InTerm term (symbol ∷ text)
  derivative_holds text (of_class h) held = (symbol ∷ [], text, refl, (symbol, refl, h), held)
  derivative_holds text (of_group {terms} {rest} alternative among d) held =
      let s = joined_splits alternative rest (symbol ∷ text) (derivative_holds text d held) in
      (s.front, s.back, s.whole, among_holds terms alternative s.front among s.first, s.second)
  derivative_holds text (of_star {terms} {alternative} {rest} {next} among d) held =
      derivative_star terms alternative rest next text among (λ front h. derivative_holds front d h) held
  derivative_holds text (after_star d) held = ([], symbol ∷ text, refl, ([], tt, refl), derivative_holds text d held)

  -- ---- a derivative for each text

  pub record Goes (term : Term) (text : List ℕ) : Type 0 where
    pub next : Term
    pub derivative : Derivative symbol term next
    pub held : InTerm next text

  class_goes : (c : _) (rest : Term) (text front back : List ℕ) → symbol ∷ text ≡ front ++ back → InFactor (class c) front → InTerm rest back → Goes (put (class c) rest) text
  class_goes c rest text front back whole (byte, one, h) held =
      let both : symbol ∷ text ≡ byte ∷ back = whole ∙ ap (λ (f : List ℕ). f ++ back) one in
      let same : byte ≡ symbol = cc in
      let tail : back ≡ text = cc in
      record { next = rest; derivative = of_class (subst (λ (n : ℕ). IsTrue (holds_symbol c n)) same h); held = subst (InTerm rest) tail held }

  -- a text of a star begins with a text of one of its terms, or what follows the star has all of it
  star_goes : (terms : Terms) (rest : Term) (text : List ℕ)
      → ((front : List ℕ) → InTerms terms (symbol ∷ front) → (alternative : Term) × IsAmong terms alternative × Goes alternative front)
      → (InTerm rest (symbol ∷ text) → Goes rest text)
      → (parts : List (List ℕ)) (back : List ℕ) → AllByRecursion (InTerms terms) parts → symbol ∷ text ≡ concat parts ++ back → InTerm rest back → Goes (put (star terms) rest) text
  star_goes terms rest text inner after [] back all whole held =
      let g = after (subst (InTerm rest) (sym whole) held) in
      record { next = g.next; derivative = after_star g.derivative; held = g.held }
  star_goes terms rest text inner after ([] ∷ parts) back all whole held = star_goes terms rest text inner after parts back all.1 whole held
  star_goes terms rest text inner after ((byte ∷ part) ∷ parts) back all whole held =
      let same : byte ≡ symbol = cc in
      let tail : text ≡ (part ++ concat parts) ++ back = cc in
      let w = inner part (subst (λ (n : ℕ). InTerms terms (n ∷ part)) same all.0) in
      let star_text : InTerm (put (star terms) rest) (concat parts ++ back) = (concat parts, back, refl, (parts, all.1, refl), held) in
      record {
        next = join_term w.2.next (put (star terms) rest);
        derivative = of_star w.1 w.2.derivative;
        held = subst (InTerm (join_term w.2.next (put (star terms) rest))) (sym (tail ∙ append_assoc part (concat parts) back))
            (joined_holds w.2.next (put (star terms) rest) part (concat parts ++ back) w.2.held star_text);
      }

  nothing_goes : (text : List ℕ) → InTerm empty (symbol ∷ text) → Goes empty text
  nothing_goes text e = absurd cc

  alone : (terms : Terms) (text : List ℕ) → (alternative : Term) × IsAmong terms alternative × Goes (join_term alternative empty) text
      → (alternative : Term) × IsAmong terms alternative × Goes alternative text
  alone terms text w = (w.0, w.1, subst (λ (t : Term). Goes t text) (join-empty w.0) w.2)

  mutual
    term_goes : (term rest : Term) (text : List ℕ) → (InTerm rest (symbol ∷ text) → Goes rest text) → InTerm (join_term term rest) (symbol ∷ text) → Goes (join_term term rest) text
    term_goes empty rest text after held = after held
    term_goes (put (class c) term) rest text after (front, back, whole, h, held) = class_goes c (join_term term rest) text front back whole h held
    term_goes (put (group terms) term) rest text after (front, back, whole, h, held) =
        let w = terms_go terms (join_term term rest) text front back (λ k. term_goes term rest text after k) whole h held in
        record { next = w.2.next; derivative = of_group w.0 w.1 w.2.derivative; held = w.2.held }
    term_goes (put (star terms) term) rest text after (front, back, whole, h, held) =
        star_goes terms (join_term term rest) text
        (λ inner k. alone terms inner (terms_go terms empty inner (symbol ∷ inner) [] (nothing_goes inner) (sym (append-nil (symbol ∷ inner))) k refl))
        (λ k. term_goes term rest text after k)
        h.0 back h.1 (whole ∙ ap (λ (f : List ℕ). f ++ back) h.2) held

    terms_go : (terms : Terms) (rest : Term) (text front back : List ℕ) → (InTerm rest (symbol ∷ text) → Goes rest text) → symbol ∷ text ≡ front ++ back → InTerms terms front → InTerm rest back
        → (alternative : Term) × IsAmong terms alternative × Goes (join_term alternative rest) text
    terms_go none rest text front back after whole h held = absurd h
    terms_go (alt first others) rest text front back after whole (inl h) held =
        (first, inl refl, term_goes first rest text after (subst (InTerm (join_term first rest)) (sym whole) (joined_holds first rest front back h held)))
    terms_go (alt first others) rest text front back after whole (inr h) held =
        let w = terms_go others rest text front back after whole h held in
        (w.0, inr w.1, w.2)

  pub holds_goes : (term : Term) (text : List ℕ) → InTerm term (symbol ∷ text) → Goes term text
  holds_goes term text held =
      let whole = subst (λ (t : Term). InTerm t (symbol ∷ text)) (sym (join-empty term)) held in
      subst (λ (t : Term). Goes t text) (join-empty term) (term_goes term empty text (nothing_goes text) whole)

pub derivative_law : DerivativeLaw
derivative_law term symbol text = (
  λ held. let g = holds_goes symbol term text held in (g.next, g.derivative, g.held),
  λ w. derivative_holds symbol text w.1 w.2,
)
