-- The loops that make linear forms.
use Rattle.std.proofs.Common.{◌≡◌, ◌<◌, ◌⊎◌, inl, inr, ℕ, Bool, true, false, ◌||◌, IsTrue, List, [], ◌∷◌, ◌++◌, length, cond, refl, sym, ap, subst, ◌∙◌, append_assoc, append-nil}
use Rattle.std.specs.Bool.{then_some}
use Rattle.std.specs.Option.{MatchOption}
use Rattle.std.proofs.lemmas.Bool.{false≢true}
use Rattle.pol_pattern.specs.Flat.{Class, class, group, star, Term, empty, put, Terms, none, alt, join_term}
use Rattle.pol_deriv.specs.Linear.{factor_holds_empty, term_holds_empty, terms_hold_empty, continuation, factor_linear, linear, terms_linear}
use Rattle.pol_deriv.specs.Table.{Means, Keeps, Grows}
use Rattle.pol_deriv.specs.Nodes.{term_at, begins_with_terms, kind_of, of_kind, first_factor, first_terms, rest_of, with_alternative, node_term, IsRight}
use Rattle.pol_deriv.specs.Forms.{IsForm, HasAdded}
use Rattle.pol_deriv.specs.declared.linear.Monomial.{Monomial}
use Rattle.pol_deriv.specs.declared.node.Kind.{Kind}
use Rattle.pol_deriv.specs.declared.node.Kind.TheVariants as kinds
use Rattle.pol_deriv.specs.declared.node.Node.{Node}
use Rattle.pol_deriv.specs.declared.node.Node.TheVariants as nodes
use Rattle.pol_deriv.proofs.Tables.{grows_on, term_means, at_means, means_one}

-- ---- forms

pub form_kept : (old new : List Term) → Keeps old new → (monomials : List Monomial) (pairs : List (Class × Term)) → IsForm old monomials pairs → IsForm new monomials pairs
form_kept old new keeps [] [] is = tt
form_kept old new keeps [] (pair ∷ pairs) is = is
form_kept old new keeps (m ∷ monomials) [] is = is
form_kept old new keeps (m ∷ monomials) (pair ∷ pairs) is = ((is.0.0, keeps m.next pair.1 is.0.1), form_kept old new keeps monomials pairs is.1)

pub form_append : (table : List Term) (first second : List Monomial) (front back : List (Class × Term)) → IsForm table first front → IsForm table second back → IsForm table (first ++ second) (front ++ back)
form_append table [] second [] back p q = q
form_append table [] second (pair ∷ front) back p q = absurd p
form_append table (m ∷ first) second [] back p q = absurd p
form_append table (m ∷ first) second (pair ∷ front) back p q = (p.0, form_append table first second front back p.1 q)

pub none_added : (table : List Term) (form : List Monomial) → HasAdded table form form []
none_added table form = ([], sym (append-nil form), tt)

pub added_more : (old new : List Term) → Keeps old new → (before form more : List Monomial) (front back : List (Class × Term)) → HasAdded old before form front → HasAdded new form more back → HasAdded new before more (front ++ back)
added_more old new keeps before form more front back p q = (
  p.0 ++ q.0,
  q.1 ∙ ap (λ (l : List Monomial). l ++ q.0) p.1 ∙ append_assoc before p.0 q.0,
  form_append new p.0 q.0 front back (form_kept old new keeps p.0 front p.2) q.2,
)

pub whole_form : (table : List Term) (form : List Monomial) (pairs : List (Class × Term)) → HasAdded table [] form pairs → IsForm table form pairs
whole_form table form pairs h = subst (λ (l : List Monomial). IsForm table l pairs) (sym h.1) h.2

-- ---- what a term begins with

pub begins_is : (term : Term) → IsTrue (begins_with_terms term) → term ≡ put (of_kind (kind_of term) (first_terms term)) (rest_of term)
begins_is empty h = absurd (false≢true h)
begins_is (put (class c) rest) h = absurd (false≢true h)
begins_is (put (group terms) rest) h = refl
begins_is (put (star terms) rest) h = refl

-- the linear form of the first factor is that of its terms
pub first_linear : (term after : Term) → IsTrue (begins_with_terms term) → factor_linear (first_factor term) after ≡ terms_linear (first_terms term) (continuation (first_factor term) after)
first_linear empty after h = absurd (false≢true h)
first_linear (put (class c) rest) after h = absurd (false≢true h)
first_linear (put (group terms) rest) after h = refl
first_linear (put (star terms) rest) after h = refl

abbrev pub is_star : Kind → Bool
is_star kinds.Group = false
is_star kinds.Star = true

pub no_star : (kind : Kind) → (kind ≡ kinds.Star → ⊥) → is_star kind ≡ false
no_star kinds.Group not = refl
no_star kinds.Star not = absurd (not refl)

pub first_mark : (term : Term) → IsTrue (begins_with_terms term) → (is_star (kind_of term) || terms_hold_empty (first_terms term)) ≡ factor_holds_empty (first_factor term)
first_mark empty h = absurd (false≢true h)
first_mark (put (class c) rest) h = absurd (false≢true h)
first_mark (put (group terms) rest) h = refl
first_mark (put (star terms) rest) h = refl

pub linear_begins : (term after : Term) → IsTrue (begins_with_terms term)
    → linear term after ≡ factor_linear (first_factor term) (join_term (rest_of term) after) ++ cond (factor_holds_empty (first_factor term)) (linear (rest_of term) after) []
linear_begins empty after h = absurd (false≢true h)
linear_begins (put (class c) rest) after h = absurd (false≢true h)
linear_begins (put (group terms) rest) after h = refl
linear_begins (put (star terms) rest) after h = refl

-- ---- the terms that are left, by the node

alternative_left : (kind : Kind) (left : Terms) (first other rest : Term) → IsTrue (begins_with_terms other) → with_alternative first other ≡ put (of_kind kind left) rest
    → (fewer : Terms) × (left ≡ alt first fewer) × (other ≡ put (of_kind kind fewer) rest)
alternative_left kind left first empty rest h e = absurd (false≢true h)
alternative_left kind left first (put (class c) other) rest h e = absurd (false≢true h)
alternative_left kinds.Group left first (put (group terms) other) rest h e = (terms, cc, cc)
alternative_left kinds.Group left first (put (star terms) other) rest h e = absurd cc
alternative_left kinds.Star left first (put (group terms) other) rest h e = absurd cc
alternative_left kinds.Star left first (put (star terms) other) rest h e = (terms, cc, cc)

none_left_at : (kind : Kind) (left : Terms) (rest : Term) (table : List Term) (node : Node) → ((first r : ℕ) (mark : Bool) → node ≡ nodes.Alternative first r mark → ⊥)
    → node_term table node ≡ put (of_kind kind left) rest → left ≡ none
none_left_at kinds.Group left rest table nodes.Empty not e = absurd cc
none_left_at kinds.Star left rest table nodes.Empty not e = absurd cc
none_left_at kinds.Group left rest table (nodes.Class c r) not e = absurd cc
none_left_at kinds.Star left rest table (nodes.Class c r) not e = absurd cc
none_left_at kinds.Group left rest table (nodes.Group r) not e = cc
none_left_at kinds.Star left rest table (nodes.Group r) not e = absurd cc
none_left_at kinds.Group left rest table (nodes.Star r mark) not e = absurd cc
none_left_at kinds.Star left rest table (nodes.Star r mark) not e = cc
none_left_at kinds.Group left rest table (nodes.Alternative first r mark) not e = absurd (not first r mark refl)
none_left_at kinds.Star left rest table (nodes.Alternative first r mark) not e = absurd (not first r mark refl)

-- ---- the terms of a group or a star, so far

pub record TermsSoFar (old new : List Term) (whole after : Term) (at next : ℕ) (mark : Bool) (before form : List Monomial) : Type 0 where
  pub grows : Grows old new
  pub goes_on : Means new next after
  pub left : Terms
  pub here : Means new at (put (of_kind (kind_of whole) left) (rest_of whole))
  pub done : List (Class × Term)
  pub made : HasAdded new before form done
  pub pairs : done ++ terms_linear left after ≡ terms_linear (first_terms whole) after
  pub marked : (mark || terms_hold_empty left) ≡ factor_holds_empty (first_factor whole)

pub terms_first : (old new : List Term) (term next : ℕ) (after : Term) (mark : Bool) (form : List Monomial) → Grows old new → Means old term (term_at old term) → IsTrue (begins_with_terms (term_at old term))
    → Means new next after → mark ≡ is_star (kind_of (term_at old term)) → TermsSoFar old new (term_at old term) after term next mark form form
terms_first old new term next after mark form grows means begins at_next is_mark = record {
  grows = grows;
  goes_on = at_next;
  left = first_terms (term_at old term);
  here = grows.kept term _ (subst (Means old term) (begins_is (term_at old term) begins) means);
  done = [];
  made = none_added new form;
  pairs = refl;
  marked = ap (λ (b : Bool). b || terms_hold_empty (first_terms (term_at old term))) is_mark ∙ first_mark (term_at old term) begins;
}

module _ (old new : List Term) (whole after : Term) (at next : ℕ) (mark : Bool) (before form : List Monomial) (so_far : TermsSoFar old new whole after at next mark before form) where
  -- one term more
  pub terms_more : (first rest : ℕ) (own : Bool) (newer : List Term) (more : List Monomial) → IsTrue (begins_with_terms (term_at new rest))
      → Means new rest (term_at new rest) → Means new at (with_alternative (term_at new first) (term_at new rest)) → Grows new newer
      → HasAdded newer form more (linear (term_at new first) (term_at new next)) → own ≡ term_holds_empty (term_at new first)
      → TermsSoFar old newer whole after rest next (mark || own) before more
  terms_more first rest own newer more begins at_rest at_whole grows is_begun is_own =
      let kind = kind_of whole in
      let w = alternative_left kind so_far.left (term_at new first) (term_at new rest) (rest_of whole) begins
      (means_one new at (with_alternative (term_at new first) (term_at new rest)) (put (of_kind kind so_far.left) (rest_of whole)) at_whole so_far.here) in
      let same_next = term_means new next after so_far.goes_on in
      let own_pairs = linear (term_at new first) after in
      record {
        grows = grows_on so_far.grows grows;
        goes_on = grows.kept next after so_far.goes_on;
        left = w.0;
        here = grows.kept rest _ (subst (Means new rest) w.2 at_rest);
        done = so_far.done ++ own_pairs;
        made = added_more new newer grows.kept before form more so_far.done own_pairs so_far.made
            (subst (λ (b : Term). HasAdded newer form more (linear (term_at new first) b)) same_next is_begun);
        pairs = append_assoc so_far.done own_pairs (terms_linear w.0 after)
            ∙ ap (λ (t : Terms). so_far.done ++ terms_linear t after) (sym w.1) ∙ so_far.pairs;
        marked = or_assoc mark own (terms_hold_empty w.0)
            ∙ ap (λ (b : Bool). mark || (b || terms_hold_empty w.0)) is_own
            ∙ ap (λ (t : Terms). mark || terms_hold_empty t) (sym w.1) ∙ so_far.marked;
      }
    where
      or_assoc : (a b c : Bool) → ((a || b) || c) ≡ (a || (b || c))
      or_assoc true b c = refl
      or_assoc false b c = refl

  -- at the end
  none_left : (node : Node) → ((first r : ℕ) (m : Bool) → node ≡ nodes.Alternative first r m → ⊥) → Means new at (node_term new node) → so_far.left ≡ none
  none_left node not at_node =
      none_left_at (kind_of whole) so_far.left (rest_of whole) new node not (means_one new at (node_term new node) (put (of_kind (kind_of whole) so_far.left) (rest_of whole)) at_node so_far.here)

  pub terms_end : (node : Node) → ((first r : ℕ) (m : Bool) → node ≡ nodes.Alternative first r m → ⊥) → Means new at (node_term new node) → HasAdded new before form (terms_linear (first_terms whole) after)
  terms_end node not at_node =
      let e = none_left node not at_node in
      subst (HasAdded new before form) (sym (append-nil so_far.done) ∙ ap (λ (t : Terms). so_far.done ++ terms_linear t after) (sym e) ∙ so_far.pairs) so_far.made

  pub mark_end : (node : Node) → ((first r : ℕ) (m : Bool) → node ≡ nodes.Alternative first r m → ⊥) → Means new at (node_term new node) → mark ≡ factor_holds_empty (first_factor whole)
  mark_end node not at_node =
      let e = none_left node not at_node in
      or_false mark ∙ ap (λ (t : Terms). mark || terms_hold_empty t) (sym e) ∙ so_far.marked
    where
      or_false : (b : Bool) → b ≡ (b || false)
      or_false true = refl
      or_false false = refl

-- ---- the factors of a term, so far

pub record FactorsSoFar (old new : List Term) (whole after : Term) (at : ℕ) (before form : List Monomial) : Type 0 where
  pub keeps : Keeps old new
  pub left : Term
  pub here : Means new at left
  pub done : List (Class × Term)
  pub made : HasAdded new before form done
  pub pairs : done ++ linear left after ≡ linear whole after

-- what follows the whole still has its number
pub after_same : (old new : List Term) → Keeps old new → (number : ℕ) → number < length old → term_at new number ≡ term_at old number
after_same old new keeps number lt = term_means new number (term_at old number) (keeps number (term_at old number) (at_means old number lt))

module _ (old new : List Term) (whole after : Term) (at : ℕ) (before form : List Monomial) (so_far : FactorsSoFar old new whole after at before form) where
  left_is : (term : Term) → Means new at term → so_far.left ≡ term
  left_is term means = means_one new at so_far.left term so_far.here means

  -- a class is left, and what follows it
  pub class_end : (c : Class) (rest : Term) (newer : List Term) (next : ℕ) (more : List Monomial) → Means new at (put (class c) rest) → Keeps new newer → Means newer next (join_term rest after)
      → more ≡ form ++ record { class = c; next = next } ∷ [] → HasAdded newer before more (linear whole after)
  class_end c rest newer next more means keeps at_next is_more =
      subst (HasAdded newer before more) (ap (λ (t : Term). so_far.done ++ linear t after) (sym (left_is (put (class c) rest) means)) ∙ so_far.pairs)
      (added_more new newer keeps before form more so_far.done ((c, join_term rest after) ∷ []) so_far.made (record { class = c; next = next } ∷ [], is_more, ((refl, at_next), tt)))

  module _ (newer : List Term) (more : List Monomial) (means : Means new at (term_at new at)) (begins : IsTrue (begins_with_terms (term_at new at))) (keeps : Keeps new newer)
      (is_begun : HasAdded newer form more (factor_linear (first_factor (term_at new at)) (join_term (rest_of (term_at new at)) after))) where
    first_pairs : List (Class × Term)
    first_pairs = factor_linear (first_factor (term_at new at)) (join_term (rest_of (term_at new at)) after)

    both : HasAdded newer before more (so_far.done ++ first_pairs)
    unfolding first_pairs
    both = added_more new newer keeps before form more so_far.done first_pairs so_far.made is_begun

    whole_pairs : (so_far.done ++ first_pairs) ++ cond (factor_holds_empty (first_factor (term_at new at))) (linear (rest_of (term_at new at)) after) [] ≡ linear whole after
    unfolding first_pairs
    whole_pairs =
        append_assoc so_far.done first_pairs (cond (factor_holds_empty (first_factor (term_at new at))) (linear (rest_of (term_at new at)) after) [])
        ∙ ap (λ (l : List (Class × Term)). so_far.done ++ l) (sym (linear_begins (term_at new at) after begins))
        ∙ ap (λ (t : Term). so_far.done ++ linear t after) (sym (left_is (term_at new at) means)) ∙ so_far.pairs

    -- a group or a star that holds the empty text, and then the rest
    pub factors_more : (rest : ℕ) → factor_holds_empty (first_factor (term_at new at)) ≡ true → Means newer rest (rest_of (term_at new at)) → FactorsSoFar old newer whole after rest before more
    factors_more rest holds at_rest = record {
      keeps = λ number t m. keeps number t (so_far.keeps number t m);
      left = rest_of (term_at new at);
      here = at_rest;
      done = so_far.done ++ first_pairs;
      made = both;
      pairs = ap (λ (b : Bool). (so_far.done ++ first_pairs) ++ cond b (linear (rest_of (term_at new at)) after) []) (sym holds) ∙ whole_pairs;
    }

    -- a group that doesn't
    pub factors_end : factor_holds_empty (first_factor (term_at new at)) ≡ false → HasAdded newer before more (linear whole after)
    factors_end holds =
        subst (HasAdded newer before more)
        (sym (append-nil (so_far.done ++ first_pairs)) ∙ ap (λ (b : Bool). (so_far.done ++ first_pairs) ++ cond b (linear (rest_of (term_at new at)) after) []) (sym holds) ∙ whole_pairs) both

-- ---- what the nodes say

-- the node of a group, of a star, or of one more term in either
abbrev pub HasTerms : Node → Type 0
HasTerms node =
    ((rest : ℕ) × (node ≡ nodes.Group rest)) ⊎ (((rest : ℕ) × (mark : Bool) × (node ≡ nodes.Star rest mark))
    ⊎ ((first : ℕ) × (rest : ℕ) × (mark : Bool) × (node ≡ nodes.Alternative first rest mark)))

alternative_begins : (first rest : Term) → IsTrue (begins_with_terms rest) → IsTrue (begins_with_terms (with_alternative first rest))
alternative_begins first empty h = absurd (false≢true h)
alternative_begins first (put (class c) rest) h = absurd (false≢true h)
alternative_begins first (put (group terms) rest) h = refl
alternative_begins first (put (star terms) rest) h = refl

node_begins : (table : List Term) (at : ℕ) (node : Node) → HasTerms node → IsRight table at node → IsTrue (begins_with_terms (node_term table node))
node_begins table at nodes.Empty h right = elim h [ inl w ↦ absurd cc | inr v ↦ elim v [ inl w ↦ absurd cc | inr w ↦ absurd cc ] ]
node_begins table at (nodes.Class c rest) h right = elim h [ inl w ↦ absurd cc | inr v ↦ elim v [ inl w ↦ absurd cc | inr w ↦ absurd cc ] ]
node_begins table at (nodes.Group rest) h right = refl
node_begins table at (nodes.Star rest mark) h right = refl
node_begins table at (nodes.Alternative first rest mark) h right = alternative_begins (term_at table first) (term_at table rest) right.2

pub begins_at : (table : List Term) (at : ℕ) (node : Node) → HasTerms node → IsRight table at node → Means table at (node_term table node) → IsTrue (begins_with_terms (term_at table at))
begins_at table at node h right means =
    subst (λ (t : Term). IsTrue (begins_with_terms t)) (sym (term_means table at (node_term table node) means)) (node_begins table at node h right)

-- the rest, where the factor holds the empty text
pub rest_if : (holds : Bool) (rest term : ℕ) (table : List Term) (after : Term) → rest < term → Means table rest after
    → MatchOption (then_some holds rest) (holds ≡ false) (λ n. (holds ≡ true) × (n < term) × Means table n after)
rest_if true rest term table after lt means = (refl, lt, means)
rest_if false rest term table after lt means = refl
