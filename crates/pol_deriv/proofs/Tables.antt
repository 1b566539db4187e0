-- What one more node does to a table.
use Rattle.std.proofs.Common.{◌≡◌, ◌<◌, ◌≤◌, ◌+◌, ◌⊎◌, inl, inr, ℕ, zero, suc, Bool, true, false, IsTrue, List, [], ◌∷◌, ◌++◌, length, Option, Some, unwrap_or, refl, sym, ap, subst, ◌∙◌, arith, length-append, cond, ◌||◌}
use Rattle.std.specs.List.{slice_get, fold, list_any}
use Rattle.std.proofs.lemmas.Bool.{false≢true}
use Rattle.std.proofs.lemmas.Option.{slice_get_within}
use Rattle.std.proofs.lemmas.List.Sums.{fold_push}
use Rattle.pol_pattern.specs.Flat.{class, group, star, Term, empty, put, Terms, none, alt}
use Rattle.pol_deriv.specs.Linear.{term_holds_empty}
use Rattle.pol_deriv.specs.Table.{Means, IsDistinct, Keeps, Grows}
use Rattle.pol_deriv.specs.Nodes.{term_at, begins_with_terms, with_alternative, of_kind, node_term, terms_of, IsRight, IsTable}
use Rattle.pol_deriv.specs.declared.node.Kind.{Kind}
use Rattle.pol_deriv.specs.declared.node.Kind.TheVariants as kinds
use Rattle.pol_deriv.specs.declared.node.Node.{Node}
use Rattle.pol_deriv.specs.declared.node.Node.TheVariants as nodes

-- ---- places of lists

pub get-append : {A : Type 0} (front back : List A) (k : ℕ) (x : A) → slice_get front k ≡ Some x → slice_get (front ++ back) k ≡ Some x
get-append [] back k x e = absurd cc
get-append (y ∷ front) back zero x e = e
get-append (y ∷ front) back (suc k) x e = get-append front back k x e

pub get-last : {A : Type 0} (front : List A) (last : A) → slice_get (front ++ last ∷ []) (length front) ≡ Some last
get-last [] last = refl
get-last (y ∷ front) last = get-last front last

-- a place of one more is one of the others, or the last
pub get_cases : {A : Type 0} (front : List A) (last : A) (k : ℕ) (x : A) → slice_get (front ++ last ∷ []) k ≡ Some x → (slice_get front k ≡ Some x) ⊎ ((k ≡ length front) × (x ≡ last))
get_cases [] last zero x e = inr (refl, cc)
get_cases [] last (suc k) x e = absurd cc
get_cases (y ∷ front) last zero x e = inl e
get_cases (y ∷ front) last (suc k) x e =
    elim (get_cases front last k x e) [ inl p ↦ inl p | inr q ↦ inr (ap suc q.0, q.1) ]

pub get_some : {A : Type 0} (list : List A) (k : ℕ) → k < length list → (x : A) × (slice_get list k ≡ Some x)
get_some [] k lt = absurd (omega arith)
get_some (y ∷ list) zero lt = (y, refl)
get_some (y ∷ list) (suc k) lt = get_some list k (omega arith)

-- ---- terms under numbers

pub term_means : (table : List Term) (number : ℕ) (term : Term) → Means table number term → term_at table number ≡ term
term_means table number term e = ap (λ (o : Option Term). unwrap_or o empty) e

pub at_means : (table : List Term) (number : ℕ) → number < length table → Means table number (term_at table number)
at_means table number lt =
    let w = get_some table number lt in
    w.1 ∙ ap (λ (t : Term). Some t) (sym (term_means table number w.0 w.1))

pub means_one : (table : List Term) (number : ℕ) (a b : Term) → Means table number a → Means table number b → a ≡ b
means_one table number a b p q = sym (term_means table number a p) ∙ term_means table number b q

-- ---- one more node

pub terms_of-push : (list : List Node) (node : Node) → terms_of (list ++ node ∷ []) ≡ terms_of list ++ node_term (terms_of list) node ∷ []
terms_of-push list node = fold_push (λ (table : List Term) (n : Node). table ++ node_term table n ∷ []) [] list node

length_from : (table : List Term) (list : List Node) → length (fold (λ (table : List Term) (n : Node). table ++ node_term table n ∷ []) table list) ≡ length table + length list
length_from table [] = omega arith
length_from table (node ∷ list) =
    omega (arith, length_from (table ++ node_term table node ∷ []) list, length-append table (node_term table node ∷ []))

pub length-terms_of : (list : List Node) → length (terms_of list) ≡ length list
length-terms_of list = omega (arith, length_from [] list)

module _ (table more : List Term) where
  pub term_at-kept : (number : ℕ) → number < length table → term_at (table ++ more) number ≡ term_at table number
  term_at-kept number lt = term_means (table ++ more) number (term_at table number) (get-append table more number (term_at table number) (at_means table number lt))

  pub node_term-kept : (number : ℕ) (node : Node) → number ≤ length table → IsRight table number node → node_term (table ++ more) node ≡ node_term table node
  node_term-kept number nodes.Empty le right = refl
  node_term-kept number (nodes.Class c rest) le right = ap (put (class c)) (term_at-kept rest (omega arith))
  node_term-kept number (nodes.Group rest) le right = ap (put (group none)) (term_at-kept rest (omega arith))
  node_term-kept number (nodes.Star rest mark) le right = ap (put (star none)) (term_at-kept rest (omega arith))
  node_term-kept number (nodes.Alternative first rest mark) le right =
      ap (λ (t : Term). with_alternative t (term_at (table ++ more) rest)) (term_at-kept first (omega arith))
      ∙ ap (with_alternative (term_at table first)) (term_at-kept rest (omega arith))

  pub right-kept : (number : ℕ) (node : Node) → number ≤ length table → IsRight table number node → IsRight (table ++ more) number node
  right-kept number nodes.Empty le right = tt
  right-kept number (nodes.Class c rest) le right = right
  right-kept number (nodes.Group rest) le right = right
  right-kept number (nodes.Star rest mark) le right =
      (right.0, right.1 ∙ ap term_holds_empty (sym (term_at-kept rest (omega arith))))
  right-kept number (nodes.Alternative first rest mark) le right = (
    right.0,
    right.1,
    subst (λ (t : Term). IsTrue (begins_with_terms t)) (sym (term_at-kept rest (omega arith))) right.2,
    right.3 ∙ ap term_holds_empty (sym (node_term-kept number (nodes.Alternative first rest mark) le right)),
  )

-- ---- different nodes represent different terms

-- what a term says of its node
data Front : Type 0 where
  nothing : Front
  one_class : List Bool → Term → Front
  no_group : Term → Front
  no_star : Term → Front
  one_more : Term → Term → Front

abbrev front_of : Term → Front
front_of empty = nothing
front_of (put (class c) rest) = one_class c rest
front_of (put (group none) rest) = no_group rest
front_of (put (group (alt first terms)) rest) = one_more first (put (group terms) rest)
front_of (put (star none) rest) = no_star rest
front_of (put (star (alt first terms)) rest) = one_more first (put (star terms) rest)

abbrev node_front : List Term → Node → Front
node_front table nodes.Empty = nothing
node_front table (nodes.Class c rest) = one_class c (term_at table rest)
node_front table (nodes.Group rest) = no_group (term_at table rest)
node_front table (nodes.Star rest mark) = no_star (term_at table rest)
node_front table (nodes.Alternative first rest mark) = one_more (term_at table first) (term_at table rest)

front_alternative : (first rest : Term) → IsTrue (begins_with_terms rest) → front_of (with_alternative first rest) ≡ one_more first rest
front_alternative first empty h = absurd (false≢true h)
front_alternative first (put (class c) rest) h = absurd (false≢true h)
front_alternative first (put (group terms) rest) h = refl
front_alternative first (put (star terms) rest) h = refl

node_front_is : (table : List Term) (number : ℕ) (node : Node) → IsRight table number node → front_of (node_term table node) ≡ node_front table node
node_front_is table number nodes.Empty right = refl
node_front_is table number (nodes.Class c rest) right = refl
node_front_is table number (nodes.Group rest) right = refl
node_front_is table number (nodes.Star rest mark) right = refl
node_front_is table number (nodes.Alternative first rest mark) right = front_alternative (term_at table first) (term_at table rest) right.2

module _ (table : List Term) (distinct : IsDistinct table) where
  same_number : (a b : ℕ) → a < length table → b < length table → term_at table a ≡ term_at table b → a ≡ b
  same_number a b p q e = distinct a b (term_at table a) (at_means table a p) (subst (Means table b) (sym e) (at_means table b q))

  same_fronts : (i j : ℕ) (m n : Node) → i ≤ length table → j ≤ length table → IsRight table i m → IsRight table j n → node_front table m ≡ node_front table n
      → node_term table m ≡ node_term table n → m ≡ n
  same_fronts i j nodes.Empty nodes.Empty p q a b e f = refl
  same_fronts i j (nodes.Class c r) (nodes.Class d s) p q a b e f =
      let rest : r ≡ s = same_number r s (omega arith) (omega arith) cc in
      cc
  same_fronts i j (nodes.Group r) (nodes.Group s) p q a b e f =
      let rest : r ≡ s = same_number r s (omega arith) (omega arith) cc in
      cc
  same_fronts i j (nodes.Star r h) (nodes.Star s k) p q a b e f =
      let rest : r ≡ s = same_number r s (omega arith) (omega arith) cc in
      let mark : h ≡ k = a.1 ∙ ap (λ (n : ℕ). term_holds_empty (term_at table n)) rest ∙ sym b.1 in
      cc
  same_fronts i j (nodes.Alternative x r h) (nodes.Alternative y s k) p q a b e f =
      let rest : r ≡ s = same_number r s (omega arith) (omega arith) cc in
      let first : x ≡ y = same_number x y (omega arith) (omega arith) cc in
      let mark : h ≡ k = a.3 ∙ ap term_holds_empty f ∙ sym b.3 in
      cc
  same_fronts i j m n p q a b e f = absurd cc

  -- two right nodes of one term are one
  pub same_nodes : (i j : ℕ) (m n : Node) → i ≤ length table → j ≤ length table → IsRight table i m → IsRight table j n → node_term table m ≡ node_term table n → m ≡ n
  same_nodes i j m n p q a b e =
      same_fronts i j m n p q a b (sym (node_front_is table i m a) ∙ ap front_of e ∙ node_front_is table j n b) e

-- ---- a table with one more node

-- the table, where one more node represents a term of its own
module _ (list : List Node) (node : Node) (is : IsTable list) (fits : IsRight (terms_of list) (length list) node) where
  own_term : Term
  own_term = node_term (terms_of list) node

  longer : List Term
  longer = terms_of list ++ own_term ∷ []

  longer_is : terms_of (list ++ node ∷ []) ≡ longer
  unfolding longer own_term
  longer_is = terms_of-push list node

  same_length : length (terms_of list) ≡ length list
  same_length = length-terms_of list

  own_kept : node_term longer node ≡ own_term
  unfolding longer own_term
  own_kept = node_term-kept (terms_of list) (own_term ∷ []) (length list) node (omega (arith, same_length)) fits

  push_right : (number : ℕ) (n : Node) → slice_get (list ++ node ∷ []) number ≡ Some n → IsRight longer number n
  unfolding longer own_term
  push_right number n at =
      elim (get_cases list node number n at) [
        | inl p ↦
            let lt = slice_get_within list number n p in
            right-kept (terms_of list) (own_term ∷ []) number n (omega (arith, lt, same_length)) (is.right number n p)
        | inr q ↦
            subst (λ (k : ℕ). IsRight longer k n) (sym q.0)
            (subst (IsRight longer (length list)) (sym q.1) (right-kept (terms_of list) (own_term ∷ []) (length list) node (omega (arith, same_length)) fits))
      ]

  push_meant : (number : ℕ) (n : Node) → slice_get (list ++ node ∷ []) number ≡ Some n → Means longer number (node_term longer n)
  unfolding longer own_term
  push_meant number n at =
      elim (get_cases list node number n at) [
        | inl p ↦
            let lt = slice_get_within list number n p in
            subst (Means longer number) (sym (node_term-kept (terms_of list) (own_term ∷ []) number n (omega (arith, lt, same_length)) (is.right number n p)))
            (get-append (terms_of list) (own_term ∷ []) number (node_term (terms_of list) n) (is.meant number n p))
        | inr q ↦
            subst (λ (k : ℕ). Means longer k (node_term longer n)) (sym (q.0 ∙ sym same_length))
            (subst (λ (m : Node). Means longer (length (terms_of list)) (node_term longer m)) (sym q.1)
            (subst (Means longer (length (terms_of list))) (sym own_kept) (get-last (terms_of list) own_term)))
      ]

  -- no other number means its term
  own_number : ((number : ℕ) → slice_get list number ≡ Some node → ⊥) → (number : ℕ) → Means (terms_of list) number own_term → ⊥
  unfolding own_term
  own_number new number means =
      let lt = slice_get_within (terms_of list) number own_term means in
      let w = get_some list number (omega (arith, lt, same_length)) in
      let same = same_nodes (terms_of list) is.distinct number (length list) w.0 node (omega (arith, lt)) (omega (arith, same_length)) (is.right number w.0 w.1) fits
      (means_one (terms_of list) number (node_term (terms_of list) w.0) own_term (is.meant number w.0 w.1) means) in
      new number (subst (λ (n : Node). slice_get list number ≡ Some n) same w.1)

  push_distinct : ((number : ℕ) → slice_get list number ≡ Some node → ⊥) → IsDistinct longer
  unfolding longer
  push_distinct new a b term p q =
      elim (get_cases (terms_of list) own_term a term p) [
        | inl x ↦
            elim (get_cases (terms_of list) own_term b term q) [
              | inl y ↦ is.distinct a b term x y
              | inr y ↦ absurd (own_number new a (subst (Means (terms_of list) a) y.1 x))
            ]
        | inr x ↦
            elim (get_cases (terms_of list) own_term b term q) [
              | inl y ↦ absurd (own_number new b (subst (Means (terms_of list) b) x.1 y))
              | inr y ↦ x.0 ∙ sym y.0
            ]
      ]

  pub push_is : ((number : ℕ) → slice_get list number ≡ Some node → ⊥) → IsTable (list ++ node ∷ [])
  push_is new = record {
    right = λ number n at. subst (λ (t : List Term). IsRight t number n) (sym longer_is) (push_right number n at);
    meant = λ number n at. subst (λ (t : List Term). Means t number (node_term t n)) (sym longer_is) (push_meant number n at);
    distinct = subst IsDistinct (sym longer_is) (push_distinct new);
  }

  pub push_keeps : Keeps (terms_of list) (terms_of (list ++ node ∷ []))
  push_keeps number term means = subst (λ (t : List Term). Means t number term) (sym (terms_of-push list node)) (get-append (terms_of list) (node_term (terms_of list) node ∷ []) number term means)

  -- what represented the node's term still does
  pub push_own : node_term (terms_of (list ++ node ∷ [])) node ≡ node_term (terms_of list) node
  unfolding longer own_term
  push_own = subst (λ (t : List Term). node_term t node ≡ node_term (terms_of list) node) (sym longer_is) own_kept

-- ---- the keys of a set that a node was put into

abbrev pub Found : List Node → ℕ → (Node → Node → Bool) → Node → Type 0
Found list number eq node = (k : Node) × (slice_get list number ≡ Some k) × (eq node k ≡ true)

pub record Added (list : List Node) (node : Node) (new : List Node) (number : ℕ) : Type 0 where
  pub is : IsTable new
  pub keeps : Keeps (terms_of list) (terms_of new)
  pub meant : Means (terms_of new) number (node_term (terms_of list) node)

none_from_any : (eq : Node → Node → Bool) → ((n : Node) → eq n n ≡ true) → (list : List Node) (node : Node) → list_any (eq node) list ≡ false → (number : ℕ) → slice_get list number ≡ Some node → ⊥
none_from_any eq same [] node e number at = absurd cc
none_from_any eq same (x ∷ list) node e zero at =
    let own : x ≡ node = cc in
    let passes : eq node x ≡ true = subst (λ (n : Node). eq node n ≡ true) (sym own) (same node) in
    absurd (by (eq node x) (list_any (eq node) list) passes e)
  where
    by : (a b : Bool) → a ≡ true → (a || b) ≡ false → ⊥
    by true b p q = cc
    by false b p q = cc
none_from_any eq same (x ∷ list) node e (suc number) at = none_from_any eq same list node (by (eq node x) (list_any (eq node) list) e) number at
  where
    by : (a b : Bool) → (a || b) ≡ false → b ≡ false
    by true b q = absurd cc
    by false b q = q

pub added_is : (eq : Node → Node → Bool) → ((m n : Node) → eq m n ≡ true → m ≡ n) → ((n : Node) → eq n n ≡ true) → (list : List Node) (node : Node) (new : List Node) (number : ℕ)
    → IsTable list → IsRight (terms_of list) (length list) node → new ≡ cond (list_any (eq node) list) list (list ++ node ∷ []) → Found new number eq node → Added list node new number
added_is eq one same list node new number is fits is_new found = by (list_any (eq node) list) refl is_new
  where
    by : (b : Bool) → list_any (eq node) list ≡ b → new ≡ cond b list (list ++ node ∷ []) → Added list node new number
    by true any e =
        let there : slice_get list number ≡ Some node = subst (λ (l : List Node). slice_get l number ≡ Some node) e (found.1 ∙ ap (λ (n : Node). Some n) (sym (one node found.0 found.2))) in
        subst (λ (l : List Node). Added list node l number) (sym e) (record { is = is; keeps = λ k term means. means; meant = is.meant number node there })
    by false any e =
        let there : slice_get (list ++ node ∷ []) number ≡ Some node =
        subst (λ (l : List Node). slice_get l number ≡ Some node) e (found.1 ∙ ap (λ (n : Node). Some n) (sym (one node found.0 found.2))) in
        let absent = none_from_any eq same list node any in
        let grown = push_is list node is fits absent in
        subst (λ (l : List Node). Added list node l number) (sym e)
        (record {
          is = grown;
          keeps = push_keeps list node is fits;
          meant = subst (Means (terms_of (list ++ node ∷ [])) number) (push_own list node is fits) (grown.meant number node there);
        })

-- ---- what grew and grew again

pub grows_on : {a b c : List Term} → Grows a b → Grows b c → Grows a c
grows_on first second = record { kept = λ number term means. second.kept number term (first.kept number term means); distinct = second.distinct }

pub means_within : (table : List Term) (number : ℕ) (term : Term) → Means table number term → number < length table
means_within table number term means = slice_get_within table number term means

-- a term under a number of a table that grew
pub still_at : {old new : List Term} → Grows old new → (number : ℕ) → number < length old → term_at new number ≡ term_at old number
still_at {old} {new} grows number lt = term_means new number (term_at old number) (grows.kept number (term_at old number) (at_means old number lt))

pub with_alternative_of : (kind : Kind) (first : Term) (terms : Terms) (rest : Term) → with_alternative first (put (of_kind kind terms) rest) ≡ put (of_kind kind (alt first terms)) rest
with_alternative_of kinds.Group first terms rest = refl
with_alternative_of kinds.Star first terms rest = refl

pub begins_of : (kind : Kind) (terms : Terms) (rest : Term) → IsTrue (begins_with_terms (put (of_kind kind terms) rest))
begins_of kinds.Group terms rest = refl
begins_of kinds.Star terms rest = refl

pub alternative_means : (kind : Kind) (table new : List Term) (first rest number : ℕ) (term : Term) (terms : Terms) (after : Term) → Means table first term → Means table rest (put (of_kind kind terms) after)
    → Means new number (with_alternative (term_at table first) (term_at table rest)) → Means new number (put (of_kind kind (alt term terms)) after)
alternative_means kind table new first rest number term terms after p q own =
    let parts : with_alternative (term_at table first) (term_at table rest) ≡ put (of_kind kind (alt term terms)) after =
    ap (λ (t : Term). with_alternative t (term_at table rest)) (term_means table first term p)
    ∙ ap (with_alternative term) (term_means table rest (put (of_kind kind terms) after) q)
    ∙ with_alternative_of kind term terms after in
    subst (Means new number) parts own
