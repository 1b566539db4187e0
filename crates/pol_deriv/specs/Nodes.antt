-- The terms that nodes represent, one node after another: the parts of a node stand before it.
use Rattle.std.specs.Prelude.{◌≡◌, ◌<◌, ℕ, Bool, true, false, IsTrue, List, [], ◌∷◌, ◌++◌, Some}
use Rattle.std.specs.Prelude.{slice_get, unwrap_or, fold}
use Rattle.pol_pattern.specs.Flat.{Factor, class, group, star, Term, empty, put, Terms, none, alt}
use Rattle.pol_deriv.specs.Linear.{term_holds_empty}
use Rattle.pol_deriv.specs.Classes.{IsWhole}
use Rattle.pol_deriv.specs.Table.{Means, IsDistinct}
use Rattle.pol_deriv.specs.declared.node.Kind.{Kind}
use Rattle.pol_deriv.specs.declared.node.Kind.TheVariants as kinds
use Rattle.pol_deriv.specs.declared.node.Node.{Node}
use Rattle.pol_deriv.specs.declared.node.Node.TheVariants as nodes

-- the term under a number
abbrev pub term_at : List Term → ℕ → Term
term_at table number = unwrap_or (slice_get table number) empty

-- whether a term begins with a group or a star
abbrev pub begins_with_terms : Term → Bool
begins_with_terms (put (group terms) rest) = true
begins_with_terms (put (star terms) rest) = true
begins_with_terms other = false

-- which of the two it is, its terms, and what follows it
abbrev pub kind_of : Term → Kind
kind_of (put (star terms) rest) = kinds.Star
kind_of other = kinds.Group

abbrev pub of_kind : Kind → Terms → Factor
of_kind kinds.Group terms = group terms
of_kind kinds.Star terms = star terms

abbrev pub first_factor : Term → Factor
first_factor empty = group none
first_factor (put factor rest) = factor

abbrev pub first_terms : Term → Terms
first_terms (put (group terms) rest) = terms
first_terms (put (star terms) rest) = terms
first_terms other = none

abbrev pub rest_of : Term → Term
rest_of empty = empty
rest_of (put factor rest) = rest

-- one more term, the first, in the group or the star that a term begins with
abbrev pub with_alternative : Term → Term → Term
with_alternative first (put (group terms) rest) = put (group (alt first terms)) rest
with_alternative first (put (star terms) rest) = put (star (alt first terms)) rest
with_alternative first other = other

-- a term without its first part (a class; a group or star of no terms; or the first
-- term of one that has some), and that part in front of another term
abbrev pub without_part : Term → Term
without_part empty = empty
without_part (put (class c) rest) = rest
without_part (put (group none) rest) = rest
without_part (put (group (alt first terms)) rest) = put (group terms) rest
without_part (put (star none) rest) = rest
without_part (put (star (alt first terms)) rest) = put (star terms) rest

abbrev pub part_before : Term → Term → Term
part_before empty other = other
part_before (put (class c) rest) other = put (class c) other
part_before (put (group none) rest) other = put (group none) other
part_before (put (group (alt first terms)) rest) other = with_alternative first other
part_before (put (star none) rest) other = put (star none) other
part_before (put (star (alt first terms)) rest) other = with_alternative first other

-- whether the first part is a term of a group or a star
abbrev pub is_alternative : Term → Bool
is_alternative (put (group (alt first terms)) rest) = true
is_alternative (put (star (alt first terms)) rest) = true
is_alternative other = false

abbrev pub node_term : List Term → Node → Term
node_term table nodes.Empty = empty
node_term table (nodes.Class c rest) = put (class c) (term_at table rest)
node_term table (nodes.Group rest) = put (group none) (term_at table rest)
node_term table (nodes.Star rest mark) = put (star none) (term_at table rest)
node_term table (nodes.Alternative first rest mark) =
    with_alternative (term_at table first) (term_at table rest)

-- the terms of nodes, in order
abbrev pub terms_of : List Node → List Term
terms_of list = fold (λ table node. table ++ node_term table node ∷ []) [] list

-- the node's parts are below its own number, its class is whole, and its mark says whether its
-- term holds the empty text
abbrev pub IsRight : List Term → ℕ → Node → Type 0
IsRight table number nodes.Empty = Unit {0}
IsRight table number (nodes.Class c rest) = (rest < number) × IsWhole c
IsRight table number (nodes.Group rest) = rest < number
IsRight table number (nodes.Star rest mark) =
    (rest < number) × (mark ≡ term_holds_empty (term_at table rest))
IsRight table number (nodes.Alternative first rest mark) =
    (rest < number) × (first < number) × IsTrue (begins_with_terms (term_at table rest))
    × (mark ≡ term_holds_empty (with_alternative (term_at table first) (term_at table rest)))

-- each node is right, and represents the term of its number; no two represent one term
pub record IsTable (list : List Node) : Type 0 where
  pub right : (number : ℕ) (node : Node) → slice_get list number ≡ Some node
      → IsRight (terms_of list) number node
  pub meant : (number : ℕ) (node : Node) → slice_get list number ≡ Some node
      → Means (terms_of list) number (node_term (terms_of list) node)
  pub distinct : IsDistinct (terms_of list)
