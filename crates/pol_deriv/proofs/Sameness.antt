-- What `==` says of two nodes.
use Rattle.std.proofs.Common.{◌≡◌, true, refl, rules, eqb}
use Rattle.std.proofs.lemmas.Bool.{and_parts, and_from, eqb-true, eq-eqb}
use Rattle.std.specs.Bool.{beq}
use Rattle.std.specs.Cmp.{booleans_Decides}
use Rattle.std.specs.Cmp.Lexicographic.{pointwise, pointwise_decides}
use Rattle.pol_deriv.specs.declared.node.Node.{Node}
use Rattle.pol_deriv.specs.declared.node.Node.TheVariants as nodes
use Rattle.pol_deriv.specs.contracts.node.NodePartialEq.TheImpl as impl

pub same_nodes : (m n : Node) → (impl.eq-value).it m n ≡ true → m ≡ n
same_nodes (nodes.Class c r) (nodes.Class d s) e =
    let p = and_parts (pointwise beq c d) (eqb r s) e in
    let classes : c ≡ d = (pointwise_decides booleans_Decides c d).0 p.0 in
    let rests : r ≡ s = eqb-true r s p.1 in
    cc
same_nodes m n e = search rules

pub own_node : (n : Node) → (impl.eq-value).it n n ≡ true
own_node (nodes.Class c r) =
    and_from (pointwise beq c c) (eqb r r) ((pointwise_decides booleans_Decides c c).1 refl) (eq-eqb r r refl)
own_node n = search rules
