use Rattle.std.proofs.Common.{length}
use Rattle.pol_deriv.specs.Nodes.{IsRight, terms_of}
use Rattle.pol_deriv.proofs.Tables.{length-terms_of, Added, added_is}
use Rattle.pol_deriv.proofs.Sameness.{same_nodes, own_node}
use Rattle.pol_deriv.specs.contracts.node.NodePartialEq.TheImpl as impl
use Rattle.pol_deriv.proofs.table.Table.add.Goals as goal
use Rattle.pol_deriv.proofs.table.Table.add.Goals.{In_ok-number}

-- what the set became
added : (c : In_ok-number) → Added c.self.inside.nodes.keys c.args.node c.insert_full.new.self.keys c.in_ok-number.number
added c =
    let keys = c.self.inside.nodes.keys in
    let right : IsRight (terms_of keys) (length keys) c.args.node = rw (c.self.view_is, ← length-terms_of keys, c.self.view_is) c.requires in
    added_is (impl.eq-value).it same_nodes own_node keys c.args.node c.insert_full.new.self.keys c.in_ok-number.number c.self.invariant right c.in_ok-number.ensures.keys c.in_ok-number.ensures.stored

pub invariant_of-self-2 : goal.invariant_of-self-2
invariant_of-self-2 c = (added c).is

pub returns-clause-grows : goal.returns-clause-grows
returns-clause-grows c = rw (← c.self.view_is) (record { kept = (added c).keeps; distinct = (added c).is.distinct })

pub returns-clause-meant : goal.returns-clause-meant
returns-clause-meant c = rw (← c.self.view_is) (added c).meant
