use Rattle.std.proofs.Common.{ap, sym, ◌∙◌}
use Rattle.pol_deriv.specs.Linear.{term_holds_empty}
use Rattle.pol_deriv.specs.Nodes.{node_term}
use Rattle.pol_deriv.proofs.Tables.{term_means}
use Rattle.pol_deriv.proofs.table.Table.holds_empty.Goals as goal

pub returns : goal.returns
returns c =
    let table = c.args.self.now in
    c.holds_empty.ensures table c.args.number c.node.ensures.right
    ∙ ap term_holds_empty (sym (term_means table c.args.number (node_term table c.node.result) c.node.ensures.meant))
