use Rattle.std.proofs.Common.{◌≡◌, ◌<◌, Some, length, ap, refl, arith}
use Rattle.std.specs.List.{slice_get}
use Rattle.std.proofs.lemmas.Option.{slice_get_read}
use Rattle.pol_deriv.proofs.Tables.{length-terms_of}
use Rattle.pol_deriv.proofs.table.Table.node.Goals as goal
use Rattle.pol_deriv.proofs.table.Table.node.Goals.{After-as_slice, After-index-as_slice-number}

within : (c : After-as_slice) → c.args.number < length c.self.inside.nodes.keys
within c = omega (arith, length-terms_of c.self.inside.nodes.keys, ap length c.self.view_is, c.requires)

pub bounds-as_slice-number : goal.bounds-as_slice-number
bounds-as_slice-number c = omega (arith, within c, ap length c.as_slice.ensures.keys)

stored : (c : After-index-as_slice-number) → slice_get c.self.inside.nodes.keys c.args.number ≡ Some c.index-as_slice-number.result
stored c =
    let read = slice_get_read c.as_slice.result.now (length c.as_slice.result.now) c.args.number c.index-as_slice-number.result refl (bounds-as_slice-number c.before) c.index-as_slice-number.is in
    rw c.as_slice.ensures.keys at read

pub returns-clause-right : goal.returns-clause-right
returns-clause-right c = rw (← c.self.view_is) (c.self.invariant.right c.args.number c.index-as_slice-number.result (stored c))

pub returns-clause-meant : goal.returns-clause-meant
returns-clause-meant c = rw (← c.self.view_is) (c.self.invariant.meant c.args.number c.index-as_slice-number.result (stored c))

pub returns-clause-distinct : goal.returns-clause-distinct
returns-clause-distinct c = rw (← c.self.view_is) c.self.invariant.distinct
