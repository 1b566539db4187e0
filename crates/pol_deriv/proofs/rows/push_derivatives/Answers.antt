use Rattle.std.proofs.lemmas.Result.{IfOk-weaker}
use Rattle.pol_pattern.specs.Flat.{empty}
use Rattle.pol_deriv.specs.Nodes.{term_at}
use Rattle.pol_deriv.proofs.Forming.{whole_form}
use Rattle.pol_deriv.proofs.Tables.{at_means, means_within, term_means, still_at}
use Rattle.pol_deriv.proofs.RowFacts.{row_is}
use Rattle.pol_deriv.proofs.rows.push_derivatives.Goals as goal

pub linear-requires-clause-term : goal.linear-requires-clause-term
linear-requires-clause-term c = means_within c.empty.new.self c.args.number _ (c.empty.ensures.grows.kept _ _ (at_means c.args.table.now c.args.number c.requires))

pub linear-requires-clause-after : goal.linear-requires-clause-after
linear-requires-clause-after c = means_within c.empty.new.self c.in_ok-after.after empty c.in_ok-after.ensures.meant

-- the linear form is that of the term alone
pub returns-clause-row : goal.returns-clause-row
returns-clause-row c =
    let term = term_at c.args.table.now c.args.number in
    let same = still_at c.empty.ensures.grows c.args.number c.requires in
    let alone = term_means c.empty.new.self c.in_ok-after.after empty c.in_ok-after.ensures.meant in
    let form = whole_form _ _ _ (rw (c.new-form.ensures.items, same, alone) at c.in_ok-linear.ensures.exact) in
    IfOk-weaker c.push_row.result _ _ (λ place row. row_is c.linear.new.self c.push_row.new.lists place c.linear.new.form.items term form row)
    (rw c.deref.ensures.value at c.push_row.ensures.row)
