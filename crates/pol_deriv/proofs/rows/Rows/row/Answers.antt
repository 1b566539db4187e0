use Rattle.std.proofs.Common.{refl, sym, subst, ◌∙◌}
use Rattle.pol_pattern.specs.Flat.{Term}
use Rattle.pol_deriv.specs.Rows.{IsRow}
use Rattle.pol_deriv.specs.Nodes.{term_at}
use Rattle.pol_deriv.proofs.Tables.{at_means, term_means}
use Rattle.pol_deriv.proofs.RowFacts.{rows_kept, rows_more}
use Rattle.pol_deriv.proofs.rows.Rows.row.Goals as goal

pub returns-in-Some-clause-row : goal.returns-in-Some-clause-row
returns-in-Some-clause-row c =
    let table = c.args.table.now in
    let w = c.requires.rows c.args.number c.in-Some.place (sym c.place.ensures ∙ c.in-Some.is) in
    subst (λ (t : Term). IsRow table c.args.self.now.lists c.in-Some.place t) (sym (term_means table c.args.number w.0 w.1)) w.2

pub returns-in_err-place-clause-rows : goal.returns-in_err-place-clause-rows
returns-in_err-place-clause-rows c =
    let rows = rw (← c.self.view_is) at c.requires.rows in
    rows_kept c.args.table.now c.push_derivatives.new.table c.push_derivatives.ensures.grows.kept c.self.inside.places.items c.self.inside.places.items c.self.inside.lists c.push_derivatives.new.lists c.push_derivatives.ensures.kept rows (λ n. refl)

pub returns-in_err-note-clause-rows : goal.returns-in_err-note-clause-rows
returns-in_err-note-clause-rows c =
    let rows = rw (← c.self.view_is) at c.requires.rows in
    rows_kept c.args.table.now c.push_derivatives.new.table c.push_derivatives.ensures.grows.kept c.self.inside.places.items c.note.new.places.items c.self.inside.lists c.push_derivatives.new.lists c.push_derivatives.ensures.kept rows c.in_err-note.ensures.err

-- the row that was added
pub returns-clause-rows : goal.returns-clause-rows
returns-clause-rows c =
    let rows = rw (← c.self.view_is) at c.requires.rows in
    let means = c.push_derivatives.ensures.grows.kept c.args.number _ (at_means c.args.table.now c.args.number c.requires.number) in
    rows_more c.args.table.now c.push_derivatives.new.table c.push_derivatives.ensures.grows.kept c.self.inside.places.items c.note.new.places.items c.self.inside.lists c.push_derivatives.new.lists c.push_derivatives.ensures.kept rows
    c.args.number c.in_ok-place.place (term_at c.args.table.now c.args.number) means c.in_ok-place.ensures.row c.in_ok-note.ensures.ok
