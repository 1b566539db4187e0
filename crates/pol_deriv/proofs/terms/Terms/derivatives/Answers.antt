use Rattle.std.proofs.Common.{sym, refl, ◌∙◌, ◌-◌, ◌+◌, subst}
use Rattle.std.proofs.lemmas.Option.{slice_get_within}
use Rattle.pol_deriv.specs.Rows.{IsRow}
use Rattle.pol_deriv.proofs.Tables.{term_means}
use Rattle.pol_deriv.proofs.RowFacts.{none_lent, symbol_column, list_lent}
use Rattle.pol_deriv.proofs.terms.Terms.derivatives.Goals as goal

pub returns-then-not-is_symbol : goal.returns-then-not-is_symbol
returns-then-not-is_symbol c =
    let not = sym c.is_symbol.ensures ∙ c.if-not-is_symbol.true in
    ((refl, (λ _. tt), (rw (← c.self.view_is) c.row.ensures.grows, λ term means. none_lent c.row.new.table c.args.symbol term not)), record { lends = tt })

pub list-requires : goal.list-requires
list-requires c =
    let column = symbol_column c.args.symbol (sym c.is_symbol.ensures ∙ c.if-not-is_symbol.false) in
    let w = c.in_ok-place.ensures.row (c.args.symbol - 32) column.1 in
    rw c.from.ensures (slice_get_within c.row.new.self.lists (c.in_ok-place.place + (c.args.symbol - 32)) w.0 w.1)

pub returns : goal.returns
returns c =
    let is = sym c.is_symbol.ensures ∙ c.if-not-is_symbol.false in
    let table = c.row.new.table in (
      (
        refl,
        (λ _. tt),
        (
          rw (← c.self.view_is) c.row.ensures.grows,
          λ term means.
              let own = term_means c.self.inside.table c.args.number term (rw (← c.self.view_is) at means) in
              let row = subst (λ t. IsRow table c.row.new.self.lists c.in_ok-place.place t) own c.in_ok-place.ensures.row in
              list_lent table c.row.new.self.lists c.in_ok-place.place c.args.symbol c.from.result c.list.result.now term is c.from.ensures row c.list.ensures,
        ),
      ),
      record { lends = tt },
    )
