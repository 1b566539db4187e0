use Rattle.std.proofs.Common.{◌≡◌, ◌↔◌, ◌+◌, ◌-◌, ℕ, List, ◌++◌, ◌∷◌, [], Contains, arith, subst, sym, ap, ◌∙◌, length-append}
use Rattle.pol_deriv.specs.Forms.{reached, IsRowOf}
use Rattle.pol_deriv.proofs.Tables.{get-append}
use Rattle.pol_deriv.proofs.RowFacts.{row_more}
use Rattle.pol_deriv.proofs.rows.push_row.Goals as goal

pub symbols-preserved : goal.symbols-preserved
symbols-preserved c =
    let form = c.args.form.now in
    let lists = c.symbols.lists in
    let place = c.len-place.result in
    let count = c.symbols.symbol - 32 in
    let list = c.numbers.result.now in
    let inv = c.symbols.invariant in
    let symbol : c.symbols.symbol ≡ 32 + count = omega (arith, inv.above) in
    let more : count + 1 ≡ c.symbols.symbol + 1 - 32 = omega (arith, inv.above) in
    let found = c.in_ok-successors.ensures ∙ ap (λ n. reached n form) symbol in
    let members = λ (n : ℕ). subst (λ (l : List ℕ). Contains list n ↔ Contains l n) found (subst (λ (l : List ℕ). Contains l n ↔ Contains c.in_ok-successors.field-0.items n) (sym c.numbers.ensures.numbers) (c.new-set.ensures.members n)) in
    rw c.in_ok-push.ensures.ok (record {
      above = omega (arith, inv.above);
      kept = λ k l e. get-append lists (list ∷ []) k l (inv.kept k l e);
      count = omega (arith, inv.count, length-append lists (list ∷ []), more);
      row = subst (IsRowOf form (lists ++ list ∷ []) place) more (row_more form lists place count list inv.count inv.row c.numbers.ensures.sorted members);
    })
