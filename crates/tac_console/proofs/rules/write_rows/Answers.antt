use Rattle.std.proofs.Common.{◌≡◌, ◌+◌, ◌++◌, ◌∷◌, [], take, sym, ap, ◌∙◌}
use Rattle.std.proofs.lemmas.List.{take_more, flat_map_more}
use Rattle.std.specs.List.{flat_map}
use Rattle.tac_console.specs.Reports.{shadowed_line}
use Rattle.tac_console.proofs.rules.write_rows.Goals as goal

pub rows-preserved : goal.rows-preserved
rows-preserved c =
    let rows = c.args.rows.now in
    let first = take c.rows.row-index rows in
    let more : take (c.rows.row-index + 1) rows ≡ first ++ c.row-item.result ∷ [] =
    take_more rows c.rows.row-index c.row-item.result c.rows-test.true ∙ ap (λ row. first ++ row ∷ []) (sym c.row-item.is) in
    c.in_ok-write_shadowed.ensures ∙ ap (λ text. text ++ shadowed_line c.row-item.result) c.rows.invariant
    ∙ flat_map_more shadowed_line c.args.out.now.items first c.row-item.result
    ∙ ap (λ rows. c.args.out.now.items ++ flat_map shadowed_line rows) (sym more)
