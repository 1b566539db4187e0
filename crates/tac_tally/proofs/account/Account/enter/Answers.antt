use Rattle.std.proofs.Common.{◌++◌, ◌∷◌, [], sym, ap, ◌∙◌}
use Rattle.tac_tally.proofs.Standing.{stands-own}
use Rattle.tac_tally.proofs.account.Account.enter.Goals as goal

pub returns-clause-ok : goal.returns-clause-ok
returns-clause-ok c = λ entries size s.
    let places = c.args.self.now.places.items in
    let put =
    c.push_reserved.ensures.items ∙ ap (λ l. l ++ c.args.place ∷ []) c.in_ok-reserve.ensures.items
    ∙ ap (λ n. places ++ n ∷ []) (sym size) in
    let counts = c.with_record-self.ensures in
    stands-own entries _ c.args.self.now _ counts.value counts.grows (c.in_ok-turn.ensures.ok entries c.args.denied) put s
