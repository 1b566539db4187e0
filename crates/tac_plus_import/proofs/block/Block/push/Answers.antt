use Rattle.std.proofs.Common.{[], ◌∷◌, ◌++◌, Option, sym, subst}
use Rattle.tac_plus_import.specs.declared.block.Sought.{Sought}
use Rattle.tac_plus_import.specs.Joining.{DecideAlike, last_of}
use Rattle.tac_plus_import.proofs.Joined.{joined_last}
use Rattle.tac_plus_import.proofs.block.Block.push.Goals as goal

pub returns-in-Some-2-clause-alike : goal.returns-in-Some-2-clause-alike
returns-in-Some-2-clause-alike c =
    let early = c.args.self.now.rules.items in
    let both = c.in-Some-2.both.rule in
    let next = c.args.next.rule in
    let alike : DecideAlike (both ∷ []) (c.in-Some.last.rule ∷ next ∷ []) = rw c.in-Some-2.is at c.in_ok-both.ensures.alike in
    subst (λ (o : Option Sought). DecideAlike (early ++ both ∷ []) ((early ++ last_of o) ++ next ∷ [])) (sym c.in-Some.is)
    (joined_last early both c.in-Some.last.rule next alike)
