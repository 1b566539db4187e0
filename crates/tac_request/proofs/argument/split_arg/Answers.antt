use Rattle.std.proofs.Common.{◌≡◌, true, get_or, arith, rules, tests}
use Rattle.std.proofs.lemmas.List.{take_all}
use Rattle.tac_request.specs.Argument.{is_sign}
use Rattle.tac_request.proofs.ArgumentFacts.{argument_of-none, argument_of_split}
use Rattle.tac_request.proofs.argument.split_arg.Goals as goal
use Rattle.tac_request.proofs.argument.split_arg.Goals.{in-61, in_default}

pub returns-then-matches-clause-exact : goal.returns-then-matches-clause-exact
returns-then-matches-clause-exact c =
    let bytes = c.args.argument.now in
    let here : is_sign (get_or bytes c.loop-i.i 0) ≡ true = elim c.match-matches.branch [ in-61 w ↦ search (rules, tests) | in_default w ↦ absurd cc ] in
    argument_of_split bytes c.loop-i.i _ _ (omega arith) c.loop-i.invariant here c.split_at.ensures.front c.split_at.ensures.back

pub returns-clause-exact : goal.returns-clause-exact
returns-clause-exact c =
    let all = take_all c.loop-i.i c.args.argument.now (omega arith) in
    argument_of-none c.args.argument.now (rw all at c.loop-i.invariant)
