use Rattle.std.proofs.Common.{◌≡◌, true, is_some, rules}
use Rattle.pol_text.specs.Policy.{decide}
use Rattle.tac_desks.proofs.Recalled.{known_is}
use Rattle.tac_desks.proofs.remembering.Remembered.decide_command.Goals as goal

pub returns-then-is_some-clause-decision : goal.returns-then-is_some-clause-decision
returns-then-is_some-clause-decision c =
    let told = c.is_some.ensures in
    let test = c.if-is_some.true in
    let some : is_some c.recall-known.result ≡ true = first_of (cc, search rules) in
    known_is c.recall-known.result (decide c.args.live.now c.args.command.user c.args.command.line.items) some
    (c.recall-known.ensures.value c.args.live.now c.requires)
