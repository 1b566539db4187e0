use Rattle.std.proofs.Common.{arith}
use Rattle.tac_server.proofs.RunFacts.{body_none}
use Rattle.tac_server.proofs.script.run_body.Goals as goal

pub returns-in_default : goal.returns-in_default
returns-in_default g c =
    rw c.at.ensures (body_none c.args.out.now.items c.args.key c.args.lines.now.lines c.number.result c.in_default.ensures.text
    (omega (arith, c.number.ensures, c.in_default.ensures.none, c.requires)))
