use Rattle.std.proofs.Common.{arith}
use Rattle.tac_authen.proofs.ContinueFacts.{is_found}
use Rattle.tac_authen.proofs.continuation.read_continue.Goals as goal

pub returns-clause-found : goal.returns-clause-found
returns-clause-found c = is_found c.args.body.now c.read_fields.result (λ i. omega (arith, c.type_inv.body i)) c.read_fields.ensures.exact
