-- The fault of a body as that of a reply.
use Rattle.std.proofs.Common.{◌≡◌, ℕ, Result, Err, ap}
use Rattle.basics.specs.Memory.{Except}
use Rattle.tac_wire.specs.declared.body.BodyFault.{BodyFault}
use Rattle.tac_wire.specs.declared.body.BodyFault.TheVariants.{Short, LengthSum, TooLong}
use Rattle.tac_wire.specs.declared.body.BodyFault.TheVariants as bodies
use Rattle.tac_wire.specs.Body.{is_memory}
use Rattle.tac_ask.specs.Bodies as asked
use Rattle.tac_ask.specs.Judging.{body_fault, body_judged}
use Rattle.tac_ask.specs.declared.reply.ReplyFields.{ReplyFields}

pub fault_told : (kind : ℕ) (wanted : Result ReplyFields BodyFault) (fault : BodyFault) → Except (is_memory fault) (wanted ≡ Err fault)
    → Except (asked.is_memory (body_fault fault)) (body_judged kind wanted ≡ Err (body_fault fault))
fault_told kind wanted Short e = ap (body_judged kind) e
fault_told kind wanted LengthSum e = ap (body_judged kind) e
fault_told kind wanted TooLong e = ap (body_judged kind) e
fault_told kind wanted bodies.Memory e = tt
