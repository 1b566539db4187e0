use Rattle.std.proofs.Common.{arith}
use Rattle.tac_proxy.proofs.VectorFacts.{next_parts, none_parts}
use Rattle.tac_proxy.proofs.vectors.next_vector.Goals as goal

pub returns-then-size-after-clause-none : goal.returns-then-size-after-clause-none
returns-then-size-after-clause-none c = λ _.
    let parts = c.in-Some.ensures.cases in
    none_parts c.args.bytes.now c.in-Some.head.now c.in-Some.after.now _ parts.0 parts.1 parts.2 (omega arith) c.if-size-after.true

pub returns-clause-some : goal.returns-clause-some
returns-clause-some c =
    let parts = c.in-Some.ensures.cases in
    next_parts c.args.bytes.now c.in-Some.head.now c.in-Some.after.now _ _ _ parts.0 parts.1 parts.2 (omega arith) c.if-size-after.false c.split_at.ensures.front c.split_at.ensures.back
