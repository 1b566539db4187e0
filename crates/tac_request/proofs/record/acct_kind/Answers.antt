use Rattle.std.proofs.Common.{sym, arith}
use Rattle.tac_request.proofs.RecordFacts.{kind_of-masked, kind_of-none}
use Rattle.tac_request.proofs.record.acct_kind.Goals as goal

pub returns-in-2 : goal.returns-in-2
returns-in-2 c = sym (kind_of-masked c.args.flags 2 c.in-2.is)

pub returns-in-4 : goal.returns-in-4
returns-in-4 c = sym (kind_of-masked c.args.flags 4 c.in-4.is)

pub returns-in-8 : goal.returns-in-8
returns-in-8 c = sym (kind_of-masked c.args.flags 8 c.in-8.is)

pub returns-in-10 : goal.returns-in-10
returns-in-10 c = sym (kind_of-masked c.args.flags 10 c.in-10.is)

pub returns-in_default : goal.returns-in_default
returns-in_default c = sym (kind_of-none c.args.flags (λ h. omega arith) (λ h. omega arith) (λ h. omega arith) (λ h. omega arith))
