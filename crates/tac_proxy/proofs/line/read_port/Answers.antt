use Rattle.std.proofs.Common.{rules, arith}
use Rattle.tac_proxy.proofs.PortFacts.{not_padded, not_read, port_read}
use Rattle.tac_proxy.proofs.line.read_port.Goals as goal

pub returns-then-is_padded-clause-none : goal.returns-then-is_padded-clause-none
returns-then-is_padded-clause-none c = λ port h. not_padded c.args.digits.now port (search rules) h

pub returns-in_default-clause-none : goal.returns-in_default-clause-none
returns-in_default-clause-none c = λ port h. not_read c.args.digits.now c.read_number.result (search rules) c.read_number.ensures.printed port h

pub returns-clause-found : goal.returns-clause-found
returns-clause-found c = (port_read c.args.digits.now c.in-Some.port (search rules) (search rules) (omega arith), omega arith)
