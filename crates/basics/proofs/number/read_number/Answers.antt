use Rattle.std.proofs.Common.{ap, ◌∙◌, arith}
use Rattle.basics.specs.Number.{number_of}
use Rattle.basics.proofs.NumberFacts.{number_of-decimal}
use Rattle.basics.proofs.number.read_number.Goals as goal

pub returns-clause-printed : goal.returns-clause-printed
returns-clause-printed c = λ n small short e. c.read_digits.ensures ∙ ap (number_of c.args.most) e ∙ number_of-decimal c.args.most n (omega arith) short
