use Rattle.std.proofs.Common.{rules}
use Rattle.tac_devices.proofs.PrefixFacts.{too_long}
use Rattle.tac_devices.proofs.prefix.parts.Goals as goal

pub returns-then-length-from-clause-none : goal.returns-then-length-from-clause-none
returns-then-length-from-clause-none c =
    too_long c.args.text.now c.in-Some.front.now c.in-Some.digits.now c.in-Ok-parse_ascii.address c.in-Some-read_number.length
    (search rules) (search rules) (search rules) (search rules)
