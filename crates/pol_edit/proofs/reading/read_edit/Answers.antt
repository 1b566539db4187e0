use Rattle.std.proofs.Common.{rules}
use Rattle.pol_edit.proofs.SpelledSo.{spelled_so}
use Rattle.pol_edit.proofs.reading.read_edit.Goals as goal

pub returns-in-Some-clause-found : goal.returns-in-Some-clause-found
returns-in-Some-clause-found c = spelled_so c.args.line.now c.in-Some.edit (search rules)
