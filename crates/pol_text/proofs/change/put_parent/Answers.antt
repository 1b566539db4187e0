use Rattle.std.proofs.Common.{sym}
use Rattle.pol_text.specs.Change.{with_parent}
use Rattle.pol_text.proofs.Keeps.{set_at}
use Rattle.pol_text.proofs.change.put_parent.Goals as goal

pub returns-clause-changed : goal.returns-clause-changed
returns-clause-changed c = set_at (with_parent c.args.parent) c.args.subjects.now c.args.place c.in_ok-subject.subject.now (sym c.in_ok-subject.ensures.item)
