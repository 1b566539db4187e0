use Rattle.std.proofs.Common.{◌≡◌, take}
use Rattle.pol_text.proofs.subject.copy_rules.Given as goal

abbrev pub invariant-loop-rule : goal.invariant-loop-rule
invariant-loop-rule l = l.copies ≡ take l.rule-index l.rules
