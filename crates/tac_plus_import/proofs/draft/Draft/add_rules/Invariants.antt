use Rattle.std.proofs.Common.{drop}
use Rattle.tac_plus_import.proofs.Adding.{Taking}
use Rattle.tac_plus_import.proofs.draft.Draft.add_rules.Given as goal

abbrev pub invariant-rules : goal.invariant-rules
invariant-rules l = Taking l.initial.self l.self l.initial.block l.block (drop l.rule-index l.rules) l.rules
