use Rattle.std.proofs.Common.{◌≡◌, false, take}
use Rattle.posix_expression.specs.Gathered.{lacks}
use Rattle.tac_plus_import.specs.Drafts.{Adds, told}
use Rattle.tac_plus_import.proofs.draft.Draft.push_rules.Given as goal

abbrev pub invariant-rules : goal.invariant-rules
invariant-rules l =
    (told l.self ≡ told l.initial.self)
    × (lacks l.self.policy ≡ false → Adds l.initial.self (take l.rule-index l.rules) l.self)
