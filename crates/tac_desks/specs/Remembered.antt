-- Decisions that were made lately, and are remembered.
use Rattle.std.specs.Prelude.{◌≡◌, List, Contains, Some}
use Rattle.pol_names.specs.declared.decision.Decision.{Decision}
use Rattle.pol_text.specs.declared.subject.Subject.{Subject}
use Rattle.pol_text.specs.Policy.{decide}
use Rattle.tac_desks.specs.declared.remembering.Command.{Command}

-- each is what this policy says of that user's line
abbrev pub AreDecisionsBy : List Subject → List (Command × Decision) → Type 0
AreDecisionsBy policy kept =
    (entry : Command × Decision) → Contains kept entry
    → decide policy entry.0.user entry.0.line.items ≡ Some entry.1
