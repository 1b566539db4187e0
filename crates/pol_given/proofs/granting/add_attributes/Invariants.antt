use Rattle.std.proofs.Common.{◌≡◌, ◌++◌, take}
use Rattle.std.specs.List.{flat_map}
use Rattle.pol_text.specs.Policy.{id_of}
use Rattle.pol_given.specs.Granting.{line_gives}
use Rattle.pol_given.proofs.granting.add_attributes.Given as goal

-- what the first lines give is added
abbrev pub invariant-loop-line : goal.invariant-loop-line
invariant-loop-line l = l.arguments ≡ l.fn.arguments ++ flat_map (line_gives (id_of l.subject) l.service) (take l.line-index l.subject.services)
