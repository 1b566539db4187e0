use Rattle.std.proofs.Common.{◌≡◌, ◌+◌, drop}
use Rattle.pol_text.specs.Policy.{first_match}
use Rattle.pol_text.proofs.subject.Subject.first_match.Given as goal

abbrev pub invariant-loop-i : goal.invariant-loop-i
invariant-loop-i l = first_match l.owner (l.i + 1) (drop l.i l.self.rules) l.line ≡ first_match l.owner 1 l.self.rules l.line
