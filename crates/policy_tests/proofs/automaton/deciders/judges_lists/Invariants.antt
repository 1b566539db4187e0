use denote.Text.{Utf8}
use denote.Shadow.{shadow}
use Rattle.policy_tests.proofs.automaton.deciders.judges_lists.Given as goal

-- the list is text
abbrev pub invariant-loop-line : goal.invariant-loop-line
invariant-loop-line g l =
    (goal.iterator-loop-line g).can_next l.line-iterator ×
    (goal.iterator-loop-line g).is_finite l.line-iterator ×
    shadow (Utf8 l.list)
