use Rattle.std.proofs.Common.{◌≡◌, ◌-◌, [], Some, slice_get}
use Rattle.std.specs.Option.{option_map_or}
use Rattle.pol_text.specs.declared.subject.Subject.{Subject}
use Rattle.pol_text.specs.Policy.{chain_within, entries_along, entries}
use Rattle.pol_live.proofs.along.chain_rule.Given as goal

-- the place along the rest of the chain
abbrev pub invariant-chain : goal.invariant-chain
invariant-chain l = (its : Subject) → slice_get l.policy l.fn.subject ≡ Some its
    → slice_get (entries l.policy its) l.fn.place
    ≡ slice_get (entries_along (option_map_or (chain_within (8 - l.counter) l.policy) (slice_get l.policy l.at) [])) l.left
