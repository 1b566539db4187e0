use Rattle.std.proofs.Common.{◌≡◌, length}
use Rattle.std.specs.Option.{option_map, option_copied, option_or}
use Rattle.tac_proxy.specs.Vectors as vectors
use Rattle.tac_proxy.proofs.vectors.first_value.Given as goal

-- the value so far, or else that of the vectors that are left, is that of them all
abbrev pub invariant-vectors : goal.invariant-vectors
invariant-vectors l =
    option_map (λ more. option_or (option_copied l.found) (vectors.value_among l.kind more)) (vectors.vectors_after 0 l.rest)
    ≡ vectors.first_value l.kind l.bytes

abbrev pub decreases-vectors : goal.decreases-vectors
decreases-vectors l = length l.rest
