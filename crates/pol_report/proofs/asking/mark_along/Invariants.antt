use Rattle.std.proofs.Common.{◌≡◌, ℕ, ◌-◌, length, position, slice_get, false, Some}
use Rattle.pol_names.specs.SameService.{same_service}
use Rattle.pol_names.specs.declared.service.ServiceId.{ServiceId}
use Rattle.pol_text.specs.Policy.{chain_within}
use Rattle.pol_given.specs.Given.{first_speaking}
use Rattle.pol_report.proofs.asking.mark_along.Given as goal

-- of a service that isn't marked, nobody spoke so far
abbrev pub invariant-chain : goal.invariant-chain
invariant-chain l =
    (length l.marks ≡ length l.services.keys)
    × ((service : ServiceId) (place : ℕ) → position (same_service service) l.services.keys ≡ Some place → slice_get l.marks place ≡ Some false
    → (slice_get l.fn.marks place ≡ Some false)
    × (first_speaking service (chain_within 8 l.policy l.fn.subject) ≡ first_speaking service (chain_within (8 - l.counter) l.policy l.present)))
