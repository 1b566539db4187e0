use Rattle.std.proofs.Common.{◌≡◌, ◌-◌}
use Rattle.std.specs.List.{list_any}
use Rattle.pol_text.specs.Policy.{chain_within, chain}
use Rattle.pol_live.specs.Renewing.{is_among}
use Rattle.pol_live.proofs.touching.has_on_chain.Given as goal

abbrev pub invariant-chain : goal.invariant-chain
invariant-chain l =
    list_any (is_among l.ids) (chain_within (8 - l.counter) l.policy l.present) ≡ list_any (is_among l.ids) (chain l.policy l.fn.subject)
