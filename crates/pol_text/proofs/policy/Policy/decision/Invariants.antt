use Rattle.std.proofs.Common.{◌≡◌, ◌-◌, IsTrue}
use Rattle.pol_text.specs.Policy.{chain_within, entries_along, first_entry, is_right_subject}
use Rattle.pol_text.proofs.policy.Policy.decision.Given as goal

abbrev pub invariant-chain : goal.invariant-chain
invariant-chain l = record {
  same : first_entry (entries_along (chain_within 8 l.self l.fn.subject)) l.line ≡ first_entry (entries_along (chain_within (8 - l.counter) l.self l.present)) l.line;
  right : IsTrue (is_right_subject l.present);
}
