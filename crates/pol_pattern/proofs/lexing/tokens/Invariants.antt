use Rattle.std.proofs.Common.{◌≡◌, ◌≤◌, ◌-◌, length, drop}
use Rattle.pol_pattern.specs.Reading.{tokens_from, outermost}
use Rattle.pol_pattern.proofs.Front.{with_front}
use Rattle.pol_pattern.proofs.lexing.tokens.Given as goal

-- what was read so far, and then reading the rest, is reading the whole
abbrev pub invariant-tokens : goal.invariant-tokens
invariant-tokens l = record {
  within : l.place ≤ length l.bytes;
  so_far : with_front l.tokens.items (tokens_from l.version l.place 0 l.context (drop l.place l.bytes)) ≡ tokens_from l.version 0 0 outermost l.bytes;
}

abbrev pub decreases-tokens : goal.decreases-tokens
decreases-tokens l = length l.bytes - l.place
