use Rattle.std.proofs.Common.{◌≡◌, ◌≤◌, ◌+◌, ◌++◌, length, map}
use Rattle.std.specs.Prelude.{take}
use Rattle.tac_audit.specs.Masking.{masked_answer, text_of, masked_text, most_told}
use Rattle.tac_audit.proofs.typing.front_of.Given as goal

-- the front, and what the lines that are left are shown as, begin as the whole answer does
abbrev pub invariant-lines : goal.invariant-lines
invariant-lines l = record {
  within : length l.front ≤ most_told;
  front : take most_told (l.front ++ text_of (map masked_answer l.lines.lines)) ≡ take most_told (masked_text l.fn.answer);
  size : l.size + length (text_of (map masked_answer l.lines.lines)) ≡ length (masked_text l.fn.answer);
}

abbrev pub decreases-lines : goal.decreases-lines
decreases-lines l = length l.lines.lines
