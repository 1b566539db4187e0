use Rattle.std.proofs.Common.{◌≡◌, drop}
use Rattle.tac_devices_lint.specs.Words.{first_within}
use Rattle.tac_devices_lint.proofs.word.first_within.Given as goal

-- none of the words so far
abbrev pub invariant-words : goal.invariant-words
invariant-words l = first_within (drop l.word-index l.known) l.from l.most ≡ first_within l.known l.from l.most
