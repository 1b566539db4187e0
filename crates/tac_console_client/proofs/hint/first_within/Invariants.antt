use Rattle.std.proofs.Common.{◌≡◌, drop}
use Rattle.tac_console_client.specs.Hints.{first_within}
use Rattle.tac_console_client.proofs.hint.first_within.Given as goal

-- none of the words so far
abbrev pub invariant-words : goal.invariant-words
invariant-words l = first_within (drop l.word-index l.words) l.from l.most ≡ first_within l.words l.from l.most
