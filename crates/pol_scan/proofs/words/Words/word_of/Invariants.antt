use Rattle.std.proofs.Common.{◌≡◌, ◌<◌, ◌++◌, length, reverse}
use Rattle.pol_scan.specs.Words.{word_at}
use Rattle.pol_scan.proofs.words.Words.word_of.Given as goal

-- the word of the place, followed by what was taken so far, backwards
abbrev pub invariant-loop-at : goal.invariant-loop-at
invariant-loop-at l = (l.at < length l.self) × (word_at l.self l.number ≡ word_at l.self l.at ++ reverse l.word.items)

abbrev pub decreases-loop-at : goal.decreases-loop-at
decreases-loop-at l = l.at
