use Rattle.std.proofs.Common.{◌≡◌, ◌++◌, take}
use Rattle.std.specs.List.{flat_map}
use Rattle.tac_ask.specs.Answer.{shown_byte}
use Rattle.tac_ask.proofs.answer.add_escaped.Given as goal

-- the first bytes are added
abbrev pub invariant-bytes : goal.invariant-bytes
invariant-bytes l = l.out.items ≡ l.fn.out.items ++ flat_map (shown_byte l.also) (take l.byte-index l.text)
