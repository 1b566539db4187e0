use Rattle.std.proofs.Common.{◌≡◌, ◌++◌, take, map}
use Rattle.tac_hall_console.specs.Shown.{shown_byte}
use Rattle.tac_hall_console.proofs.reloading.add_shown.Given as goal

-- the first bytes are added
abbrev pub invariant-bytes : goal.invariant-bytes
invariant-bytes l = l.line.items ≡ l.fn.line.items ++ map shown_byte (take l.byte-index l.bytes)
