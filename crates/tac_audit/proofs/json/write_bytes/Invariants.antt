use Rattle.std.proofs.Common.{◌≡◌, ◌++◌, length}
use Rattle.std.specs.List.{flat_map}
use Rattle.tac_audit.specs.Json.{shown_byte}
use Rattle.tac_audit.proofs.json.write_bytes.Given as goal

-- what is added, and what the rest is shown as, are what the text is shown as
abbrev pub invariant-runs : goal.invariant-runs
invariant-runs l = l.out.items ++ flat_map shown_byte l.rest ≡ l.fn.out.items ++ flat_map shown_byte l.fn.text

-- the rest gets shorter
abbrev pub decreases-runs : goal.decreases-runs
decreases-runs l = length l.rest
