use Rattle.std.proofs.Common.{◌≡◌, take}
use Rattle.std.specs.List.{flat_map}
use Rattle.tac_audit.specs.Json.{shown_byte}
use Rattle.tac_audit.proofs.json.plain_front.Given as goal

-- the bytes so far are shown as they are
abbrev pub invariant-bytes : goal.invariant-bytes
invariant-bytes l = (l.count ≡ l.byte-index) × (flat_map shown_byte (take l.byte-index l.text) ≡ take l.byte-index l.text)
