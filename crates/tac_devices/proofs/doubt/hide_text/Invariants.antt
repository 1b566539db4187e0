use Rattle.std.proofs.Common.{◌≡◌, ◌<◌, length}
use Rattle.tac_devices.specs.KeyDoubt.{hide_text}
use Rattle.tac_devices.proofs.doubt.hide_text.Given as goal

abbrev pub invariant-symbols : goal.invariant-symbols
invariant-symbols l = (l.place < 53) × (hide_text l.place l.rest ≡ hide_text l.start l.digits)

abbrev pub decreases-symbols : goal.decreases-symbols
decreases-symbols l = length l.rest
