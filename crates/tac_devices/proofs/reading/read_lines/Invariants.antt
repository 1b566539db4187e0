use Rattle.std.proofs.Common.{length, Result}
use Rattle.basics.specs.Lines.{lines_of}
use Rattle.tac_devices.specs.declared.draft.Draft.{Draft}
use Rattle.tac_devices.specs.declared.fault.DevicesFault.{DevicesFault}
use Rattle.tac_devices.specs.Text.{Makes, empty}
use Rattle.tac_devices.proofs.reading.read_lines.Given as goal

-- what the rest makes of the draft so far, all lines make
abbrev pub invariant-lines : goal.invariant-lines
invariant-lines l =
    (result : Result Draft DevicesFault) → Makes l.lines.number l.lines.lines l.draft result → Makes 1 (lines_of l.text) empty result

abbrev pub decreases-lines : goal.decreases-lines
decreases-lines l = length l.lines.lines
