use Rattle.std.proofs.Common.{◌≡◌, drop}
use Rattle.tac_request.specs.Line.{protocol_of}
use Rattle.tac_request.proofs.line.first_protocol.Given as goal

-- the first protocol is that of the rest
abbrev pub invariant-loop-argument : goal.invariant-loop-argument
invariant-loop-argument l = protocol_of (drop l.argument-index l.args) ≡ protocol_of l.args
