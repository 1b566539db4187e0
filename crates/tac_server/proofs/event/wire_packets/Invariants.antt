use Rattle.std.proofs.Common.{◌≡◌, ◌+◌, [], length}
use Rattle.std.specs.Option.{option_map_or}
use Rattle.tac_server.specs.Command.{wire_packets, fields_of}
use Rattle.tac_server.proofs.EventFacts.{after}
use Rattle.tac_server.proofs.event.wire_packets.Given as goal

-- the packets of the fields that are left, after those so far, are all packets
abbrev pub invariant-fields : goal.invariant-fields
invariant-fields l = after l.packets (wire_packets l.key (option_map_or (λ rest. fields_of rest.now) l.rest [])) ≡ wire_packets l.key (fields_of l.text)

abbrev pub decreases-fields : goal.decreases-fields
decreases-fields l = option_map_or (λ rest. length rest.now + 1) l.rest 0
