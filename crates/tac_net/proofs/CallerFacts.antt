-- Who is found at an address may call from there.
use Rattle.std.proofs.Common.{◌≡◌, Bool, Option, Some, ◌∙◌, ap, sym}
use Rattle.std.specs.declared.net.ip_addr.IpAddr.{IpAddr}
use Rattle.tac_wire.specs.declared.door.Door.{Door}
use Rattle.tac_wire.specs.declared.door.Door.TheVariants.{Padded}
use Rattle.tac_audit.specs.declared.event.Named.{Named}
use Rattle.tac_devices.specs.declared.device.Device.{Device}
use Rattle.tac_net.specs.declared.callers.Callers.{Callers}
use Rattle.tac_net.specs.declared.callers.Callers.TheVariants.{Any, Listed}
use Rattle.tac_net.specs.declared.callers.Found.{Found}
use Rattle.tac_net.specs.declared.callers.Found.TheVariants.{Anyone, Keyed, Certified}
use Rattle.tac_net.specs.declared.peer.Way.{Way}
use Rattle.tac_net.specs.declared.peer.Way.TheVariants.{Port, Proxy}
use Rattle.tac_net.specs.Callers.{IsFoundAt, IsFoundAs, IsCallerOf, IsDoorOf, MayCall}

door_of : (device : Device) (way : Way) (found : Found) (door : Door) (who : Option Named) → IsFoundAs device way found → IsCallerOf found way door who → IsDoorOf device way door who
door_of device Port (Anyone key) door who it of = absurd it
door_of device Port (Keyed other keys) door who it of = (it.1.0, it.1.1, rw (it.0, it.1.2) at of)
door_of device Port (Certified other by) door who it of = absurd it
door_of device (Proxy certificate) (Anyone key) door who it of = absurd it
door_of device (Proxy certificate) (Keyed other keys) door who it of = absurd it
door_of device (Proxy certificate) (Certified other by) door who it of = rw (sym it) of

pub may_call : (callers : Callers) (address : IpAddr) (way : Way) (found : Found) (door : Door) (who : Option Named) → IsFoundAt callers address way found → IsCallerOf found way door who → MayCall callers address way door who
may_call (Any key) address Port (Anyone other) door who at of = (of.0 ∙ ap Padded at, of.1)
may_call (Any key) address Port (Keyed device keys) door who at of = absurd at
may_call (Any key) address Port (Certified device by) door who at of = absurd at
may_call (Any key) address (Proxy certificate) found door who at of = absurd at
may_call (Listed directory proxy) address way found door who at of =
    (at.0, at.1, at.2, at.3, at.4, door_of at.2 way found door who at.5 of)
