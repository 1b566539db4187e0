-- What threads share, beside the hall and the door.
use denote.Param.Send.{IsSend, IsSync, sendable}
use Rattle.std.proofs.Crossing.{crosses}
use Rattle.tac_wire.proofs.door.KeyDoor.TheSendSync as key_door
use Rattle.boxcar.proofs.slot.OnceSlot.TheSendSync as slot
use Rattle.boxcar.proofs.tag.Tag.TheSendSync as tag
use Rattle.tac_devices.proofs.Crossing.{Devices-sync}
use Rattle.tac_devices.specs.contracts.devices.Devices as Devices
use Rattle.tac_census.proofs.census.Census.TheSendSync as census
use Rattle.tac_status.proofs.counts.Counts.TheSendSync as counts
use Rattle.tac_status.specs.contracts.counts.Counts as Counts
use Rattle.tac_digests.proofs.digests.Digests.TheSendSync as digests
use Rattle.tac_net.specs.contracts.callers.Callers as Callers
use Rattle.tac_net.specs.contracts.directory.Directory as Directory
use Rattle.tac_net.specs.contracts.hashing.Hashing as Hashing
use Rattle.tac_net.specs.contracts.intake.Arrival as Arrival
use Rattle.tac_net.specs.contracts.intake.Inbox as Inbox
use Rattle.tac_net.specs.contracts.intake.Intake as Intake
use Rattle.tac_net.specs.contracts.listeners.Listeners as Listeners
use Rattle.tac_net.specs.contracts.misfits.Hushed as Hushed
use Rattle.tac_net.specs.contracts.misfits.Misfits as Misfits
use Rattle.tac_net.specs.contracts.port.Port as Port
use Rattle.tac_net.specs.contracts.proxy_socket.ProxySocket as ProxySocket
use Rattle.tac_net.specs.contracts.settings.Settings as Settings
use Rattle.tac_net.specs.contracts.vigil.Vigil as Vigil

pub Devices-send : IsSend Devices.the_row
Devices-send = search (key_door.the_send, crosses, sendable) depth 60

pub Directory-sync : IsSync Directory.the_field.row
Directory-sync = search (Devices-sync, Devices-send, slot.the_sync, slot.the_send, tag.the_sync, crosses, sendable) depth 60 fits 20000

pub Callers-sync : IsSync Callers.the_field.row
Callers-sync = search (key_door.the_sync, Directory-sync, crosses, sendable) depth 60 fits 20000

pub Settings-sync : IsSync Settings.the_row
Settings-sync = search (Callers-sync, crosses, sendable) depth 60

pub Vigil-sync : IsSync Vigil.the_row
Vigil-sync = search (crosses, sendable) depth 60

pub Port-sync : IsSync Port.the_row
Port-sync = search (crosses, sendable) depth 60

pub ProxySocket-sync : IsSync ProxySocket.the_row
ProxySocket-sync = search (crosses, sendable) depth 60

pub Listeners-sync : IsSync Listeners.the_row
Listeners-sync = search (Port-sync, ProxySocket-sync, crosses, sendable) depth 60

pub Arrival-send : IsSend Arrival.the_row
Arrival-send = search (crosses, sendable) depth 60

pub Inbox-sync : IsSync Inbox.the_row
Inbox-sync = search (Arrival-send, crosses, sendable) depth 60 fits 20000

pub Hushed-send : IsSend Hushed.the_row
Hushed-send = search (crosses, sendable) depth 60

pub Misfits-sync : IsSync Misfits.the_row
Misfits-sync = search (Hushed-send, crosses, sendable) depth 60 fits 20000

pub Intake-sync : IsSync Intake.the_row
Intake-sync = search (Inbox-sync, Misfits-sync, census.the_send, crosses, sendable) depth 60 fits 20000

pub Counts-sync : IsSync Counts.the_row
Counts-sync = search (counts.the_sync, crosses, sendable) depth 60

pub Hashing-sync : IsSync Hashing.the_row
Hashing-sync = search (digests.the_sync, crosses, sendable) depth 60 fits 20000
