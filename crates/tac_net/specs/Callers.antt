-- Which devices may call, by which doors, and how lines of a log name them (RFC 8907, section 10.5;
-- RFC 9887, section 3; docs/DEVICES.md).
use Rattle.std.specs.Prelude.{◌≡◌, ◌⊎◌, ℕ, List, Bool, true, Option, Some, None, is_some, Ok}
use Rattle.std.specs.Prelude.{if◌then◌else◌}
use Rattle.std.specs.Option.{option_map_or}
use Rattle.std.specs.declared.net.ip_addr.IpAddr.{IpAddr}
use Rattle.boxcar.specs.Table.{Where, Shows}
use Rattle.tac_wire.specs.declared.door.Door.{Door}
use Rattle.tac_wire.specs.declared.door.Door.TheVariants.{Padded, Clear}
use Rattle.tac_first.specs.declared.keys.Keys.{Keys}
use Rattle.tac_audit.specs.declared.event.CameBy.{CameBy}
use Rattle.tac_audit.specs.declared.event.CameBy.TheVariants as came
use Rattle.tac_audit.specs.declared.event.Named.{Named}
use Rattle.tac_audit.specs.declared.event.WhyTurnedAway.{WhyTurnedAway}
use Rattle.tac_audit.specs.declared.event.WhyTurnedAway.TheVariants.{UnknownDevice, NoKey, NoTls}
use Rattle.tac_audit.specs.declared.event.WhyTurnedAway.TheVariants.{NoCertificate}
use Rattle.tac_audit.specs.declared.event.WhyTurnedAway.TheVariants.{OtherCertificate}
use Rattle.tac_devices.specs.Devices.{IsDeviceAt}
use Rattle.tac_devices.specs.Text.{IsText}
use Rattle.tac_devices.specs.Tls.{admits}
use Rattle.tac_devices.specs.declared.device.Device.{Device}
use Rattle.tac_devices.specs.declared.device.Secret.{Secret}
use Rattle.tac_devices.specs.declared.device.Tls.{Tls}
use Rattle.tac_proxy.specs.Certificate.{told_name}
use Rattle.tac_proxy.specs.declared.told.Certificate.{Certificate}
use Rattle.tac_proxy.specs.declared.told.Certificate.TheVariants.{Unverified}
use Rattle.tac_net.specs.declared.callers.Callers.{Callers}
use Rattle.tac_net.specs.declared.callers.Callers.TheVariants.{Any, Listed}
use Rattle.tac_net.specs.declared.callers.Found.{Found}
use Rattle.tac_net.specs.declared.callers.Found.TheVariants.{Anyone, Keyed, Certified}
use Rattle.tac_net.specs.declared.directory.Directory.{Directory}
use Rattle.tac_net.specs.declared.peer.Way.{Way}
use Rattle.tac_net.specs.declared.peer.Way.TheVariants.{Port, Proxy}

-- ---- a file that may be read again

-- these are the devices that some text of a devices' file says
abbrev pub IsOfSomeText : List Device → Type 0
IsOfSomeText devices = (text : List ℕ) × IsText text (Ok devices)

-- these devices counted once: they are the first ones, or were given later
abbrev pub WasListed : Directory → List Device → Type 0
WasListed directory devices =
    (devices ≡ directory.first)
    ⊎ ((seen : Where (List Device)) × Shows directory.later seen × (seen.value ≡ devices)
    × IsOfSomeText devices)

-- ---- who is turned away

-- a device needs a key at the port
abbrev pub refused_at_port : Option Secret → Option WhyTurnedAway
refused_at_port None = Some NoKey
refused_at_port (Some secret) = None

-- inside TLS it needs a certificate that was verified, and that its block admits
abbrev pub refused_inside : Tls → Certificate → Option WhyTurnedAway
refused_inside tls Unverified = Some NoCertificate
refused_inside tls certificate =
    if admits tls certificate then None else Some OtherCertificate

-- by a proxy it needs a block that lets it come so, and the server a proxy
abbrev pub refused_by_proxy : Bool → Option Tls → Certificate → Option WhyTurnedAway
refused_by_proxy true (Some tls) certificate = refused_inside tls certificate
refused_by_proxy has_proxy tls certificate = Some NoTls

-- why a device is refused that comes this way, if it is
abbrev pub refusal_of : Bool → Device → Way → Option WhyTurnedAway
refusal_of has_proxy device Port = refused_at_port device.secret
refusal_of has_proxy device (Proxy certificate) =
    refused_by_proxy has_proxy device.tls certificate

-- how lines name a device
abbrev pub named : Device → CameBy → Option Named
named device came_by = Some (record { name = device.name; came_by = came_by })

-- .. of which no connection is served
abbrev pub named_by : Device → Way → Option Named
named_by device Port = named device came.Key
named_by device (Proxy certificate) = named device (came.Tls (told_name certificate))

-- a call from this address is refused for this reason, and lines name its device so, if there is one
abbrev pub IsRefused : Callers → IpAddr → Way → WhyTurnedAway → Option Named → Type 0
IsRefused (Any key) address Port why who = ⊥
IsRefused (Any key) address (Proxy certificate) why who = (why ≡ NoTls) × (who ≡ None)
IsRefused (Listed directory proxy) address way why who =
    (devices : List Device) × WasListed directory devices
    × (found : Option Device) × IsDeviceAt devices address found
    × (option_map_or (λ device. refusal_of (is_some proxy) device way) found (Some UnknownDevice)
    ≡ Some why)
    × (who ≡ option_map_or (λ device. named_by device way) found None)

-- ---- the doors of a device

-- it is the door of the key, or of the old one, and lines name the device so
abbrev pub IsDoorOfKeys : Device → Keys → Door → Option Named → Type 0
IsDoorOfKeys device keys door who =
    ((door ≡ Padded keys.present) × (who ≡ named device came.Key))
    ⊎ ((old : List ℕ) × (keys.old ≡ Some old) × (door ≡ Padded old)
    × (who ≡ named device came.OldKey))

-- inside TLS its packets come in clear
abbrev pub IsDoorInside : Device → Way → Door → Option Named → Type 0
IsDoorInside device way door who = (door ≡ Clear) × (who ≡ named_by device way)

abbrev pub IsDoorOf : Device → Way → Door → Option Named → Type 0
IsDoorOf device Port door who =
    (secret : Secret) × (device.secret ≡ Some secret) × IsDoorOfKeys device secret.keys door who
IsDoorOf device (Proxy certificate) door who =
    IsDoorInside device (Proxy certificate) door who

-- ---- who may call

-- a device at this address may call this way, by this door, and lines name it so: not at all where
-- devices aren't listed
abbrev pub MayCall : Callers → IpAddr → Way → Door → Option Named → Type 0
MayCall (Any key) address Port door who = (door ≡ Padded key) × (who ≡ None)
MayCall (Any key) address (Proxy certificate) door who = ⊥
MayCall (Listed directory proxy) address way door who =
    (devices : List Device) × WasListed directory devices
    × (device : Device) × IsDeviceAt devices address (Some device)
    × (refusal_of (is_some proxy) device way ≡ None) × IsDoorOf device way door who

-- a device at some address may call some way by this door, and lines name that so
abbrev pub IsDoorOfOne : Callers → Door → Option Named → Type 0
IsDoorOfOne callers door who =
    (address : IpAddr) × (way : Way) × MayCall callers address way door who

-- ---- who is found at an address

-- this device is found so, which comes this way
abbrev pub IsFoundAs : Device → Way → Found → Type 0
IsFoundAs device Port (Keyed other keys) =
    (other.now ≡ device)
    × ((secret : Secret) × (device.secret ≡ Some secret) × (keys.now ≡ secret.keys))
IsFoundAs device (Proxy certificate) (Certified other by) = other.now ≡ device
IsFoundAs device way found = ⊥

abbrev pub IsFoundAt : Callers → IpAddr → Way → Found → Type 0
IsFoundAt (Any key) address Port (Anyone other) = other.now ≡ key
IsFoundAt (Any key) address way found = ⊥
IsFoundAt (Listed directory proxy) address way found =
    (devices : List Device) × WasListed directory devices
    × (device : Device) × IsDeviceAt devices address (Some device)
    × (refusal_of (is_some proxy) device way ≡ None) × IsFoundAs device way found

-- who is found so, and comes this way, calls by this door, and lines name it so
abbrev pub IsCallerOf : Found → Way → Door → Option Named → Type 0
IsCallerOf (Anyone key) way door who = (door ≡ Padded key.now) × (who ≡ None)
IsCallerOf (Keyed device keys) way door who = IsDoorOfKeys device.now keys.now door who
IsCallerOf (Certified device by) way door who = IsDoorInside device.now way door who
