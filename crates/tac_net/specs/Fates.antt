-- As what connections are counted that are refused, or have ended (docs/REFERENCE.md, "The lines of status").
use Rattle.std.specs.Prelude.{◌≡◌, Bool, Option, if◌then◌else◌}
use Rattle.std.specs.declared.net.ip_addr.IpAddr.{IpAddr}
use Rattle.tac_audit.specs.declared.event.Named.{Named}
use Rattle.tac_audit.specs.declared.event.WhyTurnedAway.{WhyTurnedAway}
use Rattle.tac_audit.specs.declared.event.WhyTurnedAway.TheVariants as refusals
use Rattle.tac_census.specs.declared.refusal.Refusal.{Refusal}
use Rattle.tac_census.specs.declared.refusal.Refusal.TheVariants.{Full, AddressFull, Memory}
use Rattle.tac_worker.specs.declared.stop.Stop.{Stop}
use Rattle.tac_worker.specs.declared.stop.Stop.TheVariants as stops
use Rattle.tac_status.specs.declared.connection_counts.Departure.{Departure}
use Rattle.tac_status.specs.declared.connection_counts.Departure.TheVariants as departures
use Rattle.tac_status.specs.declared.connection_counts.Rejection.{Rejection}
use Rattle.tac_status.specs.declared.connection_counts.Rejection.TheVariants as rejections
use Rattle.tac_worker.specs.declared.end.End.{End}
use Rattle.tac_worker.specs.declared.end.End.TheVariants as ends
use Rattle.tac_net.specs.Callers.{IsRefused}
use Rattle.tac_net.specs.declared.callers.Callers.{Callers}
use Rattle.tac_net.specs.declared.peer.Way.{Way}

-- ---- refused as they came

-- of a device that may not call so
abbrev pub refused_as : WhyTurnedAway → Rejection
refused_as refusals.UnknownDevice = rejections.UnknownDevice
refused_as refusals.NoKey = rejections.NoKey
refused_as refusals.NoTls = rejections.NoTls
refused_as refusals.NoCertificate = rejections.NoCertificate
refused_as refusals.OtherCertificate = rejections.OtherCertificate
refused_as refusals.BadProxyHeader = rejections.BadProxyHeader
refused_as refusals.TooManyConnections = rejections.PerAddress

-- where there are too many
abbrev pub crowded_as : Refusal → Rejection
crowded_as Full = rejections.AtOnce
crowded_as AddressFull = rejections.PerAddress
crowded_as Memory = rejections.Memory

-- ---- ended

-- one that ended so: where a read lacked memory for packets, as that
abbrev pub ended_as : Bool → End → Departure
ended_as lacks ends.Finished = departures.Finished
ended_as lacks ends.ByProtocol = departures.Protocol
ended_as lacks ends.Stopped = departures.Server
ended_as lacks ends.LogFull = departures.Server
ended_as lacks ends.Memory = departures.Memory
ended_as lacks ends.ReadFault = if lacks then departures.PacketMemory else departures.Read
ended_as lacks ends.Unwitnessed = departures.Log
ended_as lacks ends.NoSeat = departures.Server

-- one that was left so for good
abbrev pub left_as : Bool → Stop → Departure
left_as lacks stops.Absent = departures.Server
left_as lacks stops.Busy = departures.Server
left_as lacks stops.Idle = departures.Server
left_as lacks stops.Digest = departures.Server
left_as lacks stops.Full = departures.Server
left_as lacks (stops.Ended end) = ended_as lacks end
left_as lacks stops.Broken = departures.Write

-- one whose device is given up: a reply waits to be taken, or its last reply asked for a name or a
-- password
abbrev pub given_up_as : Bool → Bool → Departure
given_up_as untaken asks =
    if untaken then departures.NotTaken
    else if asks then departures.LoginIdle else departures.Idle

-- one whose device was found when it came, and is refused when its first packet is whole: it was taken
-- out of the file, or may not come so any more
abbrev pub gone_as : WhyTurnedAway → Departure
gone_as refusals.UnknownDevice = departures.Unlisted
gone_as refusals.NoKey = departures.Changed
gone_as refusals.NoTls = departures.Changed
gone_as refusals.NoCertificate = departures.Changed
gone_as refusals.OtherCertificate = departures.Changed
gone_as refusals.BadProxyHeader = departures.Changed
gone_as refusals.TooManyConnections = departures.Changed

-- by why a call from this address is refused now
abbrev pub IsGone : Callers → IpAddr → Way → Departure → Type 0
IsGone callers address way gone =
    (why : WhyTurnedAway) × (who : Option Named) × IsRefused callers address way why who
    × (gone ≡ gone_as why)
