-- How a refusal of a devices' file is printed, and a fault.
use Rattle.std.specs.Prelude.{List, ℕ, ◌++◌, codes}
use Rattle.std.specs.Fmt.{decimal}
use Rattle.tac_devices.specs.declared.fault.DevicesRefusal.{DevicesRefusal}
use Rattle.tac_devices.specs.declared.fault.DevicesRefusal.TheVariants.{BadLine, BadName, NoDevice}
use Rattle.tac_devices.specs.declared.fault.DevicesRefusal.TheVariants.{BadPrefix, BadValue}
use Rattle.tac_devices.specs.declared.fault.DevicesRefusal.TheVariants.{Repeated, Limit, NoKey}
use Rattle.tac_devices.specs.declared.fault.DevicesRefusal.TheVariants.{NoAddress}
use Rattle.tac_devices.specs.declared.fault.DevicesFault.{DevicesFault}
use Rattle.tac_devices.specs.declared.fault.DevicesFault.TheVariants.{Refused, Memory}

-- the kind's number and name
abbrev pub refusal_text : DevicesRefusal → List ℕ
refusal_text BadLine = codes "1 BadLine"
refusal_text BadName = codes "2 BadName"
refusal_text NoDevice = codes "3 NoDevice"
refusal_text BadPrefix = codes "4 BadPrefix"
refusal_text BadValue = codes "5 BadValue"
refusal_text Repeated = codes "6 Repeated"
refusal_text Limit = codes "7 Limit"
refusal_text NoKey = codes "8 NoKey"
refusal_text NoAddress = codes "9 NoAddress"

-- the line comes before what is wrong there
abbrev pub fault_text : DevicesFault → List ℕ
fault_text (Refused line refusal) =
    codes "fault line " ++ decimal line ++ codes " " ++ refusal_text refusal
fault_text Memory = codes "fault Memory"
