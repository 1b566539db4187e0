-- The text of a devices' file: which devices its lines make, or the first refusal and its line
-- (docs/DEVICES.md).
use Rattle.std.specs.Prelude.{◌≡◌, ℕ, ◌+◌, List, [], ◌∷◌, ◌++◌, length, map, find, Bool, false, not}
use Rattle.std.specs.Prelude.{◌&&◌, ◌||◌, nat_eq, nat_le, is_some, Option, Some, None, Result, Ok, Err}
use Rattle.std.specs.Prelude.{if◌then◌else◌}
use Rattle.std.specs.Option.{option_to_list, option_map, option_map_or}
use Rattle.std.specs.List.{list_any}
use Rattle.std.specs.Str.{bytes_eq}
use Rattle.basics.specs.Lines.{lines_of}
use Rattle.tac_devices.specs.Prefix.{Range, same_prefix}
use Rattle.tac_devices.specs.Line.{Says}
use Rattle.tac_devices.specs.declared.said.Said.{Said}
use Rattle.tac_devices.specs.declared.said.Said.TheVariants as said
use Rattle.tac_devices.specs.declared.device.Device.{Device}
use Rattle.tac_devices.specs.declared.device.Secret.{Secret}
use Rattle.tac_devices.specs.declared.device.Tls.{Tls}
use Rattle.tac_devices.specs.declared.draft.Entry.{Entry}
use Rattle.tac_devices.specs.declared.draft.KeyLine.{KeyLine}
use Rattle.tac_devices.specs.declared.draft.Draft.{Draft}
use Rattle.tac_devices.specs.declared.fault.DevicesRefusal.{DevicesRefusal}
use Rattle.tac_devices.specs.declared.fault.DevicesRefusal.TheVariants.{BadLine, BadName, NoDevice}
use Rattle.tac_devices.specs.declared.fault.DevicesRefusal.TheVariants.{BadPrefix, BadValue}
use Rattle.tac_devices.specs.declared.fault.DevicesRefusal.TheVariants.{Repeated, Limit, NoKey}
use Rattle.tac_devices.specs.declared.fault.DevicesRefusal.TheVariants.{NoAddress}
use Rattle.tac_devices.specs.declared.fault.DevicesFault.{DevicesFault}
use Rattle.tac_devices.specs.declared.fault.DevicesFault.TheVariants.{Refused, Memory}

infixl 10 ◌>>=◌
abbrev pub ◌>>=◌ : {A B E : Type 0} → Result A E → (A → Result B E) → Result B E
(Ok x) >>= f = f x
(Err e) >>= f = Err e

abbrev pub max_devices : ℕ
max_devices = 4096

abbrev pub max_prefixes : ℕ
max_prefixes = 16384

-- ---- what a line makes of the devices so far

-- all devices so far, of which the last is the one that lines now speak of
abbrev pub whole : Draft → List Entry
whole draft = draft.done ++ option_to_list draft.present

abbrev pub empty : Draft
empty = record { done = []; present = None; names = []; prefixes = [] }

-- a new device is the present one, where there is room
unfoldable pub with_device : ℕ → List ℕ → Draft → Result Draft DevicesRefusal
with_device line name draft =
    if list_any (bytes_eq name) draft.names then Err Repeated
    else if nat_le max_devices (length (whole draft)) then Err Limit
    else Ok (record draft {
      done = whole draft;
      present = Some (record {
        name = name;
        line = line;
        places = [];
        key = None;
        old_key = None;
        tls = None;
        tls_line = None;
        connections = None;
      });
      names = draft.names ++ name ∷ [];
    })

-- a setting of the present device
abbrev pub for_present : (Entry → Result Entry DevicesRefusal) → Option Entry
    → Result Entry DevicesRefusal
for_present change None = Err NoDevice
for_present change (Some entry) = change entry

abbrev pub with_present : (Entry → Result Entry DevicesRefusal) → Draft
    → Result Draft DevicesRefusal
with_present change draft =
    for_present change draft.present >>= λ entry. Ok (record draft { present = Some entry })

-- a prefix that no device has yet, where there is room
abbrev pub prefix_free : List Range → Option Range → Result Range DevicesRefusal
prefix_free prefixes None = Err BadPrefix
prefix_free prefixes (Some prefix) =
    if list_any (same_prefix prefix) prefixes then Err Repeated
    else if nat_le max_prefixes (length prefixes) then Err Limit
    else Ok prefix

abbrev pub place_given : ℕ → Option Range → Entry → List Range
    → Result (Entry × List Range) DevicesRefusal
place_given line prefix entry prefixes =
    prefix_free prefixes prefix
    >>= λ prefix. Ok (
      record entry {
        places = entry.places ++ record { prefix = prefix; line = line } ∷ [];
      },
      prefixes ++ prefix ∷ [],
    )

abbrev pub with_prefix : ℕ → Option Range → Draft → Result Draft DevicesRefusal
with_prefix line prefix draft =
    for_present (λ entry. Ok entry) draft.present
    >>= λ entry. place_given line prefix entry draft.prefixes
    >>= λ made. Ok (record draft { present = Some made.0; prefixes = made.1 })

-- a setting that isn't there yet
abbrev pub set_once : {A B : Type 0} → Option A → Option B → (A → Entry)
    → Result Entry DevicesRefusal
set_once None old change = Err BadValue
set_once (Some value) (Some old) change = Err Repeated
set_once (Some value) None change = Ok (change value)

-- whether a device has the same key twice, as its key and as its old one
abbrev pub same_keys : Option KeyLine → Option KeyLine → Bool
same_keys (Some key) (Some old_key) = bytes_eq key.key old_key.key
same_keys (Some key) None = false
same_keys None old_key = false

-- then the line that says it again is refused
abbrev pub keys_apart : Entry → Result Entry DevicesRefusal
keys_apart entry = if same_keys entry.key entry.old_key then Err Repeated else Ok entry

abbrev pub with_key : ℕ → Option (List ℕ) → Entry → Result Entry DevicesRefusal
with_key line key entry =
    set_once key entry.key
    (λ key. record entry { key = Some (record { key = key; line = line }) })
    >>= keys_apart

abbrev pub with_old_key : ℕ → Option (List ℕ) → Entry → Result Entry DevicesRefusal
with_old_key line old_key entry =
    set_once old_key entry.old_key
    (λ key. record entry { old_key = Some (record { key = key; line = line }) })
    >>= keys_apart

abbrev pub with_tls : ℕ → Option Tls → Entry → Result Entry DevicesRefusal
with_tls line tls entry =
    set_once tls entry.tls (λ tls. record entry { tls = Some tls; tls_line = Some line })

abbrev pub with_connections : Option ℕ → Entry → Result Entry DevicesRefusal
with_connections connections entry =
    set_once connections entry.connections (λ n. record entry { connections = Some n })

-- the devices after what one more line says
abbrev pub with_said : ℕ → Said → Draft → Result Draft DevicesRefusal
with_said line said.Nothing draft = Ok draft
with_said line said.Bad draft = Err BadLine
with_said line (said.Device None) draft = Err BadName
with_said line (said.Device (Some name)) draft = with_device line name draft
with_said line (said.At prefix) draft = with_prefix line prefix draft
with_said line (said.Key key) draft = with_present (with_key line key) draft
with_said line (said.OldKey old_key) draft = with_present (with_old_key line old_key) draft
with_said line (said.Tls tls) draft = with_present (with_tls line tls) draft
with_said line (said.Connections n) draft = with_present (with_connections n) draft

-- ---- lines

-- goes on after a line, or ends with its refusal
abbrev pub Follows : Result Draft DevicesRefusal → ℕ → (Draft → Type 0)
    → Result Draft DevicesFault → Type 0
Follows (Ok draft) line more result = more draft
Follows (Err refusal) line more result = result ≡ Err (Refused line refusal)

-- what these lines make of the devices so far, where the first has this number; the first faulty
-- line decides
abbrev pub Makes : ℕ → List (List ℕ) → Draft → Result Draft DevicesFault → Type 0
Makes number [] draft result = result ≡ Ok draft
Makes number (line ∷ lines) draft result =
    (said : Said) × Says line said
    × Follows (with_said number said draft) number (λ next. Makes (number + 1) lines next result)
    result

-- ---- whole texts

-- a key, and the old one beside it
abbrev pub secret_by : KeyLine → Option KeyLine → Secret
secret_by key old =
    record {
      keys = record { present = key.key; old = option_map (λ old. old.key) old };
      line = key.line;
      old_line = option_map (λ old. old.line) old;
    }

abbrev pub device_of : Entry → Device
device_of entry =
    record {
      name = entry.name;
      places = entry.places;
      secret = option_map (λ key. secret_by key entry.old_key) entry.key;
      tls = entry.tls;
      tls_line = entry.tls_line;
      connections = entry.connections;
    }

abbrev pub devices_of : List Entry → List Device
devices_of entries = map device_of entries

-- it has a key; or it may come inside TLS, and has no old key
abbrev pub has_way : Entry → Bool
has_way entry = is_some entry.key || is_some entry.tls && not (is_some entry.old_key)

abbrev pub has_place : Entry → Bool
has_place entry = not (nat_eq (length entry.places) 0)

-- the first device that fails a test is refused, at its line
abbrev pub checked : (Entry → Bool) → DevicesRefusal → List Entry
    → Result (List Entry) DevicesFault
checked test refusal entries =
    option_map_or (λ entry. Err (Refused entry.line refusal))
    (find (λ entry. not (test entry)) entries) (Ok entries)

-- each over all devices in order: it has a way in; it has an address
abbrev pub all_checked : List Entry → Result (List Entry) DevicesFault
all_checked entries = checked has_way NoKey entries >>= checked has_place NoAddress

abbrev pub finished : List Entry → Result (List Device) DevicesFault
finished entries = all_checked entries >>= λ entries. Ok (devices_of entries)

-- the devices that a text says, or the first refusal with its line
abbrev pub IsText : List ℕ → Result (List Device) DevicesFault → Type 0
IsText text result =
    (draft : Result Draft DevicesFault) × Makes 1 (lines_of text) empty draft
    × (result ≡ (draft >>= λ draft. finished (whole draft)))

-- ---- what a function returned, against what is so

-- this is so of the result, unless memory ran out
abbrev pub UnlessMemory : {X Y : Type 0} → (X → Y) → Result X DevicesFault
    → (Result Y DevicesFault → Type 0) → Type 0
UnlessMemory view (Ok x) Holds = Holds (Ok (view x))
UnlessMemory view (Err Memory) Holds = Unit {0}
UnlessMemory view (Err (Refused line refusal)) Holds = Holds (Err (Refused line refusal))
