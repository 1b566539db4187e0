-- What is remarked on the keys and the common names of devices that may call (RFC 8907, section
-- 10.5.1: a key of its own for each client, of at least 16 characters).
use Rattle.std.specs.Prelude.{ℕ, List, [], ◌∷◌, ◌++◌, length, find, codes, nat_lt, Bool, false}
use Rattle.std.specs.Prelude.{Option, Some, None, if◌then◌else◌}
use Rattle.std.specs.Option.{option_map, option_map_or, option_and_then, option_to_list}
use Rattle.std.specs.List.{filter_map}
use Rattle.std.specs.Str.{bytes_eq}
use Rattle.std.specs.Fmt.{decimal}
use Rattle.tac_devices.specs.KeyDoubt.{doubt_of, doubt_text}
use Rattle.tac_devices.specs.declared.device.Device.{Device}
use Rattle.tac_devices.specs.declared.device.Secret.{Secret}
use Rattle.tac_devices.specs.declared.device.Tls.{Tls}
use Rattle.tac_devices.specs.declared.device.Tls.TheVariants.{Any, Named}
use Rattle.tac_devices.specs.declared.remark.Remark.{Remark}
use Rattle.tac_devices.specs.declared.remark.Remark.TheVariants.{SameKey, ShortKey, Doubtful}
use Rattle.tac_devices.specs.declared.remark.Remark.TheVariants.{OldKeyBesideTls, SameName}

-- ---- keys

-- the least size of a key on which nothing is remarked
abbrev pub least_key : ℕ
least_key = 16

-- the secrets of the devices that have one
abbrev pub secrets_of : List Device → List Secret
secrets_of devices = filter_map (λ device. device.secret) devices

-- the key is that of an earlier secret, of which the first is named
abbrev pub same_key : List Secret → Secret → Option Remark
same_key earlier secret =
    option_map (λ first. SameKey secret.line first.line)
    (find (λ other. bytes_eq other.keys.present secret.keys.present) earlier)

-- the key is short
abbrev pub short_key : Secret → Option Remark
short_key secret =
    if nat_lt (length secret.keys.present) least_key
    then Some (ShortKey secret.line (length secret.keys.present)) else None

-- the key that this line says is doubtful
abbrev pub doubtful : ℕ → List ℕ → Option Remark
doubtful line key = option_map (λ doubt. Doubtful line doubt) (doubt_of key)

abbrev pub doubtful_key : Secret → Option Remark
doubtful_key secret = doubtful secret.line secret.keys.present

-- the old key is doubtful
abbrev pub doubtful_old_key : Secret → Option Remark
doubtful_old_key secret =
    option_and_then (λ line. option_and_then (doubtful line) secret.keys.old) secret.old_line

-- there is an old key, and the device has `tls` at this line, if it has it
abbrev pub old_key_beside : Secret → Option ℕ → Option Remark
old_key_beside secret tls =
    option_and_then (λ line. option_map (λ tls. OldKeyBesideTls line tls) tls) secret.old_line

abbrev pub on_key : List Secret → Secret → List Remark
on_key earlier secret =
    option_to_list (same_key earlier secret) ++ option_to_list (short_key secret)
    ++ option_to_list (doubtful_key secret)

abbrev pub on_old_key : Secret → Option ℕ → List Remark
on_old_key secret tls =
    option_to_list (doubtful_old_key secret) ++ option_to_list (old_key_beside secret tls)

-- ---- common names

-- certificates of this common name are wanted
abbrev pub is_of : List ℕ → Tls → Bool
is_of name Any = false
is_of name (Named wanted) = bytes_eq wanted name

-- .. by a device
abbrev pub wants : List ℕ → Device → Bool
wants name device = option_map_or (is_of name) device.tls false

-- the line that says `tls` of the first of these devices that wants this name
abbrev pub first_wanting : List ℕ → List Device → Option ℕ
first_wanting name devices =
    option_and_then (λ (device : Device). device.tls_line) (find (wants name) devices)

-- the common name, which this line says, is that of an earlier device, of which the first is named
abbrev pub same_name_as : List Device → ℕ → Tls → Option Remark
same_name_as earlier line Any = None
same_name_as earlier line (Named name) =
    option_map (λ first. SameName line first) (first_wanting name earlier)

abbrev pub same_name : List Device → Device → Option Remark
same_name earlier device =
    option_and_then (λ line. option_and_then (same_name_as earlier line) device.tls)
    device.tls_line

-- ---- devices

-- of its keys, if it has any, and then of its common name
abbrev pub on_device : List Device → Device → List Remark
on_device earlier device =
    option_map_or
    (λ secret. on_key (secrets_of earlier) secret ++ on_old_key secret device.tls_line)
    device.secret [] ++ option_to_list (same_name earlier device)

-- of each device in order
abbrev pub remarks_after : List Device → List Device → List Remark
remarks_after earlier [] = []
remarks_after earlier (device ∷ devices) =
    on_device earlier device ++ remarks_after (earlier ++ device ∷ []) devices

abbrev pub remarks_of : List Device → List Remark
remarks_of devices = remarks_after [] devices

-- ---- how they are printed

abbrev pub remark_text : Remark → List ℕ
remark_text (SameKey line first) =
    codes "line " ++ (decimal line ++ (codes ": the key of line " ++ decimal first))
remark_text (ShortKey line size) =
    codes "line "
    ++ (decimal line ++ (codes ": a key of " ++ (decimal size ++ codes " characters")))
remark_text (Doubtful line doubt) =
    codes "line " ++ (decimal line ++ (codes ": " ++ doubt_text doubt))
remark_text (OldKeyBesideTls line tls) =
    codes "line "
    ++ (decimal line ++ (codes ": an old key beside the 'tls' of line " ++ decimal tls))
remark_text (SameName line first) =
    codes "line " ++ (decimal line ++ (codes ": the common name of line " ++ decimal first))
