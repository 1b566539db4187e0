-- With which certificates a device may come inside TLS, by a proxy that verified them (RFC 9887;
-- docs/DEVICES.md).
use Rattle.std.specs.Prelude.{List, ℕ, Bool, true, false, Option, Some, None}
use Rattle.std.specs.Option.{option_map}
use Rattle.std.specs.Str.{bytes_eq}
use Rattle.tac_proxy.specs.Name.{name_of}
use Rattle.tac_proxy.specs.declared.told.Certificate.{Certificate}
use Rattle.tac_proxy.specs.declared.told.Certificate.TheVariants.{NotTold, Unverified, Verified}
use Rattle.tac_devices.specs.declared.device.Tls.{Tls}
use Rattle.tac_devices.specs.declared.device.Tls.TheVariants.{Any, Named}

-- those of the common name that a text spells
abbrev pub tls_of : List ℕ → Option Tls
tls_of text = option_map Named (name_of text)

-- whether a certificate is one of them, of which the proxy told this: never where it verified none.
-- A proxy that tells nothing of it is taken to have verified one, but then no name is known
abbrev pub admits : Tls → Certificate → Bool
admits tls Unverified = false
admits Any NotTold = true
admits Any (Verified name) = true
admits (Named wanted) NotTold = false
admits (Named wanted) (Verified None) = false
admits (Named wanted) (Verified (Some name)) = bytes_eq wanted name
