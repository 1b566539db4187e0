-- How the bodies of a connection travel: under the pad of a key (RFC 8907, section 4.5), or as they
-- are, inside TLS (RFC 9887, section 4).
use Rattle.std.specs.Prelude.{ℕ, List, [], Bool, false, bit_or, if◌then◌else◌}
use Rattle.tac_wire.specs.Flag.{has_flag}
use Rattle.tac_wire.specs.Header.{unencrypted_flag}
use Rattle.tac_wire.specs.Pad.{padded}
use Rattle.tac_wire.specs.declared.door.Door.{Door}
use Rattle.tac_wire.specs.declared.door.Door.TheVariants.{Padded, Clear}
use Rattle.tac_wire.specs.declared.header.Header.{Header}

-- whether flags say that a body has no pad
abbrev pub is_flagged : ℕ → Bool
is_flagged flags = has_flag unencrypted_flag flags

-- whether such flags are refused
abbrev pub refuses : Door → ℕ → Bool
refuses (Padded key) flags = is_flagged flags
refuses Clear flags = false

-- a body that came. In clear a packet that doesn't say that it is has no body that is read
abbrev pub opened : Door → Header → List ℕ → List ℕ
opened (Padded key) header body = padded header key body
opened Clear header body = if is_flagged header.flags then body else []

-- a body as it is sent
abbrev pub closed : Door → Header → List ℕ → List ℕ
closed (Padded key) header body = padded header key body
closed Clear header body = body

-- the header that it is sent with
abbrev pub marked : Door → Header → Header
marked (Padded key) header = header
marked Clear header = record header { flags = bit_or header.flags unencrypted_flag }
