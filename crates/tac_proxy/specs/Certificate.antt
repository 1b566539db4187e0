-- What version 2 tells of the client's certificate, in the value of PP2_TYPE_SSL ("The PROXY
-- protocol, versions 1 & 2", section 2.2).
use Rattle.std.specs.Prelude.{ℕ, ◌==◌, Bool, not, ◌&&◌, ◌||◌, nat_lt, bit_and, List, length, take}
use Rattle.std.specs.Prelude.{drop, slice_index, Option, Some, None, if◌then◌else◌}
use Rattle.std.specs.Int.{w32, from_be_bytes}
use Rattle.std.specs.Option.{option_map, option_map_or, option_and_then}
use Rattle.tac_proxy.specs.Name.{kept_name}
use Rattle.tac_proxy.specs.Vectors.{first_value}
use Rattle.tac_proxy.specs.declared.told.Certificate.{Certificate}
use Rattle.tac_proxy.specs.declared.told.Certificate.TheVariants.{NotTold, Unverified, Verified}

-- PP2_TYPE_SSL, and in its value PP2_SUBTYPE_SSL_CN
abbrev pub type_ssl : ℕ
type_ssl = 0x20

abbrev pub subtype_ssl_cn : ℕ
subtype_ssl_cn = 0x22

-- PP2_CLIENT_SSL: the client connected over SSL or TLS
abbrev pub client_ssl : ℕ
client_ssl = 0x01

-- PP2_CLIENT_CERT_CONN: it provided a certificate over the current connection
abbrev pub client_cert_conn : ℕ
client_cert_conn = 0x02

-- PP2_CLIENT_CERT_SESS: it provided one at least once over the TLS session of this connection
abbrev pub client_cert_sess : ℕ
client_cert_sess = 0x04

abbrev pub has_flag : ℕ → ℕ → Bool
has_flag client flag = not (bit_and client flag == 0)

-- the client showed a certificate
abbrev pub has_shown : ℕ → Bool
has_shown client = has_flag client client_cert_conn || has_flag client client_cert_sess

-- `verify` is zero if the client presented a certificate and it was successfully verified. Some
-- proxies send zero also where there was none, so the flags count too
abbrev pub is_verified : ℕ → ℕ → Bool
is_verified client verify = has_flag client client_ssl && has_shown client && verify == 0

abbrev pub certificate_of : ℕ → ℕ → Option (List ℕ) → Certificate
certificate_of client verify name =
    if is_verified client verify then Verified (option_and_then kept_name name) else Unverified

-- the value of PP2_TYPE_SSL: client, verify in four bytes, and vectors. Nothing where the lengths
-- don't add up
abbrev pub ssl_certificate : List ℕ → Option Certificate
ssl_certificate value =
    if nat_lt (length value) 5
    then None
    else option_map
    (certificate_of (slice_index value 0) (from_be_bytes w32 (take 4 (drop 1 value))))
    (first_value subtype_ssl_cn (drop 5 value))

-- what the vectors after the addresses tell: nothing of a certificate where none is of that type
abbrev pub certificate_in : List ℕ → Option Certificate
certificate_in bytes =
    option_and_then
    (λ value. option_map_or ssl_certificate value (Some NotTold)) (first_value type_ssl bytes)

-- the common name of a certificate, if one is told
abbrev pub told_name : Certificate → Option (List ℕ)
told_name NotTold = None
told_name Unverified = None
told_name (Verified name) = name
