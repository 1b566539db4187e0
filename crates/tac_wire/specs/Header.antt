-- The header of a packet (RFC 8907, section 4.1): twelve bytes, integers in network order.
use Rattle.std.specs.Prelude.{ℕ, ◌/◌, ◌%◌, List, [], ◌∷◌, ◌++◌, slice_index, take, drop}
use Rattle.std.specs.Int.{w32, to_be_bytes, from_be_bytes}
use Rattle.tac_wire.specs.declared.header.Header.{Header}

-- ---- the standard's numbers

-- major_version: TAC_PLUS_MAJOR_VER
abbrev pub major_ver : ℕ
major_ver = 0xc

-- minor_version: TAC_PLUS_MINOR_VER_DEFAULT and TAC_PLUS_MINOR_VER_ONE
abbrev pub minor_ver_default : ℕ
minor_ver_default = 0

abbrev pub minor_ver_one : ℕ
minor_ver_one = 1

-- type: TAC_PLUS_AUTHEN, TAC_PLUS_AUTHOR and TAC_PLUS_ACCT
abbrev pub tac_plus_authen : ℕ
tac_plus_authen = 1

abbrev pub tac_plus_author : ℕ
tac_plus_author = 2

abbrev pub tac_plus_acct : ℕ
tac_plus_acct = 3

-- seq_no: a session's first, and the last that there is
abbrev pub first_seq_no : ℕ
first_seq_no = 1

abbrev pub last_seq_no : ℕ
last_seq_no = 255

-- flags: TAC_PLUS_UNENCRYPTED_FLAG and TAC_PLUS_SINGLE_CONNECT_FLAG
abbrev pub unencrypted_flag : ℕ
unencrypted_flag = 0x01

abbrev pub single_connect_flag : ℕ
single_connect_flag = 0x04

-- ---- the version: major in the high four bits, minor in the low four

abbrev pub major_version : ℕ → ℕ
major_version version = version / 16

abbrev pub minor_version : ℕ → ℕ
minor_version version = version % 16

-- ---- a header as bytes

-- version, type, seq_no, flags, session_id, length
abbrev pub header_bytes : Header → List ℕ
header_bytes header =
    (header.version ∷ header.kind.0 ∷ header.seq ∷ header.flags ∷ [])
    ++ to_be_bytes w32 header.session ++ to_be_bytes w32 header.length

-- the header that twelve bytes spell
abbrev pub header_of : List ℕ → Header
header_of bytes = record {
  version = slice_index bytes 0;
  kind = record { 0 = slice_index bytes 1 };
  seq = slice_index bytes 2;
  flags = slice_index bytes 3;
  session = from_be_bytes w32 (take 4 (drop 4 bytes));
  length = from_be_bytes w32 (take 4 (drop 8 bytes));
}
