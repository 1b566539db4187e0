-- What a status is called, and which of them grant (RFC 8907, sections 5.2, 6.2 and 7.2). The names
-- there begin with TAC_PLUS_ and the type.
use Rattle.std.specs.Prelude.{ℕ, List, Bool, ◌||◌, ◌&&◌, ◌==◌, codes, Option, Some, None}
use Rattle.std.specs.Prelude.{if◌then◌else◌}
use Rattle.tac_wire.specs.Header.{tac_plus_authen, tac_plus_author, tac_plus_acct}

abbrev pub authen_name : ℕ → Option (List ℕ)
authen_name status =
    if status == 0x01 then Some (codes "PASS")
    else if status == 0x02 then Some (codes "FAIL")
    else if status == 0x03 then Some (codes "GETDATA")
    else if status == 0x04 then Some (codes "GETUSER")
    else if status == 0x05 then Some (codes "GETPASS")
    else if status == 0x06 then Some (codes "RESTART")
    else if status == 0x07 then Some (codes "ERROR")
    else if status == 0x21 then Some (codes "FOLLOW") else None

abbrev pub author_name : ℕ → Option (List ℕ)
author_name status =
    if status == 0x01 then Some (codes "PASS_ADD")
    else if status == 0x02 then Some (codes "PASS_REPL")
    else if status == 0x10 then Some (codes "FAIL")
    else if status == 0x11 then Some (codes "ERROR")
    else if status == 0x21 then Some (codes "FOLLOW") else None

abbrev pub acct_name : ℕ → Option (List ℕ)
acct_name status =
    if status == 0x01 then Some (codes "SUCCESS")
    else if status == 0x02 then Some (codes "ERROR")
    else if status == 0x21 then Some (codes "FOLLOW") else None

-- by the type of the packet
abbrev pub status_name : ℕ → ℕ → Option (List ℕ)
status_name kind status =
    if kind == tac_plus_authen then authen_name status
    else if kind == tac_plus_author then author_name status
    else if kind == tac_plus_acct then acct_name status else None

-- PASS; PASS_ADD and PASS_REPL; SUCCESS
abbrev pub is_granted : ℕ → ℕ → Bool
is_granted kind status = status == 0x01 || (kind == tac_plus_author && status == 0x02)
