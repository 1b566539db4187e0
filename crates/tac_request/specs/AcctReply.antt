-- Accounting replies as bytes (RFC 8907, section 7.2): those that this server sends.
use Rattle.std.specs.Prelude.{ℕ, ◌+◌, List, [], ◌∷◌, ◌++◌, length, take, drop, slice_index, Result}
use Rattle.std.specs.Prelude.{Ok, Err, ◌||◌, nat_lt, ◌==◌, if◌then◌else◌}
use Rattle.std.specs.Int.{w16, to_be_bytes, from_be_bytes}
use Rattle.tac_wire.specs.declared.body.BodyFault.{BodyFault}
use Rattle.tac_wire.specs.declared.body.BodyFault.TheVariants.{Short, LengthSum, TooLong}
use Rattle.tac_wire.specs.Body.{max_message}
use Rattle.tac_request.specs.declared.acct_reply.AcctReply.{AcctReply}

-- ---- the standard's numbers, whose names there begin with TAC_PLUS_

-- status
abbrev pub acct_status_success : ℕ
acct_status_success = 1

abbrev pub acct_status_error : ℕ
acct_status_error = 2

-- ---- a reply as bytes

-- server_msg_len, data_len, status; server_msg, no data
abbrev pub acct_reply : AcctReply → List ℕ
acct_reply reply =
    to_be_bytes w16 (length reply.msg.items) ++ to_be_bytes w16 0 ++ (reply.status.0 ∷ [])
    ++ reply.msg.items

abbrev pub msg_len : List ℕ → ℕ
msg_len body = from_be_bytes w16 (take 2 body)

abbrev pub data_len : List ℕ → ℕ
data_len body = from_be_bytes w16 (take 2 (drop 2 body))

-- the reply that a body spells, or the first fault
abbrev pub acct_reply_of : List ℕ → Result AcctReply BodyFault
acct_reply_of body =
    if nat_lt (length body) 5 then Err Short
    else (if length body == 5 + msg_len body + data_len body
    then (if nat_lt max_message (msg_len body) || nat_lt 0 (data_len body) then Err TooLong
    else Ok (record {
      status = record { 0 = slice_index body 4 };
      msg = record { items = drop 5 body };
    }))
    else Err LengthSum)
