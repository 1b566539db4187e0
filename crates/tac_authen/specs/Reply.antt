-- Authentication replies as bytes (RFC 8907, section 5.2): those that this server sends.
use Rattle.std.specs.Prelude.{ℕ, ◌+◌, Bool, true, false, List, [], ◌∷◌, ◌++◌, length, take, drop}
use Rattle.std.specs.Prelude.{slice_index, Result, Ok, Err, ◌||◌, nat_lt, ◌==◌, if◌then◌else◌}
use Rattle.std.specs.Int.{w16, to_be_bytes, from_be_bytes}
use Rattle.tac_wire.specs.declared.body.BodyFault.{BodyFault}
use Rattle.tac_wire.specs.declared.body.BodyFault.TheVariants.{Short, LengthSum, TooLong}
use Rattle.tac_authen.specs.declared.reply.AuthenReply.{AuthenReply}
use Rattle.tac_wire.specs.Flag.{has_flag}
use Rattle.tac_wire.specs.Body.{max_message}

-- ---- the standard's numbers, whose names there begin with TAC_PLUS_

-- status
abbrev pub authen_status_pass : ℕ
authen_status_pass = 1

abbrev pub authen_status_fail : ℕ
authen_status_fail = 2

abbrev pub authen_status_getuser : ℕ
authen_status_getuser = 4

abbrev pub authen_status_getpass : ℕ
authen_status_getpass = 5

abbrev pub authen_status_error : ℕ
authen_status_error = 7

-- flags
abbrev pub reply_flag_noecho : ℕ
reply_flag_noecho = 0x01

-- ---- a reply as bytes

-- whether the text that is asked for is not to be shown
abbrev pub is_noecho : ℕ → Bool
is_noecho flags = has_flag reply_flag_noecho flags

-- the flags of a reply
abbrev pub flags_of : Bool → ℕ
flags_of true = reply_flag_noecho
flags_of false = 0

-- a reply with these flags: status, flags, server_msg_len, data_len; server_msg, no data
abbrev pub bytes_with : ℕ → AuthenReply → List ℕ
bytes_with flags reply =
    (reply.status.0 ∷ flags ∷ []) ++ to_be_bytes w16 (length reply.msg.items) ++ to_be_bytes w16 0
    ++ reply.msg.items

abbrev pub reply_bytes : AuthenReply → List ℕ
reply_bytes reply = bytes_with (flags_of reply.noecho) reply

abbrev pub msg_len : List ℕ → ℕ
msg_len body = from_be_bytes w16 (take 2 (drop 2 body))

abbrev pub data_len : List ℕ → ℕ
data_len body = from_be_bytes w16 (take 2 (drop 4 body))

-- the reply that a body spells with any flags, or the first fault
abbrev pub reply_of : List ℕ → Result AuthenReply BodyFault
reply_of body =
    if nat_lt (length body) 6 then Err Short
    else (if length body == 6 + msg_len body + data_len body
    then (if nat_lt max_message (msg_len body) || nat_lt 0 (data_len body) then Err TooLong
    else Ok (record {
      status = record { 0 = slice_index body 0 };
      noecho = is_noecho (slice_index body 1);
      msg = record { items = drop 6 body };
    }))
    else Err LengthSum)
