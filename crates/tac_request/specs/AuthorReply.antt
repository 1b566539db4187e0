-- Authorisation replies as bytes (RFC 8907, section 6.2): those that this server sends.
use Rattle.std.specs.Prelude.{ℕ, ◌+◌, List, [], ◌∷◌, ◌++◌, length, map, sum, take, drop}
use Rattle.std.specs.Prelude.{slice_index, Result, Ok, Err, ◌||◌, nat_lt}
use Rattle.std.specs.Prelude.{◌==◌, if◌then◌else◌}
use Rattle.std.specs.List.{concat}
use Rattle.std.specs.Int.{w16, to_be_bytes, from_be_bytes}
use Rattle.tac_wire.specs.declared.body.BodyFault.{BodyFault}
use Rattle.tac_wire.specs.declared.body.BodyFault.TheVariants.{Short, LengthSum, TooLong}
use Rattle.tac_wire.specs.Body.{max_message}
use Rattle.tac_wire.specs.Cut.{cut}
use Rattle.tac_request.specs.declared.author_reply.AuthorReply.{AuthorReply}

-- ---- the standard's numbers, whose names there begin with TAC_PLUS_

-- status
abbrev pub author_status_pass_add : ℕ
author_status_pass_add = 0x01

abbrev pub author_status_fail : ℕ
author_status_fail = 0x10

abbrev pub author_status_error : ℕ
author_status_error = 0x11

-- ---- a reply as bytes

-- status, arg_cnt, server_msg_len, data_len; the lengths of the arguments;
-- server_msg, no data, the arguments
abbrev pub author_reply : AuthorReply → List ℕ
author_reply reply =
    (reply.status.0 ∷ length reply.args ∷ []) ++ to_be_bytes w16 (length reply.msg.items)
    ++ to_be_bytes w16 0
    ++ map length reply.args ++ reply.msg.items ++ concat reply.args

abbrev pub msg_len : List ℕ → ℕ
msg_len body = from_be_bytes w16 (take 2 (drop 2 body))

abbrev pub data_len : List ℕ → ℕ
data_len body = from_be_bytes w16 (take 2 (drop 4 body))

-- the lengths of the arguments
abbrev pub lengths_of : List ℕ → List ℕ
lengths_of body = take (slice_index body 1) (drop 6 body)

-- what stands after the lengths: server_msg, data, the arguments
abbrev pub fields_of : List ℕ → List ℕ
fields_of body = drop (slice_index body 1) (drop 6 body)

-- the reply that a body spells, or the first fault
abbrev pub author_reply_of : List ℕ → Result AuthorReply BodyFault
author_reply_of body =
    if nat_lt (length body) (6 + slice_index body 1) then Err Short
    else (if length body == 6 + slice_index body 1 + msg_len body + data_len body
    + sum (lengths_of body)
    then (if nat_lt max_message (msg_len body) || nat_lt 0 (data_len body) then Err TooLong
    else Ok (record {
      status = record { 0 = slice_index body 0 };
      msg = record { items = take (msg_len body) (fields_of body) };
      args = cut (lengths_of body) (drop (msg_len body) (fields_of body));
    }))
    else Err LengthSum)
