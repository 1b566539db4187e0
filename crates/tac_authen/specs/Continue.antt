-- Answers of the client within an authentication as bytes (RFC 8907, section 5.3).
use Rattle.std.specs.Prelude.{ℕ, ◌+◌, List, [], ◌∷◌, ◌++◌, length, take, drop, slice_index, Result}
use Rattle.std.specs.Prelude.{Ok, Err, nat_lt, ◌==◌, if◌then◌else◌}
use Rattle.std.specs.Int.{w16, to_be_bytes, from_be_bytes}
use Rattle.tac_wire.specs.declared.body.BodyFault.{BodyFault}
use Rattle.tac_wire.specs.declared.body.BodyFault.TheVariants.{Short, LengthSum}
use Rattle.tac_authen.specs.declared.continuation.Continue.{Continue}

-- TAC_PLUS_CONTINUE_FLAG_ABORT: the client gives up
abbrev pub continue_flag_abort : ℕ
continue_flag_abort = 0x01

-- user_msg_len, data_len, flags; user_msg, data
abbrev pub continue_bytes : Continue → List ℕ
continue_bytes answer =
    to_be_bytes w16 (length answer.user_msg) ++ to_be_bytes w16 (length answer.extra)
    ++ (answer.flags ∷ [])
    ++ answer.user_msg ++ answer.extra

abbrev pub user_msg_len : List ℕ → ℕ
user_msg_len body = from_be_bytes w16 (take 2 body)

abbrev pub data_len : List ℕ → ℕ
data_len body = from_be_bytes w16 (take 2 (drop 2 body))

-- the answer that a body spells, or the first fault
abbrev pub continue_of : List ℕ → Result Continue BodyFault
continue_of body =
    if nat_lt (length body) 5 then Err Short
    else (if length body == 5 + user_msg_len body + data_len body
    then Ok (record {
      user_msg = take (user_msg_len body) (drop 5 body);
      extra = drop (user_msg_len body) (drop 5 body);
      flags = slice_index body 4;
    })
    else Err LengthSum)
