-- Replies as bytes (RFC 8907, sections 5.2, 6.2 and 7.2), with a server_msg and data of any length.
use Rattle.std.specs.Prelude.{ℕ, ◌+◌, List, [], ◌∷◌, ◌++◌, length, map, sum, take, drop, slice_index}
use Rattle.std.specs.Prelude.{Result, Ok, Err, nat_lt, ◌==◌, ◌≡◌, ◌<◌, if◌then◌else◌}
use Rattle.std.specs.List.{concat}
use Rattle.std.specs.Int.{w16, to_be_bytes, from_be_bytes}
use Rattle.tac_wire.specs.Cut.{cut}
use Rattle.tac_wire.specs.Header.{tac_plus_authen, tac_plus_author}
use Rattle.tac_wire.specs.declared.body.BodyFault.{BodyFault}
use Rattle.tac_wire.specs.declared.body.BodyFault.TheVariants.{Short, LengthSum}
use Rattle.tac_ask.specs.declared.reply.ReplyFields.{ReplyFields}
use Rattle.tac_ask.specs.declared.reply.ReplyHead.{ReplyHead}

-- ---- how each type is written

-- status, flags, server_msg_len, data_len; server_msg, data
abbrev pub authen_reply_bytes : ReplyFields → List ℕ
authen_reply_bytes reply =
    (reply.status ∷ reply.flags ∷ []) ++ to_be_bytes w16 (length reply.server_msg)
    ++ to_be_bytes w16 (length reply.extra)
    ++ reply.server_msg ++ reply.extra

-- status, arg_cnt, server_msg_len, data_len; the lengths of the arguments; server_msg, data, the
-- arguments
abbrev pub author_reply_bytes : ReplyFields → List ℕ
author_reply_bytes reply =
    (reply.status ∷ length reply.args ∷ []) ++ to_be_bytes w16 (length reply.server_msg)
    ++ to_be_bytes w16 (length reply.extra)
    ++ map length reply.args ++ reply.server_msg ++ reply.extra ++ concat reply.args

-- server_msg_len, data_len, status; server_msg, data
abbrev pub acct_reply_bytes : ReplyFields → List ℕ
acct_reply_bytes reply =
    to_be_bytes w16 (length reply.server_msg) ++ to_be_bytes w16 (length reply.extra)
    ++ (reply.status ∷ [])
    ++ reply.server_msg ++ reply.extra

-- ---- which replies each type has: the lengths of the texts are two bytes each

pub record HasTexts (reply : ReplyFields) : Type 0 where
  pub server_msg : length reply.server_msg < 65536
  pub extra : length reply.extra < 65536

pub record IsAuthenReply (reply : ReplyFields) : Type 0 where
  pub texts : HasTexts reply
  pub no_args : reply.args ≡ []

-- only an authentication reply has flags
pub record IsAuthorReply (reply : ReplyFields) : Type 0 where
  pub texts : HasTexts reply
  pub no_flags : reply.flags ≡ 0

pub record IsAcctReply (reply : ReplyFields) : Type 0 where
  pub texts : HasTexts reply
  pub no_flags : reply.flags ≡ 0
  pub no_args : reply.args ≡ []

-- ---- how a body is read

-- the texts, and arguments of these lengths, that follow one after another
abbrev pub fields_of : ReplyHead → List ℕ → List ℕ → Result ReplyFields BodyFault
fields_of head lens fields =
    if length fields == head.msg_len + head.data_len + sum lens
    then Ok (record {
      status = head.status;
      flags = head.flags;
      server_msg = take head.msg_len fields;
      extra = take head.data_len (drop head.msg_len fields);
      args = cut lens (drop head.data_len (drop head.msg_len fields));
    })
    else Err LengthSum

-- the two bytes from a place on, as a number
abbrev pub number_at : ℕ → List ℕ → ℕ
number_at place body = from_be_bytes w16 (take 2 (drop place body))

abbrev pub authen_head : List ℕ → ReplyHead
authen_head body = record {
  status = slice_index body 0;
  flags = slice_index body 1;
  msg_len = number_at 2 body;
  data_len = number_at 4 body;
}

abbrev pub author_head : List ℕ → ReplyHead
author_head body = record {
  status = slice_index body 0;
  flags = 0;
  msg_len = number_at 2 body;
  data_len = number_at 4 body;
}

abbrev pub acct_head : List ℕ → ReplyHead
acct_head body = record {
  status = slice_index body 4;
  flags = 0;
  msg_len = number_at 0 body;
  data_len = number_at 2 body;
}

-- the reply that a body spells, or the first fault
abbrev pub authen_reply_of : List ℕ → Result ReplyFields BodyFault
authen_reply_of body =
    if nat_lt (length body) 6 then Err Short else fields_of (authen_head body) [] (drop 6 body)

abbrev pub author_reply_of : List ℕ → Result ReplyFields BodyFault
author_reply_of body =
    if nat_lt (length body) (6 + slice_index body 1) then Err Short
    else fields_of (author_head body) (take (slice_index body 1) (drop 6 body))
    (drop (slice_index body 1) (drop 6 body))

abbrev pub acct_reply_of : List ℕ → Result ReplyFields BodyFault
acct_reply_of body =
    if nat_lt (length body) 5 then Err Short else fields_of (acct_head body) [] (drop 5 body)

-- by the type of the packet
abbrev pub reply_of : ℕ → List ℕ → Result ReplyFields BodyFault
reply_of kind body =
    if kind == tac_plus_authen then authen_reply_of body
    else if kind == tac_plus_author then author_reply_of body else acct_reply_of body
