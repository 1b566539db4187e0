-- Accounting requests as bytes (RFC 8907, section 7.1).
use Rattle.std.specs.Prelude.{ℕ, List, [], ◌∷◌, ◌++◌, length, map, Result, Ok, Err}
use Rattle.std.specs.List.{concat}
use Rattle.tac_wire.specs.declared.body.BodyFault.{BodyFault}
use Rattle.tac_wire.specs.declared.body.BodyFault.TheVariants.{Short}
use Rattle.tac_request.specs.declared.author_request.AuthorRequest.{AuthorRequest}
use Rattle.tac_request.specs.declared.acct_request.AcctRequest.{AcctRequest}
use Rattle.tac_request.specs.AuthorRequest.{author_request_of}

-- flags, authen_method, priv_lvl, authen_type, authen_service, user_len, port_len,
-- rem_addr_len, arg_cnt; the lengths of the arguments; user, port, rem_addr, the arguments
abbrev pub acct_request : AcctRequest → List ℕ
acct_request request =
    (request.flags ∷ request.authen_method ∷ request.priv_lvl ∷ request.authen_type
    ∷ request.authen_service
    ∷ length request.user ∷ length request.port ∷ length request.rem_addr ∷ length request.args
    ∷ [])
    ++ map length request.args ++ request.user ++ request.port ++ request.rem_addr
    ++ concat request.args

-- an accounting request of these flags, whose other fields are those of an authorisation request
abbrev pub with_flags : ℕ → AuthorRequest → AcctRequest
with_flags flags fields = record {
  flags = flags;
  authen_method = fields.authen_method;
  priv_lvl = fields.priv_lvl;
  authen_type = fields.authen_type;
  authen_service = fields.authen_service;
  user = fields.user;
  port = fields.port;
  rem_addr = fields.rem_addr;
  args = fields.args;
}

abbrev pub flagged : ℕ → Result AuthorRequest BodyFault → Result AcctRequest BodyFault
flagged flags (Ok fields) = Ok (with_flags flags fields)
flagged flags (Err fault) = Err fault

-- the request that a body spells, or the first fault: after the flags it is that
-- of an authorisation request
abbrev pub acct_request_of : List ℕ → Result AcctRequest BodyFault
acct_request_of [] = Err Short
acct_request_of (flags ∷ fields) = flagged flags (author_request_of fields)
