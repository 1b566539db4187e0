-- Authorisation requests as bytes (RFC 8907, section 6.1).
use Rattle.std.specs.Prelude.{ℕ, ◌+◌, List, [], ◌∷◌, ◌++◌, length, map, sum, take, drop}
use Rattle.std.specs.Prelude.{slice_index, slice_index_or, Result, Ok, Err, nat_lt, ◌==◌}
use Rattle.std.specs.Prelude.{if◌then◌else◌}
use Rattle.std.specs.List.{concat}
use Rattle.tac_wire.specs.declared.body.BodyFault.{BodyFault}
use Rattle.tac_wire.specs.declared.body.BodyFault.TheVariants.{Short, LengthSum}
use Rattle.tac_wire.specs.Cut.{cut}
use Rattle.tac_request.specs.declared.author_request.AuthorRequest.{AuthorRequest}

-- authen_method, priv_lvl, authen_type, authen_service, user_len, port_len,
-- rem_addr_len, arg_cnt; the lengths of the arguments; user, port, rem_addr, the
-- arguments
abbrev pub author_request : AuthorRequest → List ℕ
author_request request =
    (request.authen_method ∷ request.priv_lvl ∷ request.authen_type ∷ request.authen_service
    ∷ length request.user ∷ length request.port ∷ length request.rem_addr ∷ length request.args
    ∷ [])
    ++ map length request.args ++ request.user ++ request.port ++ request.rem_addr
    ++ concat request.args

-- the lengths of all fields: those of user, port and rem_addr, and then those of the arguments
abbrev pub lengths_of : List ℕ → List ℕ
lengths_of body =
    slice_index body 4 ∷ slice_index body 5 ∷ slice_index body 6
    ∷ take (slice_index body 7) (drop 8 body)

-- the fields that a body with these lengths has
abbrev pub fields_of : List ℕ → List (List ℕ)
fields_of body = cut (lengths_of body) (drop (slice_index body 7) (drop 8 body))

-- the request that a body spells, or the first fault
abbrev pub author_request_of : List ℕ → Result AuthorRequest BodyFault
author_request_of body =
    if nat_lt (length body) (8 + slice_index body 7) then Err Short
    else (if length body == 8 + slice_index body 7 + sum (lengths_of body)
    then Ok (record {
      authen_method = slice_index body 0;
      priv_lvl = slice_index body 1;
      authen_type = slice_index body 2;
      authen_service = slice_index body 3;
      user = slice_index_or (fields_of body) 0 [];
      port = slice_index_or (fields_of body) 1 [];
      rem_addr = slice_index_or (fields_of body) 2 [];
      args = drop 3 (fields_of body);
    })
    else Err LengthSum)
