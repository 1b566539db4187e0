-- Starts of an authentication as bytes (RFC 8907, section 5.1).
use Rattle.std.specs.Prelude.{ℕ, ◌+◌, List, [], ◌∷◌, ◌++◌, length, sum, drop, slice_index}
use Rattle.std.specs.Prelude.{slice_index_or, Result, Ok, Err, nat_lt, ◌==◌, if◌then◌else◌}
use Rattle.tac_wire.specs.declared.body.BodyFault.{BodyFault}
use Rattle.tac_wire.specs.declared.body.BodyFault.TheVariants.{Short, LengthSum}
use Rattle.tac_wire.specs.Cut.{cut}
use Rattle.tac_authen.specs.declared.start.Start.{Start}

-- ---- the standard's numbers, whose names there begin with TAC_PLUS_

-- action
abbrev pub authen_login : ℕ
authen_login = 1

-- authen_type
abbrev pub authen_type_ascii : ℕ
authen_type_ascii = 1

abbrev pub authen_type_pap : ℕ
authen_type_pap = 2

abbrev pub authen_type_chap : ℕ
authen_type_chap = 3

-- authen_service
abbrev pub authen_svc_none : ℕ
authen_svc_none = 0

abbrev pub authen_svc_enable : ℕ
authen_svc_enable = 2

-- ---- a start as bytes

-- action, priv_lvl, authen_type, authen_service, user_len, port_len, rem_addr_len,
-- data_len; user, port, rem_addr, data
abbrev pub start_bytes : Start → List ℕ
start_bytes start =
    (start.action.0 ∷ start.priv_lvl ∷ start.authen_type.0 ∷ start.service.0
    ∷ length start.user ∷ length start.port ∷ length start.rem_addr ∷ length start.extra ∷ [])
    ++ start.user ++ start.port ++ start.rem_addr ++ start.extra

-- the lengths of user, port, rem_addr and data
abbrev pub lengths_of : List ℕ → List ℕ
lengths_of body =
    slice_index body 4 ∷ slice_index body 5 ∷ slice_index body 6 ∷ slice_index body 7 ∷ []

-- the fields that a body with these lengths has
abbrev pub fields_of : List ℕ → List (List ℕ)
fields_of body = cut (lengths_of body) (drop 8 body)

-- the start that a body spells, or the first fault
abbrev pub start_of : List ℕ → Result Start BodyFault
start_of body =
    if nat_lt (length body) 8 then Err Short
    else (if length body == 8 + sum (lengths_of body)
    then Ok (record {
      action = record { 0 = slice_index body 0 };
      priv_lvl = slice_index body 1;
      authen_type = record { 0 = slice_index body 2 };
      service = record { 0 = slice_index body 3 };
      user = slice_index_or (fields_of body) 0 [];
      port = slice_index_or (fields_of body) 1 [];
      rem_addr = slice_index_or (fields_of body) 2 [];
      extra = slice_index_or (fields_of body) 3 [];
    })
    else Err LengthSum)
