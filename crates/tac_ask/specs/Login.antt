-- The packets that begin a session: an authentication START and the REQUESTs (RFC 8907, sections 5.1,
-- 5.4.2, 6.1 and 7.1).
use Rattle.std.specs.Prelude.{ℕ, List, [], ◌∷◌, ◌++◌, Bool, true, false}
use Rattle.tac_wire.specs.Chap.{response_to}
use Rattle.tac_authen.specs.declared.start.Start.{Start}
use Rattle.tac_authen.specs.Start.{authen_login, authen_type_ascii, authen_type_pap}
use Rattle.tac_authen.specs.Start.{authen_type_chap, authen_svc_enable}
use Rattle.tac_request.specs.declared.author_request.AuthorRequest.{AuthorRequest}
use Rattle.tac_ask.specs.declared.login.Method.{Method}
use Rattle.tac_ask.specs.declared.login.Method.TheVariants.{Ascii, Pap, Chap}
use Rattle.tac_ask.specs.declared.login.UserAt.{UserAt}
use Rattle.tac_ask.specs.declared.login.Login.{Login}

-- ---- the standard's numbers, whose names there begin with TAC_PLUS_

-- authen_service
abbrev pub authen_svc_login : ℕ
authen_svc_login = 1

-- priv_lvl (section 9)
abbrev pub priv_lvl_user : ℕ
priv_lvl_user = 1

abbrev pub priv_lvl_root : ℕ
priv_lvl_root = 15

-- authen_method
abbrev pub authen_meth_tacacsplus : ℕ
authen_meth_tacacsplus = 6

-- ---- logins

abbrev pub authen_type_of : Method → ℕ
authen_type_of Ascii = authen_type_ascii
authen_type_of Pap = authen_type_pap
authen_type_of (Chap id challenge) = authen_type_chap

-- the version byte: PAP and CHAP have minor version 1 (section 5.4.1)
abbrev pub version_of : Method → ℕ
version_of Ascii = 0xc0
version_of Pap = 0xc1
version_of (Chap id challenge) = 0xc1

-- an id, a challenge, and the response to them
abbrev pub chap_data : ℕ → List ℕ → List ℕ → List ℕ
chap_data id challenge password =
    (id ∷ []) ++ challenge ++ response_to id password challenge

-- data: nothing, since the server asks for the password; the password; or what CHAP has in its place
abbrev pub data_of : Method → List ℕ → List ℕ
data_of Ascii password = []
data_of Pap password = password
data_of (Chap id challenge) password = chap_data id challenge password

-- an enable login asks for the highest level (section 5.4.2.6)
abbrev pub level_of : Bool → ℕ
level_of true = priv_lvl_root
level_of false = priv_lvl_user

abbrev pub service_of : Bool → ℕ
service_of true = authen_svc_enable
service_of false = authen_svc_login

abbrev pub login_start : UserAt → Login → Start
login_start at login = record {
  action = record { 0 = authen_login };
  priv_lvl = level_of login.is_enable;
  authen_type = record { 0 = authen_type_of login.method };
  service = record { 0 = service_of login.is_enable };
  user = at.user;
  port = at.port;
  rem_addr = at.rem_addr;
  extra = data_of login.method login.password;
}

-- ---- requests, of a user who has logged in by ASCII at a TACACS+ server

abbrev pub request_about : UserAt → ℕ → List (List ℕ) → AuthorRequest
request_about at level args = record {
  authen_method = authen_meth_tacacsplus;
  priv_lvl = level;
  authen_type = authen_type_ascii;
  authen_service = authen_svc_login;
  user = at.user;
  port = at.port;
  rem_addr = at.rem_addr;
  args = args;
}
