-- Which values RFC 8907 gives the fixed fields of the bodies that may come first on a connection.
-- The standard's names of them begin with TAC_PLUS_.
use Rattle.std.specs.Prelude.{ℕ, Bool, ◌&&◌, ◌||◌, nat_le, ◌==◌}
use Rattle.tac_authen.specs.declared.start.Start.{Start}
use Rattle.tac_request.specs.declared.author_request.AuthorRequest.{AuthorRequest}
use Rattle.tac_request.specs.declared.acct_request.AcctRequest.{AcctRequest}

-- action (section 5.1): AUTHEN_LOGIN, AUTHEN_CHPASS, AUTHEN_SENDAUTH
abbrev pub is_action : ℕ → Bool
is_action action = action == 1 || action == 2 || action == 4

-- priv_lvl (section 9): PRIV_LVL_MIN to PRIV_LVL_MAX
abbrev pub is_priv_lvl : ℕ → Bool
is_priv_lvl level = nat_le level 15

-- authen_type (section 5.1): AUTHEN_TYPE_ASCII, PAP, CHAP, 4, MSCHAP, MSCHAPV2. The drafts of the
-- standard had 4, for ARAP
abbrev pub is_authen_type : ℕ → Bool
is_authen_type kind = nat_le 1 kind && nat_le kind 6

-- authen_type of a request (section 6.1): AUTHEN_TYPE_NOT_SET too
abbrev pub is_request_type : ℕ → Bool
is_request_type kind = kind == 0 || is_authen_type kind

-- authen_service (section 5.1): AUTHEN_SVC_NONE, LOGIN, ENABLE, PPP, 4, PT, RCMD, X25, NASI,
-- FWPROXY. The drafts had 4, for ARAP
abbrev pub is_authen_service : ℕ → Bool
is_authen_service service = nat_le service 9

-- authen_method (section 6.1): AUTHEN_METH_NOT_SET, NONE, KRB5, LINE, ENABLE, LOCAL, TACACSPLUS;
-- GUEST; RADIUS, KRB4; RCMD
abbrev pub is_authen_method : ℕ → Bool
is_authen_method method =
    nat_le method 6 || method == 8 || method == 0x10 || method == 0x11 || method == 0x20

-- flags of a record (section 7.1): ACCT_FLAG_START, STOP, WATCHDOG; WATCHDOG with START
abbrev pub is_acct_flags : ℕ → Bool
is_acct_flags flags = flags == 2 || flags == 4 || flags == 8 || flags == 10

-- ---- the fixed fields of a body are so

abbrev pub is_start_in_range : Start → Bool
is_start_in_range start =
    is_action start.action.0 && is_priv_lvl start.priv_lvl && is_authen_type start.authen_type.0
    && is_authen_service start.service.0

abbrev pub is_author_request_in_range : AuthorRequest → Bool
is_author_request_in_range request =
    is_authen_method request.authen_method && is_priv_lvl request.priv_lvl
    && is_request_type request.authen_type && is_authen_service request.authen_service

abbrev pub is_acct_request_in_range : AcctRequest → Bool
is_acct_request_in_range request =
    is_acct_flags request.flags && is_authen_method request.authen_method
    && is_priv_lvl request.priv_lvl && is_request_type request.authen_type
    && is_authen_service request.authen_service
