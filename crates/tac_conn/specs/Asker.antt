-- Who asks, and from where: what a body says of its user (RFC 8907, sections 5.1, 6.1 and 7.1).
use Rattle.std.specs.Prelude.{ℕ, List, []}
use Rattle.tac_authen.specs.declared.start.Start.{Start}
use Rattle.tac_authen.specs.Start.{authen_svc_none}
use Rattle.tac_request.specs.declared.author_request.AuthorRequest.{AuthorRequest}
use Rattle.tac_request.specs.declared.acct_request.AcctRequest.{AcctRequest}
use Rattle.tac_conn.specs.declared.reading.Asker.{Asker}

abbrev pub start_asker : Start → Asker
start_asker start =
    record {
      user = start.user;
      port = start.port;
      from = start.rem_addr;
      privilege = start.priv_lvl;
      service = start.service.0;
    }

abbrev pub request_asker : AuthorRequest → Asker
request_asker request =
    record {
      user = request.user;
      port = request.port;
      from = request.rem_addr;
      privilege = request.priv_lvl;
      service = request.authen_service;
    }

abbrev pub acct_asker : AcctRequest → Asker
acct_asker request =
    record {
      user = request.user;
      port = request.port;
      from = request.rem_addr;
      privilege = request.priv_lvl;
      service = request.authen_service;
    }

-- the same, once this was typed as the name
abbrev pub named : Asker → List ℕ → Asker
named asker name = record asker { user = name }

-- the same without the name
abbrev pub unnamed : Asker → Asker
unnamed asker = named asker []

-- of whom nothing is known
abbrev pub nobody : Asker
nobody = record { user = []; port = []; from = []; privilege = 0; service = authen_svc_none }
