-- An accounting request and the body that spells it are one another's.
use Rattle.std.proofs.Common.{◌≡◌, ℕ, List, [], ◌∷◌, Result, Ok, Err, refl, ap, ◌∙◌}
use Rattle.std.specs.Prelude.{IfOk}
use Rattle.tac_wire.specs.declared.body.BodyFault.{BodyFault}
use Rattle.basics.specs.Memory.{GivesUnlessMemory}
use Rattle.tac_wire.specs.Body.{is_memory}
use Rattle.tac_wire.specs.Cut.{CutLaws}
use Rattle.tac_request.specs.declared.author_request.AuthorRequest.{AuthorRequest}
use Rattle.tac_request.specs.declared.acct_request.AcctRequest.{AcctRequest}
use Rattle.tac_request.specs.AuthorRequest.{author_request_of}
use Rattle.tac_request.specs.AcctRequest.{acct_request, with_flags, flagged, acct_request_of}
use Rattle.tac_request.proofs.RequestFacts.{author_request-found, author_request_of-author_request}

of_fields : CutLaws → (flags : ℕ) (fields : List ℕ) (answer : Result AuthorRequest BodyFault) (request : AcctRequest) → author_request_of fields ≡ answer → flagged flags answer ≡ Ok request → flags ∷ fields ≡ acct_request request
of_fields laws flags fields (Ok found) request e made =
    let same : with_flags flags found ≡ request = cc in
    ap (λ (rest : List ℕ). flags ∷ rest) (author_request-found laws fields found e) ∙ ap acct_request same
of_fields laws flags fields (Err fault) request e made = absurd cc

-- a request that is read is spelled so
pub acct_request-found : CutLaws → (body : List ℕ) (request : AcctRequest) → acct_request_of body ≡ Ok request → body ≡ acct_request request
acct_request-found laws [] request e = absurd cc
acct_request-found laws (flags ∷ fields) request e = of_fields laws flags fields (author_request_of fields) request refl e

-- a request is read from the body that spells it
pub acct_request_of-acct_request : CutLaws → (request : AcctRequest) → acct_request_of (acct_request request) ≡ Ok request
acct_request_of-acct_request laws request =
    let fields : AuthorRequest = record { authen_method = request.authen_method; priv_lvl = request.priv_lvl; authen_type = request.authen_type; authen_service = request.authen_service; user = request.user; port = request.port; rem_addr = request.rem_addr; args = request.args } in
    ap (flagged request.flags) (author_request_of-author_request laws fields)

pub is_found : CutLaws → (body : List ℕ) (r : Result AcctRequest BodyFault) → GivesUnlessMemory is_memory (λ body. body) r (acct_request_of body) → IfOk r (λ request. body ≡ acct_request request)
is_found laws body (Ok request) e = acct_request-found laws body request e
is_found laws body (Err fault) e = tt
