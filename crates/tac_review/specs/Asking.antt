-- How a policy answers the questions of the console's `why` and `given` (docs/CONSOLE.md).
use Rattle.std.specs.Prelude.{ℕ, List, [], ◌++◌, codes, Option, Some, None}
use Rattle.pol_names.specs.declared.decision.Decision.{Decision}
use Rattle.pol_names.specs.declared.decision.Verdict.{Verdict}
use Rattle.pol_names.specs.declared.decision.Verdict.TheVariants.{Permit, Deny}
use Rattle.pol_names.specs.declared.service.ServiceId.{ServiceId}
use Rattle.pol_text.specs.declared.subject.Subject.{Subject}
use Rattle.pol_text.specs.Policy.{decide}
use Rattle.pol_given.specs.Granting.{given}
use Rattle.pol_given.specs.declared.grant.Given.{Given}
use Rattle.pol_given.specs.declared.grant.Grant.{Grant}
use Rattle.pol_given.specs.declared.grant.Grant.TheVariants as grants
use Rattle.tac_desk.specs.declared.query.Query.{Query}
use Rattle.tac_desk.specs.declared.query.Query.TheVariants as queries
use Rattle.tac_console.specs.ConsoleText.{query_of}
use Rattle.tac_console.specs.Answers.{why_line, given_text}
use Rattle.tac_review.specs.declared.task.Permission.{Permission}
use Rattle.tac_review.specs.declared.task.Permission.TheVariants.{Permitted, Denied, Unknown}

-- the question that `USER` or `USER LINE` asks, if it asks one: what the console reads after `why `
abbrev pub question_of : List ℕ → Option Query
question_of line = query_of (codes "why " ++ line)

-- the question that `USER SERVICE` asks, if it asks one: what the console reads after `given `
abbrev pub service_question_of : List ℕ → Option Query
service_question_of text = query_of (codes "given " ++ text)

-- the policy's decision; nothing of who isn't in it
abbrev pub decision_on : List Subject → Query → Option Decision
decision_on policy (queries.Why user line) = decide policy user line
decision_on policy _ = None

-- what the policy gives to the user for the service
abbrev pub given_to : List Subject → List ℕ → ServiceId → Given
given_to policy user service = given policy user service (decide policy user [])

-- ---- in a word

abbrev pub verdict_permission : Verdict → Permission
verdict_permission Permit = Permitted
verdict_permission Deny = Denied

-- a line is permitted or denied
abbrev pub line_permission : Option Decision → Permission
line_permission None = Unknown
line_permission (Some decision) = verdict_permission decision.verdict

-- a service is given or not: also a shell, whose empty line is permitted or not
abbrev pub grant_permission : Grant → Permission
grant_permission grants.UnknownUser = Unknown
grant_permission (grants.Granted owner) = Permitted
grant_permission (grants.Decided decision) = verdict_permission decision.verdict
grant_permission (grants.Refused owner) = Denied
grant_permission grants.Unserved = Denied

abbrev pub permission_of : List Subject → Query → Permission
permission_of policy (queries.Why user line) = line_permission (decide policy user line)
permission_of policy (queries.Given user service) =
    grant_permission (given_to policy user service).grant
permission_of policy _ = Denied

-- ---- in full

-- the answer, with its LF
abbrev pub answer_to : List Subject → Query → List ℕ
answer_to policy (queries.Why user line) = why_line (decide policy user line)
answer_to policy (queries.Given user service) = given_text (given_to policy user service)
answer_to policy _ = []
