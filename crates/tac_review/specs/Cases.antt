-- Cases: what each wants to be so, whether it is, and what is so in place of it (docs/REVIEW.md).
use Rattle.std.specs.Prelude.{ℕ, List, [], ◌∷◌, ◌++◌, codes, Bool, true, false, not}
use Rattle.std.specs.Prelude.{Option, Some, None, if◌then◌else◌, option_map}
use Rattle.std.specs.List.{list_any}
use Rattle.std.specs.Option.{option_and_then}
use Rattle.std.specs.Str.{bytes_eq}
use Rattle.basics.specs.Lines.{split_at_first}
use Rattle.basics.specs.Symbol.{is_text}
use Rattle.pol_names.specs.declared.decision.Decision.{Decision}
use Rattle.pol_names.specs.declared.decision.Verdict.{Verdict}
use Rattle.pol_names.specs.declared.decision.Verdict.TheVariants.{Permit, Deny}
use Rattle.pol_text.specs.declared.subject.Subject.{Subject}
use Rattle.pol_given.specs.declared.grant.Given.{Given}
use Rattle.pol_given.specs.declared.grant.Grant.{Grant}
use Rattle.pol_given.specs.declared.grant.Grant.TheVariants.{UnknownUser}
use Rattle.pol_given.specs.declared.grant.Grant.TheVariants.{Granted, Decided}
use Rattle.tac_desk.specs.declared.query.Query.{Query}
use Rattle.tac_desk.specs.declared.query.Query.TheVariants as queries
use Rattle.tac_console.specs.ConsoleText.{given as named}
use Rattle.tac_console.specs.Answers.{grant_line}
use Rattle.tac_review.specs.Asking.{question_of, service_question_of, decision_on, given_to, answer_to}
use Rattle.tac_review.specs.declared.want.Want.{Want}
use Rattle.tac_review.specs.declared.want.Want.TheVariants as wants

-- ---- reading a case

abbrev pub wanting : Want → Option Query → Option (Want × Query)
wanting want query = option_map (λ query. (want, query)) query

-- `USER SERVICE ATTRIBUTE`, split after the user, and then after the service
abbrev pub argument_of : List ℕ → Option (List ℕ × List ℕ) → Option (Want × Query)
argument_of user None = None
argument_of user (Some parts) =
    if is_text parts.1 then wanting (wants.Argument parts.1) (named (Some (user, parts.0)))
    else None

abbrev pub argument_in : Option (List ℕ × List ℕ) → Option (Want × Query)
argument_in None = None
argument_in (Some parts) = argument_of parts.0 (split_at_first 32 parts.1)

-- what a case with this first word wants, and of which question
abbrev pub case_by : List ℕ → List ℕ → Option (Want × Query)
case_by word rest =
    if bytes_eq word (codes "permit") then wanting (wants.Verdict Permit) (question_of rest)
    else if bytes_eq word (codes "deny") then wanting (wants.Verdict Deny) (question_of rest)
    else if bytes_eq word (codes "grant") then wanting wants.Grant (service_question_of rest)
    else if bytes_eq word (codes "refuse") then wanting wants.Refusal (service_question_of rest)
    else if bytes_eq word (codes "give") then argument_in (split_at_first 32 rest)
    else None

-- `permit USER LINE`, `deny USER LINE`, `grant USER SERVICE`, `refuse USER SERVICE` or
-- `give USER SERVICE ATTRIBUTE`
abbrev pub case_of : List ℕ → Option (Want × Query)
case_of line = option_and_then (λ parts. case_by parts.0 parts.1) (split_at_first 32 line)

-- ---- whether it is so

abbrev pub same_verdict : Verdict → Verdict → Bool
same_verdict Permit Permit = true
same_verdict Deny Deny = true
same_verdict _ _ = false

-- whether that is what was decided; for who isn't in the policy, nothing was
abbrev pub is_decided : Verdict → Option Decision → Bool
is_decided wanted None = false
is_decided wanted (Some decision) = same_verdict decision.verdict wanted

-- a shell is granted by who permits the empty line, which asks for it
abbrev pub is_granted : Grant → Bool
is_granted (Granted owner) = true
is_granted (Decided decision) = same_verdict decision.verdict Permit
is_granted _ = false

-- nothing is refused to who isn't in the policy
abbrev pub is_refused : Grant → Bool
is_refused UnknownUser = false
is_refused grant = not (is_granted grant)

abbrev pub has_argument : List ℕ → Given → Bool
has_argument wanted given = list_any (λ gives. bytes_eq gives.argument wanted) given.arguments

-- whether what is given is as it is wanted
abbrev pub is_as : Want → Given → Bool
is_as (wants.Verdict verdict) given = false
is_as wants.Grant given = is_granted given.grant
is_as wants.Refusal given = is_refused given.grant
is_as (wants.Argument argument) given = has_argument argument given

abbrev pub is_so : List Subject → Want → Query → Bool
is_so policy (wants.Verdict verdict) query = is_decided verdict (decision_on policy query)
is_so policy want (queries.Given user service) = is_as want (given_to policy user service)
is_so policy want query = false

-- ---- what is so in place of it

-- a service that is granted lacks the argument
abbrev pub given_instead : Want → Given → List ℕ
given_instead (wants.Argument argument) given =
    if is_granted given.grant then codes "not given" ++ 10 ∷ [] else grant_line given.grant
given_instead want given = grant_line given.grant

abbrev pub found_instead : List Subject → Want → Query → List ℕ
found_instead policy (wants.Verdict verdict) query = answer_to policy query
found_instead policy want (queries.Given user service) =
    given_instead want (given_to policy user service)
found_instead policy want query = []
