-- What is asked for the packets of connections, and what the desk answers: what the policy
-- says of who a user is and of what a user may do, and whether a record is kept (RFC 8907,
-- sections 5.4, 6.1 and 7.1).
use Rattle.std.specs.Prelude.{◌≡◌, ℕ, ◌+◌, ◌<◌, ◌≤◌, List, [], ◌∷◌, ◌++◌, length, Bool, true, false}
use Rattle.std.specs.Prelude.{not, ◌==◌}
use Rattle.std.specs.Prelude.{Option, Some, None, if◌then◌else◌}
use Rattle.std.specs.Option.{option_and_then}
use Rattle.std.specs.Str.{bytes_eq}
use Rattle.basics.specs.Symbol.{is_text}
use Rattle.sha_crypt.specs.Crypt.{crypted}
use Rattle.sha_crypt.specs.HashText.{HashParts}
use Rattle.sha_crypt.specs.Passing.{passes, rounds_of}
use Rattle.tac_wire.specs.Chap.{response_to}
use Rattle.pol_names.specs.Name.{name_of}
use Rattle.pol_names.specs.SubjectId.{user_id}
use Rattle.pol_names.specs.declared.secret.Secret.{Secret}
use Rattle.pol_names.specs.declared.service.ServiceId.{ServiceId}
use Rattle.pol_names.specs.declared.secret.Secret.TheVariants.{Clear, Hashed}
use Rattle.pol_text.specs.Policy.{find_subject, decision, id_of, level_of}
use Rattle.pol_names.specs.declared.decision.Verdict.{Verdict}
use Rattle.pol_names.specs.declared.decision.Verdict.TheVariants.{Permit, Deny}
use Rattle.pol_text.specs.declared.subject.Subject.{Subject}
use Rattle.pol_given.specs.Given.{speaking, refuses, attributes_of, service_named}
use Rattle.pol_given.specs.Given.{shell_attributes}
use Rattle.pol_names.specs.declared.decision.Decision.{Decision}
use Rattle.pol_names.specs.declared.decision.By.{By}
use Rattle.tac_authen.specs.declared.start.Service.{Service}
use Rattle.tac_authen.specs.Start.{authen_svc_enable}
use Rattle.tac_request.specs.Arguments.{level_arguments}
use Rattle.tac_request.specs.declared.record.Record.{Record}
use Rattle.tac_tally.specs.Keeping as keeping
use Rattle.tac_conn.specs.declared.ask.Proof.{Proof}
use Rattle.tac_conn.specs.declared.ask.Proof.TheVariants.{Plain, Chap}
use Rattle.tac_conn.specs.declared.ask.Ask.{Ask}
use Rattle.tac_conn.specs.declared.ask.Ask.TheVariants.{Authenticate, Authorise, Serve, Account}
use Rattle.tac_conn.specs.declared.ask.Answer.{Answer}
use Rattle.tac_conn.specs.declared.ask.Answer.TheVariants.{Pass, Fail, UnknownUser, Unprintable}
use Rattle.tac_conn.specs.declared.ask.Answer.TheVariants.{Denied, Permitted, Unserved, Refused}
use Rattle.tac_conn.specs.declared.ask.Answer.TheVariants.{Granted, Stored, BookFull}
use Rattle.tac_desk.specs.Meaning.{Meaning}

-- the user of this name; a text that is no name names nobody
abbrev pub user_named : List Subject → List ℕ → Option Subject
user_named policy text = option_and_then (λ name. find_subject (user_id name) policy) (name_of text)

-- ---- authentication

-- what a user proves to know: ENABLE asks for another secret than all other services
abbrev pub secret_for : Service → Subject → Option Secret
secret_for service user = if service.0 == authen_svc_enable then user.enable else user.login

-- of a secret in the clear: the password itself, or the response that it gives to the challenge
-- (RFC 1994). Of a hash: a password that makes it; no response is one, since it takes the password
abbrev pub is_proof_of : Secret → Proof → Bool
is_proof_of (Clear secret) (Plain password) = bytes_eq password secret
is_proof_of (Clear secret) (Chap id challenge response) =
    bytes_eq response (response_to id secret challenge)
is_proof_of (Hashed hash) (Plain password) = passes hash password
is_proof_of (Hashed hash) (Chap id challenge response) = false

-- nobody knows a secret that isn't there
abbrev pub authenticated : Option Secret → Proof → Answer
authenticated None proof = Fail
authenticated (Some secret) proof = if is_proof_of secret proof then Pass else Fail

abbrev pub authentication : List Subject → List ℕ → Service → Proof → Answer
authentication policy name service proof =
    authenticated (option_and_then (secret_for service) (user_named policy name)) proof

-- the hash that a proof of a secret is compared with, if it is one: only a password is, and only
-- where the secret is kept as a hash
abbrev pub compared_with : Option Secret → Proof → Option HashParts
compared_with None proof = None
compared_with (Some (Clear secret)) proof = None
compared_with (Some (Hashed hash)) (Plain password) = Some hash
compared_with (Some (Hashed hash)) (Chap id challenge response) = None

-- the password has 1 to 128 bytes, and makes the hash under the hash's rounds and salt
abbrev pub Makes : HashParts → List ℕ → Type 0
Makes hash password =
    (0 < length password) × (length password ≤ 128)
    × (crypted (rounds_of hash) hash.salt password ≡ hash.symbols)

-- the same as a fact: the proof is one of this secret
abbrev pub Proves : Secret → Proof → Type 0
Proves (Clear secret) (Plain password) = password ≡ secret
Proves (Clear secret) (Chap id challenge response) = response ≡ response_to id secret challenge
Proves (Hashed hash) (Plain password) = Makes hash password
Proves (Hashed hash) (Chap id challenge response) = ⊥

-- the policy has the user, the user has the secret that the service names, and the
-- proof is one of it
pub record LogsIn (policy : List Subject) (name : List ℕ) (service : Service) (proof : Proof) :
    Type 0 where
  pub user : Subject
  pub secret : Secret
  pub known : user_named policy name ≡ Some user
  pub has : secret_for service user ≡ Some secret
  pub proves : Proves secret proof

-- ---- authorisation

-- the level, and then the attributes
abbrev pub with_attributes : Option ℕ → List (List ℕ) → Answer
with_attributes level [] = Permitted level
with_attributes level (attribute ∷ attributes) =
    Granted (level_arguments level ++ attribute ∷ attributes)

-- the empty line asks for a shell, which gets the user's level and attributes; no other line does
abbrev pub permitted : List Subject → List ℕ → List ℕ → Answer
permitted policy name [] =
    with_attributes (level_of policy (user_id name)) (shell_attributes policy name)
permitted policy name (byte ∷ line) = Permitted None

abbrev pub by_verdict : Verdict → Answer → By → Answer
by_verdict Permit answer owner = answer
by_verdict Deny answer owner = Denied owner

abbrev pub decided : List Subject → List ℕ → List ℕ → Decision → Answer
decided policy name line decision =
    by_verdict decision.verdict (permitted policy name line) decision.by

-- an unknown user comes before a line that can't be printed
abbrev pub authorised : List Subject → List ℕ → List ℕ → Option Subject → Answer
authorised policy name line None = UnknownUser
authorised policy name line (Some user) =
    if is_text line then decided policy name line (decision policy user line) else Unprintable

abbrev pub authorisation : List Subject → List ℕ → List ℕ → Answer
authorisation policy name line = authorised policy name line (user_named policy name)

-- what a user is given for another service than a shell, by whoever decides on it
abbrev pub served_by : ServiceId → Option Subject → Answer
served_by service None = Unserved
served_by service (Some owner) =
    if refuses service owner then Refused (id_of owner)
    else Granted (attributes_of service owner)

-- nobody decides on what can't be named in a policy
abbrev pub served : List Subject → Option (List ℕ) → Option ServiceId → Answer
served policy None service = Unserved
served policy (Some user) None = Unserved
served policy (Some user) (Some service) = served_by service (speaking policy user service)

abbrev pub service_answer : List Subject → List ℕ → List ℕ → Option (List ℕ) → Answer
service_answer policy name service protocol =
    served policy (name_of name) (service_named service protocol)

-- ---- accounting

-- no further record is taken
abbrev pub is_full : Meaning → Bool
is_full meaning = keeping.is_full meaning.limit meaning.forgotten (length meaning.records)

-- ---- all of these

-- an answer, and what the desk represents from then on
pub record Answered : Type 0 where
  pub answer : Answer
  pub meaning : Meaning

-- the desk with one more record, after those that it keeps
abbrev pub with_record : Record → Meaning → Meaning
with_record item meaning = record meaning {
  records = keeping.kept meaning.limit meaning.records item;
  forgotten = meaning.forgotten + keeping.goes meaning.limit (length meaning.records);
}

-- the record is stored, unless the desk is full
abbrev pub stored : Meaning → Record → Answered
stored meaning item =
    if is_full meaning then record { answer = BookFull; meaning = meaning }
    else record { answer = Stored; meaning = with_record item meaning }

-- the answer to what is asked, and what the desk represents from then on
abbrev pub asked : Meaning → Ask → Answered
asked meaning (Authenticate user service proof) =
    record { answer = authentication meaning.policy user service proof; meaning = meaning }
asked meaning (Authorise user line) =
    record { answer = authorisation meaning.policy user line; meaning = meaning }
asked meaning (Serve user service protocol) = record {
  answer = service_answer meaning.policy user service protocol;
  meaning = meaning;
}
asked meaning (Account item) = stored meaning item

-- whether an answer has arguments other than a level
abbrev pub gives_arguments : Answer → Bool
gives_arguments (Granted []) = false
gives_arguments (Granted (argument ∷ arguments)) = true
gives_arguments answer = false

-- whether a record is to be stored, and there is room, or the answer has arguments: nothing else
-- that is asked takes memory
abbrev pub takes_memory : Meaning → Ask → Bool
takes_memory meaning (Authenticate user service proof) = false
takes_memory meaning (Authorise user line) =
    gives_arguments (authorisation meaning.policy user line)
takes_memory meaning (Serve user service protocol) =
    gives_arguments (service_answer meaning.policy user service protocol)
takes_memory meaning (Account item) = not (is_full meaning)

-- the hash that the password of an ask is compared with, if it is one
abbrev pub hash_in : List Subject → Ask → Option HashParts
hash_in policy (Authenticate user service proof) =
    compared_with (option_and_then (secret_for service) (user_named policy user)) proof
hash_in policy (Authorise user line) = None
hash_in policy (Serve user service protocol) = None
hash_in policy (Account item) = None

abbrev pub hash_for : Meaning → Ask → Option HashParts
hash_for meaning ask = hash_in meaning.policy ask

-- the desk answers that the user is the one named
abbrev pub Passes : Meaning → Ask → Type 0
Passes meaning (Authenticate user service proof) = LogsIn meaning.policy user service proof
Passes meaning (Authorise user line) = ⊥
Passes meaning (Serve user service protocol) = ⊥
Passes meaning (Account item) = ⊥
