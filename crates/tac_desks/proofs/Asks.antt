-- A login passes exactly for a user who is there, and proves to know the secret.
use Rattle.std.proofs.Common.{◌≡◌, ◌↔◌, ◌<◌, ◌≤◌, ◌&&◌, ℕ, nat_lt, nat_le, arith, List, [], ◌∷◌, length, Bool, true, false, cond, if◌then◌else◌, Option, Some, None, Result, Ok, refl, sym, ap, ◌∙◌}
use Rattle.std.specs.Option.{option_and_then}
use Rattle.std.proofs.lemmas.Slice.Eq.{bytes_eq-Decides}
use Rattle.std.specs.Str.{bytes_eq}
use Rattle.std.proofs.lemmas.Bool.{and_parts}
use Rattle.std.proofs.lemmas.Bool.Decides.{nat_tests}
use Rattle.sha_crypt.specs.Crypt.{crypted}
use Rattle.sha_crypt.specs.HashText.{HashParts}
use Rattle.sha_crypt.specs.Passing.{passes as passes_for, rounds_of}
use Rattle.pol_names.specs.declared.secret.Secret.{Secret}
use Rattle.pol_names.specs.declared.secret.Secret.TheVariants.{Clear, Hashed}
use Rattle.tac_wire.specs.Chap.{response_to}
use Rattle.basics.specs.Symbol.{is_text}
use Rattle.pol_text.specs.Policy.{decision, id_of, level_of}
use Rattle.pol_names.specs.Name.{name_of}
use Rattle.pol_names.specs.SubjectId.{user_id}
use Rattle.pol_names.specs.declared.service.ServiceId.{ServiceId}
use Rattle.pol_given.specs.Given.{speaking, refuses, attributes_of, service_named, shell_attributes}
use Rattle.pol_names.specs.declared.decision.Verdict.{Verdict}
use Rattle.pol_names.specs.declared.decision.Verdict.TheVariants.{Permit, Deny}
use Rattle.pol_text.specs.declared.subject.Subject.{Subject}
use Rattle.pol_names.specs.declared.decision.By.{By}
use Rattle.tac_request.specs.declared.record.Record.{Record}
use Rattle.tac_authen.specs.declared.start.Service.{Service}
use Rattle.tac_conn.specs.declared.ask.Proof.{Proof}
use Rattle.tac_conn.specs.declared.ask.Proof.TheVariants.{Plain, Chap}
use Rattle.tac_conn.specs.declared.ask.Ask.{Ask}
use Rattle.tac_conn.specs.declared.ask.Ask.TheVariants.{Authenticate, Authorise, Serve, Account}
use Rattle.tac_conn.specs.declared.ask.Answer.{Answer}
use Rattle.tac_conn.specs.declared.ask.Answer.TheVariants.{Pass, Fail, Unprintable, Refused, Granted, Stored, BookFull}
use Rattle.tac_conn.specs.declared.ask.AskKind.{AskKind}
use Rattle.tac_conn.specs.declared.ask.AskKind.TheVariants.{Authentication, Authorisation, Accounting}
use Rattle.tac_conn.specs.Ask.{kind_of_answer}
use Rattle.tac_desk.specs.Meaning.{Meaning}
use Rattle.tac_desk.specs.Asking.{user_named, secret_for, is_proof_of, authenticated, authentication, Makes, Proves, LogsIn, with_attributes, permitted, by_verdict, decided, authorised, authorisation, served_by, served, service_answer, is_full, Answered, with_record, stored, asked, Passes}

passes_makes : (hash : HashParts) (password : List ℕ) → passes_for hash password ≡ true → Makes hash password
passes_makes hash password e =
    let parts = and_parts (nat_lt 0 (length password) && nat_le (length password) 128) (bytes_eq (crypted (rounds_of hash) hash.salt password) hash.symbols) e in
    let sizes = and_parts (nat_lt 0 (length password)) (nat_le (length password) 128) parts.0 in
    let some : 0 < length password = let test = sizes.0 in grind (arith, nat_tests) in
    let few : length password ≤ 128 = let test = sizes.1 in grind (arith, nat_tests) in
    (some, few, (bytes_eq-Decides (crypted (rounds_of hash) hash.salt password) hash.symbols).0 parts.1)

makes_passes : (hash : HashParts) (password : List ℕ) → Makes hash password → passes_for hash password ≡ true
makes_passes hash password h =
    let some : nat_lt 0 (length password) ≡ true = let size = h.0 in grind (arith, nat_tests) in
    let few : nat_le (length password) 128 ≡ true = let size = h.1 in grind (arith, nat_tests) in
    rw (some, few, (bytes_eq-Decides (crypted (rounds_of hash) hash.salt password) hash.symbols).1 h.2) refl

proves_true : (secret : Secret) (proof : Proof) → is_proof_of secret proof ≡ true → Proves secret proof
proves_true (Clear secret) (Plain password) = (bytes_eq-Decides password secret).0
proves_true (Clear secret) (Chap id challenge response) = (bytes_eq-Decides response (response_to id secret challenge)).0
proves_true (Hashed hash) (Plain password) = passes_makes hash password
proves_true (Hashed hash) (Chap id challenge response) = λ e. absurd cc

true_proves : (secret : Secret) (proof : Proof) → Proves secret proof → is_proof_of secret proof ≡ true
true_proves (Clear secret) (Plain password) = (bytes_eq-Decides password secret).1
true_proves (Clear secret) (Chap id challenge response) = (bytes_eq-Decides response (response_to id secret challenge)).1
true_proves (Hashed hash) (Plain password) = makes_passes hash password
true_proves (Hashed hash) (Chap id challenge response) = λ h. absurd h

passed : (b : Bool) → cond b Pass Fail ≡ Pass → b ≡ true
passed true e = refl
passed false e = cc

module _ (policy : List Subject) (name : List ℕ) (service : Service) (proof : Proof) where
  by_secret : (user : Subject) (secret : Option Secret) → user_named policy name ≡ Some user → secret_for service user ≡ secret
      → authenticated secret proof ≡ Pass → LogsIn policy name service proof
  by_secret user None known has e = absurd cc
  by_secret user (Some secret) known has e = record {
    user = user;
    secret = secret;
    known = known;
    has = has;
    proves = proves_true secret proof (passed (is_proof_of secret proof) e);
  }

  by_user : (user : Option Subject) → user_named policy name ≡ user → authenticated (option_and_then (secret_for service) user) proof ≡ Pass → LogsIn policy name service proof
  by_user None known e = absurd cc
  by_user (Some user) known e = by_secret user (secret_for service user) known refl e

  logged_in : LogsIn policy name service proof → authentication policy name service proof ≡ Pass
  logged_in h = rw (h.known, h.has, true_proves h.secret proof h.proves) refl

-- ---- an answer is of its ask's kind

with_attributes_kind : (level : Option ℕ) (attributes : List (List ℕ)) → kind_of_answer (with_attributes level attributes) ≡ Authorisation
with_attributes_kind level [] = refl
with_attributes_kind level (attribute ∷ attributes) = refl

permitted_kind : (policy : List Subject) (name line : List ℕ) → kind_of_answer (permitted policy name line) ≡ Authorisation
permitted_kind policy name [] = with_attributes_kind (level_of policy (user_id name)) (shell_attributes policy name)
permitted_kind policy name (byte ∷ line) = refl

by_verdict_kind : (verdict : Verdict) (answer : Answer) (by : By) → kind_of_answer answer ≡ Authorisation → kind_of_answer (by_verdict verdict answer by) ≡ Authorisation
by_verdict_kind Permit answer by is = is
by_verdict_kind Deny answer by is = refl

authorised_kind : (policy : List Subject) (name line : List ℕ) (user : Option Subject) → kind_of_answer (authorised policy name line user) ≡ Authorisation
authorised_kind policy name line None = refl
authorised_kind policy name line (Some user) = printable (is_text line)
  where
    printable : (b : Bool) → kind_of_answer (if b then decided policy name line (decision policy user line) else Unprintable) ≡ Authorisation
    printable true = by_verdict_kind (decision policy user line).verdict (permitted policy name line) (decision policy user line).by (permitted_kind policy name line)
    printable false = refl

served_by_kind : (service : ServiceId) (owner : Option Subject) → kind_of_answer (served_by service owner) ≡ Authorisation
served_by_kind service None = refl
served_by_kind service (Some owner) = refused (refuses service owner)
  where
    refused : (b : Bool) → kind_of_answer (if b then Refused (id_of owner) else Granted (attributes_of service owner)) ≡ Authorisation
    refused true = refl
    refused false = refl

served_kind : (policy : List Subject) (user : Option (List ℕ)) (service : Option ServiceId) → kind_of_answer (served policy user service) ≡ Authorisation
served_kind policy None service = refl
served_kind policy (Some user) None = refl
served_kind policy (Some user) (Some service) = served_by_kind service (speaking policy user service)

stored_kind : (meaning : Meaning) (item : Record) → kind_of_answer (stored meaning item).answer ≡ Accounting
stored_kind meaning item = full (is_full meaning)
  where
    full : (b : Bool) → let told : Answered = (if b then record { answer = BookFull; meaning = meaning }
        else record { answer = Stored; meaning = with_record item meaning }) in kind_of_answer told.answer ≡ Accounting
    full true = refl
    full false = refl

authorisation_kind : (policy : List Subject) (name line : List ℕ) → kind_of_answer (authorisation policy name line) ≡ Authorisation
authorisation_kind policy name line = authorised_kind policy name line (user_named policy name)

service_kind : (policy : List Subject) (name service : List ℕ) (protocol : Option (List ℕ)) → kind_of_answer (service_answer policy name service protocol) ≡ Authorisation
service_kind policy name service protocol = served_kind policy (name_of name) (service_named service protocol)

other_kind : (answer : Answer) (kind : AskKind) → kind_of_answer answer ≡ kind → (Authentication ≡ kind → ⊥) → answer ≡ Pass → ⊥
other_kind answer kind is not is_pass = not (ap kind_of_answer (sym is_pass) ∙ is)

-- ---- who passes

module _ (meaning : Meaning) where
  passes : (ask : Ask) → (asked meaning ask).answer ≡ Pass → Passes meaning ask
  passes (Authenticate name service proof) e = by_user meaning.policy name service proof (user_named meaning.policy name) refl e
  passes (Authorise name line) e =
      other_kind _ Authorisation (authorisation_kind meaning.policy name line) (λ other. cc) e
  passes (Serve name service protocol) e =
      other_kind _ Authorisation (service_kind meaning.policy name service protocol) (λ other. cc) e
  passes (Account item) e = other_kind _ Accounting (stored_kind meaning item) (λ other. cc) e

  pass : (ask : Ask) → Passes meaning ask → (asked meaning ask).answer ≡ Pass
  pass (Authenticate name service proof) h = logged_in meaning.policy name service proof h
  pass (Authorise name line) h = absurd h
  pass (Serve name service protocol) h = absurd h
  pass (Account item) h = absurd h

-- the answer that is wanted says so exactly for whom it should
pub passes_exactly : {E : Type 0} (meaning : Meaning) (ask : Ask) (answer : Answer) → answer ≡ (asked meaning ask).answer
    → (◌≡◌ {A = Result Answer E} (Ok answer) (Ok Pass)) ↔ Passes meaning ask
passes_exactly meaning ask answer is = (λ e. passes meaning ask (sym is ∙ cc), λ h. ap (λ a. Ok a) (is ∙ pass meaning ask h))
