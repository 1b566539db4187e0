-- What a line of the present subject makes of it.
use Rattle.std.specs.Prelude.{ℕ, List, Option, Some, None, Result, Err, if◌then◌else◌}
use Rattle.std.specs.Option.{option_map}
use Rattle.basics.specs.Lines.{split_at_first}
use Rattle.pol_names.specs.Secret.{secret_of}
use Rattle.sha_crypt.specs.HashText.{hash_of}
use Rattle.pol_names.specs.declared.secret.Secret.{Secret as SecretValue}
use Rattle.pol_names.specs.declared.secret.Secret.TheVariants.{Clear, Hashed}
use Rattle.pol_names.specs.SubjectId.{same_kind}
use Rattle.pol_names.specs.declared.secret.Credential.{Credential}
use Rattle.pol_names.specs.declared.secret.Credential.TheVariants as credentials
use Rattle.pol_names.specs.declared.subject_id.Kind.{Kind}
use Rattle.pol_names.specs.declared.subject_id.Kind.TheVariants.{Group}
use Rattle.pol_text.specs.declared.fault.PolicyRefusal.{PolicyRefusal}
use Rattle.pol_text.specs.declared.fault.PolicyRefusal.TheVariants.{BadLine}
use Rattle.pol_text.specs.declared.subject.Subject.{Subject}
use Rattle.pol_text.specs.declared.setting.Setting.{Setting}
use Rattle.pol_text.specs.declared.setting.Setting.TheVariants.{Secret, Hash, Priv, Rule}
use Rattle.pol_text.specs.Change.{with_secret}
use Rattle.pol_text.specs.Text.{◌>>=◌, Draft, heading, with_subject, with_present, set_once}
use Rattle.pol_text.specs.Text.{with_priv, with_rule}

-- the secret that a subject logs in with, or enables with
abbrev pub secret_for : Credential → Subject → Option SecretValue
secret_for credentials.Login subject = subject.login
secret_for credentials.Enable subject = subject.enable

-- what a line `login` or `enable` makes of a subject
abbrev pub secret_given : Credential → List ℕ → Subject → Result Subject PolicyRefusal
secret_given credential text subject =
    if same_kind subject.kind Group then Err BadLine
    else set_once (secret_for credential subject) (option_map Clear (secret_of text))
    (λ secret. with_secret credential (Some secret) subject)

-- what a line `login-hash` or `enable-hash` makes of it
abbrev pub hash_given : Credential → List ℕ → Subject → Result Subject PolicyRefusal
hash_given credential text subject =
    if same_kind subject.kind Group then Err BadLine
    else set_once (secret_for credential subject) (option_map Hashed (hash_of text))
    (λ secret. with_secret credential (Some secret) subject)

abbrev pub changed_by : Setting → Subject → Result Subject PolicyRefusal
changed_by (Secret credential text) = secret_given credential text.now
changed_by (Hash credential text) = hash_given credential text.now
changed_by (Priv text) = with_priv text.now
changed_by (Rule version verdict text) = with_rule version verdict text.now

-- the draft after a line that begins a subject, by what follows the line's first word
abbrev pub with_heading : ℕ → Kind → List ℕ → Draft → Result Draft PolicyRefusal
with_heading number kind rest draft =
    heading rest (split_at_first 32 rest)
    >>= λ ids. with_subject number kind ids.0 ids.1 draft

-- the draft after a line that sets this, or that sets nothing
abbrev pub with_setting : Option Setting → Draft → Result Draft PolicyRefusal
with_setting None draft = Err BadLine
with_setting (Some setting) draft = with_present (changed_by setting) draft
