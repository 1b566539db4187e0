-- Which secrets of users differ between two policies (docs/REVIEW.md).
use Rattle.std.specs.Prelude.{◌≡◌, ◌↔◌, ℕ, List, ◌++◌, Contains, Option, Some, None, option_map}
use Rattle.std.specs.Prelude.{option_to_list, if◌then◌else◌}
use Rattle.std.specs.List.{flat_map}
use Rattle.std.specs.Option.{option_and_then}
use Rattle.pol_names.specs.Kept.{same_secret}
use Rattle.pol_names.specs.SubjectId.{user_id}
use Rattle.pol_names.specs.declared.secret.Credential.{Credential}
use Rattle.pol_names.specs.declared.secret.Credential.TheVariants.{Login, Enable}
use Rattle.pol_names.specs.declared.secret.Secret.{Secret}
use Rattle.pol_text.specs.Policy.{find_subject}
use Rattle.pol_text.specs.Setting.{secret_for}
use Rattle.pol_text.specs.declared.subject.Subject.{Subject}
use Rattle.pol_meaning.specs.LineChanges.{users_of, users_alone}
use Rattle.pol_secrets.specs.declared.secret_change.Alteration.{Alteration}
use Rattle.pol_secrets.specs.declared.secret_change.Alteration.TheVariants.{Set, Changed, Cleared}
use Rattle.pol_secrets.specs.declared.secret_change.SecretChange.{SecretChange}

-- what the user logs in or enables with, if anything; who isn't in the policy has no secret
abbrev pub secret_in : List Subject → List ℕ → Credential → Option Secret
secret_in policy user credential =
    option_and_then (secret_for credential) (find_subject (user_id user) policy)

-- what became of a secret, if anything did: two in the clear are compared as texts, and two hashes
-- too; one in the clear and a hash are never the same
abbrev pub alteration_of : Option Secret → Option Secret → Option Alteration
alteration_of None None = None
alteration_of None (Some is) = Some Set
alteration_of (Some was) None = Some Cleared
alteration_of (Some was) (Some is) = if same_secret was is then None else Some Changed

-- what became of this secret of the user
abbrev pub alteration_in : List Subject → List Subject → List ℕ → Credential → Option Alteration
alteration_in before after user credential =
    alteration_of (secret_in before user credential) (secret_in after user credential)

abbrev pub changed_so : List ℕ → Credential → Alteration → SecretChange
changed_so user credential alteration =
    record { user = user; credential = credential; alteration = alteration }

abbrev pub secret_change : List Subject → List Subject → List ℕ → Credential → List SecretChange
secret_change before after user credential =
    option_to_list
    (option_map (changed_so user credential) (alteration_in before after user credential))

-- of one user
abbrev pub secret_changes_of : List Subject → List Subject → List ℕ → List SecretChange
secret_changes_of before after user =
    secret_change before after user Login ++ secret_change before after user Enable

-- of the users of the new policy, and then of those of the old one alone
abbrev pub secret_changes : List Subject → List Subject → List SecretChange
secret_changes before after =
    flat_map (secret_changes_of before after) (users_of after ++ users_alone after before)

-- a change is listed exactly where that became of the secret
abbrev pub AreAllOf : List Subject → List Subject → List SecretChange → Type 0
AreAllOf before after changes =
    (user : List ℕ) (credential : Credential) (alteration : Alteration)
    → Contains changes (changed_so user credential alteration)
    ↔ (alteration_in before after user credential ≡ Some alteration)
