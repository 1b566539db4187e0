-- How it is told what became of secrets (docs/REVIEW.md). Every line ends in LF.
use Rattle.std.specs.Prelude.{ℕ, List, [], ◌∷◌, ◌++◌, codes}
use Rattle.std.specs.List.{flat_map}
use Rattle.pol_names.specs.Secret.{credential_word}
use Rattle.pol_text.specs.declared.subject.Subject.{Subject}
use Rattle.pol_secrets.specs.Altering.{secret_changes}
use Rattle.pol_secrets.specs.declared.secret_change.Alteration.{Alteration}
use Rattle.pol_secrets.specs.declared.secret_change.Alteration.TheVariants.{Set, Changed, Cleared}
use Rattle.pol_secrets.specs.declared.secret_change.SecretChange.{SecretChange}

abbrev pub alteration_word : Alteration → List ℕ
alteration_word Set = codes "set"
alteration_word Changed = codes "changed"
alteration_word Cleared = codes "cleared"

-- the user, the word that sets the secret, and what became of it: nothing else of the secret
abbrev pub secret_change_line : SecretChange → List ℕ
secret_change_line change =
    codes "user " ++ change.user ++ codes " " ++ credential_word change.credential
    ++ alteration_word change.alteration ++ 10 ∷ []

abbrev pub secret_lines : List SecretChange → List ℕ
secret_lines changes = flat_map secret_change_line changes

-- what another policy in the place of the present one changes
abbrev pub secrets_text : List Subject → List Subject → List ℕ
secrets_text before after = secret_lines (secret_changes before after)
