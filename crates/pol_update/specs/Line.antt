-- The line that the console reads an edit from (docs/POLICY.md, "Edits"), with the fewest digits.
use Rattle.std.specs.Prelude.{ℕ, List, [], ◌++◌, codes, Option, Some, None}
use Rattle.std.specs.Fmt.{decimal}
use Rattle.pol_names.specs.SubjectId.{subject_text}
use Rattle.pol_names.specs.Decision.{verdict_word}
use Rattle.pol_names.specs.Secret.{credential_word, hash_word}
use Rattle.pol_names.specs.Service.{says_word, attributed_text, attribute_in}
use Rattle.pol_names.specs.declared.secret.Credential.{Credential}
use Rattle.pol_names.specs.declared.secret.Credential.TheVariants.{Login, Enable}
use Rattle.pol_names.specs.declared.subject_id.SubjectId.{SubjectId}
use Rattle.pol_edit.specs.Spelling.{parent_text, IsName, IsParent}
use Rattle.pol_edit.specs.declared.edit.Edit.{Edit}
use Rattle.pol_edit.specs.declared.edit.Edit.TheVariants.{AddGroup, AddUser, Remove, SetParent}
use Rattle.pol_edit.specs.declared.edit.Edit.TheVariants.{SetLogin, SetEnable, SetPriv, InsertRule}
use Rattle.pol_edit.specs.declared.edit.Edit.TheVariants.{SetHash, AddService, ClearService}
use Rattle.pol_edit.specs.declared.edit.Edit.TheVariants.{RemoveRule, MoveRule}

abbrev pub secret_line : Credential → List ℕ → Option (List ℕ) → List ℕ
secret_line credential user (Some text) = credential_word credential ++ user ++ codes " " ++ text
secret_line credential user None = codes "clear " ++ credential_word credential ++ user

abbrev pub level_line : SubjectId → Option ℕ → List ℕ
level_line subject (Some level) =
    codes "priv " ++ subject_text subject ++ codes " " ++ decimal level
level_line subject None = codes "clear priv " ++ subject_text subject

-- without its LF
abbrev pub edit_line : Edit → List ℕ
edit_line (AddGroup name parent) = codes "add group " ++ name ++ parent_text parent []
edit_line (AddUser name parent) = codes "add user " ++ name ++ parent_text parent []
edit_line (Remove subject) = codes "remove " ++ subject_text subject
edit_line (SetParent subject parent) =
    codes "move " ++ subject_text subject ++ parent_text parent (codes " out")
edit_line (SetLogin user secret) = secret_line Login user secret
edit_line (SetEnable user secret) = secret_line Enable user secret
edit_line (SetHash user credential text) =
    hash_word credential ++ user ++ codes " " ++ text
edit_line (SetPriv subject level) = level_line subject level
edit_line (AddService subject said) =
    says_word said.says ++ subject_text subject ++ codes " "
    ++ attributed_text said.service (attribute_in said.says)
edit_line (ClearService subject service attribute) =
    codes "clear service " ++ subject_text subject ++ codes " "
    ++ attributed_text service attribute
edit_line (InsertRule subject at verdict pattern) =
    codes "insert " ++ subject_text subject ++ codes " " ++ decimal at ++ codes " "
    ++ verdict_word verdict ++ pattern
edit_line (RemoveRule subject at) =
    codes "drop " ++ subject_text subject ++ codes " " ++ decimal at
edit_line (MoveRule subject from to) =
    codes "shift " ++ subject_text subject ++ codes " " ++ decimal from ++ codes " " ++ decimal to

-- ---- names

-- the edit's names are names, as those of the code are by their type
abbrev pub HasNames : Edit → Type 0
HasNames (AddGroup name parent) = IsName name × IsParent parent
HasNames (AddUser name parent) = IsName name × IsParent parent
HasNames (Remove subject) = IsName subject.name
HasNames (SetParent subject parent) = IsName subject.name × IsParent parent
HasNames (SetLogin user secret) = IsName user
HasNames (SetEnable user secret) = IsName user
HasNames (SetHash user credential text) = IsName user
HasNames (SetPriv subject level) = IsName subject.name
HasNames (AddService subject said) = IsName subject.name
HasNames (ClearService subject service attribute) = IsName subject.name
HasNames (InsertRule subject at verdict pattern) = IsName subject.name
HasNames (RemoveRule subject at) = IsName subject.name
HasNames (MoveRule subject from to) = IsName subject.name
