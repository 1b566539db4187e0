-- The line of an edit (docs/POLICY.md, "Edits").
use Rattle.std.specs.Prelude.{ℕ, List, codes, Option, Some, None, if◌then◌else◌, option_map}
use Rattle.std.specs.Prelude.{Bool, true, false, is_some}
use Rattle.std.specs.Option.{option_map_or}
use Rattle.std.specs.Str.{bytes_eq}
use Rattle.basics.specs.Symbol.{is_text}
use Rattle.basics.specs.Lines.{split_at_first}
use Rattle.basics.specs.Number.{number_of}
use Rattle.pol_names.specs.Name.{name_of}
use Rattle.pol_names.specs.Service.{service_of, attributed_of, attribute_in, allowing, refusing}
use Rattle.pol_names.specs.declared.secret.Credential.{Credential}
use Rattle.pol_names.specs.declared.secret.Credential.TheVariants.{Login, Enable}
use Rattle.pol_names.specs.declared.subject_id.Kind.{Kind}
use Rattle.pol_names.specs.declared.subject_id.Kind.TheVariants.{Group, User}
use Rattle.pol_names.specs.declared.decision.Verdict.{Verdict}
use Rattle.pol_names.specs.declared.decision.Verdict.TheVariants.{Permit, Deny}
use Rattle.pol_names.specs.declared.subject_id.SubjectId.{SubjectId}
use Rattle.pol_edit.specs.declared.edit.Edit.{Edit}
use Rattle.pol_edit.specs.declared.edit.Edit.TheVariants.{AddGroup, AddUser, Remove, SetParent}
use Rattle.pol_edit.specs.declared.edit.Edit.TheVariants.{SetLogin, SetEnable, SetPriv, InsertRule}
use Rattle.pol_edit.specs.declared.edit.Edit.TheVariants.{SetHash, AddService, ClearService}
use Rattle.pol_edit.specs.declared.edit.Edit.TheVariants.{RemoveRule, MoveRule}

infixl 10 ◌>>=◌
abbrev pub ◌>>=◌ : {A B : Type 0} → Option A → (A → Option B) → Option B
None >>= f = None
(Some x) >>= f = f x

-- what stands before the first space, and what stands after it
abbrev pub parted : List ℕ → Option (List ℕ × List ℕ)
parted text = split_at_first 32 text

-- ---- fields

abbrev pub kind_of : List ℕ → Option Kind
kind_of word =
    if bytes_eq word (codes "group") then Some Group
    else if bytes_eq word (codes "user") then Some User else None

abbrev pub verdict_of : List ℕ → Option Verdict
verdict_of word =
    if bytes_eq word (codes "permit") then Some Permit
    else if bytes_eq word (codes "deny") then Some Deny else None

-- the number of a rule, or a level
abbrev pub count_of : List ℕ → Option ℕ
count_of text = number_of 4 text

-- `KIND NAME`
unfoldable pub subject_of : List ℕ → Option SubjectId
subject_of text = do
  parts ← parted text
  kind ← kind_of parts.0
  name ← name_of parts.1
  Some (record { kind = kind; name = name })

-- `KIND NAME`, a space, and the rest
unfoldable pub subject_before : List ℕ → Option (SubjectId × List ℕ)
subject_before text = do
  parts ← parted text
  kind ← kind_of parts.0
  named ← parted parts.1
  name ← name_of named.0
  Some (record { kind = kind; name = name }, named.1)

-- `in NAME`
unfoldable pub parent_of_text : List ℕ → Option (List ℕ)
parent_of_text text = do
  parts ← parted text
  if bytes_eq parts.0 (codes "in") then name_of parts.1 else None

-- ---- edits, after their first word

abbrev pub add_edit : Kind → List ℕ → Option (List ℕ) → Edit
add_edit Group name parent = AddGroup name parent
add_edit User name parent = AddUser name parent

-- `NAME`, or `NAME in PARENT`, split at its first space
abbrev pub added : Kind → List ℕ → Option (List ℕ × List ℕ) → Option Edit
added kind text None = option_map (λ name. add_edit kind name None) (name_of text)
added kind text (Some parts) =
    name_of parts.0
    >>= λ name. option_map (λ parent. add_edit kind name (Some parent)) (parent_of_text parts.1)

-- `KIND NAME` or `KIND NAME in PARENT`
unfoldable pub add_of : List ℕ → Option Edit
add_of rest =
    parted rest >>= λ parts. kind_of parts.0 >>= λ kind. added kind parts.1 (parted parts.1)

-- `KIND NAME in PARENT` or `KIND NAME out`
unfoldable pub move_of : List ℕ → Option Edit
move_of rest = subject_before rest >>= λ front.
    if bytes_eq front.1 (codes "out") then Some (SetParent front.0 None)
    else option_map (λ parent. SetParent front.0 (Some parent)) (parent_of_text front.1)

-- `NAME TEXT`: the text is the whole rest
unfoldable pub secret_for : (List ℕ → Option (List ℕ) → Edit) → List ℕ → Option Edit
secret_for setting rest =
    parted rest >>= λ parts. option_map (λ user. setting user (Some parts.1)) (name_of parts.0)

-- `NAME HASH`: the hash is the whole rest
unfoldable pub hash_for : Credential → List ℕ → Option Edit
hash_for credential rest =
    parted rest
    >>= λ parts. option_map (λ user. SetHash user credential parts.1) (name_of parts.0)

-- `KIND NAME S` or `KIND NAME S ATTRIBUTE`: the attribute is the whole rest
unfoldable pub service_allowed : List ℕ → Option Edit
service_allowed rest = do
  front ← subject_before rest
  read ← attributed_of front.1
  Some (AddService front.0 (allowing read.0 read.1))

-- `KIND NAME S`
unfoldable pub service_refused : List ℕ → Option Edit
service_refused rest =
    subject_before rest
    >>= λ front. option_map (λ service. AddService front.0 (refusing service)) (service_of front.1)

-- `KIND NAME S` or `KIND NAME S ATTRIBUTE`
unfoldable pub service_cleared : List ℕ → Option Edit
service_cleared rest = do
  front ← subject_before rest
  read ← attributed_of front.1
  Some (ClearService front.0 read.0 read.1)

-- `login NAME`, `enable NAME` or `priv KIND NAME`, split at its first space
abbrev pub setting_cleared : List ℕ → List ℕ → Option Edit
setting_cleared word rest =
    if bytes_eq word (codes "login") then option_map (λ user. SetLogin user None) (name_of rest)
    else if bytes_eq word (codes "enable")
    then option_map (λ user. SetEnable user None) (name_of rest)
    else if bytes_eq word (codes "priv")
    then option_map (λ subject. SetPriv subject None) (subject_of rest)
    else None

-- such a setting, or `service KIND NAME S`, perhaps with an attribute
unfoldable pub clear_of : List ℕ → Option Edit
clear_of rest = parted rest >>= λ parts.
    if bytes_eq parts.0 (codes "service") then service_cleared parts.1
    else setting_cleared parts.0 parts.1

-- `KIND NAME LEVEL`
unfoldable pub priv_of : List ℕ → Option Edit
priv_of rest =
    subject_before rest >>= λ front.
    option_map (λ level. SetPriv front.0 (Some level)) (count_of front.1)

-- `KIND NAME AT permit PATTERN` or `KIND NAME AT deny PATTERN`: the pattern is the whole rest
unfoldable pub insert_of : List ℕ → Option Edit
insert_of rest = do
  front ← subject_before rest
  numbered ← parted front.1
  at ← count_of numbered.0
  ruled ← parted numbered.1
  verdict ← verdict_of ruled.0
  Some (InsertRule front.0 at verdict ruled.1)

-- `KIND NAME AT`
unfoldable pub drop_of : List ℕ → Option Edit
drop_of rest =
    subject_before rest >>= λ front. option_map (λ at. RemoveRule front.0 at) (count_of front.1)

-- `KIND NAME FROM TO`
unfoldable pub shift_of : List ℕ → Option Edit
shift_of rest = do
  front ← subject_before rest
  parts ← parted front.1
  from ← count_of parts.0
  to ← count_of parts.1
  Some (MoveRule front.0 from to)

unfoldable pub edit_by : List ℕ → List ℕ → Option Edit
edit_by word rest =
    if bytes_eq word (codes "add") then add_of rest
    else if bytes_eq word (codes "remove") then option_map Remove (subject_of rest)
    else if bytes_eq word (codes "move") then move_of rest
    else if bytes_eq word (codes "login") then secret_for SetLogin rest
    else if bytes_eq word (codes "enable") then secret_for SetEnable rest
    else if bytes_eq word (codes "login-hash") then hash_for Login rest
    else if bytes_eq word (codes "enable-hash") then hash_for Enable rest
    else if bytes_eq word (codes "service") then service_allowed rest
    else if bytes_eq word (codes "refuse") then service_refused rest
    else if bytes_eq word (codes "clear") then clear_of rest
    else if bytes_eq word (codes "priv") then priv_of rest
    else if bytes_eq word (codes "insert") then insert_of rest
    else if bytes_eq word (codes "drop") then drop_of rest
    else if bytes_eq word (codes "shift") then shift_of rest
    else None

-- the edit that a line of symbols says; nothing where it is no edit
unfoldable pub edit_of : List ℕ → Option Edit
edit_of line = if is_text line then (parted line >>= λ parts. edit_by parts.0 parts.1) else None

-- ---- memory

-- whether an edit has a secret, a hash, an attribute or a pattern, which take memory to keep
abbrev pub has_text : Edit → Bool
has_text (SetLogin user secret) = is_some secret
has_text (SetEnable user secret) = is_some secret
has_text (SetHash user credential hash) = true
has_text (AddService subject line) = is_some (attribute_in line.says)
has_text (ClearService subject service attribute) = is_some attribute
has_text (InsertRule subject at verdict pattern) = true
has_text edit = false

-- whether an attribute follows a service
abbrev pub has_attribute : List ℕ → Bool
has_attribute text = option_map_or (λ read. is_some read.1) (attributed_of text) false

abbrev pub has_text_in : Option Edit → Bool
has_text_in edit = option_map_or has_text edit false
