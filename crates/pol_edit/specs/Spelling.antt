-- Which line spells which edit: the grammar, by cases (docs/POLICY.md, "Edits").
--
--   edit    = "add " subject [ " in " name ]
--           | "remove " subject
--           | "move " subject ( " in " name | " out" )
--           | "login " name " " text
--           | "enable " name " " text
--           | "login-hash " name " " text
--           | "enable-hash " name " " text
--           | "service " subject " " service [ " " text ]
--           | "refuse " subject " " service
--           | "clear service " subject " " service [ " " text ]
--           | "clear login " name
--           | "clear enable " name
--           | "clear priv " subject
--           | "priv " subject " " number
--           | "insert " subject " " number " " ( "permit" | "deny" ) " " text
--           | "drop " subject " " number
--           | "shift " subject " " number " " number
--   subject = ( "group" | "user" ) " " name
--   service = name [ "/" name ]
--   number  = 1 to 4 digits
--   text    = { symbol }
use Rattle.std.specs.Prelude.{◌≡◌, ℕ, List, [], ◌++◌, codes, IsTrue, Option, Some, None}
use Rattle.std.specs.Option.{option_map_or}
use Rattle.basics.specs.Symbol.{is_text}
use Rattle.basics.specs.Number.{number_of}
use Rattle.pol_names.specs.Name.{is_name}
use Rattle.pol_text.specs.Policy.{all_of}
use Rattle.pol_names.specs.SubjectId.{subject_text}
use Rattle.pol_names.specs.Decision.{verdict_word}
use Rattle.pol_names.specs.Secret.{hash_word}
use Rattle.pol_names.specs.Service.{is_service, says_word, attributed_text, attribute_in}
use Rattle.pol_names.specs.declared.service.ServiceId.{ServiceId}
use Rattle.pol_edit.specs.declared.edit.Edit.{Edit}
use Rattle.pol_edit.specs.declared.edit.Edit.TheVariants.{AddGroup, AddUser, Remove, SetParent}
use Rattle.pol_edit.specs.declared.edit.Edit.TheVariants.{SetLogin, SetEnable, SetPriv, InsertRule}
use Rattle.pol_edit.specs.declared.edit.Edit.TheVariants.{SetHash, AddService, ClearService}
use Rattle.pol_edit.specs.declared.edit.Edit.TheVariants.{RemoveRule, MoveRule}

abbrev pub IsName : List ℕ → Type 0
IsName name = IsTrue (is_name name)

abbrev pub IsParent : Option (List ℕ) → Type 0
IsParent parent = IsTrue (all_of is_name parent)

abbrev pub IsService : ServiceId → Type 0
IsService service = IsTrue (is_service service)

-- the digits spell the number, also with leading zeros
abbrev pub SpellsNumber : List ℕ → ℕ → Type 0
SpellsNumber digits n = number_of 4 digits ≡ Some n

-- ` in PARENT`, or what stands where there is no parent
abbrev pub parent_text : Option (List ℕ) → List ℕ → List ℕ
parent_text parent none = option_map_or (λ name. codes " in " ++ name) parent none

-- the words of each edit
abbrev pub SpellsWords : List ℕ → Edit → Type 0
SpellsWords line (AddGroup name parent) =
    (line ≡ codes "add group " ++ name ++ parent_text parent []) × IsName name × IsParent parent
SpellsWords line (AddUser name parent) =
    (line ≡ codes "add user " ++ name ++ parent_text parent []) × IsName name × IsParent parent
SpellsWords line (Remove subject) =
    (line ≡ codes "remove " ++ subject_text subject) × IsName subject.name
SpellsWords line (SetParent subject parent) =
    (line ≡ codes "move " ++ subject_text subject ++ parent_text parent (codes " out"))
    × IsName subject.name × IsParent parent
SpellsWords line (SetLogin user (Some text)) =
    (line ≡ codes "login " ++ user ++ codes " " ++ text) × IsName user
SpellsWords line (SetLogin user None) = (line ≡ codes "clear login " ++ user) × IsName user
SpellsWords line (SetEnable user (Some text)) =
    (line ≡ codes "enable " ++ user ++ codes " " ++ text) × IsName user
SpellsWords line (SetEnable user None) = (line ≡ codes "clear enable " ++ user) × IsName user
SpellsWords line (SetHash user credential text) =
    (line ≡ hash_word credential ++ user ++ codes " " ++ text) × IsName user
SpellsWords line (SetPriv subject (Some level)) =
    (digits : List ℕ) × (line ≡ codes "priv " ++ subject_text subject ++ codes " " ++ digits)
    × IsName subject.name × SpellsNumber digits level
SpellsWords line (SetPriv subject None) =
    (line ≡ codes "clear priv " ++ subject_text subject) × IsName subject.name
SpellsWords line (AddService subject said) =
    (line ≡ says_word said.says ++ subject_text subject ++ codes " "
    ++ attributed_text said.service (attribute_in said.says))
    × IsName subject.name × IsService said.service
SpellsWords line (ClearService subject service attribute) =
    (line ≡ codes "clear service " ++ subject_text subject ++ codes " "
    ++ attributed_text service attribute)
    × IsName subject.name × IsService service
SpellsWords line (InsertRule subject at verdict pattern) =
    (digits : List ℕ)
    × (line ≡ codes "insert " ++ subject_text subject ++ codes " " ++ digits ++ codes " "
    ++ verdict_word verdict ++ pattern)
    × IsName subject.name × SpellsNumber digits at
SpellsWords line (RemoveRule subject at) =
    (digits : List ℕ) × (line ≡ codes "drop " ++ subject_text subject ++ codes " " ++ digits)
    × IsName subject.name × SpellsNumber digits at
SpellsWords line (MoveRule subject from to) =
    (here there : List ℕ)
    × (line ≡ codes "shift " ++ subject_text subject ++ codes " " ++ here ++ codes " " ++ there)
    × IsName subject.name × SpellsNumber here from × SpellsNumber there to

-- all of the line are symbols
abbrev pub Spells : List ℕ → Edit → Type 0
Spells line edit = IsTrue (is_text line) × SpellsWords line edit
