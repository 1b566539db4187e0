-- The text of a policy: which policy its lines make, or the first refusal and its line
-- (docs/POLICY.md). It is of version 2 or 3 if its first line says so, else of version 1. Version 1
-- has another grammar of patterns, and version 3 alone has hashes and services.
use Rattle.std.specs.Prelude.{◌≡◌, ℕ, ◌+◌, List, [], ◌∷◌, ◌++◌, length, map, find, codes, Bool}
use Rattle.std.specs.Prelude.{true, false, not, ◌&&◌, ◌||◌, nat_le, nat_eq, nat_lt, is_some, ok_or}
use Rattle.std.specs.Prelude.{Option, Some, None, Result, Ok, Err, if◌then◌else◌}
use Rattle.std.specs.Option.{option_and_then, option_map, option_map_or}
use Rattle.std.specs.List.{list_any}
use Rattle.std.specs.Str.{bytes_eq}
use Rattle.std.specs.Fmt.{decimal}
use Rattle.basics.specs.Symbol.{is_text}
use Rattle.basics.specs.Lines.{split_at_first, without_leading_spaces, lines_of}
use Rattle.basics.specs.Number.{number_of}
use Rattle.pol_pattern.specs.Reading.{pattern_of, pattern_of_old}
use Rattle.pol_text.specs.declared.version.TextVersion.{TextVersion as Version}
use Rattle.pol_text.specs.declared.version.TextVersion.TheVariants.{One, Two, Three}
use Rattle.pol_pattern.specs.declared.fault.PatternFault.{PatternFault}
use Rattle.pol_names.specs.Name.{name_of}
use Rattle.pol_names.specs.Secret.{secret_of}
use Rattle.sha_crypt.specs.HashText.{hash_of}
use Rattle.pol_names.specs.Kept.{secret_line}
use Rattle.pol_names.specs.declared.secret.Credential.TheVariants.{Login, Enable}
use Rattle.pol_names.specs.declared.secret.Secret.{Secret}
use Rattle.pol_names.specs.declared.secret.Secret.TheVariants.{Clear, Hashed}
use Rattle.pol_names.specs.SubjectId.{same_kind, kind_word}
use Rattle.pol_names.specs.Decision.{verdict_word}
use Rattle.pol_names.specs.Service.{service_of, attributed_of, allowing, refusing, any_clash}
use Rattle.pol_names.specs.Service.{is_right_line, line_text}
use Rattle.pol_names.specs.declared.service.ServiceLine.{ServiceLine}
use Rattle.pol_text.specs.Versions.{has_hashes, has_services}
use Rattle.pol_text.specs.Policy.{find_subject, has_parent, ends_within, max_subjects, max_rules}
use Rattle.pol_text.specs.Policy.{max_services, max_chain, max_level}
use Rattle.pol_text.specs.Change.{with_line_last}
use Rattle.pol_names.specs.declared.subject_id.Kind.{Kind}
use Rattle.pol_names.specs.declared.subject_id.Kind.TheVariants.{Group, User}
use Rattle.pol_names.specs.declared.decision.Verdict.{Verdict}
use Rattle.pol_names.specs.declared.decision.Verdict.TheVariants.{Permit, Deny}
use Rattle.pol_text.specs.declared.subject.Rule.{Rule}
use Rattle.pol_text.specs.declared.subject.Subject.{Subject}
use Rattle.pol_text.specs.declared.fault.PolicyRefusal.{PolicyRefusal}
use Rattle.pol_text.specs.declared.fault.PolicyRefusal.TheVariants.{BadLine, BadName, Repeated}
use Rattle.pol_text.specs.declared.fault.PolicyRefusal.TheVariants.{NoSubject, BadPattern, BadValue}
use Rattle.pol_text.specs.declared.fault.PolicyRefusal.TheVariants.{NoSuchParent, Cycle, TooDeep}
use Rattle.pol_text.specs.declared.fault.PolicyRefusal.TheVariants.{Limit}
use Rattle.pol_text.specs.declared.fault.PolicyFault.{PolicyFault}
use Rattle.pol_text.specs.declared.fault.PolicyFault.TheVariants.{Refused, Memory}

infixl 10 ◌>>=◌
abbrev pub ◌>>=◌ : {A B E : Type 0} → Result A E → (A → Result B E) → Result B E
(Ok x) >>= f = f x
(Err e) >>= f = Err e

-- subjects in order, each with the line that it begins at
abbrev pub Draft : Type 0
Draft = List (ℕ × Subject)

abbrev pub subjects_of : Draft → List Subject
subjects_of draft = map (λ entry. entry.1) draft

-- ---- a line that begins a subject

abbrev pub named : List ℕ → Result (List ℕ) PolicyRefusal
named text = ok_or (name_of text) BadName

-- the text is one field: it has no space
abbrev pub is_field : List ℕ → Bool
is_field text = not (is_some (split_at_first 32 text))

-- `in PARENT`, after the name
unfoldable pub with_parent : List ℕ → List ℕ → Result (List ℕ × Option (List ℕ)) PolicyRefusal
with_parent name rest = do
  parts ← ok_or (split_at_first 32 rest) BadLine
  if bytes_eq parts.0 (codes "in") && is_field parts.1
      then (named name >>= λ name. named parts.1 >>= λ parent. Ok (name, Some parent))
      else Err BadLine

-- `NAME` or `NAME in PARENT`, split at its first space
unfoldable pub heading : List ℕ → Option (List ℕ × List ℕ)
    → Result (List ℕ × Option (List ℕ)) PolicyRefusal
heading rest None = named rest >>= λ name. Ok (name, None)
heading rest (Some parts) = with_parent parts.0 parts.1

abbrev pub new_subject : Kind → List ℕ → Option (List ℕ) → Subject
new_subject kind name parent =
    record {
      kind = kind;
      name = name;
      parent = parent;
      login = None;
      enable = None;
      priv_lvl = None;
      services = [];
      rules = [];
    }

-- a new subject goes last, where there is room
unfoldable pub with_subject : ℕ → Kind → List ℕ → Option (List ℕ) → Draft
    → Result Draft PolicyRefusal
with_subject line kind name parent draft =
    if is_some (find_subject (record { kind = kind; name = name }) (subjects_of draft))
    then Err Repeated
    else if nat_le max_subjects (length draft) then Err Limit
    else Ok (draft ++ (line, new_subject kind name parent) ∷ [])

-- ---- a line of the present subject, which is the last

-- one more before the first of those
abbrev pub after_first : {A : Type 0} → A → Option (List A × A) → Option (List A × A)
after_first x None = Some ([], x)
after_first x (Some parts) = Some (x ∷ parts.0, parts.1)

-- the last of a list, and those before it
abbrev pub split_last : {A : Type 0} → List A → Option (List A × A)
split_last [] = None
split_last (x ∷ xs) = after_first x (split_last xs)

-- what a line makes of the present subject
unfoldable pub with_present : (Subject → Result Subject PolicyRefusal) → Draft
    → Result Draft PolicyRefusal
with_present change draft = do
  parts ← ok_or (split_last draft) NoSubject
  subject ← change parts.1.1
  Ok (parts.0 ++ (parts.1.0, subject) ∷ [])

-- a setting that isn't there yet
abbrev pub set_once : {A : Type 0} → Option A → Option A → (A → Subject)
    → Result Subject PolicyRefusal
set_once (Some old) value change = Err Repeated
set_once None None change = Err BadValue
set_once None (Some value) change = Ok (change value)

abbrev pub with_login : List ℕ → Subject → Result Subject PolicyRefusal
with_login text subject =
    if same_kind subject.kind Group then Err BadLine
    else set_once subject.login (option_map Clear (secret_of text))
    (λ secret. record subject { login = Some secret })

abbrev pub with_enable : List ℕ → Subject → Result Subject PolicyRefusal
with_enable text subject =
    if same_kind subject.kind Group then Err BadLine
    else set_once subject.enable (option_map Clear (secret_of text))
    (λ secret. record subject { enable = Some secret })

abbrev pub with_login_hash : List ℕ → Subject → Result Subject PolicyRefusal
with_login_hash text subject =
    if same_kind subject.kind Group then Err BadLine
    else set_once subject.login (option_map Hashed (hash_of text))
    (λ secret. record subject { login = Some secret })

abbrev pub with_enable_hash : List ℕ → Subject → Result Subject PolicyRefusal
with_enable_hash text subject =
    if same_kind subject.kind Group then Err BadLine
    else set_once subject.enable (option_map Hashed (hash_of text))
    (λ secret. record subject { enable = Some secret })

-- 1 to 4 digits
abbrev pub level_of : List ℕ → Option ℕ
level_of text =
    option_and_then (λ level. if nat_le level max_level then Some level else None)
    (number_of 4 text)

abbrev pub with_priv : List ℕ → Subject → Result Subject PolicyRefusal
with_priv text subject =
    set_once subject.priv_lvl (level_of text) (λ level. record subject { priv_lvl = Some level })

-- a line about a service goes last, where it clashes with none and there is room
unfoldable pub with_service : ServiceLine → Subject → Result Subject PolicyRefusal
with_service line subject =
    if any_clash subject.services line then Err Repeated
    else if not (is_right_line line) then Err BadValue
    else if nat_le max_services (length subject.services) then Err Limit
    else Ok (with_line_last line subject)

-- what follows `service `: a service, and perhaps an attribute
abbrev pub allowed_by : List ℕ → Result ServiceLine PolicyRefusal
allowed_by text = ok_or (option_map (λ read. allowing read.0 read.1) (attributed_of text)) BadName

-- what follows `refuse `: a service alone
abbrev pub refused_by : List ℕ → Result ServiceLine PolicyRefusal
refused_by text =
    if is_field text then ok_or (option_map refusing (service_of text)) BadName else Err BadLine

-- the pattern that a rule of a text of this version spells: version 3 has the patterns of version
-- 2, of which a pattern's own source is
abbrev pub pattern_in : Version → List ℕ → Result (List ℕ) PatternFault
pattern_in One text = pattern_of_old text
pattern_in Two text = pattern_of text
pattern_in Three text = pattern_of text

abbrev pub pattern_read : Version → List ℕ → Result (List ℕ) PolicyRefusal
pattern_read version text = refusing (pattern_in version text)
  where
    refusing : Result (List ℕ) PatternFault → Result (List ℕ) PolicyRefusal
    refusing (Ok source) = Ok source
    refusing (Err fault) = Err (BadPattern fault)

-- a rule goes last, where there is room
unfoldable pub with_rule : Version → Verdict → List ℕ → Subject → Result Subject PolicyRefusal
with_rule version verdict text subject =
    pattern_read version text >>= λ pattern.
    if nat_le max_rules (length subject.rules) then Err Limit
    else Ok (record subject {
      rules = subject.rules
          ++ record { verdict = verdict; pattern = pattern } ∷ [];
    })

-- ---- lines

-- the policy after a line of this first word, which a space follows
unfoldable pub with_words : Version → ℕ → List ℕ → List ℕ → Draft → Result Draft PolicyRefusal
with_words version number word rest draft =
    if bytes_eq word (codes "group")
    then (heading rest (split_at_first 32 rest)
    >>= λ ids. with_subject number Group ids.0 ids.1 draft)
    else if bytes_eq word (codes "user")
    then (heading rest (split_at_first 32 rest)
    >>= λ ids. with_subject number User ids.0 ids.1 draft)
    else if bytes_eq word (codes "service") && has_services version
    then (allowed_by rest >>= λ line. with_present (with_service line) draft)
    else if bytes_eq word (codes "refuse") && has_services version
    then (refused_by rest >>= λ line. with_present (with_service line) draft)
    else if bytes_eq word (codes "login") then with_present (with_login rest) draft
    else if bytes_eq word (codes "enable") then with_present (with_enable rest) draft
    else if bytes_eq word (codes "login-hash") && has_hashes version
    then with_present (with_login_hash rest) draft
    else if bytes_eq word (codes "enable-hash") && has_hashes version
    then with_present (with_enable_hash rest) draft
    else if bytes_eq word (codes "priv")
    then (if is_field rest then with_present (with_priv rest) draft else Err BadLine)
    else if bytes_eq word (codes "permit") then with_present (with_rule version Permit rest) draft
    else if bytes_eq word (codes "deny") then with_present (with_rule version Deny rest) draft
    else Err BadLine

-- an empty line, or one that begins with `#`
abbrev pub is_blank : List ℕ → Bool
is_blank [] = true
is_blank (byte ∷ bytes) = nat_eq byte 35

unfoldable pub with_trimmed : Version → ℕ → List ℕ → Draft → Result Draft PolicyRefusal
with_trimmed version number line draft =
    if is_blank line then Ok draft
    else (ok_or (split_at_first 32 line) BadLine
    >>= λ parts. with_words version number parts.0 parts.1 draft)

-- the policy after one more line: it has symbols alone, and its leading spaces are dropped
unfoldable pub with_line : Version → ℕ → List ℕ → Draft → Result Draft PolicyRefusal
with_line version number line draft =
    if is_text line then with_trimmed version number (without_leading_spaces line) draft
    else Err BadLine

-- a refusal with the line that it is at
abbrev pub at_line : {A : Type 0} → ℕ → Result A PolicyRefusal → Result A PolicyFault
at_line number (Ok x) = Ok x
at_line number (Err refusal) = Err (Refused number refusal)

-- the policy after these lines, of which the first has this number; the first faulty line decides
unfoldable pub with_lines : Version → ℕ → List (List ℕ) → Draft → Result Draft PolicyFault
with_lines version number [] draft = Ok draft
with_lines version number (line ∷ lines) draft =
    at_line number (with_line version number line draft)
    >>= λ next. with_lines version (number + 1) lines next

-- ---- whole texts

-- the first line of a text of version 2
abbrev pub version_line : List ℕ
version_line = codes "policy 2"

-- and of one of version 3
abbrev pub third_line : List ℕ
third_line = codes "policy 3"

-- lines that say a policy, the number of the first, and their version
pub record Body : Type 0 where
  pub version : Version
  pub number : ℕ
  pub lines : List (List ℕ)

-- the lines of a text without the one that says its version, which counts
abbrev pub body_of : List (List ℕ) → Body
body_of [] = record { version = One; number = 1; lines = [] }
body_of (line ∷ lines) =
    if bytes_eq line version_line
    then record { version = Two; number = 2; lines = lines }
    else if bytes_eq line third_line
    then record { version = Three; number = 2; lines = lines }
    else record { version = One; number = 1; lines = line ∷ lines }

abbrev pub with_body : Body → Result Draft PolicyFault
with_body body = with_lines body.version body.number body.lines []

-- the first subject that fails a test is refused, at its line
unfoldable pub checked : (Subject → Bool) → PolicyRefusal → Draft → Result Draft PolicyFault
checked test refusal draft =
    option_map_or (λ entry. Err (Refused entry.0 refusal))
    (find (λ entry. not (test entry.1)) draft) (Ok draft)

-- each over all subjects in order: its parent is a group of the policy; its chain
-- ends, and so has no subject twice; its chain isn't too long
unfoldable pub with_right_chains : Draft → Result (List Subject) PolicyFault
with_right_chains draft =
    checked (has_parent (subjects_of draft)) NoSuchParent draft
    >>= checked (ends_within (length draft) (subjects_of draft)) Cycle
    >>= checked (ends_within max_chain (subjects_of draft)) TooDeep
    >>= λ draft. Ok (subjects_of draft)

-- the policy that a text says, or the first refusal with its line
unfoldable pub policy_of : List ℕ → Result (List Subject) PolicyFault
policy_of text = with_body (body_of (lines_of text)) >>= with_right_chains

-- ---- the printed form

abbrev pub heading_line : Subject → List ℕ
heading_line subject =
    kind_word subject.kind ++ subject.name
    ++ option_map_or (λ parent. codes " in " ++ parent) subject.parent []

-- a line where there is a value
abbrev pub line_for : {A : Type 0} → (A → List ℕ) → Option A → List (List ℕ)
line_for line None = []
line_for line (Some value) = line value ∷ []

abbrev pub rule_line : Rule → List ℕ
rule_line rule = verdict_word rule.verdict ++ rule.pattern

-- its line, then its secrets and its level where set, then its services, then its rules
abbrev pub subject_lines : Subject → List (List ℕ)
subject_lines subject =
    heading_line subject ∷ (line_for (secret_line Login) subject.login
    ++ line_for (secret_line Enable) subject.enable
    ++ line_for (λ level. codes "priv " ++ decimal level) subject.priv_lvl
    ++ map line_text subject.services ++ map rule_line subject.rules)

abbrev pub policy_lines : List Subject → List (List ℕ)
policy_lines [] = []
policy_lines (subject ∷ rest) = subject_lines subject ++ policy_lines rest

-- every line with its LF
abbrev pub text_of_lines : List (List ℕ) → List ℕ
text_of_lines [] = []
text_of_lines (line ∷ lines) = line ++ 10 ∷ text_of_lines lines

abbrev pub is_hashed : Option Secret → Bool
is_hashed None = false
is_hashed (Some (Clear text)) = false
is_hashed (Some (Hashed hash)) = true

-- whether a subject has what only version 3 can say
abbrev pub needs_third : Subject → Bool
needs_third subject =
    is_hashed subject.login || is_hashed subject.enable || nat_lt 0 (length subject.services)

-- the first line of the least version that can say the policy
abbrev pub first_line : List Subject → List ℕ
first_line policy = if list_any needs_third policy then third_line else version_line

unfoldable pub text_of : List Subject → List ℕ
text_of policy = text_of_lines (first_line policy ∷ policy_lines policy)

-- ---- what a function returned, against what was wanted

-- the fault is the wanted one, or memory ran out
abbrev pub FailsUnlessMemory : {Y : Type 0} → PolicyFault → Result Y PolicyFault → Type 0
FailsUnlessMemory Memory wanted = Unit {0}
FailsUnlessMemory (Refused line refusal) wanted = wanted ≡ Err (Refused line refusal)

-- the result, seen by view, is the wanted one, unless memory ran out
abbrev pub IsUnlessMemory : {X Y : Type 0} → (X → Y) → Result X PolicyFault → Result Y PolicyFault
    → Type 0
IsUnlessMemory view (Ok x) wanted = wanted ≡ Ok (view x)
IsUnlessMemory view (Err fault) wanted = FailsUnlessMemory fault wanted
