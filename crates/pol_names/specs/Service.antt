-- Services: what devices ask for beside commands, and what a line of a policy says of one
-- (docs/POLICY.md, "Services").
use Rattle.std.specs.Prelude.{ℕ, List, [], ◌++◌, length, take, codes, Bool, true, false, not}
use Rattle.std.specs.Prelude.{◌&&◌, ◌||◌, ◌==◌, nat_lt, nat_le, is_some, Option, Some, None}
use Rattle.std.specs.Prelude.{if◌then◌else◌}
use Rattle.std.specs.List.{list_any, list_all, position}
use Rattle.std.specs.Option.{option_and_then, option_map, option_map_or}
use Rattle.std.specs.Str.{bytes_eq}
use Rattle.basics.specs.Lines.{split_at_first}
use Rattle.basics.specs.Symbol.{is_text}
use Rattle.pol_names.specs.Name.{is_name, name_of}
use Rattle.pol_names.specs.SameService.{same_service}
use Rattle.pol_names.specs.declared.service.ServiceId.{ServiceId}
use Rattle.pol_names.specs.declared.service.Says.{Says}
use Rattle.pol_names.specs.declared.service.Says.TheVariants.{Allows, Refuses}
use Rattle.pol_names.specs.declared.service.ServiceLine.{ServiceLine}

-- ---- which service

abbrev pub is_shell : List ℕ → Bool
is_shell name = bytes_eq name (codes "shell")

-- a shell has no protocol
abbrev pub is_service : ServiceId → Bool
is_service service =
    is_name service.name && option_map_or is_name service.protocol true
    && not (is_shell service.name && is_some service.protocol)

-- `NAME` or `NAME/PROTOCOL`
abbrev pub service_text : ServiceId → List ℕ
service_text service =
    service.name ++ option_map_or (λ protocol. codes "/" ++ protocol) service.protocol []

-- the service of a text that is split at its first `/`
abbrev pub service_split : List ℕ → Option (List ℕ × List ℕ) → Option ServiceId
service_split text None =
    option_map (λ name. record { name = name; protocol = None }) (name_of text)
service_split text (Some parts) =
    if is_shell parts.0 then None
    else option_and_then (λ name. option_map (λ protocol.
    record { name = name; protocol = Some protocol }) (name_of parts.1)) (name_of parts.0)

abbrev pub service_of : List ℕ → Option ServiceId
service_of text = service_split text (split_at_first 47 text)

-- ---- attributes

-- `=` comes before the value of a mandatory attribute, and `*` before that of an optional one
abbrev pub is_sign : ℕ → Bool
is_sign byte = byte == 61 || byte == 42

-- what stands before the first sign
abbrev pub attribute_name : List ℕ → Option (List ℕ)
attribute_name text = option_map (λ at. take at text) (position is_sign text)

abbrev pub lacks_blanks : List ℕ → Bool
lacks_blanks text = list_all (λ byte. not (byte == 32)) text

-- at least one byte, and no blank
abbrev pub is_attribute_name : List ℕ → Bool
is_attribute_name name = nat_lt 0 (length name) && lacks_blanks name

abbrev pub has_attribute_name : List ℕ → Bool
has_attribute_name text = option_map_or is_attribute_name (attribute_name text) false

-- a name, a sign, and a value, which may be empty: at most 255 symbols together
abbrev pub is_attribute : List ℕ → Bool
is_attribute text = is_text text && nat_le (length text) 255 && has_attribute_name text

-- whether it says a level
abbrev pub is_level : List ℕ → Bool
is_level text = option_map_or (λ name. bytes_eq name (codes "priv-lvl")) (attribute_name text) false

-- ---- what a line says of a service

-- `priv` and the rules decide on a shell: no line refuses it, nor gives it a level
abbrev pub may_say : ServiceId → Says → Bool
may_say service (Allows None) = true
may_say service (Allows (Some attribute)) =
    is_attribute attribute && not (is_shell service.name && is_level attribute)
may_say service Refuses = not (is_shell service.name)

abbrev pub is_right_line : ServiceLine → Bool
is_right_line line = is_service line.service && may_say line.service line.says

-- a service, and an attribute after a space
abbrev pub attributed_text : ServiceId → Option (List ℕ) → List ℕ
attributed_text service attribute =
    service_text service ++ option_map_or (λ text. codes " " ++ text) attribute []

-- what a line that says this begins with
abbrev pub says_word : Says → List ℕ
says_word (Allows attribute) = codes "service "
says_word Refuses = codes "refuse "

abbrev pub attribute_in : Says → Option (List ℕ)
attribute_in (Allows attribute) = attribute
attribute_in Refuses = None

-- `service S`, `service S ATTRIBUTE` or `refuse S`
abbrev pub line_text : ServiceLine → List ℕ
line_text line = says_word line.says ++ attributed_text line.service (attribute_in line.says)

-- the service of a text that is split at its first space, and the attribute, which isn't judged
abbrev pub attributed_split : List ℕ → Option (List ℕ × List ℕ)
    → Option (ServiceId × Option (List ℕ))
attributed_split text None = option_map (λ service. (service, None)) (service_of text)
attributed_split text (Some parts) =
    option_map (λ service. (service, Some parts.1)) (service_of parts.0)

abbrev pub attributed_of : List ℕ → Option (ServiceId × Option (List ℕ))
attributed_of text = attributed_split text (split_at_first 32 text)

abbrev pub allowing : ServiceId → Option (List ℕ) → ServiceLine
allowing service attribute = record { service = service; says = Allows attribute }

abbrev pub refusing : ServiceId → ServiceLine
refusing service = record { service = service; says = Refuses }

-- ---- lines of one subject

-- both give an attribute, and another one
abbrev pub give_others : Says → Says → Bool
give_others (Allows (Some a)) (Allows (Some b)) = not (bytes_eq a b)
give_others (Allows (Some a)) (Allows None) = false
give_others (Allows (Some a)) Refuses = false
give_others (Allows None) says = false
give_others Refuses says = false

-- of one service a subject has one line alone, or lines that give different attributes
abbrev pub clash : ServiceLine → ServiceLine → Bool
clash a b = same_service a.service b.service && not (give_others a.says b.says)

-- whether one of these lines clashes with another line
abbrev pub any_clash : List ServiceLine → ServiceLine → Bool
any_clash lines line = list_any (λ old. clash old line) lines

-- whether the line gives this attribute; where none is named, whatever it says
abbrev pub gives : Option (List ℕ) → Says → Bool
gives None says = true
gives (Some text) (Allows (Some attribute)) = bytes_eq text attribute
gives (Some text) (Allows None) = false
gives (Some text) Refuses = false

-- whether the line goes where the service is cleared, or this attribute of it
abbrev pub is_cleared : ServiceId → Option (List ℕ) → ServiceLine → Bool
is_cleared service attribute line =
    same_service service line.service && gives attribute line.says
