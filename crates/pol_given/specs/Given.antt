-- Who decides on a service that a user asks for, and what that subject gives
-- (docs/POLICY.md, "Services").
use Rattle.std.specs.Prelude.{ℕ, List, [], ◌∷◌, ◌++◌, codes, Bool, true, false, ◌&&◌, filter, find}
use Rattle.std.specs.Prelude.{filter_map, Option, Some, None, if◌then◌else◌}
use Rattle.std.specs.Fmt.{decimal}
use Rattle.std.specs.List.{list_any}
use Rattle.std.specs.Option.{option_and_then, option_map_or}
use Rattle.pol_names.specs.SameService.{same_service}
use Rattle.pol_names.specs.Service.{is_service}
use Rattle.pol_names.specs.Service as services
use Rattle.pol_names.specs.SubjectId.{user_id}
use Rattle.pol_names.specs.declared.service.Says.{Says}
use Rattle.pol_names.specs.declared.service.Says.TheVariants.{Allows, Refuses}
use Rattle.pol_names.specs.declared.service.ServiceId.{ServiceId}
use Rattle.pol_names.specs.declared.service.ServiceLine.{ServiceLine}
use Rattle.pol_text.specs.Policy.{find_subject, chain, level_of}
use Rattle.pol_text.specs.declared.subject.Subject.{Subject}

-- ---- which service

-- the service of a shell, which has no protocol
abbrev pub the_shell : ServiceId
the_shell = record { name = codes "shell"; protocol = None }

-- the service, if lines of a policy may be about it
abbrev pub right_service : ServiceId → Option ServiceId
right_service service = if is_service service then Some service else None

-- the service that a request names by the texts of its arguments `service` and `protocol`
abbrev pub service_named : List ℕ → Option (List ℕ) → Option ServiceId
service_named name protocol = right_service (record { name = name; protocol = protocol })

-- ---- what one subject says

-- whether the line is about the service
abbrev pub is_about : ServiceId → ServiceLine → Bool
is_about service line = same_service service line.service

-- the lines that the subject has of the service
abbrev pub said_of : ServiceId → Subject → List ServiceLine
said_of service subject = filter (is_about service) subject.services

-- whether it has any
abbrev pub speaks_of : ServiceId → Subject → Bool
speaks_of service subject = list_any (is_about service) subject.services

abbrev pub is_refusal : Says → Bool
is_refusal (Allows attribute) = false
is_refusal Refuses = true

-- whether the line refuses the service
abbrev pub is_refusal_of : ServiceId → ServiceLine → Bool
is_refusal_of service line = is_about service line && is_refusal line.says

-- whether the subject refuses the service
abbrev pub refuses : ServiceId → Subject → Bool
refuses service subject = list_any (is_refusal_of service) subject.services

-- the attribute that the line gives to the service, if it gives one
abbrev pub attribute_in : ServiceId → ServiceLine → Option (List ℕ)
attribute_in service line =
    if is_about service line then services.attribute_in line.says else None

-- the attributes that the subject gives to the service, in the order of its lines
abbrev pub attributes_of : ServiceId → Subject → List (List ℕ)
attributes_of service subject = filter_map (attribute_in service) subject.services

-- ---- who decides

-- the nearest subject of a chain that has a line of the service
abbrev pub first_speaking : ServiceId → List Subject → Option Subject
first_speaking service subjects = find (speaks_of service) subjects

-- who decides on the service for the user of this name, alone and whole: what others further along
-- the chain say of it doesn't count. Nobody does where no subject of the chain has a line of the
-- service, or where there is no such user
abbrev pub speaking : List Subject → List ℕ → ServiceId → Option Subject
speaking policy name service =
    option_and_then (λ user. first_speaking service (chain policy user))
    (find_subject (user_id name) policy)

-- ---- what is given

-- by who decides on the service: its attributes, and nothing where it refuses
abbrev pub given_by : ServiceId → Subject → Option (List (List ℕ))
given_by service owner =
    if refuses service owner then None else Some (attributes_of service owner)

-- the arguments that the user of this name is given for a service other than a shell; nothing where
-- it isn't granted
abbrev pub service_arguments : List Subject → List ℕ → ServiceId → Option (List (List ℕ))
service_arguments policy name service =
    option_and_then (given_by service) (speaking policy name service)

-- the argument that carries a privilege level: `priv-lvl=N` (RFC 8907, section 8.2)
abbrev pub level_argument : ℕ → List ℕ
level_argument level = codes "priv-lvl=" ++ decimal level

abbrev pub level_arguments : Option ℕ → List (List ℕ)
level_arguments None = []
level_arguments (Some level) = level_argument level ∷ []

-- the attributes of a user's shell, by who decides on that
abbrev pub shell_attributes : List Subject → List ℕ → List (List ℕ)
shell_attributes policy name =
    option_map_or (attributes_of the_shell) (speaking policy name the_shell) []

-- the arguments of a user's shell, where the rules permit one: the level, and then the attributes
abbrev pub shell_arguments : List Subject → List ℕ → List (List ℕ)
shell_arguments policy name =
    level_arguments (level_of policy (user_id name)) ++ shell_attributes policy name
