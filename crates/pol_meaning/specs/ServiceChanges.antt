-- What a change of the policy gives users for services, or no longer gives (docs/POLICY.md,
-- "Services").
use Rattle.std.specs.Prelude.{ℕ, List, [], ◌∷◌, ◌++◌, Option, Some, None, if◌then◌else◌}
use Rattle.std.specs.Prelude.{filter_map, flat_map}
use Rattle.std.specs.List.{list_any}
use Rattle.pol_names.specs.SameService.{same_service}
use Rattle.pol_names.specs.declared.service.ServiceId.{ServiceId}
use Rattle.pol_names.specs.declared.service.ServiceLine.{ServiceLine}
use Rattle.pol_text.specs.declared.subject.Subject.{Subject}
use Rattle.pol_given.specs.Given.{the_shell, service_arguments, shell_arguments}
use Rattle.pol_meaning.specs.LineChanges.{permits, users_of, users_alone}
use Rattle.pol_meaning.specs.SameChange.{same_reply}
use Rattle.pol_meaning.specs.declared.ServiceChange.{ServiceChange}

-- ---- what a user is given

-- for a shell: where the empty line is permitted, the level and then the attributes, and else none.
-- Whether it starts at all is told among lines, by the empty one
abbrev pub shell_reply : List Subject → List ℕ → List (List ℕ)
shell_reply policy name = if permits policy name [] then shell_arguments policy name else []

-- the arguments that the user is given for the service; nothing where it isn't granted
abbrev pub reply_of : List Subject → List ℕ → ServiceId → Option (List (List ℕ))
reply_of policy name service =
    if same_service service the_shell then Some (shell_reply policy name)
    else service_arguments policy name service

-- ---- which services are asked about

-- one more service, last, unless it is there
abbrev pub with_service : List ServiceId → ServiceId → List ServiceId
with_service services service =
    if list_any (same_service service) services then services else services ++ service ∷ []

-- those that these lines name and aren't there, in the order in which they are first named
abbrev pub with_named : List ServiceId → List ServiceLine → List ServiceId
with_named services [] = services
with_named services (line ∷ rest) = with_named (with_service services line.service) rest

-- those that these subjects' lines name
abbrev pub with_all_named : List ServiceId → List Subject → List ServiceId
with_all_named services [] = services
with_all_named services (subject ∷ rest) =
    with_all_named (with_named services subject.services) rest

-- the shell, also where no line names it, since its level may change; then what
-- the new policy names, in the order in which it does first; then what the old one alone names
abbrev pub services_named : List Subject → List Subject → List ServiceId
services_named before after = with_all_named (with_all_named (the_shell ∷ []) after) before

-- ---- what changes

-- from one reply to another; nothing where they are the same
abbrev pub change_between : List ℕ → ServiceId → Option (List (List ℕ)) → Option (List (List ℕ))
    → Option ServiceChange
change_between user service was is =
    if same_reply was is then None
    else Some (record { user = user; service = service; was = was; is = is })

abbrev pub service_change : List Subject → List Subject → List ℕ → ServiceId → Option ServiceChange
service_change before after user service =
    change_between user service (reply_of before user service) (reply_of after user service)

-- for one user, of all services in their order
abbrev pub service_changes_of : List Subject → List Subject → List ℕ → List ServiceChange
service_changes_of before after user =
    filter_map (service_change before after user) (services_named before after)

-- for the users of the new policy, and then for those of the old one alone
abbrev pub service_changes : List Subject → List Subject → List ServiceChange
service_changes before after =
    flat_map (service_changes_of before after) (users_of after ++ users_alone after before)
