-- What a change makes of a policy.
use Rattle.std.specs.Prelude.{ℕ, ◌-◌, List, [], ◌∷◌, ◌++◌, length, map, filter, insert, remove}
use Rattle.std.specs.Prelude.{slice_get, Bool, false, not, Option, Some, None, if◌then◌else◌}
use Rattle.std.specs.Option.{option_map_or}
use Rattle.std.specs.List.{list_any, list_all}
use Rattle.std.specs.Str.{bytes_eq}
use Rattle.pol_names.specs.SubjectId.{same_id, group_id}
use Rattle.pol_names.specs.Service.{is_cleared}
use Rattle.pol_text.specs.Policy.{id_of, find_subject, ends_within, max_chain}
use Rattle.pol_names.specs.declared.service.ServiceId.{ServiceId}
use Rattle.pol_names.specs.declared.service.ServiceLine.{ServiceLine}
use Rattle.pol_names.specs.declared.secret.Credential.{Credential}
use Rattle.pol_names.specs.declared.secret.Secret.{Secret}
use Rattle.pol_names.specs.declared.secret.Credential.TheVariants.{Login, Enable}
use Rattle.pol_names.specs.declared.subject_id.SubjectId.{SubjectId}
use Rattle.pol_text.specs.declared.subject.Rule.{Rule}
use Rattle.pol_text.specs.declared.subject.Subject.{Subject}
use Rattle.pol_text.specs.declared.fault.ChainFault.{ChainFault}
use Rattle.pol_text.specs.declared.fault.ChainFault.TheVariants as chains

-- the subject of this kind and name is changed in its place
abbrev pub with_changed : SubjectId → (Subject → Subject) → List Subject → List Subject
with_changed id change policy =
    map (λ subject. if same_id id (id_of subject) then change subject else subject) policy

-- the subject of this kind and name goes, and the list closes up
abbrev pub without : SubjectId → List Subject → List Subject
without id [] = []
without id (subject ∷ rest) =
    if same_id id (id_of subject) then without id rest else subject ∷ without id rest

-- whether a subject has the group of this name as its parent
abbrev pub is_parent : List ℕ → List Subject → Bool
is_parent name policy =
    list_any (λ subject. option_map_or (bytes_eq name) subject.parent false) policy

-- whether the group is there, and one more subject may stand below it: its chain isn't full
abbrev pub has_room_below : List ℕ → List Subject → Bool
has_room_below name policy =
    option_map_or (ends_within (max_chain - 1) policy) (find_subject (group_id name) policy) false

-- what is wrong with the chains: one that doesn't end comes before one that is too long
abbrev pub chain_fault : List Subject → Option ChainFault
chain_fault policy =
    if not (list_all (ends_within (length policy) policy) policy) then Some chains.Cycle
    else if not (list_all (ends_within max_chain policy) policy) then Some chains.TooDeep
    else None

abbrev pub with_parent : Option (List ℕ) → Subject → Subject
with_parent parent subject = record subject { parent = parent }

abbrev pub with_secret : Credential → Option Secret → Subject → Subject
with_secret Login secret subject = record subject { login = secret }
with_secret Enable secret subject = record subject { enable = secret }

abbrev pub with_priv : Option ℕ → Subject → Subject
with_priv level subject = record subject { priv_lvl = level }

-- a line about a service goes last
abbrev pub with_line_last : ServiceLine → Subject → Subject
with_line_last line subject = record subject { services = subject.services ++ line ∷ [] }

-- the lines about a service go, or the one that gives this attribute
abbrev pub without_service : ServiceId → Option (List ℕ) → Subject → Subject
without_service service attribute subject =
    record subject {
      services = filter (λ line. not (is_cleared service attribute line)) subject.services;
    }

-- the rule stands at this place, counted from 0
abbrev pub with_rule_at : ℕ → Rule → Subject → Subject
with_rule_at at rule subject = record subject { rules = insert subject.rules at rule }

abbrev pub without_rule_at : ℕ → Subject → Subject
without_rule_at at subject = record subject { rules = remove subject.rules at }

-- the rule at one place is taken out, and put so that it stands at the other
abbrev pub with_rule_moved : ℕ → ℕ → Subject → Subject
with_rule_moved from to subject =
    record subject {
      rules = option_map_or (insert (remove subject.rules from) to)
          (slice_get subject.rules from) subject.rules;
    }
