-- What the functions that plan edits do, one subject after another.
use Rattle.std.specs.Prelude.{◌≡◌, ◌⊎◌, ℕ, List, [], ◌∷◌, map, filter, Bool, true, false, not}
use Rattle.std.specs.Prelude.{IsTrue, Option, Some, None, Ok, is_some, if◌then◌else◌}
use Rattle.sha_crypt.specs.HashText.{hash_text}
use Rattle.pol_names.specs.Service.{is_cleared}
use Rattle.pol_names.specs.declared.service.ServiceLine.{ServiceLine}
use Rattle.pol_names.specs.SubjectId.{same_id}
use Rattle.pol_names.specs.declared.secret.Credential.{Credential}
use Rattle.pol_names.specs.declared.secret.Credential.TheVariants.{Login, Enable}
use Rattle.pol_names.specs.declared.secret.Secret.{Secret}
use Rattle.pol_names.specs.declared.secret.Secret.TheVariants.{Clear, Hashed}
use Rattle.pol_names.specs.declared.subject_id.Kind.{Kind}
use Rattle.pol_names.specs.declared.subject_id.Kind.TheVariants.{Group, User}
use Rattle.pol_names.specs.declared.subject_id.SubjectId.{SubjectId}
use Rattle.pol_text.specs.declared.subject.Rule.{Rule}
use Rattle.pol_text.specs.declared.subject.Subject.{Subject}
use Rattle.pol_text.specs.Policy.{WellFormed, id_of, find_subject, all_distinct}
use Rattle.pol_edit.specs.declared.edit.Edit.{Edit}
use Rattle.pol_edit.specs.declared.edit.Edit.TheVariants.{AddGroup, AddUser, SetLogin, SetEnable}
use Rattle.pol_edit.specs.declared.edit.Edit.TheVariants.{SetHash}
use Rattle.pol_edit.specs.Applying.{applied}
use Rattle.pol_update.specs.Update.{IsAlike, subject_of, AreSteps}
use Rattle.pol_update.specs.declared.plan.Plan.{Plan}

-- ---- one edit

-- whether an edit was taken that changes the subject that it is of. Where it wasn't, no edit is
-- left that would
abbrev pub IsTaken : Bool → List Subject → Edit → List Subject → Type 0
IsTaken true old edit new = (applied old edit ≡ Ok new) × ¬ IsAlike new old (subject_of edit)
IsTaken false old edit new =
    (next : List Subject) → applied old edit ≡ Ok next → IsAlike next old (subject_of edit)

-- ---- one subject

-- the subject of this kind and name is this afterwards, and every other is as it was
abbrev pub Turns : SubjectId → Option Subject → List Subject → List Subject → Type 0
Turns id after old new =
    (other : SubjectId)
    → find_subject other new ≡ (if same_id id other then after else find_subject other old)

-- edits were added to a plan, which turn the subject into this. Each of them is a step, if the
-- subject is one that differs
pub record IsTurned (id : SubjectId) (after : Option Subject) (before now : Plan) : Type 0 where
  pub turns : Turns id after before.made now.made
  pub steps : (old new policy : List Subject) → ¬ IsAlike old new id
      → AreSteps old new policy before.edits before.made
      → AreSteps old new policy now.edits now.made

-- ---- all subjects, one after another

-- of what is so of subjects while a policy's subjects are gone through
abbrev pub Claim : Type 1
Claim = SubjectId → Option Subject → Type 0

-- these subjects of a policy are left
pub record AreLeft (rest all : List Subject) : Type 0 where
  pub distinct : IsTrue (all_distinct (map id_of rest))
  pub among : (id : SubjectId) (s : Subject) → find_subject id rest ≡ Some s
      → find_subject id all ≡ Some s

-- a plan keeps one claim of all subjects, and the other of those that aren't left
pub record IsUnderWay (old new : List Subject) (Kept Done : Claim) (rest all : List Subject)
    (plan : Plan) : Type 0 where
  pub left : AreLeft rest all
  pub steps : AreSteps old new old plan.edits plan.made
  pub kept : (id : SubjectId) → Kept id (find_subject id plan.made)
  pub done : (id : SubjectId) → find_subject id rest ≡ None → Done id (find_subject id plan.made)

-- all were gone through
pub record IsThrough (old new : List Subject) (Kept Done : Claim) (plan : Plan) : Type 0 where
  pub steps : AreSteps old new old plan.edits plan.made
  pub kept : (id : SubjectId) → Kept id (find_subject id plan.made)
  pub done : (id : SubjectId) → Done id (find_subject id plan.made)

-- ---- what is so of a subject

-- it belongs to no group
abbrev pub IsLoose : Option Subject → Type 0
IsLoose None = Unit {0}
IsLoose (Some subject) = subject.parent ≡ None

-- it isn't there, or belongs to no group, or to the same as the other one
abbrev pub IsUnder : Option Subject → Option Subject → Type 0
IsUnder None other = Unit {0}
IsUnder (Some subject) None = ⊥
IsUnder (Some subject) (Some other) =
    (subject.parent ≡ None) ⊎ (subject.parent ≡ other.parent)

-- while those that differ are taken out of their groups
abbrev pub IsOld : List Subject → List Subject → Claim
IsOld old new id now =
    (IsAlike old new id → now ≡ find_subject id old) × IsUnder now (find_subject id old)

abbrev pub IsOut : List Subject → List Subject → Claim
IsOut old new id now = ¬ IsAlike old new id → IsLoose now

-- while those that go are removed
abbrev pub IsOldOut : List Subject → List Subject → Claim
IsOldOut old new id now = IsOld old new id now × IsOut old new id now

abbrev pub IsGone : List Subject → Claim
IsGone new id now = find_subject id new ≡ None → now ≡ None

-- while those that come are added
abbrev pub IsNew : List Subject → List Subject → Claim
IsNew old new id now =
    (IsAlike old new id → now ≡ find_subject id new) × IsUnder now (find_subject id new)

abbrev pub IsThere : List Subject → Claim
IsThere new id now = IsTrue (is_some (find_subject id new)) → IsTrue (is_some now)

-- while they are set
abbrev pub IsNewThere : List Subject → List Subject → Claim
IsNewThere old new id now = IsNew old new id now × IsThere new id now

abbrev pub IsSet : List Subject → Claim
IsSet new id now = now ≡ find_subject id new

-- ---- one subject's settings

abbrev pub clear_edit : Credential → List ℕ → Option (List ℕ) → Edit
clear_edit Login user text = SetLogin user text
clear_edit Enable user text = SetEnable user text

-- the edit that gives a user this secret, or none
abbrev pub secret_edit : Credential → List ℕ → Option Secret → Edit
secret_edit credential user None = clear_edit credential user None
secret_edit credential user (Some (Clear text)) = clear_edit credential user (Some text)
secret_edit credential user (Some (Hashed hash)) = SetHash user credential (hash_text hash)

abbrev pub bare_edit : Kind → List ℕ → Edit
bare_edit Group name = AddGroup name None
bare_edit User name = AddUser name None

abbrev pub with_services : List ServiceLine → Subject → Subject
with_services lines subject = record subject { services = lines }

-- the lines about other services than that of the first
abbrev pub of_others : List ServiceLine → List ServiceLine
of_others [] = []
of_others (line ∷ rest) =
    filter (λ other. not (is_cleared line.service None other)) (line ∷ rest)

abbrev pub with_others : Subject → Subject
with_others subject = with_services (of_others subject.services) subject

abbrev pub with_rules : List Rule → Subject → Subject
with_rules rules subject = record subject { rules = rules }

-- each subject of a policy belongs to no group, or to the same as in another that is well formed:
-- so its chain is no longer
pub record IsWithin (policy : List Subject) : Type 0 where
  pub upper : List Subject
  pub well_formed : WellFormed upper
  pub under : (id : SubjectId) → IsUnder (find_subject id policy) (find_subject id upper)

abbrev pub with_secrets : Subject → Subject → Subject
with_secrets other subject = record subject { login = other.login; enable = other.enable }
