use Rattle.std.proofs.Common.{◌≡◌, Option, List, ℕ, true, refl}
use Rattle.pol_names.specs.Kept.{is_right_secret}
use Rattle.pol_names.specs.declared.secret.Secret.{Secret}
use Rattle.pol_names.specs.declared.secret.Credential.{Credential}
use Rattle.pol_names.specs.declared.secret.Credential.TheVariants.{Login, Enable}
use Rattle.pol_names.specs.declared.subject_id.Kind.TheVariants.{User}
use Rattle.pol_names.specs.declared.subject_id.SubjectId.{SubjectId}
use Rattle.pol_text.specs.declared.subject.Subject.{Subject}
use Rattle.pol_text.specs.Policy.{id_of, all_of}
use Rattle.pol_text.specs.Change.{with_secret}
use Rattle.pol_text.proofs.RightSubject.{Right}
use Rattle.pol_text.proofs.Placed.{Placed, lent, not_missing, changed_to, fields_to, right_now, user_now}
use Rattle.pol_text.proofs.policy.Policy.set_secret.Goals as goal

pub returns-in_default-clause-changed : goal.returns-in_default-clause-changed
returns-in_default-clause-changed c =
    not_missing c.args.id.now c.args.self.now c.self.inside.subjects c.self.view_is c.in_default.ensures.found c.requires.there

same_name : (credential : Credential) (secret : Option Secret) (t : Subject) → id_of (with_secret credential secret t) ≡ id_of t
same_name Login secret t = refl
same_name Enable secret t = refl

same_parent : (credential : Credential) (secret : Option Secret) (t : Subject) → (with_secret credential secret t).parent ≡ t.parent
same_parent Login secret t = refl
same_parent Enable secret t = refl

module _ {id : SubjectId} {now p : List Subject} {keys : List SubjectId} {i : ℕ} {s : Subject} (h : Placed id now p keys i s) (secret : Option Secret) (right : all_of is_right_secret secret ≡ true) (user : id.kind ≡ User) where
  still_right : (credential : Credential) → Right (with_secret credential secret s)
  still_right Login =
      let r = right_now h in
      record { name = r.name; parent = r.parent; login = right; enable = r.enable; secrets = user_now h user _; level = r.level; services = r.services; few = r.few; rules = r.rules }
  still_right Enable =
      let r = right_now h in
      record { name = r.name; parent = r.parent; login = r.login; enable = right; secrets = user_now h user _; level = r.level; services = r.services; few = r.few; rules = r.rules }

pub invariant_of-self-2 : goal.invariant_of-self-2
invariant_of-self-2 c =
    let h = lent c.args.id.now c.args.self.now c.self.inside.subjects c.self.inside.places.keys c.in-Some.subject.now c.self.view_is c.self.invariant c.in-Some.ensures.found in
    fields_to h (with_secret c.args.credential c.args.secret) _ c.set_secret.ensures.changed (same_name c.args.credential c.args.secret) (same_parent c.args.credential c.args.secret)
    (still_right h c.args.secret c.set_secret.ensures.right c.requires.user c.args.credential)

pub returns-clause-changed : goal.returns-clause-changed
returns-clause-changed c =
    let h = lent c.args.id.now c.args.self.now c.self.inside.subjects c.self.inside.places.keys c.in-Some.subject.now c.self.view_is c.self.invariant c.in-Some.ensures.found in
    changed_to h (with_secret c.args.credential c.args.secret) _ c.set_secret.ensures.changed

pub returns-clause-well_formed : goal.returns-clause-well_formed
returns-clause-well_formed c = (invariant_of-self-2 c).0
