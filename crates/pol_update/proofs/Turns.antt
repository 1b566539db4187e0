-- What edits do to the subjects of a policy.
use Rattle.std.proofs.Common.{◌≡◌, Bool, true, false, true≢false, List, [], ◌∷◌, ◌++◌, Option, Some, None, Result, Ok, Err, OnOk, refl, sym, ap, subst, ◌∙◌, if◌then◌else◌}
use Rattle.std.specs.Option.{option_map}
use Rattle.pol_names.specs.SubjectId.{same_id}
use Rattle.pol_names.specs.declared.subject_id.SubjectId.{SubjectId}
use Rattle.pol_text.specs.declared.subject.Subject.{Subject}
use Rattle.pol_text.specs.Policy.{WellFormed, id_of, find_subject}
use Rattle.pol_text.specs.Change.{with_changed, without}
use Rattle.pol_text.proofs.Keeps.{same_id_is, same_id_self}
use Rattle.pol_edit.specs.declared.edit.Edit.{Edit}
use Rattle.pol_edit.specs.Applying.{applied}
use Rattle.pol_update.specs.Update.{IsAlike, AreSteps, subject_of}
use Rattle.pol_update.specs.Planning.{Turns, IsTurned}
use Rattle.pol_update.specs.declared.plan.Plan.{Plan}
use Rattle.pol_update.proofs.Stepping.{one_more}

pub same_back : (a b : SubjectId) → same_id a b ≡ true → b ≡ a
same_back a b e = sym (same_id_is a b e)

-- who is this one can't be another one
clash : {P : Type 0} (id other x : SubjectId) → same_id id other ≡ false → same_id id x ≡ true → same_id other x ≡ true → P
clash id other x apart here there =
    let e : id ≡ other = same_id_is id x here ∙ sym (same_id_is other x there) in
    absurd (true≢false (sym (same_id_self id) ∙ ap (same_id id) e ∙ apart))

-- ---- a subject that is changed in its place

changed_own : (id : SubjectId) (f : Subject → Subject) (p : List Subject) → ((s : Subject) → id_of (f s) ≡ id_of s) → find_subject id (with_changed id f p) ≡ option_map f (find_subject id p)
changed_own id f [] keeps = refl
changed_own id f (x ∷ p) keeps = by (same_id id (id_of x)) refl (changed_own id f p keeps)
  where
    by : (b : Bool) → same_id id (id_of x) ≡ b → find_subject id (with_changed id f p) ≡ option_map f (find_subject id p)
        → (if same_id id (id_of (if b then f x else x)) then Some (if b then f x else x) else find_subject id (with_changed id f p)) ≡ option_map f (if b then Some x else find_subject id p)
    by true e rest = let here : same_id id (id_of (f x)) ≡ true = ap (same_id id) (keeps x) ∙ e in rw here refl
    by false e rest = rw e rest

changed_other : (id other : SubjectId) (f : Subject → Subject) (p : List Subject) → ((s : Subject) → id_of (f s) ≡ id_of s) → same_id id other ≡ false
    → find_subject other (with_changed id f p) ≡ find_subject other p
changed_other id other f [] keeps apart = refl
changed_other id other f (x ∷ p) keeps apart = by (same_id id (id_of x)) (same_id other (id_of x)) refl refl (changed_other id other f p keeps apart)
  where
    by : (a b : Bool) → same_id id (id_of x) ≡ a → same_id other (id_of x) ≡ b → find_subject other (with_changed id f p) ≡ find_subject other p
        → (if same_id other (id_of (if a then f x else x)) then Some (if a then f x else x) else find_subject other (with_changed id f p)) ≡ (if b then Some x else find_subject other p)
    by true true here there rest = clash id other (id_of x) apart here there
    by true false here there rest = let no : same_id other (id_of (f x)) ≡ false = ap (same_id other) (keeps x) ∙ there in rw no rest
    by false b here there rest = rw there (ap (λ (o : Option Subject). if b then Some x else o) rest)

pub turns_changed : (id : SubjectId) (f : Subject → Subject) (p : List Subject) → ((s : Subject) → id_of (f s) ≡ id_of s) → Turns id (option_map f (find_subject id p)) p (with_changed id f p)
turns_changed id f p keeps other = by (same_id id other) refl
  where
    by : (b : Bool) → same_id id other ≡ b → find_subject other (with_changed id f p) ≡ (if b then option_map f (find_subject id p) else find_subject other p)
    by true e = subst (λ (i : SubjectId). find_subject i (with_changed id f p) ≡ option_map f (find_subject id p)) (same_id_is id other e) (changed_own id f p keeps)
    by false e = changed_other id other f p keeps e

-- ---- a subject that is taken out

gone_own : (id : SubjectId) (p : List Subject) → find_subject id (without id p) ≡ None
gone_own id [] = refl
gone_own id (x ∷ p) = by (same_id id (id_of x)) refl (gone_own id p)
  where
    by : (b : Bool) → same_id id (id_of x) ≡ b → find_subject id (without id p) ≡ None → find_subject id (if b then without id p else x ∷ without id p) ≡ None
    by true e rest = rest
    by false e rest = rw e rest

gone_other : (id other : SubjectId) (p : List Subject) → same_id id other ≡ false → find_subject other (without id p) ≡ find_subject other p
gone_other id other [] apart = refl
gone_other id other (x ∷ p) apart = by (same_id id (id_of x)) (same_id other (id_of x)) refl refl (gone_other id other p apart)
  where
    by : (a b : Bool) → same_id id (id_of x) ≡ a → same_id other (id_of x) ≡ b → find_subject other (without id p) ≡ find_subject other p
        → find_subject other (if a then without id p else x ∷ without id p) ≡ (if b then Some x else find_subject other p)
    by true true here there rest = clash id other (id_of x) apart here there
    by true false here there rest = rest
    by false b here there rest = rw there (ap (λ (o : Option Subject). if b then Some x else o) rest)

pub turns_gone : (id : SubjectId) (p : List Subject) → Turns id None p (without id p)
turns_gone id p other = by (same_id id other) refl
  where
    by : (b : Bool) → same_id id other ≡ b → find_subject other (without id p) ≡ (if b then None else find_subject other p)
    by true e = subst (λ (i : SubjectId). find_subject i (without id p) ≡ None) (same_id_is id other e) (gone_own id p)
    by false e = gone_other id other p e

-- ---- a subject that is added

pub turns_added : (y : Subject) (p : List Subject) → find_subject (id_of y) p ≡ None → Turns (id_of y) (Some y) p (p ++ y ∷ [])
turns_added y [] none other = by (same_id (id_of y) other) (same_id other (id_of y)) refl refl
  where
    by : (a b : Bool) → same_id (id_of y) other ≡ a → same_id other (id_of y) ≡ b → (if b then Some y else None) ≡ (if a then Some y else None)
    by true true e f = refl
    by false false e f = refl
    by true false e f = absurd (true≢false (sym (same_id_self other) ∙ ap (same_id other) (same_back (id_of y) other e) ∙ f))
    by false true e f = absurd (true≢false (sym (same_id_self (id_of y)) ∙ ap (same_id (id_of y)) (same_back other (id_of y) f) ∙ e))
turns_added y (x ∷ p) none other = by (same_id (id_of y) (id_of x)) (same_id other (id_of x)) refl refl none (turns_added y p)
  where
    by : (a b : Bool) → same_id (id_of y) (id_of x) ≡ a → same_id other (id_of x) ≡ b → (if a then Some x else find_subject (id_of y) p) ≡ None
        → (find_subject (id_of y) p ≡ None → Turns (id_of y) (Some y) p (p ++ y ∷ []))
        → (if b then Some x else find_subject other (p ++ y ∷ [])) ≡ (if same_id (id_of y) other then Some y else (if b then Some x else find_subject other p))
    by true b here there absent rest = absurd cc
    by false false here there absent rest = rest absent other
    by false true here there absent rest =
        let e : other ≡ id_of x = same_id_is other (id_of x) there in
        let no : same_id (id_of y) other ≡ false = ap (same_id (id_of y)) e ∙ here in
        rw no refl

-- ---- plans

-- one edit that is a step
pub turned_by : {E : Type 0} (r : Result (Unit {0}) E) (edit : Edit) (id : SubjectId) (after : Option Subject) (before now : Plan) (next : List Subject) → subject_of edit ≡ id → WellFormed before.made
    → applied before.made edit ≡ Ok next → Turns id after before.made next → ¬ (after ≡ find_subject id before.made)
    → ((n : List Subject) → applied before.made edit ≡ Ok n → ¬ IsAlike n before.made (subject_of edit) → OnOk r ((now.made ≡ n) × (now.edits ≡ before.edits ++ edit ∷ [])))
    → OnOk r (IsTurned id after before now)
turned_by {E = E} r edit id after before now next of w takes turns differs added =
    by r (added next takes (subst (λ (i : SubjectId). ¬ IsAlike next before.made i) (sym of) not_alike))
  where
    own : find_subject id next ≡ after
    own = turns id ∙ ap (λ (b : Bool). if b then after else find_subject id before.made) (same_id_self id)

    not_alike : ¬ IsAlike next before.made id
    not_alike e = differs (sym own ∙ e)

    made : (now.made ≡ next) × (now.edits ≡ before.edits ++ edit ∷ []) → IsTurned id after before now
    made so = record {
      turns = subst (λ (p : List Subject). Turns id after before.made p) (sym so.0) turns;
      steps = λ old new policy apart steps.
          subst (λ (e : List Edit). AreSteps old new policy e now.made) (sym so.1)
          (subst (λ (p : List Subject). AreSteps old new policy (before.edits ++ edit ∷ []) p) (sym so.0)
          (one_more old new policy before.made next before.edits edit steps
          (record {
            well_formed = w;
            makes = takes;
            changes = λ e. not_alike (ap (find_subject id) e);
            of_differing = subst (λ (i : SubjectId). ¬ IsAlike old new i) (sym of) apart;
          })));
    }

    by : (r : Result (Unit {0}) E) → OnOk r ((now.made ≡ next) × (now.edits ≡ before.edits ++ edit ∷ [])) → OnOk r (IsTurned id after before now)
    by (Ok x) so = made so
    by (Err e) so = tt

-- no edit
pub not_turned : (id : SubjectId) (after : Option Subject) (plan : Plan) → find_subject id plan.made ≡ after → IsTurned id after plan plan
not_turned id after plan same = record {
  turns = λ other. by other (same_id id other) refl;
  steps = λ old new policy apart steps. steps;
}
  where
    by : (other : SubjectId) (b : Bool) → same_id id other ≡ b → find_subject other plan.made ≡ (if b then after else find_subject other plan.made)
    by other true e = ap (λ (i : SubjectId). find_subject i plan.made) (same_back id other e) ∙ same
    by other false e = refl

-- edits after edits
pub turned_again : (id : SubjectId) (a b : Option Subject) (first second third : Plan) → IsTurned id a first second → IsTurned id b second third → IsTurned id b first third
turned_again id a b first second third one two = record {
  turns = λ other. two.turns other ∙ by other (same_id id other) refl;
  steps = λ old new policy apart steps. two.steps old new policy apart (one.steps old new policy apart steps);
}
  where
    by : (other : SubjectId) (t : Bool) → same_id id other ≡ t → (if t then b else find_subject other second.made) ≡ (if t then b else find_subject other first.made)
    by other true e = refl
    by other false e = one.turns other ∙ ap (λ (t : Bool). if t then a else find_subject other first.made) e

-- what the subject is then
pub turned_own : (id : SubjectId) (after : Option Subject) (before now : Plan) → IsTurned id after before now → find_subject id now.made ≡ after
turned_own id after before now t = t.turns id ∙ ap (λ (b : Bool). if b then after else find_subject id before.made) (same_id_self id)
