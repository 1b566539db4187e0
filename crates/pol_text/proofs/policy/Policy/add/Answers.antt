use Rattle.std.proofs.Common.{◌≡◌, ◌<◌, ◌∷◌, ◌++◌, [], true, List, None, Result, Ok, Err, OnOk, OnErr, length, map, sym, ap, subst, ◌∙◌}
use Rattle.std.proofs.lemmas.List.{map_push}
use Rattle.pol_names.specs.declared.subject_id.SubjectId.{SubjectId}
use Rattle.pol_text.specs.declared.subject.Subject.{Subject}
use Rattle.pol_text.specs.Policy.{WellFormed, find_subject, id_of, all_of, is_right_subject, max_subjects}
use Rattle.pol_text.specs.Change.{has_room_below}
use Rattle.pol_text.specs.Text.{new_subject}
use Rattle.pol_text.proofs.Placed.{AreFields}
use Rattle.pol_text.proofs.KeepsAdd.{kept_add, absent_any}
use Rattle.pol_text.proofs.policy.Policy.add.Goals as goal

pub push_subject-requires : goal.push_subject-requires
push_subject-requires c =
    let y = new_subject c.args.kind c.args.name c.args.parent in
    let absent : find_subject (id_of y) c.self.inside.subjects ≡ None = ap (find_subject (id_of y)) c.self.view_is ∙ c.requires.absent in
    rw (c.new-subject.ensures.subject, c.self.invariant.1) (absent_any (id_of y) c.self.inside.subjects absent)

-- both lists are longer by the new one, or as before
fields_after : {E : Type 0} (r : Result Unit E) (p next : List Subject) (keys more : List SubjectId) (y : Subject) → AreFields p keys → WellFormed (p ++ y ∷ [])
    → OnOk r (next ≡ p ++ y ∷ []) → OnOk r (more ≡ keys ++ id_of y ∷ []) → OnErr r ((next ≡ p) × (more ≡ keys)) → AreFields next more
fields_after (Ok added) p next keys more y fields right now ids same =
    (subst (λ (l : List Subject). WellFormed l) (sym now) right, ids ∙ ap (λ l. l ++ id_of y ∷ []) fields.1 ∙ sym (ap (λ l. map id_of l) now ∙ map_push id_of p y))
fields_after (Err e) p next keys more y fields right now ids same =
    (subst (λ (l : List Subject). WellFormed l) (sym same.0) fields.0, same.1 ∙ fields.1 ∙ sym (ap (λ l. map id_of l) same.0))

pub invariant_of-self : goal.invariant_of-self
invariant_of-self c =
    let p = c.self.inside.subjects in
    let y = new_subject c.args.kind c.args.name c.args.parent in
    let absent : find_subject (id_of y) p ≡ None = ap (find_subject (id_of y)) c.self.view_is ∙ c.requires.absent in
    let room : length p < max_subjects = subst (λ (l : List Subject). length l < max_subjects) (sym c.self.view_is) c.requires.room in
    let below : all_of (λ group. has_room_below group p) y.parent ≡ true = subst (λ (l : List Subject). all_of (λ group. has_room_below group l) y.parent ≡ true) (sym c.self.view_is) c.requires.below in
    let right : is_right_subject y ≡ true = ap is_right_subject (sym c.new-subject.ensures.subject) ∙ c.new-subject.ensures.right in
    let well : WellFormed (p ++ c.new-subject.result ∷ []) = subst (λ (s : Subject). WellFormed (p ++ s ∷ [])) (sym c.new-subject.ensures.subject) (kept_add p c.self.invariant.0 y absent room below right) in
    fields_after c.push_subject.result p c.push_subject.new.subjects c.self.inside.places.keys c.push_subject.new.places.keys c.new-subject.result c.self.invariant well
    c.push_subject.ensures.subjects c.push_subject.ensures.places c.push_subject.ensures.err

pub returns-clause-well_formed : goal.returns-clause-well_formed
returns-clause-well_formed c = (invariant_of-self c).0
