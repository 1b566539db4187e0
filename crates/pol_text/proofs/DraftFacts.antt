-- Subjects that come into a draft, and changes of the last.
use Rattle.std.proofs.Common.{◌≡◌, ℕ, ◌+◌, Bool, true, false, cond, ◌||◌, List, [], ◌∷◌, ◌++◌, length, map, nat_le, Option, Some, Result, Ok, Err, is_some, refl, sym, ap, ◌∙◌}
use Rattle.std.specs.List.{list_any}
use Rattle.std.proofs.lemmas.List.{map-append}
use Rattle.pol_text.specs.declared.version.TextVersion.{TextVersion as Version}
use Rattle.pol_names.specs.declared.subject_id.Kind.{Kind}
use Rattle.pol_names.specs.declared.subject_id.SubjectId.{SubjectId}
use Rattle.pol_text.specs.declared.subject.Subject.{Subject}
use Rattle.pol_text.specs.declared.fault.PolicyRefusal.{PolicyRefusal}
use Rattle.pol_text.specs.declared.fault.PolicyRefusal.TheVariants.{Repeated, NoSubject, Limit}
use Rattle.pol_text.specs.declared.fault.PolicyFault.{PolicyFault}
use Rattle.pol_text.specs.declared.fault.LineFault.{LineFault}
use Rattle.pol_text.specs.declared.fault.LineFault.TheVariants as lines
use Rattle.pol_names.specs.SubjectId.{same_id}
use Rattle.pol_text.specs.Policy.{id_of, find_subject, max_subjects}
use Rattle.pol_text.specs.Draft.{LineFails, LineMakes, at_place, place_given}
use Rattle.pol_text.specs.Text.{Draft, subjects_of, new_subject, with_subject, with_present, after_first, split_last, ◌>>=◌, with_line, with_lines, FailsUnlessMemory}

any_found : (id : SubjectId) (subjects : List Subject) → list_any (same_id id) (map id_of subjects) ≡ is_some (find_subject id subjects)
any_found id [] = refl
any_found id (subject ∷ rest) = rw (any_found id rest) (by (same_id id (id_of subject)))
  where
    by : (b : Bool) → (b || is_some (find_subject id rest)) ≡ is_some (cond b (Some subject) (find_subject id rest))
    by true = refl
    by false = refl

LineFails-bind : {A B : Type 0} (fault : LineFault) (r : Result A PolicyRefusal) (f : A → Result B PolicyRefusal) → LineFails fault r → LineFails fault (r >>= f)
LineFails-bind lines.Memory r f h = tt
LineFails-bind (lines.Refused refusal) r f h = rw h refl

-- a subject is added where its place is given
placed : (there : Bool) (count : ℕ) (draft added : Draft) → cond there (Err Repeated) (cond (nat_le max_subjects count) (Err Limit) (Ok added)) ≡ (place_given there count >>= λ _. Ok added)
placed true count draft added = refl
placed false count draft added = by (nat_le max_subjects count)
  where
    by : (b : Bool) → cond b (Err Limit) (Ok added) ≡ (cond {A = Result Unit PolicyRefusal} b (Err Limit) (Ok (tt {0})) >>= λ _. Ok added)
    by true = refl
    by false = refl

module _ (line : ℕ) (kind : Kind) (name : List ℕ) (parent : Option (List ℕ)) (draft : Draft) (keys : List SubjectId) (count : ℕ)
    (e : keys ≡ map id_of (subjects_of draft)) (many : count ≡ length draft) where
  place_first : with_subject line kind name parent draft
      ≡ (place_given (list_any (same_id (record { kind = kind; name = name })) keys) count >>= λ _. Ok (draft ++ (line, new_subject kind name parent) ∷ []))
  unfolding with_subject
  place_first =
      let there : list_any (same_id (record { kind = kind; name = name })) keys ≡ is_some (find_subject (record { kind = kind; name = name }) (subjects_of draft)) =
      ap (list_any (same_id (record { kind = kind; name = name }))) e ∙ any_found (record { kind = kind; name = name }) (subjects_of draft) in
      rw (there, many) (placed (is_some (find_subject (record { kind = kind; name = name }) (subjects_of draft))) (length draft) draft (draft ++ (line, new_subject kind name parent) ∷ []))

  pub subject_refused : (fault : LineFault) → LineFails fault (place_given (list_any (same_id (record { kind = kind; name = name })) keys) count)
      → LineFails fault (with_subject line kind name parent draft)
  subject_refused fault h = rw place_first (LineFails-bind fault _ _ h)

  pub subject_added : place_given (list_any (same_id (record { kind = kind; name = name })) keys) count ≡ Ok tt
      → with_subject line kind name parent draft ≡ Ok (draft ++ (line, new_subject kind name parent) ∷ [])
  subject_added h = place_first ∙ rw h refl

-- ---- the last subject

pub split_last-push : {A : Type 0} (front : List A) (x : A) → split_last (front ++ x ∷ []) ≡ Some (front, x)
split_last-push [] x = refl
split_last-push (y ∷ front) x = ap (after_first y) (split_last-push front x)

pub present_is : (change : Subject → Result Subject PolicyRefusal) (front : Draft) (line : ℕ) (subject : Subject)
    → with_present change (front ++ (line, subject) ∷ []) ≡ (change subject >>= λ next. Ok (front ++ (line, next) ∷ []))
unfolding with_present
present_is change front line subject = rw (split_last-push front (line, subject)) refl

present_fails : (fault : LineFault) (change : Subject → Result Subject PolicyRefusal) (draft front : Draft) (line : ℕ) (subject : Subject)
    → draft ≡ front ++ (line, subject) ∷ [] → LineFails fault (change subject) → LineFails fault (with_present change draft)
present_fails fault change draft front line subject e h =
    rw (e, present_is change front line subject) (LineFails-bind fault (change subject) _ h)

present_changed : (change : Subject → Result Subject PolicyRefusal) (draft front : Draft) (line : ℕ) (subject next : Subject)
    → draft ≡ front ++ (line, subject) ∷ [] → change subject ≡ Ok next → with_present change draft ≡ Ok (front ++ (line, next) ∷ [])
present_changed change draft front line subject next e h = ap (with_present change) e ∙ present_is change front line subject ∙ rw h refl

pub present_made : (r : Result Unit LineFault) (change : Subject → Result Subject PolicyRefusal) (draft front : Draft) (line : ℕ) (subject next : Subject)
    → draft ≡ front ++ (line, subject) ∷ [] → LineMakes r next (change subject) → LineMakes r (front ++ (line, next) ∷ []) (with_present change draft)
present_made (Ok made) change draft front line subject next e h = present_changed change draft front line subject next e h
present_made (Err fault) change draft front line subject next e h = present_fails fault change draft front line subject e h

pub nothing_present : (change : Subject → Result Subject PolicyRefusal) (draft : Draft) → draft ≡ [] → with_present change draft ≡ Err NoSubject
unfolding with_present
nothing_present change draft none = ap (with_present change) none

-- the ids stay where the last subject keeps its own
pub ids_kept : (keys : List SubjectId) (subjects front : List Subject) (old next : Subject) → keys ≡ map id_of subjects → subjects ≡ front ++ old ∷ [] → id_of next ≡ id_of old
    → keys ≡ map id_of (front ++ next ∷ [])
ids_kept keys subjects front old next is e same =
    is ∙ ap (map id_of) e ∙ map-append id_of front (old ∷ []) ∙ ap (λ (id : SubjectId). map id_of front ++ id ∷ []) (sym same) ∙ sym (map-append id_of front (next ∷ []))

-- ---- lines one after another

pub lines_fail : (fault : LineFault) (version : Version) (number at : ℕ) (left rest : List (List ℕ)) (line : List ℕ) (draft : Draft) (total : Result Draft PolicyFault) → at ≡ number → left ≡ line ∷ rest
    → with_lines version number left draft ≡ total → LineFails fault (with_line version at line draft) → FailsUnlessMemory (at_place at fault) total
unfolding with_lines
lines_fail lines.Memory version number at left rest line draft total same e told fails = tt
lines_fail (lines.Refused refusal) version number at left rest line draft total same e told fails =
    sym told ∙ ap (λ (ls : List (List ℕ)). with_lines version number ls draft) e ∙ rw (← same, fails) refl

pub lines_go_on : (version : Version) (number at after : ℕ) (left rest : List (List ℕ)) (line : List ℕ) (draft next : Draft) (total : Result Draft PolicyFault) → at ≡ number → left ≡ line ∷ rest
    → with_lines version number left draft ≡ total → with_line version at line draft ≡ Ok next → after ≡ number + 1 → with_lines version after rest next ≡ total
unfolding with_lines
lines_go_on version number at after left rest line draft next total same e told good more =
    let here : with_line version number line draft ≡ Ok next = rw (← same) good in
    let step : with_lines version number (line ∷ rest) draft ≡ with_lines version (number + 1) rest next = rw here refl in
    rw more (sym step ∙ ap (λ (ls : List (List ℕ)). with_lines version number ls draft) (sym e) ∙ told)

pub lines_done : (version : Version) (number : ℕ) (left : List (List ℕ)) (draft : Draft) (total : Result Draft PolicyFault) → left ≡ [] → with_lines version number left draft ≡ total → total ≡ Ok draft
unfolding with_lines
lines_done version number left draft total e told = sym told ∙ ap (λ (ls : List (List ℕ)). with_lines version number ls draft) e
