-- A change of a subject's parent, and the way back.
use Rattle.std.proofs.Common.{◌≡◌, ℕ, zero, suc, ◌<◌, Bool, true, false, not, List, [], ◌∷◌, length, map, Option, None, Some, refl, sym, ap, subst, ◌∙◌, arith, is_some, slice_get, if◌then◌else◌}
use Rattle.std.specs.Option.{option_map_or}
use Rattle.std.specs.List.{list_all, position}
use Rattle.pol_names.specs.declared.subject_id.SubjectId.{SubjectId}
use Rattle.pol_text.specs.declared.subject.Subject.{Subject}
use Rattle.pol_text.specs.declared.fault.ChainFault.TheVariants.{Cycle, TooDeep}
use Rattle.pol_names.specs.SubjectId.{same_id, group_id}
use Rattle.pol_text.specs.Policy.{id_of, find_subject, ends_within, all_of, WellFormed}
use Rattle.pol_text.specs.Places.{changed_at}
use Rattle.pol_text.specs.Change.{with_changed, with_parent, chain_fault}
use Rattle.pol_text.proofs.RightSubject.{right_from}
use Rattle.pol_text.proofs.Keeps.{set_at, set_is_changed, ids_map, changes_keep, changes, kept_but_short}
use Rattle.pol_text.proofs.KeepsAdd.{group_name}
use Rattle.pol_text.proofs.Placed.{AreFields, Placed, placed, somewhere, not_missing, right_now}

-- the subject at the place
pub the_placed : (id : SubjectId) (now p : List Subject) (keys : List SubjectId) (i : ℕ) → p ≡ now → AreFields p keys → position (same_id id) keys ≡ Some i
    → is_some (find_subject id now) ≡ true → (s : Subject) × Placed id now p keys i s
the_placed id now p keys i view w some there = by (slice_get p i) refl
  where
    by : (o : Option Subject) → slice_get p i ≡ o → (s : Subject) × Placed id now p keys i s
    by None e = not_missing id now p view (sym (somewhere id p keys i w some ∙ e)) there
    by (Some s) e = (s, placed id now p keys i s view w some (sym e))

put_back : (p : List Subject) (i : ℕ) (parent former : Option (List ℕ)) → option_map_or (λ s. s.parent) (slice_get p i) None ≡ former
    → changed_at i (with_parent former) (changed_at i (with_parent parent) p) ≡ p
put_back [] i parent former e = refl
put_back (x ∷ p) zero parent former e = ap (λ o. record x { parent = o } ∷ p) (sym e)
put_back (x ∷ p) (suc i) parent former e = ap (λ l. x ∷ l) (put_back p i parent former e)

length_changed : {X : Type 0} (f : X → X) (p : List X) (i : ℕ) → length (changed_at i f p) ≡ length p
length_changed f [] i = refl
length_changed f (x ∷ p) zero = refl
length_changed f (x ∷ p) (suc i) = ap suc (length_changed f p i)

pub within_changed : (f : Subject → Subject) (p new : List Subject) (i : ℕ) → new ≡ changed_at i f p → i < length p → i < length new
within_changed f p new i e lt = let same : length new ≡ length p = ap length e ∙ length_changed f p i in omega arith

pub back_again : (now p new back : List Subject) (i : ℕ) (parent former : Option (List ℕ)) → p ≡ now → new ≡ changed_at i (with_parent parent) p
    → option_map_or (λ s. s.parent) (slice_get p i) None ≡ former → back ≡ changed_at i (with_parent former) new → back ≡ p
back_again now p new back i parent former view e was again = again ∙ ap (changed_at i (with_parent former)) e ∙ put_back p i parent former was

no_fault : (a b : Bool) → (if not a then Some Cycle else if not b then Some TooDeep else None) ≡ None → b ≡ true
no_fault true true e = refl
no_fault true false e = cc
no_fault false b e = cc

module _ {id : SubjectId} {now p : List Subject} {keys : List SubjectId} {i : ℕ} {s : Subject} (h : Placed id now p keys i s) (parent : Option (List ℕ)) (new : List Subject)
    (e : new ≡ changed_at i (with_parent parent) p) where
  here : new ≡ with_changed id (with_parent parent) p
  here = e ∙ sym (set_at (with_parent parent) p i s h.at) ∙ set_is_changed id (with_parent parent) p i s h.at h.same h.fields.0.distinct

  pub parent_changed : new ≡ with_changed id (with_parent parent) now
  parent_changed = here ∙ ap (with_changed id (with_parent parent)) h.view

  pub keys_changed : keys ≡ map id_of new
  keys_changed = h.fields.1 ∙ sym (ap (map id_of) here ∙ ids_map (changes id (with_parent parent) (λ t. refl)) (changes_keep id (with_parent parent) (λ t. refl)) p)

  pub fields_changed : all_of (λ name. is_some (find_subject (group_id name) now)) parent ≡ true → chain_fault new ≡ None → AreFields new keys
  fields_changed group fine =
      let group_here : all_of (λ name. is_some (find_subject (group_id name) p)) parent ≡ true = subst (λ l. all_of (λ name. is_some (find_subject (group_id name) l)) parent ≡ true) (sym h.view) group in
      let r = right_now h in
      let short : list_all (ends_within 8 new) new ≡ true = no_fault (list_all (ends_within (length new) new) new) (list_all (ends_within 8 new) new) fine in
      let right = right_from (with_parent parent s) (record { name = r.name; parent = group_name p h.fields.0 parent group_here; login = r.login; enable = r.enable; secrets = r.secrets; level = r.level; services = r.services; few = r.few; rules = r.rules }) in (
        subst WellFormed (sym here) (kept_but_short id (with_parent parent) (λ t. refl) p i s h.at h.same right group_here h.fields.0 (subst (λ l. list_all (ends_within 8 l) l ≡ true) here short)),
        keys_changed,
      )
