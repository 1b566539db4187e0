-- What is known where a function has found a subject at its place.
use Rattle.std.proofs.Common.{◌≡◌, ℕ, ◌<◌, length, arith, Bool, true, false, ◌||◌, List, map, Option, None, Some, refl, sym, ap, subst, ◌∙◌, slice_get, slice_set, is_some, Result, Ok, Err, OnErr}
use Rattle.std.specs.Option.{option_map_or}
use Rattle.std.specs.List.{position, position_or_len}
use Rattle.std.proofs.lemmas.Bool.{or_left}
use Rattle.std.proofs.lemmas.List.{length-map}
use Rattle.std.proofs.lemmas.List.Quantifiers.{position-Some}
use Rattle.pol_names.specs.declared.subject_id.Kind.TheVariants.{User}
use Rattle.pol_names.specs.declared.subject_id.SubjectId.{SubjectId}
use Rattle.pol_text.specs.declared.subject.Subject.{Subject}
use Rattle.pol_names.specs.SubjectId.{same_kind, same_id}
use Rattle.pol_text.specs.Policy.{id_of, find_subject, is_right_subject, WellFormed}
use Rattle.pol_text.specs.Change.{with_changed}
use Rattle.pol_text.proofs.SubjectFacts.{at_place, found_at, found_nowhere}
use Rattle.pol_text.proofs.RightSubject.{Right, right_parts, right_from}
use Rattle.pol_text.proofs.Keeps.{same_id_is, found_same, all_at, set_back, set_is_changed, kept_at}

-- the policy's fields: its subjects, and their kinds and names
abbrev pub AreFields : List Subject → List SubjectId → Type 0
AreFields p keys = WellFormed p × (keys ≡ map id_of p)

pub nowhere : (id : SubjectId) (p : List Subject) (keys : List SubjectId) → AreFields p keys → position (same_id id) keys ≡ None → find_subject id p ≡ None
nowhere id p keys w none = found_nowhere id p (ap (position (same_id id)) (sym w.1) ∙ none)

pub somewhere : (id : SubjectId) (p : List Subject) (keys : List SubjectId) (i : ℕ) → AreFields p keys → position (same_id id) keys ≡ Some i → find_subject id p ≡ slice_get p i
somewhere id p keys i w some = found_at id p i (ap (position (same_id id)) (sym w.1) ∙ some)

pub within : (id : SubjectId) (p : List Subject) (keys : List SubjectId) (i : ℕ) → AreFields p keys → position (same_id id) keys ≡ Some i → i < length p
within id p keys i w some =
    let lt : i < length keys = (position-Some (same_id id) keys i id some).0 in
    let e : length keys ≡ length p = ap length w.1 ∙ length-map p id_of in
    omega arith

-- the subject is there
pub not_nowhere : {P : Type 0} (id : SubjectId) (now p : List Subject) (keys : List SubjectId) → p ≡ now → AreFields p keys → position (same_id id) keys ≡ None
    → is_some (find_subject id now) ≡ true → P
not_nowhere id now p keys view w none there =
    let e : find_subject id now ≡ None = ap (find_subject id) (sym view) ∙ nowhere id p keys w none in
    absurd (cc)

pub record Placed (id : SubjectId) (now p : List Subject) (keys : List SubjectId) (i : ℕ) (s : Subject) : Type 0 where
  pub view : p ≡ now
  pub fields : AreFields p keys
  pub at : slice_get p i ≡ Some s
  pub found : find_subject id p ≡ Some s
  pub same : same_id id (id_of s) ≡ true

pub placed : (id : SubjectId) (now p : List Subject) (keys : List SubjectId) (i : ℕ) (s : Subject) → p ≡ now → AreFields p keys → position (same_id id) keys ≡ Some i
    → Some s ≡ slice_get p i → Placed id now p keys i s
placed id now p keys i s view w some item =
    let found : find_subject id p ≡ Some s = somewhere id p keys i w some ∙ sym item in
    record { view = view; fields = w; at = sym item; found = found; same = found_same id p s found }

-- the place of the subject of this kind and name
abbrev pub place_in : SubjectId → List SubjectId → ℕ
place_in id keys = position_or_len (same_id id) keys

pub lent : (id : SubjectId) (now p : List Subject) (keys : List SubjectId) (s : Subject) → p ≡ now → AreFields p keys → Some s ≡ find_subject id p
    → Placed id now p keys (place_in id keys) s
lent id now p keys s view w found =
    let at : slice_get p (place_in id keys) ≡ Some s = ap (λ ids. slice_get p (place_in id ids)) w.1 ∙ sym (at_place id p) ∙ sym found in
    record { view = view; fields = w; at = at; found = sym found; same = found_same id p s (sym found) }

pub not_missing : {P : Type 0} (id : SubjectId) (now p : List Subject) → p ≡ now → None ≡ find_subject id p → is_some (find_subject id now) ≡ true → P
not_missing id now p view none there =
    let e : find_subject id now ≡ None = ap (find_subject id) (sym view) ∙ sym none in
    absurd (cc)

module _ {id : SubjectId} {now p : List Subject} {keys : List SubjectId} {i : ℕ} {s : Subject} (h : Placed id now p keys i s) where
  pub right_now : Right s
  right_now = right_parts s (all_at is_right_subject p i s h.fields.0.right h.at)

  pub id_now : id ≡ id_of s
  id_now = same_id_is id (id_of s) h.same

  pub found_now : find_subject id now ≡ Some s
  found_now = ap (find_subject id) (sym h.view) ∙ h.found

  pub changed_now : (f : Subject → Subject) → slice_set p i (f s) ≡ with_changed id f now
  changed_now f = set_is_changed id f p i s h.at h.same h.fields.0.distinct ∙ ap (with_changed id f) h.view

  pub fields_now : (f : Subject → Subject) → ((t : Subject) → id_of (f t) ≡ id_of t) → ((t : Subject) → (f t).parent ≡ t.parent) → Right (f s) → AreFields (slice_set p i (f s)) keys
  fields_now f keeps same_parent right = kept_at id f keeps same_parent p i s h.at h.same (right_from (f s) right) keys h.fields

  pub test_now : (test : Subject → Bool) → option_map_or test (find_subject id now) false ≡ true → test s ≡ true
  test_now test asked = sym (ap (λ o. option_map_or test o false) found_now) ∙ asked

-- a test of the subject asks that it is there
pub test_there : (o : Option Subject) (test : Subject → Bool) → option_map_or test o false ≡ true → is_some o ≡ true
test_there None test asked = asked
test_there (Some s) test asked = refl

module _ {id : SubjectId} {now p : List Subject} {keys : List SubjectId} {i : ℕ} {s : Subject} (h : Placed id now p keys i s) where
  -- a user may have secrets
  pub user_now : id.kind ≡ User → (b : Bool) → (same_kind s.kind User || b) ≡ true
  user_now user b = or_left (same_kind s.kind User) b (ap (λ k. same_kind k User) (sym (ap (λ t. t.kind) (id_now h)) ∙ user))

  pub changed_to : (f : Subject → Subject) (y : Subject) → y ≡ f s → slice_set p i y ≡ with_changed id f now
  changed_to f y e = ap (slice_set p i) e ∙ changed_now h f

  pub fields_to : (f : Subject → Subject) (y : Subject) → y ≡ f s → ((t : Subject) → id_of (f t) ≡ id_of t) → ((t : Subject) → (f t).parent ≡ t.parent) → Right (f s) → AreFields (slice_set p i y) keys
  fields_to f y e keeps same_parent right = subst (λ t. AreFields (slice_set p i t) keys) (sym e) (fields_now h f keeps same_parent right)

  pub unchanged_to : (y : Subject) → y ≡ s → slice_set p i y ≡ now
  unchanged_to y e = ap (slice_set p i) e ∙ set_back p i s h.at ∙ h.view

  pub fields_unchanged : (y : Subject) → y ≡ s → AreFields (slice_set p i y) keys
  fields_unchanged y e = subst (λ l. AreFields l keys) (sym (ap (slice_set p i) e ∙ set_back p i s h.at)) h.fields

pub on_err : {T E P : Type 0} (r : Result T E) → P → OnErr r P
on_err (Ok x) h = tt
on_err (Err e) h = h
