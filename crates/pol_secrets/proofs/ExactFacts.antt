-- A change of a secret is listed exactly where it is one.
use Rattle.std.proofs.Common.{◌≡◌, ◌<◌, ◌⊎◌, inl, inr, ℕ, zero, suc, Bool, true, false, cond, ◌&&◌, not, List, [], ◌∷◌, ◌++◌, map, filter, Option, None, Some, refl, sym, ap, subst, ◌∙◌, arith, is_some, Contains, flat_map, option_map, option_to_list}
use Rattle.std.specs.Prelude.{slice_index_or}
use Rattle.std.specs.Option.{option_and_then}
use Rattle.std.proofs.lemmas.List.Elements.{Contains-append_left, Contains-append_right, Contains-append_cases}
use Rattle.pol_names.specs.SubjectId.{same_kind, same_id, same_id-Decides, user_id}
use Rattle.pol_names.specs.declared.subject_id.Kind.TheVariants.{User}
use Rattle.pol_names.specs.declared.subject_id.SubjectId.{SubjectId}
use Rattle.pol_names.specs.declared.secret.Credential.{Credential}
use Rattle.pol_names.specs.declared.secret.Credential.TheVariants.{Login, Enable}
use Rattle.pol_text.specs.Policy.{id_of, find_subject}
use Rattle.pol_text.specs.Setting.{secret_for}
use Rattle.pol_text.specs.declared.subject.Subject.{Subject}
use Rattle.pol_meaning.specs.LineChanges.{users_of, is_alone, users_alone}
use Rattle.pol_secrets.specs.Altering.{AreAllOf, alteration_of, alteration_in, changed_so, secret_change, secret_changes_of, secret_changes}
use Rattle.pol_secrets.specs.declared.secret_change.Alteration.{Alteration}
use Rattle.pol_secrets.specs.declared.secret_change.SecretChange.{SecretChange}

-- ---- what a list has

first_contained : {A : Type 0} (x : A) (xs : List A) → Contains (x ∷ xs) x
first_contained x xs = (0, omega arith, refl)

later_contained : {A : Type 0} (x : A) (xs : List A) (y : A) → Contains xs y → Contains (x ∷ xs) y
later_contained x xs y c = Contains-append_right (x ∷ []) xs y c

only_contained : {A : Type 0} (x y : A) → Contains (x ∷ []) y → y ≡ x
only_contained {A} x y c = one c.0 c.1 c.2
  where
    one : (k : ℕ) → k < 1 → slice_index_or (x ∷ []) k y ≡ y → y ≡ x
    one zero lt e = sym e
    one (suc k) lt e = absurd (omega arith)

contained_cases : {A : Type 0} (x : A) (xs : List A) (y : A) → Contains (x ∷ xs) y → (y ≡ x) ⊎ Contains xs y
contained_cases {A} x xs y c = by (Contains-append_cases (x ∷ []) xs y c)
  where
    by : Contains (x ∷ []) y ⊎ Contains xs y → (y ≡ x) ⊎ Contains xs y
    by (inl p) = inl (only_contained x y p)
    by (inr q) = inr q

none_contained : {A : Type 0} (y : A) → Contains [] y → ⊥
none_contained y c = omega (arith, c.1)

-- ---- whose secrets are looked at

module _ (user : List ℕ) (test : Subject → Bool) (passes : (subject : Subject) → id_of subject ≡ user_id user → test subject ≡ true) where
  abbrev names : List Subject → List (List ℕ)
  names policy = map (λ (subject : Subject). subject.name) (filter test policy)

  among : (policy : List Subject) (found : Subject) → find_subject (user_id user) policy ≡ Some found → Contains (names policy) user
  among [] found e = absurd cc
  among (subject ∷ rest) found e = by (same_id (user_id user) (id_of subject)) refl e (among rest found)
    where
      kept : (b : Bool) → Contains (names rest) user → Contains (map (λ (s : Subject). s.name) (cond b (subject ∷ filter test rest) (filter test rest))) user
      kept true c = later_contained subject.name (names rest) user c
      kept false c = c

      by : (b : Bool) → same_id (user_id user) (id_of subject) ≡ b → cond b (Some subject) (find_subject (user_id user) rest) ≡ Some found
          → (find_subject (user_id user) rest ≡ Some found → Contains (names rest) user) → Contains (names (subject ∷ rest)) user
      by true is h later =
          let same : user_id user ≡ id_of subject = (same_id-Decides (user_id user) (id_of subject)).0 is in
          let named : subject.name ≡ user = sym (ap (λ (id : SubjectId). id.name) same) in
          let here : Contains (subject.name ∷ names rest) user = subst (Contains (subject.name ∷ names rest)) named (first_contained subject.name (names rest)) in
          subst (λ (b : Bool). Contains (map (λ (s : Subject). s.name) (cond b (subject ∷ filter test rest) (filter test rest))) user) (sym (passes subject (sym same))) here
      by false is h later = kept (test subject) (later h)

-- a user of the policy is one of its users
present : (user : List ℕ) (policy : List Subject) (found : Subject) → find_subject (user_id user) policy ≡ Some found → Contains (users_of policy) user
present user policy found e =
    among user (λ (subject : Subject). same_kind subject.kind User) (λ subject is. ap (λ (id : SubjectId). same_kind id.kind User) is) policy found e

-- and one whom the other doesn't have is one of those alone
alone : (user : List ℕ) (other policy : List Subject) (found : Subject) → find_subject (user_id user) other ≡ None → find_subject (user_id user) policy ≡ Some found
    → Contains (users_alone other policy) user
alone user other policy found none e =
    among user (is_alone other)
    (λ subject is. ap (λ (id : SubjectId). same_kind id.kind User && not (is_some (find_subject id other))) is ∙ ap (λ (o : Option Subject). not (is_some o)) none)
    policy found e

module _ (before after : List Subject) where
  -- who isn't in either policy has no secret that changes
  looked_at : (user : List ℕ) (credential : Credential) (alteration : Alteration) → alteration_in before after user credential ≡ Some alteration
      → Contains (users_of after ++ users_alone after before) user
  looked_at user credential alteration e = by (find_subject (user_id user) after) (find_subject (user_id user) before) refl refl e
    where
      by : (new old : Option Subject) → find_subject (user_id user) after ≡ new → find_subject (user_id user) before ≡ old
          → alteration_of (option_and_then (secret_for credential) old) (option_and_then (secret_for credential) new) ≡ Some alteration
          → Contains (users_of after ++ users_alone after before) user
      by (Some found) old at was h = Contains-append_left (users_of after) (users_alone after before) user (present user after found at)
      by None (Some found) at was h = Contains-append_right (users_of after) (users_alone after before) user (alone user after before found at was)
      by None None at was h = absurd cc

  -- ---- what is listed is so

  module _ (user : List ℕ) (credential : Credential) (alteration : Alteration) where
    so_far : (name : List ℕ) (which : Credential) → Contains (secret_change before after name which) (changed_so user credential alteration)
        → alteration_in before after user credential ≡ Some alteration
    so_far name which c = by (alteration_in before after name which) refl c
      where
        by : (found : Option Alteration) → alteration_in before after name which ≡ found → Contains (option_to_list (option_map (changed_so name which) found)) (changed_so user credential alteration)
            → alteration_in before after user credential ≡ Some alteration
        by None is h = absurd (none_contained (changed_so user credential alteration) h)
        by (Some other) is h =
            let same = only_contained (changed_so name which other) (changed_so user credential alteration) h in
            ap (λ (change : SecretChange). alteration_in before after change.user change.credential) same
            ∙ is ∙ ap (λ (change : SecretChange). Some change.alteration) (sym same)

    listed : (users : List (List ℕ)) → Contains (flat_map (secret_changes_of before after) users) (changed_so user credential alteration)
        → alteration_in before after user credential ≡ Some alteration
    listed [] c = absurd (none_contained (changed_so user credential alteration) c)
    listed (name ∷ rest) c =
        elim (Contains-append_cases (secret_changes_of before after name) (flat_map (secret_changes_of before after) rest) (changed_so user credential alteration) c) [
          | inl own ↦
              elim (Contains-append_cases (secret_change before after name Login) (secret_change before after name Enable) (changed_so user credential alteration) own) [
                | inl d ↦ so_far name Login d
                | inr d ↦ so_far name Enable d
              ]
          | inr later ↦ listed rest later
        ]

    -- ---- what is so is listed

    one : alteration_in before after user credential ≡ Some alteration → Contains (secret_change before after user credential) (changed_so user credential alteration)
    one e =
        subst (λ (found : Option Alteration). Contains (option_to_list (option_map (changed_so user credential) found)) (changed_so user credential alteration)) (sym e)
        (first_contained (changed_so user credential alteration) [])

    spread : (users : List (List ℕ)) → Contains users user → Contains (secret_changes_of before after user) (changed_so user credential alteration)
        → Contains (flat_map (secret_changes_of before after) users) (changed_so user credential alteration)
    spread [] c h = absurd (none_contained user c)
    spread (name ∷ rest) c h =
        elim (contained_cases name rest user c) [
          | inl e ↦
              Contains-append_left (secret_changes_of before after name) (flat_map (secret_changes_of before after) rest) (changed_so user credential alteration)
              (subst (λ (it : List ℕ). Contains (secret_changes_of before after it) (changed_so user credential alteration)) e h)
          | inr d ↦
              Contains-append_right (secret_changes_of before after name) (flat_map (secret_changes_of before after) rest) (changed_so user credential alteration) (spread rest d h)
        ]

  of_user : (user : List ℕ) (credential : Credential) (alteration : Alteration) → Contains (secret_change before after user credential) (changed_so user credential alteration)
      → Contains (secret_changes_of before after user) (changed_so user credential alteration)
  of_user user Login alteration c = Contains-append_left (secret_change before after user Login) (secret_change before after user Enable) (changed_so user Login alteration) c
  of_user user Enable alteration c = Contains-append_right (secret_change before after user Login) (secret_change before after user Enable) (changed_so user Enable alteration) c

  pub all_of : AreAllOf before after (secret_changes before after)
  all_of user credential alteration = (
    λ c. listed user credential alteration (users_of after ++ users_alone after before) c,
    λ e. spread user credential alteration (users_of after ++ users_alone after before) (looked_at user credential alteration e)
        (of_user user credential alteration (one user credential alteration e)),
  )
