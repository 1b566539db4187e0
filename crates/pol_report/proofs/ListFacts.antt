-- Lists of changes, one user after another.
use Rattle.std.proofs.Common.{◌≡◌, ◌<◌, ◌+◌, ℕ, suc, length, map, take, get_or, subst, arith, List, [], ◌∷◌, ◌++◌, filter, Bool, true, false, cond, Option, refl, sym, ap, ◌∙◌, append_assoc, append-nil}
use Rattle.std.specs.List.{AllZip}
use Rattle.pol_text.specs.declared.subject.Subject.{Subject}
use Rattle.pol_meaning.specs.LineChanges.{IsGained, IsChangeOf, ChangesOf, is_change}
use Rattle.pol_report.specs.Sharing.{IsListed}
use Rattle.pol_meaning.specs.declared.Changed.{Changed}
use Rattle.pol_report.proofs.Leasts.{if_any_unique, filter_more}

filter_append : (xs ys : List Changed) → filter is_change (xs ++ ys) ≡ filter is_change xs ++ filter is_change ys
filter_append [] ys = refl
filter_append (x ∷ xs) ys = by (is_change x) (filter_append xs ys)
  where
    by : (b : Bool) → filter is_change (xs ++ ys) ≡ filter is_change xs ++ filter is_change ys
        → cond b (x ∷ filter is_change (xs ++ ys)) (filter is_change (xs ++ ys)) ≡ cond b (x ∷ filter is_change xs) (filter is_change xs) ++ filter is_change ys
    by true h = ap (λ (rest : List Changed). x ∷ rest) h
    by false h = h

zip_append : {A B : Type 0} (R : A → B → Type 0) (xs : List A) (ys : List B) (x : A) (y : B) → AllZip R xs ys → R x y → AllZip R (xs ++ x ∷ []) (ys ++ y ∷ [])
zip_append R [] [] x y h r = (r, tt)
zip_append R [] (b ∷ ys) x y h r = absurd h
zip_append R (a ∷ xs) [] x y h r = absurd h
zip_append R (a ∷ xs) (b ∷ ys) x y h r = (h.0, zip_append R xs ys x y h.1 r)

module _ (before after : List Subject) where
  pub no_changes : ChangesOf before after [] []
  no_changes = record { all = []; each = tt; listed = refl }

  -- one more user
  pub more_changes : (users : List (List ℕ)) (changes : List Changed) (user : List ℕ) (changed : Changed) → ChangesOf before after users changes → IsChangeOf before after user changed
      → ChangesOf before after (users ++ user ∷ []) (changes ++ filter is_change (changed ∷ []))
  more_changes users changes user changed so_far change = record {
    all = so_far.all ++ changed ∷ [];
    each = zip_append (IsChangeOf before after) users so_far.all user changed so_far.each change;
    listed = ap (λ (front : List Changed). front ++ filter is_change (changed ∷ [])) so_far.listed ∙ sym (filter_append so_far.all (changed ∷ []));
  }

  only_change : (user : List ℕ) (a b : Changed) → IsChangeOf before after user a → IsChangeOf before after user b → a ≡ b
  only_change user a b h k =
      ap (λ (n : List ℕ). record a { user = n }) (h.user_is ∙ sym k.user_is)
      ∙ ap (λ (t : Option (List ℕ)). record { user = b.user; permits = t; denies = a.denies }) (if_any_unique (IsGained before after user) a.permits b.permits h.permits_is k.permits_is)
      ∙ ap (λ (t : Option (List ℕ)). record { user = b.user; permits = b.permits; denies = t }) (if_any_unique (IsGained after before user) a.denies b.denies h.denies_is k.denies_is)

  only_all : (users : List (List ℕ)) (a b : List Changed) → AllZip (IsChangeOf before after) users a → AllZip (IsChangeOf before after) users b → a ≡ b
  only_all [] [] [] h k = refl
  only_all [] [] (y ∷ b) h k = absurd k
  only_all [] (x ∷ a) b h k = absurd h
  only_all (u ∷ users) [] b h k = absurd h
  only_all (u ∷ users) (x ∷ a) [] h k = absurd k
  only_all (u ∷ users) (x ∷ a) (y ∷ b) h k =
      ap (λ (first : Changed). first ∷ a) (only_change u x y h.0 k.0) ∙ ap (λ (rest : List Changed). y ∷ rest) (only_all users a b h.1 k.1)

  -- there is one list
  pub only_changes : (users : List (List ℕ)) (a b : List Changed) → ChangesOf before after users a → ChangesOf before after users b → a ≡ b
  only_changes users a b h k = h.listed ∙ ap (filter is_change) (only_all users h.all k.all h.each k.each) ∙ sym k.listed

  -- one more subject: a user that is looked for, or another
  step_listed : (test : Subject → Bool) (subjects : List Subject) (i : ℕ) (subject : Subject) (users : List (List ℕ)) (changes next : List Changed) (changed : Changed)
      → i < length subjects → get_or subjects i subject ≡ subject → test subject ≡ true → IsChangeOf before after subject.name changed
      → next ≡ changes ++ filter is_change (changed ∷ []) → ChangesOf before after (users ++ map (λ subject. subject.name) (filter test (take i subjects))) changes
      → ChangesOf before after (users ++ map (λ subject. subject.name) (filter test (take (i + 1) subjects))) next
  step_listed test subjects i subject users changes next changed lt at passes change is so_far =
      let longer : i + 1 ≡ suc i = omega arith in
      let names = filter_more test (λ (s : Subject). s.name) subjects i subject lt at in
      let listed : List (List ℕ) = map (λ (s : Subject). s.name) (filter test (take i subjects)) in
      let all : users ++ map (λ (s : Subject). s.name) (filter test (take (i + 1) subjects)) ≡ (users ++ listed) ++ subject.name ∷ [] =
      ap (λ (n : ℕ). users ++ map (λ (s : Subject). s.name) (filter test (take n subjects))) longer
      ∙ ap (λ (more : List (List ℕ)). users ++ more) (names ∙ ap (λ (b : Bool). listed ++ cond b (subject.name ∷ []) []) passes)
      ∙ sym (append_assoc users listed (subject.name ∷ [])) in
      subst (λ (us : List (List ℕ)). ChangesOf before after us next) (sym all)
      (subst (λ (cs : List Changed). ChangesOf before after ((users ++ listed) ++ subject.name ∷ []) cs) (sym is) (more_changes (users ++ listed) changes subject.name changed so_far change))

  pub step_told : (test : Subject → Bool) (subjects : List Subject) (i : ℕ) (subject : Subject) (users : List (List ℕ)) (changes next : List Changed)
      → i < length subjects → get_or subjects i subject ≡ subject → test subject ≡ true → IsListed before after subject.name changes next
      → ChangesOf before after (users ++ map (λ subject. subject.name) (filter test (take i subjects))) changes
      → ChangesOf before after (users ++ map (λ subject. subject.name) (filter test (take (i + 1) subjects))) next
  step_told test subjects i subject users changes next lt at passes told so_far =
      step_listed test subjects i subject users changes next told.changed lt at passes told.change told.listed so_far

  pub step_passed : (test : Subject → Bool) (subjects : List Subject) (i : ℕ) (subject : Subject) (users : List (List ℕ)) (changes next : List Changed)
      → i < length subjects → get_or subjects i subject ≡ subject → test subject ≡ false
      → next ≡ changes → ChangesOf before after (users ++ map (λ subject. subject.name) (filter test (take i subjects))) changes
      → ChangesOf before after (users ++ map (λ subject. subject.name) (filter test (take (i + 1) subjects))) next
  step_passed test subjects i subject users changes next lt at fails is so_far =
      let longer : i + 1 ≡ suc i = omega arith in
      let names = filter_more test (λ (s : Subject). s.name) subjects i subject lt at in
      let listed : List (List ℕ) = map (λ (s : Subject). s.name) (filter test (take i subjects)) in
      let all : users ++ map (λ (s : Subject). s.name) (filter test (take (i + 1) subjects)) ≡ users ++ listed =
      ap (λ (n : ℕ). users ++ map (λ (s : Subject). s.name) (filter test (take n subjects))) longer
      ∙ ap (λ (more : List (List ℕ)). users ++ more) (names ∙ ap (λ (b : Bool). listed ++ cond b (subject.name ∷ []) []) fails ∙ append-nil listed) in
      subst (λ (us : List (List ℕ)). ChangesOf before after us next) (sym all) (subst (λ (cs : List Changed). ChangesOf before after (users ++ listed) cs) (sym is) so_far)
