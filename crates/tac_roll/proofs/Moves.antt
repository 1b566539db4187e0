-- Each change of what is known keeps the rule.
use Rattle.std.proofs.Common.{◌≡◌, ◌≢◌, ◌⊎◌, ℕ, zero, suc, ◌<◌, List, [], ◌∷◌, ◌++◌, length, map, set, true, false, true≢false, refl, sym, ap, ◌∙◌, subst, inl, inr, ⊎_elim, arith, append_assoc, append-nil}
use Rattle.std.proofs.lemmas.List.Elements.{All-nil, All-append, All-weaker, All-map}
use mathlib.Core.Option.{some, some-ne-none, some-injective}
use lib.ListN.{get_elem?}
use Rattle.atomic_table.specs.Table.{State, Me, Splits, Joins, Allows, step, keeps as no_act}
use Rattle.atomic_table.proofs.Lists.{at_set, set_again}
use mathlib.Core.Option.{none}
use Rattle.tac_roll.specs.declared.rule.View.{View}
use Rattle.tac_roll.specs.Roll.{keeper_of, member_of, nobody, with_one_more, newcomer, both, keeper_alone, member_alone, kept_after, member_after, AreGiven, Knows, Keeps, Belongs, IsKept, Compares}

off : false ≡ true → ⊥
off e = true≢false (sym e)

-- ---- lists that are read at a place

at_end : {A : Type 0} (l : List A) (a b : A) (j : ℕ) → get_elem? (l ++ a ∷ []) j ≡ some b → ((j ≡ length l) × (a ≡ b)) ⊎ (get_elem? l j ≡ some b)
at_end [] a b zero e = inl (refl, some-injective a b e)
at_end [] a b (suc j) e = absurd (some-ne-none b (sym e))
at_end (x ∷ xs) a b zero e = inr e
at_end (x ∷ xs) a b (suc j) e = ⊎_elim (λ t. inl (ap suc t.0, t.1)) (λ t. inr t) (at_end xs a b j e)

set_length : {A : Type 0} (l : List A) (i : ℕ) (a : A) → length (set l i a) ≡ length l
set_length [] i a = refl
set_length (x ∷ xs) zero a = refl
set_length (x ∷ xs) (suc i) a = ap suc (set_length xs i a)

-- what is true of each place and what stands there, after one of them was set
of_set : {A : Type 0} (l : List A) (id : ℕ) (a : A) (P : ℕ → A → Type 0) → P id a → ((j : ℕ) (v : A) → j ≢ id → get_elem? l j ≡ some v → P j v) → (j : ℕ) (v : A) → get_elem? (set l id a) j ≡ some v → P j v
of_set {A} l id a P mine others j v e =
    ⊎_elim
    (λ (t : (j ≡ id) × (a ≡ v)). subst (λ (y : ℕ × A). P y.0 y.1) (λ i. (sym t.0 i, t.1 i)) mine)
    (λ (t : (j ≢ id) × (get_elem? l j ≡ some v)). others j v t.0 t.1)
    (at_set l id j a v e)

-- the same after one was added
of_end : {A : Type 0} (l : List A) (n : ℕ) (a : A) (P : ℕ → A → Type 0) → length l ≡ n → P n a → ((j : ℕ) (v : A) → get_elem? l j ≡ some v → P j v) → (j : ℕ) (v : A) → get_elem? (l ++ a ∷ []) j ≡ some v → P j v
of_end {A} l n a P len mine others j v e =
    ⊎_elim
    (λ (t : (j ≡ length l) × (a ≡ v)). let p : n ≡ j = sym (t.0 ∙ len) in subst (λ (y : ℕ × A). P y.0 y.1) (λ i. (p i, t.1 i)) mine)
    (λ (t : get_elem? l j ≡ some v). others j v t)
    (at_end l a v j e)

-- after one was set and one added
of_split : {A : Type 0} (l : List A) (id : ℕ) (left right : A) (P : ℕ → A → Type 0) → P (length l) right → P id left → ((j : ℕ) (v : A) → j ≢ id → get_elem? l j ≡ some v → P j v) → (j : ℕ) (v : A) → get_elem? (set l id left ++ right ∷ []) j ≡ some v → P j v
of_split l id left right P new mine others =
    of_end (set l id left) (length l) right P (set_length l id left) new (of_set l id left P mine others)

-- after two were set
of_join : {A : Type 0} (l : List A) (id other : ℕ) (all spent : A) (P : ℕ → A → Type 0) → other ≢ id → P other spent → P id all → ((j : ℕ) (v : A) → j ≢ id → j ≢ other → get_elem? l j ≡ some v → P j v) → (j : ℕ) (v : A) → get_elem? (set (set l id all) other spent) j ≡ some v → P j v
of_join {A} l id other all spent P apart gone mine others =
    of_set (set l id all) other spent P gone (λ j v ne e.
    of_set l id all (λ k w. k ≢ other → P k w) (λ ne'. mine) (λ k w n e' ne'. others k w n ne' e') j v e ne)

-- ---- the rule

module _ {E : Type 0} where
  abbrev Holds : State (Unit {0}) (View E) → Type 0
  Holds state = IsKept state.views

  pub begins : IsKept (keeper_of {E = E} [] 0 ∷ [])
  begins = record {
    keeper = 0;
    all = [];
    members = 0;
    given = All-nil _;
    keeps = λ j v e. of_one j v e (λ k w. Keeps 0 [] 0 k w) (λ _. (refl, refl, refl));
    belong = λ j v e. of_one j v e (λ k w. Belongs [] 0 w) (λ s. absurd (off s));
    apart = λ one two v w e f s t n. of_one one v e (λ k u. u.is_member ≡ true → one ≡ two) (λ u. absurd (off u)) s;
  }
    where
      of_one : (j : ℕ) (v : View E) → get_elem? (keeper_of {E = E} [] 0 ∷ []) j ≡ some v → (P : ℕ → View E → Type 0) → P 0 (keeper_of [] 0) → P j v
      of_one zero v e P p = subst (λ u. P 0 u) (some-injective _ _ e) p
      of_one (suc j) v e P p = absurd (some-ne-none v (sym e))

  pub admits : (id : ℕ) (all : List (ℕ × E)) (members : ℕ) → Splits Holds id (keeper_of all members) (with_one_more (keeper_of all members)) (newcomer (keeper_of all members))
  admits id all members s h at =
      let k0 : View E = keeper_of all members in
      let left = with_one_more k0 in
      let right = newcomer k0 in
      let mine = h.keeps id k0 at refl in
      record {
        keeper = h.keeper;
        all = h.all;
        members = suc h.members;
        given = All-weaker (λ item. item.0 < h.members) (λ item. item.0 < suc h.members) (λ x p. omega arith) h.all h.given;
        keeps = of_split s.views id left right (Keeps h.keeper h.all (suc h.members))
            (λ k. absurd (off k))
            (λ _. (mine.0, mine.1, ap suc mine.2))
            (λ j v ne e k. absurd (ne ((h.keeps j v e k).0 ∙ sym mine.0)));
        belong = of_split s.views id left right (λ j v. Belongs h.all (suc h.members) v)
            (λ _. let m : members ≡ h.members = mine.2 in (omega arith, ([], sym mine.1 ∙ sym (append-nil all), All-nil _)))
            (λ k. absurd (off k))
            (λ j v ne e k. let t = h.belong j v e k in let l : v.number < h.members = t.0 in (omega arith, t.1));
        apart = λ one two v w e f. of_split s.views id left right
            (λ i x. (j : ℕ) (y : View E) → get_elem? (set s.views id left ++ right ∷ []) j ≡ some y → x.is_member ≡ true → y.is_member ≡ true → x.number ≡ y.number → i ≡ j)
            (of_split s.views id left right (λ j y. true ≡ true → y.is_member ≡ true → members ≡ y.number → length s.views ≡ j)
            (λ _ _ _. refl)
            (λ _ t _. absurd (off t))
            (λ j y ne g _ t n. let m : members ≡ h.members = mine.2 in let l : y.number < h.members = (h.belong j y g t).0 in absurd (omega arith)))
            (λ j y g t. absurd (off t))
            (λ i x ne g. of_split s.views id left right (λ j y. x.is_member ≡ true → y.is_member ≡ true → x.number ≡ y.number → i ≡ j)
            (λ t _ n. let m : members ≡ h.members = mine.2 in let l : x.number < h.members = (h.belong i x g t).0 in let n' : x.number ≡ members = n in absurd (omega arith))
            (λ _ t _. absurd (off t))
            (λ j y ne' g'. h.apart i j x y g g'))
            one v e two w f;
      }

  pub takes_in : (id : ℕ) (all : List (ℕ × E)) (members other number : ℕ) (seen : List (ℕ × E)) → Joins Holds id (keeper_of all members) other (member_of number seen) (both (keeper_of all members) (member_of number seen)) nobody
  takes_in id all members other number seen s h at apart there =
      let k0 : View E = keeper_of all members in
      let w0 : View E = member_of number seen in
      let b = both k0 w0 in
      let mine = h.keeps id k0 at refl in
      let theirs : get_elem? s.views other ≡ some w0 = ⊎_elim (λ (t : (other ≡ id) × (b ≡ w0)). absurd (apart t.0)) (λ (t : (other ≢ id) × (get_elem? s.views other ≡ some w0)). t.1) (at_set s.views id other b w0 there) in
      let sat = h.belong other w0 theirs refl in
      record {
        keeper = h.keeper;
        all = h.all;
        members = h.members;
        given = h.given;
        keeps = of_join s.views id other b nobody (Keeps h.keeper h.all h.members) apart
            (λ k. absurd (off k))
            (λ _. mine)
            (λ j v ne ne' e. h.keeps j v e);
        belong = of_join s.views id other b nobody (λ j v. Belongs h.all h.members v) apart
            (λ k. absurd (off k))
            (λ _. sat)
            (λ j v ne ne' e. h.belong j v e);
        apart = λ one two v w e f. of_join s.views id other b nobody
            (λ i x. (j : ℕ) (y : View E) → get_elem? (set (set s.views id b) other nobody) j ≡ some y → x.is_member ≡ true → y.is_member ≡ true → x.number ≡ y.number → i ≡ j) apart
            (λ j y g t. absurd (off t))
            (of_join s.views id other b nobody (λ j y. true ≡ true → y.is_member ≡ true → number ≡ y.number → id ≡ j) apart
            (λ _ t _. absurd (off t))
            (λ _ _ _. refl)
            (λ j y ne ne' g _ t n. absurd (ne' (sym (h.apart other j w0 y theirs g refl t n)))))
            (λ i x ne ne' g. of_join s.views id other b nobody (λ j y. x.is_member ≡ true → y.is_member ≡ true → x.number ≡ y.number → i ≡ j) apart
            (λ _ t _. absurd (off t))
            (λ t _ n. absurd (ne' (h.apart i other x w0 g theirs t refl n)))
            (λ j y n n' g'. h.apart i j x y g g'))
            one v e two w f;
      }

  -- the keeper with a member that it took in
  abbrev pub hosting : List (ℕ × E) → ℕ → ℕ → List (ℕ × E) → View E
  hosting all members number seen = both (keeper_of all members) (member_of number seen)

  pub adds : (id : ℕ) (all : List (ℕ × E)) (members number : ℕ) (seen : List (ℕ × E)) (items : List E) → Splits Holds id (hosting all members number seen) (kept_after items (hosting all members number seen)) (member_after items (hosting all members number seen))
  adds id all members number seen items s h at =
      let v0 : View E = hosting all members number seen in
      let left = kept_after items v0 in
      let right = member_after items v0 in
      let more : List (ℕ × E) = map (λ (item : E). (number, item)) items in
      let mine = h.keeps id v0 at refl in
      let sat = h.belong id v0 at refl in
      let whole : all ++ more ≡ h.all ++ more = ap (λ (l : List (ℕ × E)). l ++ more) mine.1 in
      record {
        keeper = h.keeper;
        all = h.all ++ more;
        members = h.members;
        given = All-append (λ item. item.0 < h.members) h.all more h.given (All-map (λ (item : ℕ × E). item.0 < h.members) (λ (item : E). (number, item)) items (λ k d l. sat.0));
        keeps = of_split s.views id left right (Keeps h.keeper (h.all ++ more) h.members)
            (λ k. absurd (off k))
            (λ _. (mine.0, whole, mine.2))
            (λ j v ne e k. absurd (ne ((h.keeps j v e k).0 ∙ sym mine.0)));
        belong = of_split s.views id left right (λ j v. Belongs (h.all ++ more) h.members v)
            (λ _. (sat.0, ([], sym whole ∙ sym (append-nil (all ++ more)), All-nil _)))
            (λ k. absurd (off k))
            (λ j v ne e k.
            let t = h.belong j v e k in
            let other : number ≢ v.number = λ same. ne (h.apart j id v v0 e at k refl (sym same)) in (
              t.0,
              (
                t.1.0 ++ more,
                ap (λ (l : List (ℕ × E)). l ++ more) t.1.1 ∙ append_assoc v.seen t.1.0 more,
                All-append (λ item. item.0 ≢ v.number) t.1.0 more t.1.2 (All-map (λ (item : ℕ × E). item.0 ≢ v.number) (λ (item : E). (number, item)) items (λ k d l. other)),
              ),
            ));
        apart = λ one two v w e f. of_split s.views id left right
            (λ i x. (j : ℕ) (y : View E) → get_elem? (set s.views id left ++ right ∷ []) j ≡ some y → x.is_member ≡ true → y.is_member ≡ true → x.number ≡ y.number → i ≡ j)
            (of_split s.views id left right (λ j y. true ≡ true → y.is_member ≡ true → number ≡ y.number → length s.views ≡ j)
            (λ _ _ _. refl)
            (λ _ t _. absurd (off t))
            (λ j y ne g _ t n. absurd (ne (h.apart j id y v0 g at t refl (sym n)))))
            (λ j y g t. absurd (off t))
            (λ i x ne g. of_split s.views id left right (λ j y. x.is_member ≡ true → y.is_member ≡ true → x.number ≡ y.number → i ≡ j)
            (λ t _ n. absurd (ne (h.apart i id x v0 g at t refl n)))
            (λ _ t _. absurd (off t))
            (λ j y ne' g'. h.apart i j x y g g'))
            one v e two w f;
      }

  pub gives_back : (id : ℕ) (all : List (ℕ × E)) (members number : ℕ) (seen : List (ℕ × E)) → Splits Holds id (hosting all members number seen) (keeper_alone (hosting all members number seen)) (member_alone (hosting all members number seen))
  gives_back id all members number seen s h at =
      let v0 : View E = hosting all members number seen in
      let left = keeper_alone v0 in
      let right = member_alone v0 in
      let mine = h.keeps id v0 at refl in
      let sat = h.belong id v0 at refl in
      record {
        keeper = h.keeper;
        all = h.all;
        members = h.members;
        given = h.given;
        keeps = of_split s.views id left right (Keeps h.keeper h.all h.members)
            (λ k. absurd (off k))
            (λ _. mine)
            (λ j v ne e k. absurd (ne ((h.keeps j v e k).0 ∙ sym mine.0)));
        belong = of_split s.views id left right (λ j v. Belongs h.all h.members v)
            (λ _. sat)
            (λ k. absurd (off k))
            (λ j v ne e k. h.belong j v e k);
        apart = λ one two v w e f. of_split s.views id left right
            (λ i x. (j : ℕ) (y : View E) → get_elem? (set s.views id left ++ right ∷ []) j ≡ some y → x.is_member ≡ true → y.is_member ≡ true → x.number ≡ y.number → i ≡ j)
            (of_split s.views id left right (λ j y. true ≡ true → y.is_member ≡ true → number ≡ y.number → length s.views ≡ j)
            (λ _ _ _. refl)
            (λ _ t _. absurd (off t))
            (λ j y ne g _ t n. absurd (ne (h.apart j id y v0 g at t refl (sym n)))))
            (λ j y g t. absurd (off t))
            (λ i x ne g. of_split s.views id left right (λ j y. x.is_member ≡ true → y.is_member ≡ true → x.number ≡ y.number → i ≡ j)
            (λ t _ n. absurd (ne (h.apart i id x v0 g at t refl n)))
            (λ _ t _. absurd (off t))
            (λ j y ne' g'. h.apart i j x y g g'))
            one v e two w f;
      }

  pub compares : (id slots word : ℕ) (v : View E) → Allows Holds slots id (v, []) word (λ n. n) (Compares (step slots word 0 0 none) (v, []))
  compares id slots word v s h len at small = (
    v,
    no_act,
    tt,
    subst IsKept (sym (set_again s.views id v at)) h,
    (
      refl,
      λ k. let mine = h.keeps id v at k in subst (λ (y : ℕ × List (ℕ × E)). AreGiven y.0 y.1) (sym (λ i. (mine.2 i, mine.1 i))) h.given,
      λ k t. subst (λ (l : List (ℕ × E)). Knows l v.number v.seen) (sym (h.keeps id v at k).1) (h.belong id v at t).1,
    ),
  )

  -- the same, at a view that is known

  pub admits_as : (id : ℕ) (v : View E) (all : List (ℕ × E)) (members : ℕ) → v ≡ keeper_of all members → Splits Holds id v (with_one_more v) (newcomer v)
  admits_as id v all members is = subst (λ (u : View E). Splits Holds id u (with_one_more u) (newcomer u)) (sym is) (admits id all members)

  pub takes_in_as : (id : ℕ) (v : View E) (all : List (ℕ × E)) (members other : ℕ) (w : View E) (number : ℕ) (seen : List (ℕ × E)) → v ≡ keeper_of all members → w ≡ member_of number seen → Joins Holds id v other w (both v w) nobody
  takes_in_as id v all members other w number seen is is' =
      subst (λ (u : View E). Joins Holds id u other w (both u w) nobody) (sym is) (
      subst (λ (x : View E). Joins Holds id (keeper_of all members) other x (both (keeper_of all members) x) nobody) (sym is') (takes_in id all members other number seen))

  pub adds_as : (id : ℕ) (v : View E) (all : List (ℕ × E)) (members number : ℕ) (seen : List (ℕ × E)) (items : List E) → v ≡ hosting all members number seen → Splits Holds id v (kept_after items v) (member_after items v)
  adds_as id v all members number seen items is = subst (λ (u : View E). Splits Holds id u (kept_after items u) (member_after items u)) (sym is) (adds id all members number seen items)

  pub gives_back_as : (id : ℕ) (v : View E) (all : List (ℕ × E)) (members number : ℕ) (seen : List (ℕ × E)) → v ≡ hosting all members number seen → Splits Holds id v (keeper_alone v) (member_alone v)
  gives_back_as id v all members number seen is = subst (λ (u : View E). Splits Holds id u (keeper_alone u) (member_alone u)) (sym is) (gives_back id all members number seen)

  pub compares_as : (id slots word : ℕ) (me : Me (Unit {0}) (View E)) (v : View E) → me ≡ (v, []) → Allows Holds slots id me word (λ n. n) (Compares (step slots word 0 0 none) me)
  compares_as id slots word me v is = subst (λ (m : Me (Unit {0}) (View E)). Allows Holds slots id m word (λ n. n) (Compares (step slots word 0 0 none) m)) (sym is) (compares id slots word v)
