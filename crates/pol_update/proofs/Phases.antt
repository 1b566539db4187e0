-- One subject after another is gone through.
use Rattle.std.proofs.Common.{◌≡◌, ◌⊎◌, inl, inr, ℕ, zero, suc, ◌+◌, ◌<◌, ◌≤◌, ◌&&◌, Bool, true, false, not, true≢false, List, [], ◌∷◌, length, map, drop, get_or, Option, Some, None, is_some, refl, sym, ap, subst, ◌∙◌, arith, if◌then◌else◌}
use Rattle.std.specs.Option.{option_map, option_copied}
use Rattle.std.specs.Borrow.{Bor}
use Rattle.std.specs.List.{list_any}
use Rattle.std.proofs.lemmas.Bool.{and_parts, not-true}
use Rattle.pol_names.specs.SubjectId.{same_kind, same_id, group_id}
use Rattle.pol_names.specs.declared.subject_id.Kind.{Kind}
use Rattle.pol_names.specs.declared.subject_id.Kind.TheVariants.{Group, User}
use Rattle.pol_names.specs.declared.subject_id.SubjectId.{SubjectId}
use Rattle.pol_text.specs.declared.subject.Subject.{Subject}
use Rattle.pol_text.specs.Policy.{WellFormed, id_of, find_subject, all_distinct, all_of, has_parent, max_subjects}
use Rattle.pol_text.specs.Same.{same_subject, same_subject-Decides}
use Rattle.pol_text.specs.Change.{with_changed, with_parent, is_parent}
use Rattle.pol_text.specs.Text.{new_subject}
use Rattle.pol_text.proofs.Keeps.{same_id_is, same_id_self, all_found}
use Rattle.pol_text.proofs.KeepsAdd.{absent_any}
use Rattle.pol_update.specs.Update.{IsAlike, Updates}
use Rattle.pol_update.specs.Planning.{Claim, IsTurned, AreLeft, IsUnderWay, IsThrough, IsLoose, IsUnder, IsWithin, IsOld, IsOut, IsOldOut, IsGone, IsNew, IsThere, IsNewThere, IsSet}
use Rattle.pol_update.specs.declared.plan.Plan.{Plan}
use Rattle.pol_update.proofs.Same.{found_first, found_after}
use Rattle.pol_update.proofs.Stepping.{steps_make}
use Rattle.pol_update.proofs.Turns.{same_back}
use Rattle.pol_update.proofs.Within.{under_changed, no_parent}
use Rattle.pol_update.proofs.Counting.{no_more}

-- ---- those that are left

drop_item : (i : ℕ) (xs : List Subject) (x : Subject) → i < length xs → x ≡ get_or xs i x → drop i xs ≡ x ∷ drop (suc i) xs
drop_item i [] x lt e = absurd (omega (arith, lt))
drop_item zero (y ∷ ys) x lt e = ap (λ (z : Subject). z ∷ ys) (sym e)
drop_item (suc i) (y ∷ ys) x lt e = drop_item i ys x (omega (arith, lt)) e

pub item_left : (i : ℕ) (xs items : List Subject) (x : Subject) → items ≡ xs → i < length items → x ≡ get_or items i x → drop i xs ≡ x ∷ drop (i + 1) xs
item_left i xs items x same lt e =
    let next : i + 1 ≡ suc i = omega arith in
    rw (← same, next) (drop_item i items x lt e)

pub all_left : (all : List Subject) → all_distinct (map id_of all) ≡ true → AreLeft all all
all_left all distinct = record { distinct = distinct; among = λ id s e. e }

next_left : (x : Subject) (rest all : List Subject) → AreLeft (x ∷ rest) all → AreLeft rest all
next_left x rest all left =
    let parts = and_parts (not (list_any (same_id (id_of x)) (map id_of rest))) (all_distinct (map id_of rest)) left.distinct in
    let apart : list_any (same_id (id_of x)) (map id_of rest) ≡ false = not-true _ parts.0 in
    record { distinct = parts.1; among = λ id s e. left.among id s (found_after x rest apart id s e) }

pub first_there : (x : Subject) (rest all : List Subject) → AreLeft (x ∷ rest) all → find_subject (id_of x) all ≡ Some x
first_there x rest all left = left.among (id_of x) x (found_first x rest)

-- who isn't left afterwards is this one, or wasn't left before
not_left : (x : Subject) (rest : List Subject) (id : SubjectId) (b : Bool) → same_id (id_of x) id ≡ b → find_subject id rest ≡ None → (b ≡ false → find_subject id (x ∷ rest) ≡ None)
not_left x rest id true e none apart = absurd (true≢false apart)
not_left x rest id false e none apart = by (same_id id (id_of x)) refl
  where
    by : (b : Bool) → same_id id (id_of x) ≡ b → (if b then Some x else find_subject id rest) ≡ None
    by true f = absurd (true≢false (sym (same_id_self (id_of x)) ∙ ap (same_id (id_of x)) (same_back id (id_of x) f) ∙ e))
    by false f = none

module _ {old new : List Subject} {Kept Done : Claim} {x : Subject} {rest all : List Subject} {before : Plan} (way : IsUnderWay old new Kept Done (x ∷ rest) all before) where
  -- nothing is to be done
  pub passed : Done (id_of x) (find_subject (id_of x) before.made) → IsUnderWay old new Kept Done rest all before
  passed own = record {
    left = next_left x rest all way.left;
    steps = way.steps;
    kept = way.kept;
    done = λ id none. by id (same_id (id_of x) id) refl none;
  }
    where
      by : (id : SubjectId) (b : Bool) → same_id (id_of x) id ≡ b → find_subject id rest ≡ None → Done id (find_subject id before.made)
      by id true e none = subst (λ (i : SubjectId). Done i (find_subject i before.made)) (same_id_is (id_of x) id e) own
      by id false e none = way.done id (not_left x rest id false e none refl)

  -- the subject is turned into this
  pub gone_on : (after : Option Subject) (now : Plan) → ¬ IsAlike old new (id_of x) → IsTurned (id_of x) after before now → Kept (id_of x) after → Done (id_of x) after → IsUnderWay old new Kept Done rest all now
  gone_on after now apart turned keeps does = record {
    left = next_left x rest all way.left;
    steps = turned.steps old new old apart way.steps;
    kept = λ id. subst (Kept id) (sym (turned.turns id)) (kept_by id (same_id (id_of x) id) refl);
    done = λ id none. subst (Done id) (sym (turned.turns id)) (done_by id (same_id (id_of x) id) refl none);
  }
    where
      kept_by : (id : SubjectId) (b : Bool) → same_id (id_of x) id ≡ b → Kept id (if b then after else find_subject id before.made)
      kept_by id true e = subst (λ (i : SubjectId). Kept i after) (same_id_is (id_of x) id e) keeps
      kept_by id false e = way.kept id

      done_by : (id : SubjectId) (b : Bool) → same_id (id_of x) id ≡ b → find_subject id rest ≡ None → Done id (if b then after else find_subject id before.made)
      done_by id true e none = subst (λ (i : SubjectId). Done i after) (same_id_is (id_of x) id e) does
      done_by id false e none = way.done id (not_left x rest id false e none refl)

-- ---- both have it alike, or not

alike_or_not : (a b : Option Subject) → (a ≡ b) ⊎ ¬ (a ≡ b)
alike_or_not None None = inl refl
alike_or_not None (Some t) = inr (λ e. absurd cc)
alike_or_not (Some s) None = inr (λ e. absurd cc)
alike_or_not (Some s) (Some t) = by (same_subject s t) refl
  where
    by : (b : Bool) → same_subject s t ≡ b → (Some s ≡ Some t) ⊎ ¬ (Some s ≡ Some t)
    by true e = inl (ap Some ((same_subject-Decides s t).0 e))
    by false e = inr (λ same. let one : s ≡ t = cc in absurd (true≢false (sym ((same_subject-Decides s t).1 one) ∙ e)))

under_self : (o : Option Subject) → IsUnder o o
under_self None = tt
under_self (Some s) = inr refl

under_same : (a b : Option Subject) → a ≡ b → IsUnder a b
under_same a b e = subst (IsUnder a) e (under_self a)

-- ---- taken out

module _ (old new : List Subject) where
  out_under : (a b : Option Subject) → IsUnder a b → IsUnder (option_map (with_parent None) a) b
  out_under None b u = tt
  out_under (Some s) None u = u
  out_under (Some s) (Some t) u = inl refl

  out_loose : (a : Option Subject) → IsLoose (option_map (with_parent None) a)
  out_loose None = tt
  out_loose (Some s) = refl

  pub out_kept : (id : SubjectId) (now : Option Subject) → ¬ IsAlike old new id → IsOld old new id now → IsOld old new id (option_map (with_parent None) now)
  out_kept id now apart kept = (λ alike. absurd (apart alike), out_under now (find_subject id old) kept.1)

  pub out_done : (id : SubjectId) (now : Option Subject) → IsOut old new id (option_map (with_parent None) now)
  out_done id now apart = out_loose now

  pub out_within : (plan : Plan) (id : SubjectId) → WellFormed old → ((i : SubjectId) → IsOld old new i (find_subject i plan.made)) → IsWithin (with_changed id (with_parent None) plan.made)
  out_within plan id w kept = record {
    upper = old;
    well_formed = w;
    under = under_changed id (with_parent None) plan.made old (λ s. refl) (λ i. (kept i).1) (out_under (find_subject id plan.made) (find_subject id old) (kept id).1);
  }

  -- ---- removed

  pub differs_gone : (x : Subject) (rest : List Subject) → AreLeft (x ∷ rest) old → find_subject (id_of x) new ≡ None → ¬ IsAlike old new (id_of x)
  differs_gone x rest left none alike = let both : Some x ≡ None = sym (first_there x rest old left) ∙ alike ∙ none in absurd cc

  pub gone_kept : (id : SubjectId) → ¬ IsAlike old new id → IsOldOut old new id None
  gone_kept id apart = ((λ alike. absurd (apart alike), tt), λ a. tt)

  -- who is in no group of the new policy is no parent
  pub unused : (plan : Plan) (id : SubjectId) → WellFormed new → WellFormed plan.made → ((i : SubjectId) → IsOldOut old new i (find_subject i plan.made)) → find_subject id new ≡ None
      → (same_kind id.kind Group && is_parent id.name plan.made) ≡ false
  unused plan id w made kept none = by id.kind refl
    where
      not_below : (name : List ℕ) → find_subject (group_id name) new ≡ None → (i : SubjectId) (s : Subject) → find_subject i plan.made ≡ Some s → ¬ (s.parent ≡ Some name)
      not_below name gone i s e below = at (alike_or_not (find_subject i old) (find_subject i new))
        where
          found : (t : Option Subject) → t ≡ None → is_some t ≡ true → ⊥
          found None n there = absurd cc
          found (Some t) n there = absurd cc

          at : IsAlike old new i ⊎ ¬ IsAlike old new i → ⊥
          at (inl alike) =
              let here : find_subject i new ≡ Some s = sym alike ∙ sym ((kept i).0.0 alike) ∙ e in
              let group : all_of (λ n. is_some (find_subject (group_id n) new)) s.parent ≡ true = all_found (has_parent new) i new s w.parents here in
              let there : is_some (find_subject (group_id name) new) ≡ true = subst (λ (o : Option (List ℕ)). all_of (λ n. is_some (find_subject (group_id n) new)) o ≡ true) below group in
              found (find_subject (group_id name) new) gone there
          at (inr apart) =
              let loose : IsLoose (Some s) = subst IsLoose e ((kept i).1 apart) in
              let both : None ≡ Some name = sym loose ∙ below in
              absurd cc

      by : (k : Kind) → id.kind ≡ k → (same_kind k Group && is_parent id.name plan.made) ≡ false
      by User e = refl
      by Group e =
          let is : id ≡ group_id id.name = ap (λ (k : Kind). record { kind = k; name = id.name }) e in
          no_parent id.name plan.made made.distinct (not_below id.name (subst (λ (i : SubjectId). find_subject i new ≡ None) is none))

  -- ---- added

  pub new_begins : (plan : Plan) → all_distinct (map id_of new) ≡ true → IsThrough old new (IsOldOut old new) (IsGone new) plan → IsUnderWay old new (IsNew old new) (IsThere new) new new plan
  new_begins plan distinct gone = record {
    left = all_left new distinct;
    steps = gone.steps;
    kept = λ id. (λ alike. (gone.kept id).0.0 alike ∙ alike, under id (alike_or_not (find_subject id old) (find_subject id new)));
    done = λ id none there. let no : is_some (find_subject id new) ≡ false = ap is_some none in absurd (true≢false (sym there ∙ no));
  }
    where
      loose_under : (a b : Option Subject) → IsLoose a → (b ≡ None → a ≡ None) → IsUnder a b
      loose_under None b loose none = tt
      loose_under (Some s) None loose none = let e : Some s ≡ None = none refl in absurd cc
      loose_under (Some s) (Some t) loose none = inl loose

      under : (id : SubjectId) → IsAlike old new id ⊎ ¬ IsAlike old new id → IsUnder (find_subject id plan.made) (find_subject id new)
      under id (inl alike) = under_same (find_subject id plan.made) (find_subject id new) ((gone.kept id).0.0 alike ∙ alike)
      under id (inr apart) = loose_under (find_subject id plan.made) (find_subject id new) ((gone.kept id).1 apart) (gone.done id)

  pub differs_new : (plan : Plan) (x : Subject) (rest : List Subject) → AreLeft (x ∷ rest) new → ((i : SubjectId) → IsNew old new i (find_subject i plan.made)) → find_subject (id_of x) plan.made ≡ None
      → ¬ IsAlike old new (id_of x)
  differs_new plan x rest left kept absent alike = let both : None ≡ Some x = sym absent ∙ (kept (id_of x)).0 alike ∙ first_there x rest new left in absurd cc

  pub new_kept : (x : Subject) (rest : List Subject) → AreLeft (x ∷ rest) new → ¬ IsAlike old new (id_of x) → IsNew old new (id_of x) (Some (new_subject x.kind x.name None))
  new_kept x rest left apart = (λ alike. absurd (apart alike), rw (first_there x rest new left) (inl refl))

  -- there is room for one more
  pub room : (plan : Plan) (x : Subject) (rest : List Subject) → AreLeft (x ∷ rest) new → WellFormed new → WellFormed plan.made → ((i : SubjectId) → IsNew old new i (find_subject i plan.made))
      → find_subject (id_of x) plan.made ≡ None → length plan.made < max_subjects
  room plan x rest left w made kept absent =
      let more : suc (length plan.made) ≤ length new = no_more (x ∷ plan.made) new distinct among in
      let few = w.few in
      omega arith
    where
      none_any : (id : SubjectId) (p : List Subject) → find_subject id p ≡ None → list_any (same_id id) (map id_of p) ≡ false
      none_any = absent_any

      distinct : all_distinct (map id_of (x ∷ plan.made)) ≡ true
      distinct = rw (none_any (id_of x) plan.made absent, made.distinct) refl

      under_some : (a b : Option Subject) → IsUnder a b → is_some a ≡ true → is_some b ≡ true
      under_some None b u there = absurd cc
      under_some (Some s) None u there = absurd u
      under_some (Some s) (Some t) u there = refl

      among : (id : SubjectId) → is_some (find_subject id (x ∷ plan.made)) ≡ true → is_some (find_subject id new) ≡ true
      among id there = by (same_id id (id_of x)) refl there
        where
          by : (b : Bool) → same_id id (id_of x) ≡ b → is_some (if b then Some x else find_subject id plan.made) ≡ true → is_some (find_subject id new) ≡ true
          by true e h = ap is_some (ap (λ (i : SubjectId). find_subject i new) (same_id_is id (id_of x) e) ∙ first_there x rest new left)
          by false e h = under_some (find_subject id plan.made) (find_subject id new) (kept id).1 h

  -- ---- set

  pub set_alike : (plan : Plan) (id : SubjectId) → IsAlike old new id → IsNewThere old new id (find_subject id plan.made) → IsSet new id (find_subject id plan.made)
  set_alike plan id alike kept = kept.0.0 alike

  pub set_kept : (x : Subject) (rest : List Subject) → AreLeft (x ∷ rest) new → ¬ IsAlike old new (id_of x) → IsNewThere old new (id_of x) (Some x)
  set_kept x rest left apart = ((λ alike. absurd (apart alike), rw (first_there x rest new left) (inr refl)), λ there. refl)

  pub set_there : (plan : Plan) (x : Subject) (rest : List Subject) → AreLeft (x ∷ rest) new → IsNewThere old new (id_of x) (find_subject (id_of x) plan.made) → is_some (find_subject (id_of x) plan.made) ≡ true
  set_there plan x rest left kept = kept.1 (ap is_some (first_there x rest new left))

  pub set_within : (plan : Plan) (x : Subject) (rest : List Subject) → AreLeft (x ∷ rest) new → WellFormed new → ((i : SubjectId) → IsNewThere old new i (find_subject i plan.made))
      → IsWithin (with_changed (id_of x) (with_parent x.parent) plan.made)
  set_within plan x rest left w kept = record {
    upper = new;
    well_formed = w;
    under = under_changed (id_of x) (with_parent x.parent) plan.made new (λ s. refl) (λ i. (kept i).0.1) (rw (first_there x rest new left) (own (find_subject (id_of x) plan.made)));
  }
    where
      own : (o : Option Subject) → IsUnder (option_map (with_parent x.parent) o) (Some x)
      own None = tt
      own (Some s) = inr refl

  -- ---- all of it

  pub updated : (plan : Plan) → IsThrough old new (IsNewThere old new) (IsSet new) plan → Updates old plan.edits new
  updated plan set = record {
    made = plan.made;
    makes = steps_make 1 old new old plan.made plan.edits set.steps;
    steps = set.steps;
    same = set.done;
  }

  -- ---- a step of each

  pub out_next : (x : Subject) (rest : List Subject) (id : SubjectId) (before now : Plan) → id ≡ id_of x → IsUnderWay old new (IsOld old new) (IsOut old new) (x ∷ rest) old before → ¬ IsAlike old new id
      → IsTurned id (option_map (with_parent None) (find_subject id before.made)) before now → IsUnderWay old new (IsOld old new) (IsOut old new) rest old now
  out_next x rest id before now of way apart turned =
      let turned' = subst (λ (i : SubjectId). IsTurned i (option_map (with_parent None) (find_subject i before.made)) before now) of turned in
      let apart' = subst (λ (i : SubjectId). ¬ IsAlike old new i) of apart in
      gone_on way (option_map (with_parent None) (find_subject (id_of x) before.made)) now apart' turned' (out_kept (id_of x) (find_subject (id_of x) before.made) apart' (way.kept (id_of x)))
      (out_done (id_of x) (find_subject (id_of x) before.made))

  pub out_passed : (x : Subject) (rest : List Subject) (id : SubjectId) (plan : Plan) → id ≡ id_of x → IsUnderWay old new (IsOld old new) (IsOut old new) (x ∷ rest) old plan → IsAlike old new id
      → IsUnderWay old new (IsOld old new) (IsOut old new) rest old plan
  out_passed x rest id plan of way alike = passed way (λ apart. absurd (apart (subst (λ (i : SubjectId). IsAlike old new i) of alike)))

  pub gone_next : (x : Subject) (rest : List Subject) (id : SubjectId) (before now : Plan) → id ≡ id_of x → IsUnderWay old new (IsOldOut old new) (IsGone new) (x ∷ rest) old before → find_subject id new ≡ None
      → IsTurned id None before now → IsUnderWay old new (IsOldOut old new) (IsGone new) rest old now
  gone_next x rest id before now of way none turned =
      let apart = differs_gone x rest way.left (subst (λ (i : SubjectId). find_subject i new ≡ None) of none) in
      gone_on way None now apart (subst (λ (i : SubjectId). IsTurned i None before now) of turned) (gone_kept (id_of x) apart) (λ gone. refl)

  pub gone_passed : (x : Subject) (rest : List Subject) (id : SubjectId) (plan : Plan) → id ≡ id_of x → IsUnderWay old new (IsOldOut old new) (IsGone new) (x ∷ rest) old plan → ¬ (find_subject id new ≡ None)
      → IsUnderWay old new (IsOldOut old new) (IsGone new) rest old plan
  gone_passed x rest id plan of way some = passed way (λ gone. absurd (some (subst (λ (i : SubjectId). find_subject i new ≡ None) (sym of) gone)))

  pub new_next : (x : Subject) (rest : List Subject) (id : SubjectId) (before now : Plan) → id ≡ id_of x → IsUnderWay old new (IsNew old new) (IsThere new) (x ∷ rest) new before → find_subject id before.made ≡ None
      → IsTurned (id_of x) (Some (new_subject x.kind x.name None)) before now → IsUnderWay old new (IsNew old new) (IsThere new) rest new now
  new_next x rest id before now of way none turned =
      let apart = differs_new before x rest way.left way.kept (subst (λ (i : SubjectId). find_subject i before.made ≡ None) of none) in
      gone_on way (Some (new_subject x.kind x.name None)) now apart turned (new_kept x rest way.left apart) (λ there. refl)

  pub new_passed : (x : Subject) (rest : List Subject) (id : SubjectId) (plan : Plan) → id ≡ id_of x → IsUnderWay old new (IsNew old new) (IsThere new) (x ∷ rest) new plan → is_some (find_subject id plan.made) ≡ true
      → IsUnderWay old new (IsNew old new) (IsThere new) rest new plan
  new_passed x rest id plan of way some = passed way (λ there. subst (λ (i : SubjectId). is_some (find_subject i plan.made) ≡ true) of some)

  pub set_next : (x : Subject) (rest : List Subject) (id : SubjectId) (before now : Plan) → id ≡ id_of x → IsUnderWay old new (IsNewThere old new) (IsSet new) (x ∷ rest) new before → ¬ IsAlike old new id
      → IsTurned (id_of x) (Some x) before now → IsUnderWay old new (IsNewThere old new) (IsSet new) rest new now
  set_next x rest id before now of way apart turned =
      let apart' = subst (λ (i : SubjectId). ¬ IsAlike old new i) of apart in
      gone_on way (Some x) now apart' turned (set_kept x rest way.left apart') (sym (first_there x rest new way.left))

  pub set_passed : (x : Subject) (rest : List Subject) (id : SubjectId) (plan : Plan) → id ≡ id_of x → IsUnderWay old new (IsNewThere old new) (IsSet new) (x ∷ rest) new plan → IsAlike old new id
      → IsUnderWay old new (IsNewThere old new) (IsSet new) rest new plan
  set_passed x rest id plan of way alike = passed way (set_alike plan (id_of x) (subst (λ (i : SubjectId). IsAlike old new i) of alike) (way.kept (id_of x)))

-- ---- what a look-up tells

pub none_found : (o : Option (Bor Subject)) (n : Option Subject) (none : Bool) → option_copied o ≡ n → is_some o ≡ not none → none ≡ true → n ≡ None
none_found None n none found is there = sym found
none_found (Some s) n none found is there = absurd (true≢false (is ∙ ap not there))

pub some_found : (o : Option (Bor Subject)) (n : Option Subject) (none : Bool) → option_copied o ≡ n → is_some o ≡ not none → none ≡ false → is_some n ≡ true
some_found None n none found is there = absurd (true≢false (sym (is ∙ ap not there)))
some_found (Some s) n none found is there = ap is_some (sym found)

pub not_none : (n : Option Subject) → is_some n ≡ true → ¬ (n ≡ None)
not_none None some none = absurd cc
not_none (Some s) some none = absurd cc
