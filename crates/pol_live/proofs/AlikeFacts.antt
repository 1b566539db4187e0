-- What edits leave as it was: each kind of edit, and several one after another.
use Rattle.std.proofs.Common.{◌≡◌, ℕ, suc, ◌+◌, ◌-◌, Bool, true, false, true≢false, cond, not, ◌&&◌, List, [], ◌∷◌, ◌++◌, map, Option, None, Some, Result, Ok, Err, refl, sym, ap, subst, ◌∙◌, nat_le, length, is_some, if◌then◌else◌}
use Rattle.std.specs.Option.{option_map}
use Rattle.std.specs.List.{list_any}
use Rattle.std.proofs.lemmas.Bool.{or_parts}
use Rattle.std.proofs.lemmas.List.Folds.{list_any-append}
use Rattle.std.proofs.lemmas.List.Elements.{filter_map-append}
use Rattle.std.proofs.lemmas.Option.{same_Some, none-some}
use Rattle.sha_crypt.specs.HashText.{hash_of}
use Rattle.pol_names.specs.declared.secret.Credential.{Credential}
use Rattle.pol_names.specs.declared.secret.Credential.TheVariants.{Login, Enable}
use Rattle.pol_names.specs.declared.secret.Secret.{Secret}
use Rattle.pol_names.specs.declared.secret.Secret.TheVariants.{Clear, Hashed}
use Rattle.pol_names.specs.declared.subject_id.Kind.{Kind}
use Rattle.pol_names.specs.declared.subject_id.Kind.TheVariants.{Group, User}
use Rattle.pol_names.specs.declared.subject_id.SubjectId.{SubjectId}
use Rattle.pol_names.specs.declared.decision.Verdict.{Verdict}
use Rattle.pol_names.specs.Service.{any_clash, is_right_line}
use Rattle.pol_names.specs.declared.service.ServiceLine.{ServiceLine}
use Rattle.pol_names.specs.SubjectId.{same_id, same_kind, user_id}
use Rattle.pol_pattern.specs.Reading.{pattern_of}
use Rattle.pol_text.specs.declared.subject.Subject.{Subject}
use Rattle.pol_text.specs.declared.fault.ChainFault.{ChainFault}
use Rattle.pol_text.specs.declared.fault.ChainFault.TheVariants as chains
use Rattle.pol_text.specs.Policy.{id_of, find_subject, all_of, max_rules, max_services, max_subjects}
use Rattle.pol_text.specs.Text.{new_subject}
use Rattle.pol_text.specs.Change.{with_changed, without, is_parent, has_room_below, chain_fault, with_parent, with_secret, with_priv, with_line_last, without_service, with_rule_at, without_rule_at, with_rule_moved}
use Rattle.pol_edit.specs.Batches as batches
use Rattle.pol_edit.specs.Batches.{applied_from}
use Rattle.pol_edit.specs.Applying.{◌>>=◌, present, has_group, added_to, removed_from, unless_chain, moved_in, set_in, said_in, pattern_read, is_number, inserted_in, dropped_in, shifted_in, applied}
use Rattle.pol_edit.specs.declared.edit.Edit.{Edit}
use Rattle.pol_edit.specs.declared.edit.Edit.TheVariants.{AddGroup, AddUser, Remove, SetParent, SetLogin, SetEnable, SetHash, SetPriv, AddService, ClearService, InsertRule, RemoveRule, MoveRule}
use Rattle.pol_edit.specs.declared.fault.EditFault.{EditFault}
use Rattle.pol_live.specs.declared.touching.Touched.{Touched}
use Rattle.pol_live.specs.Renewing.{touches, rewrites, touched_by, is_among, IsAlike}
use Rattle.pol_live.proofs.RenewFacts.{same_id_is, same_id_self, found_id}

-- ---- what is touched where nothing, or one subject is

abbrev nothing : Touched
nothing = record { all = []; rewritten = [] }

abbrev moved : SubjectId → Touched
moved at = record { all = at ∷ []; rewritten = [] }

abbrev written : SubjectId → Touched
written at = record { all = at ∷ []; rewritten = at ∷ [] }

not_it : (at : SubjectId) (s : Subject) → is_among (at ∷ []) s ≡ false → same_id at (id_of s) ≡ false
not_it at s other = (or_parts (same_id at (id_of s)) false other).0

-- ---- a change of one subject

found_map : (g : Subject → Subject) → ((s : Subject) → id_of (g s) ≡ id_of s) → (id : SubjectId) (p : List Subject) → find_subject id (map g p) ≡ option_map g (find_subject id p)
found_map g keeps id [] = refl
found_map g keeps id (x ∷ p) = ap (λ t. if same_id id t then Some (g x) else find_subject id (map g p)) (keeps x) ∙ by (same_id id (id_of x)) (found_map g keeps id p)
  where
    by : (b : Bool) → find_subject id (map g p) ≡ option_map g (find_subject id p) → (if b then Some (g x) else find_subject id (map g p)) ≡ option_map g (if b then Some x else find_subject id p)
    by true rest = refl
    by false rest = rest

module _ (at : SubjectId) (f : Subject → Subject) (keeps : (s : Subject) → id_of (f s) ≡ id_of s) (old : List Subject) where
  abbrev changed : Subject → Subject
  changed s = if same_id at (id_of s) then f s else s

  changed_id : (s : Subject) → id_of (changed s) ≡ id_of s
  changed_id s = by (same_id at (id_of s))
    where
      by : (b : Bool) → id_of (if b then f s else s) ≡ id_of s
      by true = keeps s
      by false = refl

  -- who is found was there, and changed
  was_found : (id : SubjectId) (s : Subject) → find_subject id (with_changed at f old) ≡ Some s → (o : Subject) × (find_subject id old ≡ Some o) × (changed o ≡ s)
  was_found id s e = by (find_subject id old) refl (sym (found_map changed changed_id id old) ∙ e)
    where
      by : (o : Option Subject) → find_subject id old ≡ o → option_map changed o ≡ Some s → (o : Subject) × (find_subject id old ≡ Some o) × (changed o ≡ s)
      by None at e = absurd cc
      by (Some o) at e = (o, at, same_Some (changed o) s e)

  -- the others are as they were
  others : (id : SubjectId) (s : Subject) → find_subject id (with_changed at f old) ≡ Some s → same_id at (id_of s) ≡ false → find_subject id old ≡ Some s
  others id s e other =
      let was = was_found id s e in
      let not_it : same_id at (id_of was.0) ≡ false = ap (λ (t : SubjectId). same_id at t) (sym (changed_id was.0) ∙ ap id_of was.2) ∙ other in
      was.1 ∙ ap Some (sym (ap (λ (b : Bool). if b then f was.0 else was.0) not_it) ∙ was.2)

  -- a change that leaves the rules
  same_rules : ((s : Subject) → (f s).rules ≡ s.rules) → (id : SubjectId) (s : Subject) → find_subject id (with_changed at f old) ≡ Some s
      → (o : Subject) × (find_subject id old ≡ Some o) × (o.rules ≡ s.rules)
  same_rules rules id s e =
      let was = was_found id s e in
      (was.0, was.1, sym (by (same_id at (id_of was.0)) was.0) ∙ ap (λ (t : Subject). t.rules) was.2)
    where
      by : (b : Bool) (o : Subject) → (if b then f o else o).rules ≡ o.rules
      by true o = rules o
      by false o = refl

  same_both : ((s : Subject) → (f s).rules ≡ s.rules) → ((s : Subject) → (f s).parent ≡ s.parent) → (id : SubjectId) (s : Subject) → find_subject id (with_changed at f old) ≡ Some s
      → (o : Subject) × (find_subject id old ≡ Some o) × (o.rules ≡ s.rules) × (o.parent ≡ s.parent)
  same_both rules parents id s e =
      let was = was_found id s e in
      (was.0, was.1, sym (by (same_id at (id_of was.0)) was.0) ∙ ap (λ (t : Subject). t.rules) was.2, sym (by2 (same_id at (id_of was.0)) was.0) ∙ ap (λ (t : Subject). t.parent) was.2)
    where
      by : (b : Bool) (o : Subject) → (if b then f o else o).rules ≡ o.rules
      by true o = rules o
      by false o = refl

      by2 : (b : Bool) (o : Subject) → (if b then f o else o).parent ≡ o.parent
      by2 true o = parents o
      by2 false o = refl

-- a change of the rules of a subject
alike_changed : (at : SubjectId) (f : Subject → Subject) (old new : List Subject) → ((s : Subject) → id_of (f s) ≡ id_of s) → new ≡ with_changed at f old → IsAlike (written at) old new
alike_changed at f old new keeps is = record {
  untouched = λ id s found other. (s, others at f keeps old id s (ap (find_subject id) (sym is) ∙ found) (not_it at s other), refl, refl);
  unwritten = λ id s found other. (s, others at f keeps old id s (ap (find_subject id) (sym is) ∙ found) (not_it at s other), refl);
}

-- one of its group
alike_moved : (at : SubjectId) (parent : Option (List ℕ)) (old new : List Subject) → new ≡ with_changed at (with_parent parent) old → IsAlike (moved at) old new
alike_moved at parent old new is = record {
  untouched = λ id s found other. (s, others at (with_parent parent) (λ _. refl) old id s (ap (find_subject id) (sym is) ∙ found) (not_it at s other), refl, refl);
  unwritten = λ id s found other. same_rules at (with_parent parent) (λ _. refl) old (λ _. refl) id s (ap (find_subject id) (sym is) ∙ found);
}

-- one of neither
alike_set : (at : SubjectId) (f : Subject → Subject) (old new : List Subject) → ((s : Subject) → id_of (f s) ≡ id_of s) → ((s : Subject) → (f s).rules ≡ s.rules)
    → ((s : Subject) → (f s).parent ≡ s.parent) → new ≡ with_changed at f old → IsAlike nothing old new
alike_set at f old new keeps rules parents is = record {
  untouched = λ id s found other. same_both at f keeps old rules parents id s (ap (find_subject id) (sym is) ∙ found);
  unwritten = λ id s found other. same_rules at f keeps old rules id s (ap (find_subject id) (sym is) ∙ found);
}

-- ---- a subject that comes

found_front : (old : List Subject) (x : Subject) (id : SubjectId) (s : Subject) → find_subject id (old ++ x ∷ []) ≡ Some s → same_id (id_of x) (id_of s) ≡ false → find_subject id old ≡ Some s
found_front [] x id s e other = by (same_id id (id_of x)) e
  where
    by : (b : Bool) → cond b (Some x) None ≡ Some s → None ≡ Some s
    by true h = absurd (true≢false (sym (ap (λ (t : Subject). same_id (id_of x) (id_of t)) (sym (same_Some x s h)) ∙ same_id_self (id_of x)) ∙ other))
    by false h = h
found_front (y ∷ old) x id s e other = by (same_id id (id_of y)) e (λ h. found_front old x id s h other)
  where
    by : (b : Bool) → cond b (Some y) (find_subject id (old ++ x ∷ [])) ≡ Some s → (find_subject id (old ++ x ∷ []) ≡ Some s → find_subject id old ≡ Some s)
        → cond b (Some y) (find_subject id old) ≡ Some s
    by true h later = h
    by false h later = later h

alike_added : (x : Subject) (old new : List Subject) → new ≡ old ++ x ∷ [] → IsAlike (written (id_of x)) old new
alike_added x old new is = record {
  untouched = λ id s found other. (s, found_front old x id s (ap (find_subject id) (sym is) ∙ found) (not_it (id_of x) s other), refl, refl);
  unwritten = λ id s found other. (s, found_front old x id s (ap (find_subject id) (sym is) ∙ found) (not_it (id_of x) s other), refl);
}

-- ---- one that goes

found_gone : (at : SubjectId) (old : List Subject) → find_subject at (without at old) ≡ None
found_gone at [] = refl
found_gone at (x ∷ old) = by (same_id at (id_of x)) refl (found_gone at old)
  where
    by : (b : Bool) → same_id at (id_of x) ≡ b → find_subject at (without at old) ≡ None → find_subject at (if b then without at old else x ∷ without at old) ≡ None
    by true h later = later
    by false h later = ap (λ (b : Bool). if b then Some x else find_subject at (without at old)) h ∙ later

found_without : (at : SubjectId) (old : List Subject) (id : SubjectId) (s : Subject) → find_subject id (without at old) ≡ Some s → find_subject id old ≡ Some s
found_without at [] id s e = e
found_without at (x ∷ old) id s e = by (same_id at (id_of x)) (same_id id (id_of x)) refl refl e (found_without at old id s)
  where
    by : (gone it : Bool) → same_id at (id_of x) ≡ gone → same_id id (id_of x) ≡ it → find_subject id (if gone then without at old else x ∷ without at old) ≡ Some s
        → (find_subject id (without at old) ≡ Some s → find_subject id old ≡ Some s) → cond it (Some x) (find_subject id old) ≡ Some s
    by true true h k e later =
        let same : id ≡ at = same_id_is id (id_of x) k ∙ sym (same_id_is at (id_of x) h) in
        absurd (none-some s (sym (found_gone at old) ∙ ap (λ (t : SubjectId). find_subject t (without at old)) (sym same) ∙ e))
    by true false h k e later = later e
    by false true h k e later = ap (λ (b : Bool). if b then Some x else find_subject id (without at old)) (sym k) ∙ e
    by false false h k e later = later (ap (λ (b : Bool). if b then Some x else find_subject id (without at old)) (sym k) ∙ e)

alike_removed : (at : SubjectId) (old new : List Subject) → new ≡ without at old → IsAlike nothing old new
alike_removed at old new is = record {
  untouched = λ id s found other. (s, found_without at old id s (ap (find_subject id) (sym is) ∙ found), refl, refl);
  unwritten = λ id s found other. (s, found_without at old id s (ap (find_subject id) (sym is) ∙ found), refl);
}

-- ---- each edit

-- what an answer was made of
then_ok : {A B : Type 0} (r : Result A EditFault) (f : A → Result B EditFault) (b : B) → (r >>= f) ≡ Ok b → (a : A) × (f a ≡ Ok b)
then_ok (Ok a) f b e = (a, e)
then_ok (Err fault) f b e = absurd cc

-- a refusal, or else the rest
unless_ok : {B : Type 0} (refused : Bool) (fault : EditFault) (r : Result B EditFault) (b : B) → (if refused then Err fault else r) ≡ Ok b → r ≡ Ok b
unless_ok true fault r b e = absurd cc
unless_ok false fault r b e = e

if_ok : {B : Type 0} (right : Bool) (fault : EditFault) (x b : B) → (if right then Ok x else Err fault) ≡ Ok b → b ≡ x
if_ok true fault x b e = cc
if_ok false fault x b e = absurd cc

alike_add : (kind : Kind) (name : List ℕ) (parent : Option (List ℕ)) (old new : List Subject) → added_to old kind name parent ≡ Ok new
    → IsAlike (written (record { kind = kind; name = name })) old new
unfolding added_to
alike_add kind name parent old new made =
    let a = unless_ok (not (has_group parent old)) _ _ new made in
    let b = unless_ok (is_some (find_subject (record { kind = kind; name = name }) old)) _ _ new a in
    let c = unless_ok (not (all_of (λ name. has_room_below name old) parent)) _ _ new b in
    let d = unless_ok (nat_le max_subjects (length old)) _ _ new c in
    let is : new ≡ old ++ new_subject kind name parent ∷ [] = cc in
    alike_added (new_subject kind name parent) old new is

alike_setting : (id : SubjectId) (right : Bool) (f : Subject → Subject) (old new : List Subject) → ((s : Subject) → id_of (f s) ≡ id_of s) → ((s : Subject) → (f s).rules ≡ s.rules)
    → ((s : Subject) → (f s).parent ≡ s.parent) → set_in old id right f ≡ Ok new → IsAlike nothing old new
unfolding set_in
alike_setting id right f old new keeps rules parents made =
    let there = then_ok (present id old) _ new made in
    alike_set id f old new keeps rules parents (if_ok right _ (with_changed id f old) new there.1)

secret_keeps : (which : Credential) (secret : Option Secret) (s : Subject) → id_of (with_secret which secret s) ≡ id_of s
secret_keeps Login secret s = refl
secret_keeps Enable secret s = refl

secret_rules : (which : Credential) (secret : Option Secret) (s : Subject) → (with_secret which secret s).rules ≡ s.rules
secret_rules Login secret s = refl
secret_rules Enable secret s = refl

secret_parent : (which : Credential) (secret : Option Secret) (s : Subject) → (with_secret which secret s).parent ≡ s.parent
secret_parent Login secret s = refl
secret_parent Enable secret s = refl

chain_ok : (fault : Option ChainFault) (policy new : List Subject) → unless_chain fault policy ≡ Ok new → new ≡ policy
chain_ok None policy new e = cc
chain_ok (Some chains.Cycle) policy new e = absurd cc
chain_ok (Some chains.TooDeep) policy new e = absurd cc

alike_remove : (id : SubjectId) (old new : List Subject) → removed_from old id ≡ Ok new → IsAlike nothing old new
unfolding removed_from
alike_remove id old new made =
    let there = then_ok (present id old) _ new made in
    let gone = unless_ok (same_kind id.kind Group && is_parent id.name old) _ _ new there.1 in
    let is : new ≡ without id old = cc in
    alike_removed id old new is

alike_move : (id : SubjectId) (parent : Option (List ℕ)) (old new : List Subject) → moved_in old id parent ≡ Ok new → IsAlike (moved id) old new
unfolding moved_in
alike_move id parent old new made =
    let there = then_ok (present id old) _ new made in
    let grouped = unless_ok (not (has_group parent old)) _ _ new there.1 in
    alike_moved id parent old new (chain_ok (chain_fault (with_changed id (with_parent parent) old)) _ new grouped)

alike_insert : (id : SubjectId) (at : ℕ) (verdict : Verdict) (text : List ℕ) (old new : List Subject) → inserted_in old id at verdict text ≡ Ok new → IsAlike (written id) old new
unfolding inserted_in
alike_insert id at verdict text old new made =
    let there = then_ok (present id old) _ new made in
    let placed = unless_ok (not (is_number at (length there.0.rules + 1))) _ _ new there.1 in
    let read = then_ok (pattern_read (pattern_of text)) _ new placed in
    let room = unless_ok (nat_le max_rules (length there.0.rules)) _ _ new read.1 in
    let is : new ≡ with_changed id (with_rule_at (at - 1) (record { verdict = verdict; pattern = read.0 })) old = cc in
    alike_changed id (with_rule_at (at - 1) (record { verdict = verdict; pattern = read.0 })) old new (λ _. refl) is

alike_drop : (id : SubjectId) (at : ℕ) (old new : List Subject) → dropped_in old id at ≡ Ok new → IsAlike (written id) old new
unfolding dropped_in
alike_drop id at old new made =
    let there = then_ok (present id old) _ new made in
    alike_changed id (without_rule_at (at - 1)) old new (λ _. refl) (if_ok (is_number at (length there.0.rules)) _ (with_changed id (without_rule_at (at - 1)) old) new there.1)

alike_shift : (id : SubjectId) (from to : ℕ) (old new : List Subject) → shifted_in old id from to ≡ Ok new → IsAlike (written id) old new
unfolding shifted_in
alike_shift id from to old new made =
    let there = then_ok (present id old) _ new made in
    alike_changed id (with_rule_moved (from - 1) (to - 1)) old new (λ _. refl)
    (if_ok (is_number from (length there.0.rules) && is_number to (length there.0.rules)) _ (with_changed id (with_rule_moved (from - 1) (to - 1)) old) new there.1)

alike_secret : (which : Credential) (user : List ℕ) (right : Bool) (secret : Option Secret) (old new : List Subject) → set_in old (user_id user) right (with_secret which secret) ≡ Ok new → IsAlike nothing old new
alike_secret which user right secret old new made = alike_setting (user_id user) right (with_secret which secret) old new (secret_keeps which secret) (secret_rules which secret) (secret_parent which secret) made

alike_said : (id : SubjectId) (line : ServiceLine) (old new : List Subject) → said_in old id line ≡ Ok new → IsAlike nothing old new
unfolding said_in
alike_said id line old new made =
    let there = then_ok (present id old) _ new made in
    let apart = unless_ok (any_clash there.0.services line) _ _ new there.1 in
    let right = unless_ok (not (is_right_line line)) _ _ new apart in
    let room = unless_ok (nat_le max_services (length there.0.services)) _ _ new right in
    let is : new ≡ with_changed id (with_line_last line) old = cc in
    alike_set id (with_line_last line) old new (λ _. refl) (λ _. refl) (λ _. refl) is

alike : (old : List Subject) (edit : Edit) (new : List Subject) → applied old edit ≡ Ok new → IsAlike (touched_by (edit ∷ [])) old new
unfolding applied
alike old (AddGroup name parent) new made = alike_add Group name parent old new made
alike old (AddUser name parent) new made = alike_add User name parent old new made
alike old (Remove id) new made = alike_remove id old new made
alike old (SetParent id parent) new made = alike_move id parent old new made
alike old (SetLogin user text) new made = alike_secret Login user _ (option_map Clear text) old new made
alike old (SetEnable user text) new made = alike_secret Enable user _ (option_map Clear text) old new made
alike old (SetHash user which text) new made = alike_secret which user _ (option_map Hashed (hash_of text)) old new made
alike old (SetPriv id level) new made = alike_setting id _ (with_priv level) old new (λ _. refl) (λ _. refl) (λ _. refl) made
alike old (AddService id line) new made = alike_said id line old new made
alike old (ClearService id service attribute) new made = alike_setting id _ (without_service service attribute) old new (λ _. refl) (λ _. refl) (λ _. refl) made
alike old (InsertRule id at verdict text) new made = alike_insert id at verdict text old new made
alike old (RemoveRule id at) new made = alike_drop id at old new made
alike old (MoveRule id from to) new made = alike_shift id from to old new made

-- ---- several edits

-- what two steps touch
abbrev joined : Touched → Touched → Touched
joined a b = record { all = a.all ++ b.all; rewritten = a.rewritten ++ b.rewritten }

-- a subject is touched by its kind and name alone
among_same : (ids : List SubjectId) (id : SubjectId) (m s : Subject) → id ≡ id_of m → id ≡ id_of s → is_among ids s ≡ false → is_among ids m ≡ false
among_same ids id m s is it none = ap (λ (t : SubjectId). list_any (λ x. same_id x t) ids) (sym is ∙ it) ∙ none

either : (p q : List SubjectId) (s : Subject) → is_among (p ++ q) s ≡ false → (is_among p s ≡ false) × (is_among q s ≡ false)
either p q s none = or_parts (is_among p s) (is_among q s) (sym (list_any-append (λ id. same_id id (id_of s)) p q) ∙ none)

alike_joined : (a b : Touched) (old mid new : List Subject) → IsAlike a old mid → IsAlike b mid new → IsAlike (joined a b) old new
alike_joined a b old mid new first second = record {
  untouched = λ id s found none.
      let neither = either a.all b.all s none in
      let was = second.untouched id s found neither.1 in
      let still = among_same a.all id was.0 s (found_id id mid was.0 was.1) (found_id id new s found) neither.0 in
      let were = first.untouched id was.0 was.1 still in
      (were.0, were.1, were.2 ∙ was.2, were.3 ∙ was.3);
  unwritten = λ id s found none.
      let neither = either a.rewritten b.rewritten s none in
      let was = second.unwritten id s found neither.1 in
      let still = among_same a.rewritten id was.0 s (found_id id mid was.0 was.1) (found_id id new s found) neither.0 in
      let were = first.unwritten id was.0 was.1 still in
      (were.0, were.1, were.2 ∙ was.2);
}

alike_none : (old new : List Subject) → old ≡ new → IsAlike nothing old new
alike_none old new same = record {
  untouched = λ id s found none. (s, ap (find_subject id) same ∙ found, refl, refl);
  unwritten = λ id s found none. (s, ap (find_subject id) same ∙ found, refl);
}

touched_on : (edit : Edit) (edits : List Edit) → joined (touched_by (edit ∷ [])) (touched_by edits) ≡ touched_by (edit ∷ edits)
touched_on edit edits i = record { all = sym (filter_map-append touches (edit ∷ []) edits) i; rewritten = sym (filter_map-append rewrites (edit ∷ []) edits) i }

pub alike_from : (at : ℕ) (edits : List Edit) (old new : List Subject) → applied_from at edits old ≡ Ok new → IsAlike (touched_by edits) old new
alike_from at [] old new made = let same : old ≡ new = cc in alike_none old new same
alike_from at (edit ∷ edits) old new made = by (applied old edit) refl made (λ mid rest. alike_from (suc at) edits mid new rest)
  where
    by : (first : Result (List Subject) EditFault) → applied old edit ≡ first → batches.then at first (applied_from (suc at) edits) ≡ Ok new
        → ((mid : List Subject) → applied_from (suc at) edits mid ≡ Ok new → IsAlike (touched_by edits) mid new) → IsAlike (touched_by (edit ∷ edits)) old new
    by (Ok mid) is rest later = subst (λ (t : Touched). IsAlike t old new) (touched_on edit edits) (alike_joined (touched_by (edit ∷ [])) (touched_by edits) old mid new (alike old edit mid is) (later mid rest))
    by (Err fault) is rest later = absurd cc
