-- The edits that are refused as NoSuch are those of what isn't there.
use Rattle.std.proofs.Common.{◌≡◌, ◌↔◌, ℕ, ◌+◌, ◌-◌, nat_le, length, List, [], ◌∷◌, Bool, true, false, not, ◌||◌, is_some, IsTrue, Option, Some, None, Result, Ok, Err, cond, ok_or, refl, sym, ap, subst, true≢false, slice_get}
use Rattle.std.specs.Prelude.{if◌then◌else◌}
use Rattle.pol_pattern.specs.Reading.{pattern_of}
use Rattle.pol_names.specs.declared.decision.Verdict.{Verdict}
use Rattle.pol_names.specs.declared.subject_id.SubjectId.{SubjectId}
use Rattle.pol_text.specs.Policy.{find_subject, max_rules}
use Rattle.pol_text.specs.Change.{with_changed, with_rule_at}
use Rattle.pol_pattern.specs.declared.fault.PatternFault.{PatternFault}
use Rattle.pol_text.specs.declared.subject.Subject.{Subject}
use Rattle.pol_text.specs.declared.fault.ChainFault.{ChainFault}
use Rattle.pol_text.specs.declared.fault.ChainFault.TheVariants as chains
use Rattle.pol_edit.specs.Applying.{◌>>=◌, applied, is_missing, is_number, unless_chain, pattern_read, added_to, removed_from, moved_in, set_in, said_in, inserted_in, dropped_in, shifted_in}
use Rattle.pol_edit.specs.Batches.{IsFirstMissing, applied_all, of_edit}
use Rattle.pol_edit.specs.declared.edit.Edit.{Edit}
use Rattle.pol_edit.specs.declared.edit.Edit.TheVariants.{AddGroup, AddUser, Remove, SetParent, SetLogin, SetEnable, SetHash, SetPriv, AddService, ClearService, InsertRule, RemoveRule, MoveRule}
use Rattle.pol_edit.specs.declared.fault.EditFault.{EditFault}
use Rattle.pol_edit.specs.declared.fault.EditFault.TheVariants as faults

-- it is refused otherwise, or not at all
abbrev Other : {A : Type 0} → Result A EditFault → Type 0
Other r = r ≡ Err faults.NoSuch → ⊥

other_if : {A : Type 0} (b : Bool) {x y : Result A EditFault} → Other x → Other y → Other (cond b x y)
other_if true h k = h
other_if false h k = k

other_then : {A B : Type 0} (r : Result A EditFault) (f : A → Result B EditFault) → Other r → ((x : A) → Other (f x)) → Other (r >>= f)
other_then (Ok x) f h k = k x
other_then (Err fault) f h k = λ e. h (let same : fault ≡ faults.NoSuch = cc in ap (λ (f : EditFault). Err f) same)

other_chain : (fault : Option ChainFault) (policy : List Subject) → Other (unless_chain fault policy)
other_chain None policy = λ e. absurd cc
other_chain (Some chains.Cycle) policy = λ e. absurd cc
other_chain (Some chains.TooDeep) policy = λ e. absurd cc

other_pattern : (r : Result (List ℕ) PatternFault) → Other (pattern_read r)
other_pattern (Ok source) = λ e. absurd cc
other_pattern (Err fault) = λ e. absurd cc

never : (fault : EditFault) → (fault ≡ faults.NoSuch → ⊥) → {A : Type 0} → Other {A = A} (Err fault)
never fault other e = other (err_same fault faults.NoSuch e)
  where
    err_same : {A : Type 0} (a b : EditFault) → ◌≡◌ {A = Result A EditFault} (Err a) (Err b) → a ≡ b
    err_same a b e = cc

made : {A : Type 0} (x : A) → Other (Ok x)
made x e = absurd cc

exists : faults.Exists ≡ faults.NoSuch → ⊥
exists e = absurd cc

deep : faults.TooDeep ≡ faults.NoSuch → ⊥
deep e = absurd cc

limit : faults.Limit ≡ faults.NoSuch → ⊥
limit e = absurd cc

used : faults.InUse ≡ faults.NoSuch → ⊥
used e = absurd cc

value : faults.BadValue ≡ faults.NoSuch → ⊥
value e = absurd cc

index : faults.BadIndex ≡ faults.NoSuch → ⊥
index e = absurd cc

-- the subject is looked for first, and what follows is refused otherwise
of_subject : (found : Option Subject) (f : Subject → Result (List Subject) EditFault) → ((s : Subject) → Other (f s))
    → IsTrue (not (is_some found)) ↔ ((ok_or found faults.NoSuch >>= f) ≡ Err faults.NoSuch)
of_subject None f other = (λ _. refl, λ _. refl)
of_subject (Some s) f other = (λ h. absurd (true≢false (sym h)), λ e. absurd (other s e))

-- a test comes first, and what follows is refused otherwise
of_test : (b : Bool) (r : Result (List Subject) EditFault) → Other r → IsTrue b ↔ (cond b (Err faults.NoSuch) r ≡ Err faults.NoSuch)
of_test true r other = (λ _. refl, λ _. refl)
of_test false r other = (λ h. absurd (true≢false (sym h)), λ e. absurd (other e))

of_both : (found : Option Subject) (b : Bool) (r : Result (List Subject) EditFault) → Other r
    → IsTrue (not (is_some found) || b) ↔ ((ok_or found faults.NoSuch >>= λ s. cond b (Err faults.NoSuch) r) ≡ Err faults.NoSuch)
of_both None b r other = (λ _. refl, λ _. refl)
of_both (Some s) b r other = of_test b r other

-- what follows where the subject of a new rule is there, and then its pattern is right
abbrev placed : List Subject → SubjectId → ℕ → Verdict → Subject → List ℕ → Result (List Subject) EditFault
placed policy id at verdict s p =
    if nat_le max_rules (length s.rules) then Err faults.Limit
    else Ok (with_changed id (with_rule_at (at - 1) (record { verdict = verdict; pattern = p })) policy)

abbrev inserted : List Subject → SubjectId → ℕ → Verdict → List ℕ → Subject → Result (List Subject) EditFault
inserted policy id at verdict text s =
    if not (is_number at (length s.rules + 1)) then Err faults.BadIndex
    else (pattern_read (pattern_of text) >>= placed policy id at verdict s)

pub missing : (policy : List Subject) (edit : Edit) → IsTrue (is_missing policy edit) ↔ (applied policy edit ≡ Err faults.NoSuch)
unfolding applied added_to removed_from moved_in set_in said_in inserted_in dropped_in shifted_in
missing policy (AddGroup name parent) = of_test _ _ (other_if _ (never _ exists) (other_if _ (never _ deep) (other_if _ (never _ limit) (made _))))
missing policy (AddUser name parent) = of_test _ _ (other_if _ (never _ exists) (other_if _ (never _ deep) (other_if _ (never _ limit) (made _))))
missing policy (Remove subject) = of_subject _ _ (λ s. other_if _ (never _ used) (made _))
missing policy (SetParent subject parent) = of_both _ _ _ (other_chain _ _)
missing policy (SetLogin user secret) = of_subject _ _ (λ s. other_if _ (made _) (never _ value))
missing policy (SetEnable user secret) = of_subject _ _ (λ s. other_if _ (made _) (never _ value))
missing policy (SetHash user credential hash) = of_subject _ _ (λ s. other_if _ (made _) (never _ value))
missing policy (SetPriv subject level) = of_subject _ _ (λ s. other_if _ (made _) (never _ value))
missing policy (AddService subject line) = of_subject _ _ (λ s. other_if _ (never _ exists) (other_if _ (never _ value) (other_if _ (never _ limit) (made _))))
missing policy (ClearService subject service attribute) = of_subject _ _ (λ s. other_if _ (made _) (never _ value))
missing policy (InsertRule subject at verdict pattern) =
    of_subject (find_subject subject policy) (inserted policy subject at verdict pattern)
    (λ s. other_if (not (is_number at (length s.rules + 1))) (never _ index)
    (other_then (pattern_read (pattern_of pattern)) (placed policy subject at verdict s) (other_pattern _)
    (λ p. other_if (nat_le max_rules (length s.rules)) (never _ limit) (made (with_changed subject (with_rule_at (at - 1) (record { verdict = verdict; pattern = p })) policy)))))
missing policy (RemoveRule subject at) = of_subject _ _ (λ s. other_if _ (made _) (never _ index))
missing policy (MoveRule subject from to) = of_subject _ _ (λ s. other_if _ (made _) (never _ index))

pub missing_first : (policy : List Subject) (edits : List Edit) → IsFirstMissing policy edits → applied_all policy edits ≡ Err (of_edit 1 faults.NoSuch)
missing_first policy [] h = absurd h
missing_first policy (edit ∷ edits) h = rw h refl

-- of the first edit it is told by that edit alone
pub of_first : (policy : List Subject) (edits : List Edit) (edit : Edit) → slice_get edits 0 ≡ Some edit
    → IsTrue (is_missing policy edit) ↔ IsFirstMissing policy edits
of_first policy [] edit e = absurd cc
of_first policy (first ∷ rest) edit e =
    let same : edit ≡ first = cc in
    let h = missing policy edit in (
      λ m. subst (λ (x : Edit). applied policy x ≡ Err faults.NoSuch) same (h.0 m),
      λ m. h.1 (subst (λ (x : Edit). applied policy x ≡ Err faults.NoSuch) (sym same) m),
    )
