-- What changes for a user, by automata with verdicts and by the policies.
use Rattle.std.proofs.Common.{◌≡◌, ◌<◌, ℕ, zero, suc, Bool, true, false, true≢false, cond, IsTrue, List, [], ◌∷◌, ◌++◌, filter, append-nil, length, map, Option, Some, None, refl, sym, ap, subst, ◌∙◌, arith, slice_index_or}
use Rattle.std.specs.Option.{option_map, option_map_or}
use Rattle.basics.specs.Symbol.{is_text}
use Rattle.pol_pattern.specs.Matching.{matches, MatchLaw}
use Rattle.pol_pattern.specs.Spelling.{Holds}
use Rattle.pol_names.specs.SubjectId.{user_id}
use Rattle.pol_names.specs.declared.subject_id.SubjectId.{SubjectId}
use Rattle.pol_names.specs.declared.decision.Verdict.{Verdict}
use Rattle.pol_names.specs.declared.decision.Verdict.TheVariants.{Permit, Deny}
use Rattle.pol_names.specs.declared.decision.By.TheVariants as by
use Rattle.pol_names.specs.declared.decision.Decision.{Decision}
use Rattle.pol_text.specs.declared.subject.Subject.{Subject}
use Rattle.pol_text.specs.Policy.{find_subject, Entry, entries, first_entry, decision}
use Rattle.pol_automaton.specs.Decision.{IsFirstMatch, verdict_by, IsDecided, IsChanged}
use Rattle.pol_automaton.specs.declared.way.Way.TheVariants.{NowPermitted, NowDenied}
use Rattle.pol_meaning.specs.Along.{patterns_of, entries_of}
use Rattle.pol_live.specs.ChainRules.{chain_rule}
use Rattle.pol_meaning.specs.Reach.{IsLeastIfAny}
use Rattle.pol_meaning.specs.LineChanges.{is_permit, permits, IsGained, IsChangeOf, is_change}
use Rattle.pol_report.specs.Sharing.{along, along_at, permits_along, IsGainedAlong, IsDifference, IsListed}
use Rattle.pol_report.specs.declared.difference.Difference.{Difference}
use Rattle.pol_meaning.specs.declared.Changed.{Changed}
use Rattle.pol_report.proofs.Leasts.{if_any_same}
use Rattle.pol_report.proofs.ReachFacts.{not_matched, not_held}

abbrev says : List Entry → List ℕ → Verdict
says along line = (first_entry along line).verdict

-- what a rule that matches, or doesn't, makes of what the later ones say
abbrev says_first : Entry → List Entry → List ℕ → Bool → Verdict
says_first e along line b = (let d : Decision = cond b (record { verdict = e.rule.verdict; by = by.Rule e.owner e.number }) (first_entry along line) in d).verdict

abbrev pub own_verdicts : List Entry → List Verdict
own_verdicts along = map (λ rule. rule.verdict) (map chain_rule along)

-- entries with verdicts say this of each line
pub record Says (entries : List (List ℕ)) (verdicts : List Verdict) (verdict : List ℕ → Verdict) : Type 0 where
  pub sees : (line : List ℕ) → IsDecided entries verdicts line (verdict line)
  pub only : (line : List ℕ) (other : Verdict) → IsDecided entries verdicts line other → verdict line ≡ other
  pub texts : (line : List ℕ) → verdict line ≡ Permit → IsTrue (is_text line)

module _ (law : MatchLaw) where
  -- each line has a first match, or none
  some_first : (along : List Entry) (line : List ℕ) → (first : Option ℕ) × IsFirstMatch (patterns_of along) line first
  some_first [] line = (None, λ k d lt. absurd (omega arith))
  some_first (e ∷ along) line = by (matches e.rule.pattern line) refl (some_first along line)
    where
      Later : Type 0
      Later = (first : Option ℕ) × IsFirstMatch (patterns_of along) line first

      none_more : ¬ (Holds e.rule.pattern line) → IsFirstMatch (patterns_of along) line None → IsFirstMatch (patterns_of (e ∷ along)) line None
      none_more not h zero d lt = not
      none_more not h (suc k) d lt = h k d (omega arith)

      some_more : ¬ (Holds e.rule.pattern line) → (i : ℕ) → IsFirstMatch (patterns_of along) line (Some i) → IsFirstMatch (patterns_of (e ∷ along)) line (Some (suc i))
      some_more not i h = let lt = h.0 in (omega arith, h.1, λ k less. earlier not i h k less)
        where
          earlier : ¬ (Holds e.rule.pattern line) → (i : ℕ) (h : IsFirstMatch (patterns_of along) line (Some i)) (k : ℕ) → k < suc i
              → ¬ (Holds (slice_index_or (patterns_of (e ∷ along)) k []) line)
          earlier not i h zero less = not
          earlier not i h (suc k) less = h.2 k (omega arith)

      behind : ¬ (Holds e.rule.pattern line) → (first : Option ℕ) → IsFirstMatch (patterns_of along) line first → (first : Option ℕ) × IsFirstMatch (patterns_of (e ∷ along)) line first
      behind not None h = (None, none_more not h)
      behind not (Some i) h = (Some (suc i), some_more not i h)

      by : (b : Bool) → matches e.rule.pattern line ≡ b → (first : Option ℕ) × IsFirstMatch (patterns_of along) line first → (first : Option ℕ) × IsFirstMatch (patterns_of (e ∷ along)) line first
      by true is later = (Some 0, (omega arith, (law.same e.rule.pattern line).0 is, λ k less. absurd (omega arith)))
      by false is later = behind (not_held law e.rule.pattern line is) later.0 later.1

  -- the first match's verdict is the policy's
  verdict_is : (along : List Entry) (line : List ℕ) (first : Option ℕ) → IsFirstMatch (patterns_of along) line first → verdict_by (own_verdicts along) first ≡ says along line
  verdict_is [] line None h = refl
  verdict_is [] line (Some i) h = let lt = h.0 in absurd (omega arith)
  verdict_is (e ∷ along) line None h =
      let here : matches e.rule.pattern line ≡ false = not_matched law e.rule.pattern line (h 0 [] (omega arith)) in
      verdict_is along line None (λ k d lt. h (suc k) d (omega arith)) ∙ ap (says_first e along line) (sym here)
  verdict_is (e ∷ along) line (Some zero) h =
      let here : matches e.rule.pattern line ≡ true = (law.same e.rule.pattern line).1 h.1 in
      ap (says_first e along line) (sym here)
  verdict_is (e ∷ along) line (Some (suc i)) h =
      let lt = h.0 in
      let here : matches e.rule.pattern line ≡ false = not_matched law e.rule.pattern line (h.2 0 (omega arith)) in
      let later : i < length (patterns_of along) = omega arith in
      verdict_is along line (Some i) (later, h.1, λ k less. h.2 (suc k) (omega arith)) ∙ ap (says_first e along line) (sym here)

  -- what is permitted is a text
  permitted_text : (along : List Entry) (line : List ℕ) → says along line ≡ Permit → IsTrue (is_text line)
  permitted_text [] line e = absurd cc
  permitted_text (x ∷ along) line e = by (λ h. permitted_text along line h) (matches x.rule.pattern line) refl e
    where
      by : (says along line ≡ Permit → IsTrue (is_text line)) → (b : Bool) → matches x.rule.pattern line ≡ b → says_first x along line b ≡ Permit → IsTrue (is_text line)
      by later true is h = law.texts x.rule.pattern line ((law.same x.rule.pattern line).0 is)
      by later false is h = later h

  own_says : (along : List Entry) → Says (patterns_of along) (own_verdicts along) (says along)
  own_says along = record {
    sees = λ line. let first = some_first along line in (first.0, first.1, verdict_is along line first.0 first.1);
    only = λ line other h. sym (verdict_is along line h.0 h.1) ∙ h.2;
    texts = permitted_text along;
  }

  -- ---- one side of a change

  -- the entries with their verdicts say what these rules permit
  pub record Side (rules : Option (List Entry)) (entries : List (List ℕ)) (verdicts : List Verdict) : Type 0 where
    pub verdict : List ℕ → Verdict
    pub says_so : Says entries verdicts verdict
    pub rules_so : (line : List ℕ) → permits_along rules line ≡ is_permit (verdict line)

  pub present_side : (policy : List Subject) (id : SubjectId)
      → Side (along policy id) (patterns_of (entries_of policy id)) (own_verdicts (entries_of policy id))
  present_side policy id = record { verdict = says here; says_so = own_says here; rules_so = λ line. by line (find_subject id policy) }
    where
      here : List Entry
      here = entries_of policy id

      by : (line : List ℕ) (found : Option Subject) → permits_along (option_map (entries policy) found) line ≡ is_permit (says (option_map_or (entries policy) found []) line)
      by line None = refl
      by line (Some s) = refl

denies_is : (v : Verdict) → is_permit v ≡ false → v ≡ Deny
denies_is Permit e = absurd cc
denies_is Deny e = refl

permit_is : (v : Verdict) → is_permit v ≡ true → v ≡ Permit
permit_is Permit e = refl
permit_is Deny e = absurd cc

module _ (law : MatchLaw) (before after : Option (List Entry)) (e f : List (List ℕ)) (v w : List Verdict) (old : Side law before e v) (new : Side law after f w) where
  gains : (line : List ℕ) → IsChanged (record { entries = e; verdicts = v }) (record { entries = f; verdicts = w }) NowPermitted line → IsGainedAlong before after line
  gains line h =
      (old.rules_so line ∙ ap is_permit (old.says_so.only line Deny h.1.0), new.rules_so line ∙ ap is_permit (new.says_so.only line Permit h.1.1))

  gained : (line : List ℕ) → IsGainedAlong before after line → IsChanged (record { entries = e; verdicts = v }) (record { entries = f; verdicts = w }) NowPermitted line
  gained line h =
      let deny = denies_is (old.verdict line) (sym (old.rules_so line) ∙ h.0) in
      let permit = permit_is (new.verdict line) (sym (new.rules_so line) ∙ h.1) in
      (new.says_so.texts line permit, (subst (λ (d : Verdict). IsDecided e v line d) deny (old.says_so.sees line), subst (λ (d : Verdict). IsDecided f w line d) permit (new.says_so.sees line)))

  loses : (line : List ℕ) → IsChanged (record { entries = e; verdicts = v }) (record { entries = f; verdicts = w }) NowDenied line → IsGainedAlong after before line
  loses line h =
      (new.rules_so line ∙ ap is_permit (new.says_so.only line Deny h.1.1), old.rules_so line ∙ ap is_permit (old.says_so.only line Permit h.1.0))

  lost : (line : List ℕ) → IsGainedAlong after before line → IsChanged (record { entries = e; verdicts = v }) (record { entries = f; verdicts = w }) NowDenied line
  lost line h =
      let deny = denies_is (new.verdict line) (sym (new.rules_so line) ∙ h.0) in
      let permit = permit_is (old.verdict line) (sym (old.rules_so line) ∙ h.1) in
      (old.says_so.texts line permit, (subst (λ (d : Verdict). IsDecided e v line d) permit (old.says_so.sees line), subst (λ (d : Verdict). IsDecided f w line d) deny (new.says_so.sees line)))

  -- what the automata find is what differs
  pub found_difference : (difference : Difference)
      → IsLeastIfAny (IsChanged (record { entries = e; verdicts = v }) (record { entries = f; verdicts = w }) NowPermitted) difference.permits
      → IsLeastIfAny (IsChanged (record { entries = e; verdicts = v }) (record { entries = f; verdicts = w }) NowDenied) difference.denies
      → IsDifference before after difference
  found_difference difference permits denies = record {
    permits_is = if_any_same _ (IsGainedAlong before after) gains gained difference.permits permits;
    denies_is = if_any_same _ (IsGainedAlong after before) loses lost difference.denies denies;
  }

-- ---- what that changes for a user

permits_is : (policy : List Subject) (user line : List ℕ) → permits policy user line ≡ permits_along (along policy (user_id user)) line
permits_is policy user line = by (find_subject (user_id user) policy)
  where
    by : (found : Option Subject) → option_map_or (λ d. is_permit d.verdict) (option_map (λ s. decision policy s line) found) false ≡ permits_along (option_map (entries policy) found) line
    by None = refl
    by (Some s) = refl

module _ (before after : List Subject) (user : List ℕ) where
  theirs : (line : List ℕ) → IsGainedAlong (along before (user_id user)) (along after (user_id user)) line → IsGained before after user line
  theirs line h = (permits_is before user line ∙ h.0, permits_is after user line ∙ h.1)

  as_theirs : (line : List ℕ) → IsGained before after user line → IsGainedAlong (along before (user_id user)) (along after (user_id user)) line
  as_theirs line h = (sym (permits_is before user line) ∙ h.0, sym (permits_is after user line) ∙ h.1)

-- what differs for one who has these rules is what changes for the user
pub user_change : (before after : List Subject) (user : List ℕ) (difference : Difference) → IsDifference (along before (user_id user)) (along after (user_id user)) difference
    → IsChangeOf before after user (record { user = user; permits = difference.permits; denies = difference.denies })
user_change before after user difference h = record {
  user_is = refl;
  permits_is = if_any_same _ (IsGained before after user) (theirs before after user) (as_theirs before after user) difference.permits h.permits_is;
  denies_is = if_any_same _ (IsGained after before user) (theirs after before user) (as_theirs after before user) difference.denies h.denies_is;
}

-- nothing changes where the rules stay
none_gained : (before after : List Subject) (user : List ℕ) → along before (user_id user) ≡ along after (user_id user) → (line : List ℕ) → ¬ (IsGained before after user line)
none_gained before after user same line h =
    let equal = permits_is before user line ∙ ap (λ (rules : Option (List Entry)). permits_along rules line) same ∙ sym (permits_is after user line) in
    true≢false (sym h.1 ∙ sym equal ∙ h.0)

no_change : (before after : List Subject) (user : List ℕ) → along before (user_id user) ≡ along after (user_id user)
    → IsChangeOf before after user (record { user = user; permits = None; denies = None })
no_change before after user same = record {
  user_is = refl;
  permits_is = none_gained before after user same;
  denies_is = none_gained after before user (sym same);
}

pub not_listed : (before after : List Subject) (user : List ℕ) (changes : List Changed) → along before (user_id user) ≡ along after (user_id user) → IsListed before after user changes changes
not_listed before after user changes same = record {
  changed = record { user = user; permits = None; denies = None };
  change = no_change before after user same;
  listed = sym (append-nil changes);
}

pub is_listed : (before after : List Subject) (user : List ℕ) (old new : List Changed) (difference : Difference) → IsDifference (along before (user_id user)) (along after (user_id user)) difference
    → new ≡ old ++ filter is_change (record { user = user; permits = difference.permits; denies = difference.denies } ∷ []) → IsListed before after user old new
is_listed before after user old new difference h listed = record {
  changed = record { user = user; permits = difference.permits; denies = difference.denies };
  change = user_change before after user difference h;
  listed = listed;
}

-- what differs between keepers differs for whom they keep
pub for_keepers : (before after : List Subject) (id : SubjectId) (was is : Option ℕ) (difference : Difference) → along_at before was ≡ along before id → along_at after is ≡ along after id
    → IsDifference (along_at before was) (along_at after is) difference → IsDifference (along before id) (along after id) difference
for_keepers before after id was is difference old new h =
    subst (λ (rules : Option (List Entry)). IsDifference (along before id) rules difference) new
    (subst (λ (rules : Option (List Entry)). IsDifference rules (along_at after is) difference) old h)

pub by_keepers : (before after : List Subject) (id : SubjectId) (was is : Option ℕ) (difference : Difference) → along_at before was ≡ along before id → along_at after is ≡ along after id
    → IsDifference (along before id) (along after id) difference → IsDifference (along_at before was) (along_at after is) difference
by_keepers before after id was is difference old new h =
    subst (λ (rules : Option (List Entry)). IsDifference (along_at before was) rules difference) (sym new)
    (subst (λ (rules : Option (List Entry)). IsDifference rules (along after id) difference) (sym old) h)
