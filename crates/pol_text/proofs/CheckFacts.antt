-- The first subject that fails a test, by its place and by its line.
use Rattle.std.proofs.Common.{◌≡◌, ℕ, suc, ◌+◌, ◌-◌, Bool, true, false, not, cond, List, [], ◌∷◌, length, map, find, get_or, Option, None, Some, IfSome, Result, Ok, Err, refl, sym, ap, ◌∙◌, arith, ◌<◌, ◌≤◌}
use Rattle.std.specs.Option.{option_map_or}
use Rattle.std.proofs.lemmas.List.{length-map}
use Rattle.pol_text.specs.declared.subject.Subject.{Subject}
use Rattle.pol_text.specs.declared.fault.PolicyRefusal.{PolicyRefusal}
use Rattle.pol_text.specs.declared.fault.PolicyRefusal.TheVariants.{NoSuchParent, Cycle, TooDeep}
use Rattle.pol_text.specs.declared.fault.PolicyFault.{PolicyFault}
use Rattle.pol_text.specs.declared.fault.PolicyFault.TheVariants.{Refused}
use Rattle.pol_text.specs.Policy.{has_parent, ends_within}
use Rattle.pol_text.specs.Draft.{first_failing}
use Rattle.pol_text.specs.Text.{Draft, subjects_of, checked, with_right_chains}
use Rattle.std.specs.List.{zip}
use Rattle.pol_text.proofs.Pairs.{firsts, seconds}

abbrev pub lines_in : Draft → List ℕ
lines_in draft = map (λ entry. entry.0) draft

failing_below : (place k : ℕ) (test : Subject → Bool) (subjects : List Subject) → first_failing place test subjects ≡ Some k → k < place + length subjects
failing_below place k test [] h = absurd cc
failing_below place k test (subject ∷ rest) h = by (test subject) (λ e. failing_below (place + 1) k test rest e) h
  where
    by : (b : Bool) → (first_failing (place + 1) test rest ≡ Some k → k < place + 1 + length rest) → cond b (first_failing (place + 1) test rest) (Some place) ≡ Some k
        → k < place + suc (length rest)
    by true below e = let lt = below e in omega arith
    by false below e = let same : place ≡ k = cc in omega arith

pub within_lines : (failing : Option ℕ) (test : Subject → Bool) (subjects : List Subject) (lines : List ℕ) → failing ≡ first_failing 0 test subjects → length lines ≡ length subjects
    → IfSome failing (λ place. place < length lines)
within_lines None test subjects lines is same = tt
within_lines (Some k) test subjects lines is same = let lt = failing_below 0 k test subjects (sym is) in omega arith

-- the entry that fails first
record Fails (place k : ℕ) (test : Subject → Bool) (draft : Draft) : Type 0 where
  entry : ℕ × Subject
  from : place ≤ k
  first : find (λ (entry : ℕ × Subject). not (test entry.1)) draft ≡ Some entry
  line : get_or (lines_in draft) (k - place) 0 ≡ entry.0

failing_is : (place k : ℕ) (test : Subject → Bool) (draft : Draft) → first_failing place test (subjects_of draft) ≡ Some k → Fails place k test draft
failing_is place k test [] h = absurd cc
failing_is place k test (entry ∷ rest) h = by (test entry.1) refl (λ e. failing_is (place + 1) k test rest e) h
  where
    by : (b : Bool) → test entry.1 ≡ b → (first_failing (place + 1) test (subjects_of rest) ≡ Some k → Fails (place + 1) k test rest)
        → cond b (first_failing (place + 1) test (subjects_of rest)) (Some place) ≡ Some k → Fails place k test (entry ∷ rest)
    by true t below e =
        let f = below e in
        let from : place + 1 ≤ k = f.from in
        let step : k - place ≡ suc (k - (place + 1)) = omega arith in
        record { entry = f.entry; from = omega arith; first = rw t f.first; line = rw step f.line }
    by false t below e =
        let same : place ≡ k = cc in
        let none : k - place ≡ 0 = omega arith in
        record { entry = entry; from = omega arith; first = rw t refl; line = rw none refl }

failing_none : (place : ℕ) (test : Subject → Bool) (draft : Draft) → first_failing place test (subjects_of draft) ≡ None → find (λ (entry : ℕ × Subject). not (test entry.1)) draft ≡ None
failing_none place test [] h = refl
failing_none place test (entry ∷ rest) h = by (test entry.1) (λ e. failing_none (place + 1) test rest e) h
  where
    by : (b : Bool) → (first_failing (place + 1) test (subjects_of rest) ≡ None → find (λ (entry : ℕ × Subject). not (test entry.1)) rest ≡ None)
        → cond b (first_failing (place + 1) test (subjects_of rest)) (Some place) ≡ None → cond (not b) (Some entry) (find (λ (entry : ℕ × Subject). not (test entry.1)) rest) ≡ None
    by true below e = below e
    by false below e = absurd cc

-- what a check answered
abbrev pub Answers : Result (Unit {0}) PolicyFault → PolicyRefusal → List ℕ → Option ℕ → Type 0
Answers result refusal lines failing = result ≡ option_map_or (λ place. Err (Refused (get_or lines place 0) refusal)) failing (Ok tt)

check_fails : (test : Subject → Bool) (refusal : PolicyRefusal) (draft : Draft) (failing : Option ℕ) (fault : PolicyFault) → failing ≡ first_failing 0 test (subjects_of draft)
    → Answers (Err fault) refusal (lines_in draft) failing → checked test refusal draft ≡ Err fault
unfolding checked
check_fails test refusal draft None fault is told = absurd cc
check_fails test refusal draft (Some k) fault is told =
    let f = failing_is 0 k test draft (sym is) in
    let from : k - 0 ≡ k = omega arith in
    let at : get_or (lines_in draft) k 0 ≡ f.entry.0 = ap (λ n. get_or (lines_in draft) n 0) (sym from) ∙ f.line in
    let same : Refused (get_or (lines_in draft) k 0) refusal ≡ fault = cc in
    rw f.first (ap (λ (e : PolicyFault). Err e) (ap (λ n. Refused n refusal) (sym at) ∙ same))

check_passes : (test : Subject → Bool) (refusal : PolicyRefusal) (draft : Draft) (failing : Option ℕ) (u : Unit {0}) → failing ≡ first_failing 0 test (subjects_of draft)
    → Answers (Ok u) refusal (lines_in draft) failing → checked test refusal draft ≡ Ok draft
unfolding checked
check_passes test refusal draft None u is told = rw (failing_none 0 test draft (sym is)) refl
check_passes test refusal draft (Some k) u is told = absurd cc

-- ---- the three checks

-- what the places and lines belong to
pub record Of (draft : Draft) (lines : List ℕ) (subjects : List Subject) : Type 0 where
  pub lines_are : lines ≡ lines_in draft
  pub subjects_are : subjects ≡ subjects_of draft

pub paired : (lines : List ℕ) (subjects : List Subject) → length lines ≡ length subjects → Of (zip lines subjects) lines subjects
paired lines subjects long = record { lines_are = sym (firsts lines subjects long); subjects_are = sym (seconds lines subjects long) }

long_is : (draft : Draft) (lines : List ℕ) (subjects : List Subject) → Of draft lines subjects → length subjects ≡ length draft
long_is draft lines subjects of = ap length of.subjects_are ∙ length-map draft (λ (entry : ℕ × Subject). entry.1)

answers_moved : (result : Result (Unit {0}) PolicyFault) (refusal : PolicyRefusal) (lines more : List ℕ) (failing : Option ℕ) → lines ≡ more → Answers result refusal lines failing → Answers result refusal more failing
answers_moved result refusal lines more failing e h = rw (← e) h

module _ (draft : Draft) (lines : List ℕ) (subjects : List Subject) (of : Of draft lines subjects) where
  orphans : (failing : Option ℕ) → failing ≡ first_failing 0 (has_parent subjects) subjects → failing ≡ first_failing 0 (has_parent (subjects_of draft)) (subjects_of draft)
  orphans failing is = is ∙ ap (λ (s : List Subject). first_failing 0 (has_parent s) s) of.subjects_are

  endless : (failing : Option ℕ) (most : ℕ) → most ≡ length subjects → failing ≡ first_failing 0 (ends_within most subjects) subjects → failing ≡ first_failing 0 (ends_within (length draft) (subjects_of draft)) (subjects_of draft)
  endless failing most long is = is ∙ ap (λ (s : List Subject). first_failing 0 (ends_within most s) s) of.subjects_are
      ∙ ap (λ n. first_failing 0 (ends_within n (subjects_of draft)) (subjects_of draft)) (long ∙ long_is draft lines subjects of)

  deep : (failing : Option ℕ) → failing ≡ first_failing 0 (ends_within 8 subjects) subjects → failing ≡ first_failing 0 (ends_within 8 (subjects_of draft)) (subjects_of draft)
  deep failing is = is ∙ ap (λ (s : List Subject). first_failing 0 (ends_within 8 s) s) of.subjects_are

  pub orphan_refused : (failing : Option ℕ) (fault : PolicyFault) → failing ≡ first_failing 0 (has_parent subjects) subjects → Answers (Err fault) NoSuchParent lines failing
      → with_right_chains draft ≡ Err fault
  unfolding with_right_chains
  orphan_refused failing fault is told =
      rw (check_fails (has_parent (subjects_of draft)) NoSuchParent draft failing fault (orphans failing is) (answers_moved (Err fault) NoSuchParent lines (lines_in draft) failing of.lines_are told)) refl

  pub parents_right : (failing : Option ℕ) (u : Unit {0}) → failing ≡ first_failing 0 (has_parent subjects) subjects → Answers (Ok u) NoSuchParent lines failing
      → checked (has_parent (subjects_of draft)) NoSuchParent draft ≡ Ok draft
  parents_right failing u is told =
      check_passes (has_parent (subjects_of draft)) NoSuchParent draft failing u (orphans failing is) (answers_moved (Ok u) NoSuchParent lines (lines_in draft) failing of.lines_are told)

  pub cycle_refused : (failing : Option ℕ) (most : ℕ) (fault : PolicyFault) → checked (has_parent (subjects_of draft)) NoSuchParent draft ≡ Ok draft
      → most ≡ length subjects → failing ≡ first_failing 0 (ends_within most subjects) subjects → Answers (Err fault) Cycle lines failing → with_right_chains draft ≡ Err fault
  unfolding with_right_chains
  cycle_refused failing most fault before long is told =
      rw (before, check_fails (ends_within (length draft) (subjects_of draft)) Cycle draft failing fault (endless failing most long is) (answers_moved (Err fault) Cycle lines (lines_in draft) failing of.lines_are told)) refl

  pub ends_right : (failing : Option ℕ) (most : ℕ) (u : Unit {0}) → most ≡ length subjects → failing ≡ first_failing 0 (ends_within most subjects) subjects → Answers (Ok u) Cycle lines failing
      → checked (ends_within (length draft) (subjects_of draft)) Cycle draft ≡ Ok draft
  ends_right failing most u long is told =
      check_passes (ends_within (length draft) (subjects_of draft)) Cycle draft failing u (endless failing most long is) (answers_moved (Ok u) Cycle lines (lines_in draft) failing of.lines_are told)

  pub deep_refused : (failing : Option ℕ) (fault : PolicyFault) → checked (has_parent (subjects_of draft)) NoSuchParent draft ≡ Ok draft
      → checked (ends_within (length draft) (subjects_of draft)) Cycle draft ≡ Ok draft
      → failing ≡ first_failing 0 (ends_within 8 subjects) subjects → Answers (Err fault) TooDeep lines failing → with_right_chains draft ≡ Err fault
  unfolding with_right_chains
  deep_refused failing fault before ends is told =
      rw (before, ends, check_fails (ends_within 8 (subjects_of draft)) TooDeep draft failing fault (deep failing is) (answers_moved (Err fault) TooDeep lines (lines_in draft) failing of.lines_are told)) refl

  pub all_right : (failing : Option ℕ) (u : Unit {0}) → checked (has_parent (subjects_of draft)) NoSuchParent draft ≡ Ok draft
      → checked (ends_within (length draft) (subjects_of draft)) Cycle draft ≡ Ok draft
      → failing ≡ first_failing 0 (ends_within 8 subjects) subjects → Answers (Ok u) TooDeep lines failing → with_right_chains draft ≡ Ok subjects
  unfolding with_right_chains
  all_right failing u before ends is told =
      rw (before, ends, check_passes (ends_within 8 (subjects_of draft)) TooDeep draft failing u (deep failing is) (answers_moved (Ok u) TooDeep lines (lines_in draft) failing of.lines_are told), of.subjects_are) refl
