-- Edits, a step at a time.
use Rattle.std.proofs.Common.{◌≡◌, ◌≢◌, ℕ, suc, ◌+◌, ◌<◌, ◌≤◌, Bool, true, false, true≢false, List, [], ◌∷◌, ◌++◌, length, take, get_or, Result, Ok, refl, sym, subst, ap, ◌∙◌, arith}
use Rattle.std.proofs.Math.Seq.{take-suc}
use Rattle.std.proofs.lemmas.List.{take_all}
use Rattle.pol_names.specs.declared.subject_id.SubjectId.{SubjectId}
use Rattle.pol_text.specs.Policy.{WellFormed, find_subject}
use Rattle.pol_text.specs.declared.subject.Subject.{Subject}
use Rattle.pol_edit.specs.Batches.{applied_from, then}
use Rattle.pol_edit.specs.declared.edit.Edit.{Edit}
use Rattle.pol_edit.specs.declared.fault.EditFault.{EditFault}
use Rattle.pol_update.specs.Update.{IsAlike, HaveSame, subject_of, IsStep, AreSteps, Updates}
use Rattle.pol_update.specs.Planning.{IsTaken}

-- one step more
pub one_more : (old new policy mid made : List Subject) (edits : List Edit) (edit : Edit) → AreSteps old new policy edits mid → IsStep old new mid edit made
    → AreSteps old new policy (edits ++ edit ∷ []) made
one_more old new policy mid made [] edit so_far step = (made, subst (λ (p : List Subject). IsStep old new p edit made) (sym so_far) step, refl)
one_more old new policy mid made (first ∷ edits) edit so_far step = (so_far.0, so_far.1, one_more old new so_far.0 mid made edits edit so_far.2 step)

-- steps are taken one after another
pub steps_make : (at : ℕ) (old new policy made : List Subject) (edits : List Edit) → AreSteps old new policy edits made → applied_from at edits policy ≡ Ok made
steps_make at old new policy made [] steps = ap Ok steps
steps_make at old new policy made (edit ∷ edits) steps =
    subst (λ (r : Result (List Subject) EditFault). then at r (applied_from (suc at) edits) ≡ Ok made) (sym steps.1.makes) (steps_make (suc at) old new steps.0 made edits steps.2)

-- ---- edits that are made one after another

pub next_step : (old new made now : List Subject) (edits : List Edit) (i : ℕ) (edit : Edit) (id : SubjectId) (alike changed : Bool) → AreSteps old new old (take i edits) made → i < length edits
    → edit ≡ get_or edits i edit → id ≡ subject_of edit → (IsAlike old new id → alike ≡ true) → alike ≡ false → WellFormed made → IsTaken changed made edit now → changed ≡ true
    → AreSteps old new old (take (i + 1) edits) now
next_step old new made now edits i edit id alike false so_far lt item of tells differs w taken done = absurd (true≢false (sym done))
next_step old new made now edits i edit id alike true so_far lt item of tells differs w taken done =
    let next : i + 1 ≡ suc i = omega arith in
    let more : take (suc i) edits ≡ take i edits ++ edit ∷ [] = take-suc edits i edit lt ∙ ap (λ (e : Edit). take i edits ++ e ∷ []) (sym item) in
    rw (next, more) (one_more old new old made now (take i edits) edit so_far (record {
      well_formed = w;
      makes = taken.0;
      changes = λ same. taken.1 (ap (find_subject (subject_of edit)) same);
      of_differing = λ same. absurd (true≢false (sym (tells (subst (λ (s : SubjectId). IsAlike old new s) (sym of) same)) ∙ differs));
    }))

pub all_steps : (old new made : List Subject) (edits : List Edit) (i : ℕ) → AreSteps old new old (take i edits) made → length edits ≤ i → HaveSame made new → Updates old edits new
all_steps old new made edits i so_far end same =
    let steps : AreSteps old new old edits made = subst (λ (e : List Edit). AreSteps old new old e made) (take_all i edits end) so_far in
    record { made = made; makes = steps_make 1 old new old made edits steps; steps = steps; same = same }
