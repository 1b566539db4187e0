use Rattle.std.proofs.Common.{◌≡◌, ℕ, List, ◌++◌, codes, sym, ap, ◌∙◌, append_assoc}
use Rattle.std.proofs.lemmas.Result.{on_ok_weaker}
use Rattle.pol_names.specs.SubjectId.{subject_text}
use Rattle.pol_names.specs.Service.{attributed_text}
use Rattle.pol_update.proofs.writing.write_words.Goals as goal

whole : (out front blank back : List ℕ) → (out ++ front) ++ (blank ++ back) ≡ out ++ (front ++ blank ++ back)
whole out front blank back = append_assoc out front (blank ++ back) ∙ ap (λ (t : List ℕ). out ++ t) (sym (append_assoc front blank back))

pub returns-in_ok-write_subject-in-ClearService-clause-text : goal.returns-in_ok-write_subject-in-ClearService-clause-text
returns-in_ok-write_subject-in-ClearService-clause-text c =
    let front : List ℕ = codes "clear service " ++ subject_text c.in-ClearService.subject in
    let back : List ℕ = attributed_text c.in-ClearService.service c.in-ClearService.attribute in
    rw c.in-ClearService.is
    (on_ok_weaker c.write_attributed.result
    (λ told. told ∙ ap (λ (t : List ℕ). t ++ (codes " " ++ back)) c.in_ok-write_subject-in-ClearService.ensures.text ∙ whole c.args.out.now.items front (codes " ") back)
    c.write_attributed.ensures)
