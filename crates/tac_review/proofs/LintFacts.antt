-- Whether a text is refused is certain.
use Rattle.std.proofs.Common.{◌≡◌, ◌∷◌, [], ℕ, List, false, Result, Ok, Err, refl, sym, ap, subst, ◌∙◌}
use Rattle.pol_text.specs.declared.subject.Subject.{Subject}
use Rattle.pol_live.specs.Judging.{Judges, IsOnlyJudged}
use Rattle.pol_live.specs.declared.judging.TextRefusal.{TextRefusal}
use Rattle.pol_habits.specs.declared.question.Asked.{Asked}
use Rattle.tac_review.specs.Lint.{Tells, IsOnlyLint, end_of, is_refused}
use Rattle.tac_review.specs.declared.linting.LintEnd.{LintEnd}

not_refused : (asked : List Asked) → is_refused (end_of asked) ≡ false
not_refused [] = refl
not_refused (one ∷ more) = refl

same_end : (text : List ℕ) (judged : Result (List Subject) TextRefusal) (output other : List ℕ) (end last : LintEnd) → Tells text judged output end → Tells text judged other last → is_refused last ≡ is_refused end
same_end text (Ok policy) output other end last one two =
    ap is_refused two.2 ∙ not_refused two.0 ∙ sym (not_refused one.0) ∙ sym (ap is_refused one.2)
same_end text (Err refusal) output other end last one two = ap is_refused (two.3 ∙ sym one.3)

pub lint_only : (text : List ℕ) (judged : Result (List Subject) TextRefusal) (output : List ℕ) (end : LintEnd) → Judges text judged → IsOnlyJudged text judged → Tells text judged output end → IsOnlyLint text output end
lint_only text judged output end judges one tells = record {
  wanted = (judged, judges, tells);
  only = λ other last w.
      same_end text judged output other end last tells (subst (λ (found : Result (List Subject) TextRefusal). Tells text found other last) (sym (one w.0 w.1)) w.2);
}
