-- There is one report of a policy.
use Rattle.std.proofs.Common.{◌≡◌, ◌++◌, ℕ, List, Ok, sym, ap, ◌∙◌}
use Rattle.pol_text.specs.declared.subject.Subject.{Subject}
use Rattle.pol_meaning.specs.Reach.{Shadows}
use Rattle.pol_meaning.specs.declared.Shadowed.{Shadowed}
use Rattle.tac_console.specs.Reports.{shadows_text}
use Rattle.tac_review.specs.Check.{ok_line, Prints}
use Rattle.tac_review.specs.Judged.{IsOnly}
use Rattle.tac_review.specs.declared.checking.CheckEnd.{CheckEnd}
use Rattle.tac_review.specs.declared.checking.CheckEnd.TheVariants.{Sound}

pub report_only : (policy : List Subject) (rows : List Shadowed) (output : List ℕ) (end : CheckEnd) → Shadows policy rows → ((other : List Shadowed) → Shadows policy other → rows ≡ other)
    → output ≡ ok_line policy ++ shadows_text rows → end ≡ Sound → IsOnly (Prints (Ok policy)) output end
report_only policy rows output end are one p q = record {
  wanted = ((rows, are, p), q);
  only = λ other last w. (w.0.2 ∙ ap (λ (found : List Shadowed). ok_line policy ++ shadows_text found) (sym (one w.0.0 w.0.1)) ∙ sym p, w.1 ∙ sym q);
}
