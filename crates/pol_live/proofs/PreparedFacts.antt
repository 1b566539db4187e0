-- What is renewed, where edits are prepared.
use Rattle.std.proofs.Common.{◌≡◌, ℕ, List, true, Ok, sym, subst}
use Rattle.std.specs.List.{list_all}
use Rattle.pol_text.specs.declared.subject.Subject.{Subject}
use Rattle.pol_text.specs.Policy.{has_parent}
use Rattle.pol_edit.specs.Batches.{applied_all}
use Rattle.pol_edit.specs.declared.edit.Edit.{Edit}
use Rattle.pol_live.specs.declared.touching.Touched.{Touched}
use Rattle.pol_live.specs.Renewing.{touched_by, IsAlike, LeavesOthers}
use Rattle.pol_live.specs.Rise.{IsRenewalRise, IsEditRise, Rises}
use Rattle.pol_live.proofs.AlikeFacts.{alike_from}
use Rattle.pol_live.proofs.RenewFacts.{leaves_others}

module _ (edits : List Edit) (before policy : List Subject) (touched : Touched) (is : touched ≡ touched_by edits) where
  pub alike_all : applied_all before edits ≡ Ok policy → IsAlike touched before policy
  alike_all made = subst (λ (t : Touched). IsAlike t before policy) (sym is) (alike_from 1 edits before policy made)

  module _ (after : List Subject) (same : after ≡ policy) where
    pub leaves : list_all (has_parent policy) policy ≡ true → applied_all before edits ≡ Ok policy → LeavesOthers touched.all before after
    leaves parents made = subst (λ (p : List Subject). LeavesOthers touched.all before p) (sym same) (leaves_others touched before policy (alike_all made) parents)

    pub rises : (a b : ℕ) → Rises (IsRenewalRise touched policy) a b → Rises (IsEditRise edits after) a b
    rises a b h = subst (λ (t : Touched). Rises (IsRenewalRise t after) a b) is (subst (λ (p : List Subject). Rises (IsRenewalRise touched p) a b) (sym same) h)
