use Rattle.std.proofs.Common.{nat_eq, List, sym, ap, ◌∙◌}
use Rattle.std.specs.List.{list_any}
use Rattle.pol_words.specs.declared.remark.Remark.{Remark}
use Rattle.pol_faults.specs.Chains.{found_faults}
use Rattle.pol_faults.proofs.PlainFacts.{told_so, untold_so}
use Rattle.pol_faults.proofs.chains.text_faults.Goals as goal

pub returns-then-is_told : goal.returns-then-is_told
returns-then-is_told c =
    let same = ap (λ (told : List Remark). list_any (λ remark. nat_eq remark.line c.args.line) told) (sym c.as_slice.ensures) in
    told_so c.args.line c.args.refusal c.in_ok-remarks.remarks (found_faults c.args.text.now) c.in_ok-remarks.ensures (same ∙ sym c.is_told.ensures ∙ c.if-is_told.true)

pub returns : goal.returns
returns c =
    let same = ap (λ (told : List Remark). list_any (λ remark. nat_eq remark.line c.args.line) told) (sym c.as_slice.ensures) in
    rw c.in_ok-insert.ensures.ok
    (untold_so c.args.line c.args.refusal c.in_ok-remarks.remarks (found_faults c.args.text.now) c.in_ok-remarks.ensures (same ∙ sym c.is_told.ensures ∙ c.if-is_told.false))
