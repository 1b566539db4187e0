use Rattle.std.proofs.Common.{ap, ◌∙◌, sym}
use Rattle.std.specs.Result.{result_ok}
use Rattle.std.proofs.lemmas.Result.{Ok-from_Ok_iff}
use Rattle.pol_edit.proofs.FieldFacts.{four_digits}
use Rattle.pol_edit.proofs.fields.count.Goals as goal

pub returns : goal.returns
returns c =
    let read = sym c.read_number.ensures.value ∙ c.in_ok-value.was in
    let fits = four_digits c.args.text.now c.in_ok-value.value read in
    c.ok.ensures.value ∙ ap result_ok (Ok-from_Ok_iff c.try_from.result _ c.in_ok-value.value c.try_from.ensures fits) ∙ sym read
