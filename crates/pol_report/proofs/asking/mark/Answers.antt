use Rattle.std.proofs.Common.{◌∙◌, sym}
use Rattle.pol_report.proofs.AskingFacts.{marked_at, marked_nowhere}
use Rattle.pol_report.proofs.asking.mark.Goals as goal

pub returns-in-Some-clause-marked : goal.returns-in-Some-clause-marked
returns-in-Some-clause-marked c =
    marked_at c.args.services.now.keys c.args.service.now c.in-Some.place c.args.marks.now (sym c.get_index_of.ensures.index ∙ c.in-Some.is)

pub returns-in_default-clause-marked : goal.returns-in_default-clause-marked
returns-in_default-clause-marked c =
    marked_nowhere c.args.services.now.keys c.args.service.now c.args.marks.now (sym c.get_index_of.ensures.index ∙ c.in_default.is)
