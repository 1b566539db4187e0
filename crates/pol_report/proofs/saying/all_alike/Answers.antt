use Rattle.std.proofs.Common.{arith, sym}
use Rattle.pol_report.proofs.SayingFacts.{alike_at, none_left}
use Rattle.pol_report.proofs.saying.all_alike.Goals as goal

pub subjects-preserved : goal.subjects-preserved
subjects-preserved c = λ later.
    c.subjects.invariant (alike_at c.args.old.now c.args.new.now c.subjects.i c.index-old-i.result c.index-new-i.result c.subjects-test.true (omega arith) (sym c.index-old-i.is) (sym c.index-new-i.is)
    (c.is_alike.ensures c.if-not-is_alike.false) later)

pub returns : goal.returns
returns c = λ yes.
    c.subjects.invariant (none_left c.args.old.now c.args.new.now c.subjects.i c.subjects-test.false (omega arith))
