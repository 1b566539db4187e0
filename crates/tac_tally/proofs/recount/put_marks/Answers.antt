use Rattle.std.proofs.Common.{◌<◌, length, false, ap, ◌∙◌, take}
use Rattle.std.proofs.lemmas.List.Elements.{All-get_or}
use Rattle.tac_tally.specs.declared.recount.Mark.{Mark}
use Rattle.tac_tally.proofs.Settled.{length-with_marks}
use Rattle.tac_tally.proofs.recount.put_marks.Goals as goal

pub put_mark-requires : goal.put_mark-requires
put_mark-requires c =
    let size = ap (λ b. length b.entries) c.marks.invariant ∙ length-with_marks (take c.marks.mark-index c.args.marks.now) c.args.book.now.entries in
    rw size (All-get_or (λ (mark : Mark). mark.place < length c.args.book.now.entries) c.args.marks.now c.marks.mark-index (record { place = 0; denied = false }) c.marks-test.true c.requires)
