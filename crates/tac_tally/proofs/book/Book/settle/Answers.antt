use Rattle.std.proofs.Common.{◌≡◌, ◌<◌, length, sym, ap, subst, ◌∙◌}
use Rattle.std.specs.List.{All}
use Rattle.tac_tally.specs.Recount.{with_marks, settled}
use Rattle.tac_tally.specs.declared.recount.Mark.{Mark}
use Rattle.tac_tally.proofs.Settled.{length-spread, settled-spread}
use Rattle.tac_tally.proofs.book.Book.settle.Goals as goal

pub put_marks-requires : goal.put_marks-requires
put_marks-requires c =
    let recount = c.recount.inside in
    let size : recount.size ≡ length c.args.self.now.entries = sym (length-spread recount.size recount.marks.items) ∙ ap length c.recount.view_is ∙ c.requires in
    subst (λ l. All (λ (mark : Mark). mark.place < length c.args.self.now.entries) l) (sym c.as_slice.ensures.value)
    (subst (λ n. All (λ (mark : Mark). mark.place < n) recount.marks.items) size c.recount.invariant)

pub returns : goal.returns
returns c =
    let recount = c.recount.inside in
    let old = c.args.self.now in
    let put : with_marks c.as_slice.result.now old.entries ≡ settled c.args.recount old.entries =
    ap (λ l. with_marks l old.entries) c.as_slice.ensures.value ∙ sym (settled-spread recount.size recount.marks.items old.entries c.recount.invariant)
    ∙ ap (λ l. settled l old.entries) c.recount.view_is in
    c.put_marks.ensures ∙ ap (λ l. record { entries = l; limit = old.limit; forgotten = old.forgotten }) put
