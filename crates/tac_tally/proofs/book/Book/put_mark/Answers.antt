use Rattle.std.proofs.Common.{◌<◌, ◌^◌, length, sym, ap, subst, ◌∙◌, arith}
use Rattle.std.proofs.lemmas.List.{length-set}
use Rattle.tac_tally.specs.Book.{beside}
use Rattle.tac_tally.specs.Accounts.{Run}
use Rattle.tac_tally.proofs.Beside.{length-beside, beside-set, beside_at}
use Rattle.tac_tally.proofs.book.Book.put_mark.Goals as goal

pub index-was-requires : goal.index-was-requires
index-was-requires c =
    let book = c.self.inside in
    let lt = rw (← c.self.view_is) at c.requires in
    let many = length-beside book.records.items book.marks.items c.self.invariant.0 in
    omega (arith, many, lt, book.marks.ok.0, c.self.invariant.0)

pub index-requires : goal.index-requires
index-requires c =
    let book = c.self.inside in
    let lt = rw (← c.self.view_is) at c.requires in
    let many = length-beside book.records.items book.marks.items c.self.invariant.0 in
    omega (arith, many, lt, book.records.ok.0)

pub remark-requires : goal.remark-requires
remark-requires c =
    let book = c.self.inside in
    let entries = beside book.records.items book.marks.items in
    let lt = rw (← c.self.view_is) at c.requires in
    let many = length-beside book.records.items book.marks.items c.self.invariant.0 in
    let few : length entries < 2 ^ 64 = omega (arith, many, book.records.ok.0, book.records.small) in
    let inside : c.args.place < length book.records.items = omega (arith, many, lt) in
    let at = beside_at book.records.items book.marks.items c.args.place c.index.result.now _ c.index-was.result.now _ inside c.self.invariant.0 c.index.ensures c.index-was.ensures in
    (entries, c.args.place, c.self.invariant.2, few, at)

pub index_mut-requires : goal.index_mut-requires
index_mut-requires c =
    let book = c.self.inside in
    let lt = rw (← c.self.view_is) at c.requires in
    let many = length-beside book.records.items book.marks.items c.self.invariant.0 in
    omega (arith, many, lt, book.marks.ok.0, c.self.invariant.0)

pub invariant_of-self : goal.invariant_of-self
invariant_of-self c =
    let book = c.self.inside in
    let lt = rw (← c.self.view_is) at c.requires in
    let many = length-beside book.records.items book.marks.items c.self.invariant.0 in
    let inside : c.args.place < length book.records.items = omega (arith, many, lt) in
    let at = beside_at book.records.items book.marks.items c.args.place c.index.result.now _ c.index-was.result.now _ inside c.self.invariant.0 c.index.ensures c.index-was.ensures in
    let entries = beside book.records.items book.marks.items in
    let runs = c.remark.ensures entries c.args.place at c.self.invariant.2 in (
      length-set book.marks.items c.args.place c.args.denied ∙ c.self.invariant.0,
      c.self.invariant.1,
      subst (λ l. Run l c.remark.new.self) (sym (beside-set book.records.items book.marks.items c.args.place c.args.denied)) runs,
      c.self.invariant.3,
    )

pub returns : goal.returns
returns c =
    let book = c.self.inside in
    rw (← c.self.view_is) (ap (λ l. record { entries = l; limit = book.limit; forgotten = book.forgotten }) (beside-set book.records.items book.marks.items c.args.place c.args.denied))
