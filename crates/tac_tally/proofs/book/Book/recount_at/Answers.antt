use Rattle.std.proofs.Common.{◌≡◌, ℕ, ◌<◌, length, refl, sym, ap, ◌∙◌, arith, get_or}
use denote.Param.Always.{mut_next}
use Rattle.std.proofs.lemmas.List.{take_more, take_all}
use Rattle.std.proofs.lemmas.List.Elements.{All-get_or, All-push}
use Rattle.std.proofs.lemmas.Option.{slice_get_read}
use Rattle.tac_tally.specs.Book.{items}
use Rattle.tac_tally.specs.Recount.{marks_at, spread}
use Rattle.tac_tally.specs.declared.recount.Mark.{Mark}
use Rattle.tac_tally.proofs.Beside.{length-beside, items-beside}
use Rattle.tac_tally.proofs.Marks.{marks-plain, marks-asked}
use Rattle.tac_tally.proofs.Settled.{length-spread}
use Rattle.tac_tally.proofs.book.Book.recount_at.Goals as goal
use Rattle.tac_tally.proofs.book.Book.recount_at.Goals.{in-Some+in_ok-denied-in-Some, in-None}

pub index-record-requires : goal.index-record-requires
index-record-requires g c =
    let book = c.self.inside in
    let many = length-beside book.records.items book.marks.items c.self.invariant.0 in
    let size = ap (λ b. length b.entries) c.self.view_is in
    let lt = All-get_or (λ (place : ℕ). place < length c.args.self.now.entries) c.args.places.now c.places.place-index 0 c.places-test.true c.requires.places in
    omega (arith, many, size, lt, book.records.ok.0)

pub places-preserved : goal.places-preserved
places-preserved g c =
    let book = c.self.inside in
    let i = c.places.place-index in
    let place = get_or c.args.places.now i 0 in
    let many = length-beside book.records.items book.marks.items c.self.invariant.0 in
    let size = ap (λ b. length b.entries) c.self.view_is in
    let listed = All-get_or (λ (p : ℕ). p < length c.args.self.now.entries) c.args.places.now i 0 c.places-test.true c.requires.places in
    let lt : place < book.records.len = omega (arith, many, size, listed, book.records.ok.0) in
    let more = take_more c.args.places.now i 0 c.places-test.true in
    let item = c.index-record.result.now in
    let at = slice_get_read book.records.items book.records.len place item book.records.ok.0 lt c.index-record.ensures in
    elim c.match-record.branch [
      | in-Some+in_ok-denied-in-Some w ↦ (
        rw w.decide-is (mut_next g.F.FnMut _ _ _ _ _ w.decide.ensures refl c.places.invariant.0),
        rw (more, c.in_ok-push.ensures.items, w.decide-is, w.denied-is)
            (marks-asked g.F.FnMut _ _ _ book.records.items _ _ place item _ _ w.in-Some.line w.in_ok-denied-in-Some.denied w.decide.result at w.in-Some.is
            w.as_slice.ensures w.as_slice-in-Some.ensures w.decide.ensures w.in_ok-denied-in-Some.was c.places.invariant.1),
        rw c.in_ok-push.ensures.items (All-push (λ (mark : Mark). mark.place < book.records.len) c.places.marks.items _ c.places.invariant.2 lt),
      )
      | in-None w ↦ (
        rw w.decide-is c.places.invariant.0,
        rw (more, c.in_ok-push.ensures.items, w.decide-is, w.denied-is)
            (marks-plain g.F.FnMut _ _ book.records.items _ _ place item at w.in-None.is c.places.invariant.1),
        rw c.in_ok-push.ensures.items (All-push (λ (mark : Mark). mark.place < book.records.len) c.places.marks.items _ c.places.invariant.2 lt),
      )
    ]

pub returns-clause-size : goal.returns-clause-size
returns-clause-size g c =
    let book = c.self.inside in
    let many = length-beside book.records.items book.marks.items c.self.invariant.0 in
    length-spread c.len.result c.places.marks.items ∙ c.len.ensures ∙ book.records.ok.0 ∙ sym many ∙ ap (λ b. length b.entries) c.self.view_is

pub returns-clause-marks : goal.returns-clause-marks
returns-clause-marks g c = λ denies computes.
    let book = c.self.inside in
    let many = length-beside book.records.items book.marks.items c.self.invariant.0 in
    let size : c.len.result ≡ length c.args.self.now.entries = c.len.ensures ∙ book.records.ok.0 ∙ sym many ∙ ap (λ b. length b.entries) c.self.view_is in
    let records : book.records.items ≡ items c.args.self.now.entries = sym (items-beside book.records.items book.marks.items c.self.invariant.0) ∙ ap (λ b. items b.entries) c.self.view_is in
    let whole = take_all c.places.place-index c.args.places.now c.places-test.false in
    let marks = (c.places.invariant.1 denies computes).1 in
    ap (λ n. spread n c.places.marks.items) size ∙ ap (spread (length c.args.self.now.entries)) (marks ∙ ap (marks_at denies book.records.items) whole ∙ ap (λ l. marks_at denies l c.args.places.now) records)
