use Rattle.std.proofs.Common.{◌<◌, length, take, arith}
use Rattle.std.proofs.lemmas.List.{length-take-le}
use Rattle.tac_hall_console.proofs.ListenFacts.{listens_first, listens_more, heard_unread, heard_quit, heard_fault_as, heard_last}
use Rattle.tac_hall_console.proofs.operator.Operator.listen.Goals as goal

pub reads-init : goal.reads-init
reads-init g c = listens_first c.args.self.now.begun.items _ _ c.requires

pub returns-in_default : goal.returns-in_default
returns-in_default g c =
    heard_unread c.reads.self.begun.items _ _ _ _ c.reads.invariant _ c.in_default.ensures.fault.1

pub returns-then-n-eq0 : goal.returns-then-n-eq0
returns-then-n-eq0 g c =
    let read = rw (c.in-Some-piece.is, c.if-n-eq0.true) at c.in-Ok.ensures.bytes in
    let last = c.take_last.ensures in
    heard_last c.reads.self.begun.items _ _ _ _ c.reads.invariant _ read.0 (read.1 (omega arith)) _ c.take_last.result
    last.read (λ e. (let some = last.wants e in omega (arith, some, c.reads.self.begun.ok.0))) last.ends

pub returns-in_err-take : goal.returns-in_err-take
returns-in_err-take g c =
    let read = rw c.in-Some-piece.is at c.in-Ok.ensures.bytes in
    let bound = rw c.in-Some-piece.is at c.in-Ok.ensures.bound in
    let some : 0 < length (take c.in-Some-piece.n c.read_piece.new.chunk) =
    rw (length-take-le c.in-Some-piece.n c.read_piece.new.chunk bound) (omega (arith, c.if-n-eq0.false)) in
    heard_fault_as c.reads.self.begun.items _ _ _ _ c.reads.invariant _ _ read.0 _
    c.from_residual.result c.in_err-take.field-0.0 c.take.new.self.begun.items c.from_residual.ensures.1 some c.in_err-take.ensures

pub reads-preserved : goal.reads-preserved
reads-preserved g c =
    let read = rw c.in-Some-piece.is at c.in-Ok.ensures.bytes in
    listens_more c.reads.self.begun.items _ _ _ _ c.reads.invariant _ _ read.0 _ c.take.new.self.begun.items (rw c.in-On.is at c.in_ok-take.ensures)

pub returns-in-Quits : goal.returns-in-Quits
returns-in-Quits g c =
    let read = rw c.in-Some-piece.is at c.in-Ok.ensures.bytes in
    heard_quit c.reads.self.begun.items _ _ _ _ c.reads.invariant _ _ read.0 _ c.take.new.self.begun.items (rw c.in-Quits.is at c.in_ok-take.ensures)
