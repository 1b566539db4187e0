use Rattle.std.proofs.Common.{◌≡◌, ◌+◌, rules}
use Rattle.tac_worker.specs.Boarding.{board_of}
use Rattle.tac_worker.proofs.BoardFacts.{kept_slots, vacant_kept, others_kept, came}
use Rattle.tac_worker.proofs.switchboard.Switchboard.add.Goals as goal

pub invariant_of-self-2 : goal.invariant_of-self-2
invariant_of-self-2 g c =
    let board = board_of c.self.inside in
    let key = c.insert_reserved-key.result in
    let i = c.insert_reserved-key.ensures in
    let line = c.new-line.result in
    let same : c.reserve.new.self.slots ≡ board.lines = kept_slots c.self.inside.lines c.reserve.new.self c.reserve.ensures.rest_kept in
    let more : c.in-Some.next ≡ board.next + 1 = search rules in
    rw more
    (came g.C.Caller.makes g.C.Caller.rests g.C.Caller.refuses g.V.Witness.takes g.V.Witness.refuses board c.insert_reserved-key.new.self.slots c.insert_reserved-key.new.self.vacant_key key c.args.terms.now.door.now c.args.witness c.args.socket line c.self.invariant c.new-line.ensures.line c.new-line.ensures.stands
    (vacant_kept board.lines c.reserve.new.self.slots key same i.was_vacant) i.updates.changed (others_kept board.lines c.reserve.new.self.slots c.insert_reserved-key.new.self.slots key same i.updates.others))
