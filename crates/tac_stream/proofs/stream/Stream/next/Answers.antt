use Rattle.std.proofs.Common.{refl}
use Rattle.tac_stream.proofs.StreamFacts.{found_turn, result_after}
use Rattle.tac_stream.proofs.stream.Stream.next.Goals as goal

pub returns-clause-found : goal.returns-clause-found
returns-clause-found c = λ bytes taken ready s.
    found_turn c.args.door.now bytes taken c.first_turn-turn.result (c.first_turn-turn.ensures.turn bytes taken s)

pub returns-clause-stands : goal.returns-clause-stands
returns-clause-stands c = λ bytes taken ready s.
    result_after c.first_turn-turn.result c.args.door.now c.first_turn-turn.new.self _ bytes taken refl refl (c.first_turn-turn.ensures.stands bytes taken s)
