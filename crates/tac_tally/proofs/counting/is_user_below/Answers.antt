use Rattle.tac_tally.proofs.Groups.{chain_holds}
use Rattle.tac_tally.proofs.counting.is_user_below.Goals as goal

pub returns-in_ok-chain-in-User : goal.returns-in_ok-chain-in-User
returns-in_ok-chain-in-User c =
    chain_holds c.args.policy.now c.args.group.now c.args.subject.now _ _ _ _ c.contains-holds.result c.contains-holds.ensures.value c.as_slice.ensures
    c.in_ok-chain-in-User.ensures.ids c.id.ensures c.group.ensures c.in-User.is
