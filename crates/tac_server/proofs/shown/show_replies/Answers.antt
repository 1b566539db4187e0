use Rattle.tac_server.proofs.ShownFacts.{shows_all, shows_more}
use Rattle.tac_server.proofs.shown.show_replies.Goals as goal

pub replies-preserved : goal.replies-preserved
replies-preserved c = λ packets sends.
    shows_more c.args.key.now c.args.number _ _ _ packets (c.replies.invariant packets sends) c.in-Some.packet.now c.in-Some.next.now c.show_reply.new.out.items
    c.in-Some.ensures.shorter (λ first more whole e. c.in-Some.ensures.parts first more whole e) c.in_ok-show_reply.ensures

pub returns : goal.returns
returns c = λ packets sends.
    shows_all c.args.key.now c.args.number _ _ _ packets (c.replies.invariant packets sends) (λ packet more whole e. c.in_default.ensures.parts packet more whole e)
