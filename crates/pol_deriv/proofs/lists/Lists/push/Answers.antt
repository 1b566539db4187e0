use Rattle.std.proofs.Common.{◌≡◌, ◌++◌, length, arith, ◌∙◌}
use Rattle.std.proofs.lemmas.Result.{err_from_is_err_and}
use Rattle.pol_deriv.proofs.SpanFacts.{lists-more, push_within, push_lists}
use Rattle.pol_deriv.proofs.lists.Lists.push.Goals as goal
use Rattle.pol_deriv.proofs.lists.Lists.push.Goals.{In_ok-push}

start : (c : In_ok-push) → c.len-start.result ≡ length c.self.inside.numbers.items
start c = omega (arith, c.len-start.ensures, c.self.inside.numbers.ok.0)

end : (c : In_ok-push) → c.len-end.result ≡ length (c.self.inside.numbers.items ++ c.args.list.now)
end c = rw (← c.in_ok-extend_from_slice.ensures.items) (omega (arith, c.len-end.ensures, c.extend_from_slice.new.self.ok.0))

pub invariant_of-self-2 : goal.invariant_of-self-2
invariant_of-self-2 c =
    rw (c.in_ok-push.ensures.items, c.in_ok-extend_from_slice.ensures.items)
    (push_within c.self.inside.numbers.items c.args.list.now c.self.inside.spans.items (record { start = c.len-start.result; end = c.len-end.result }) c.self.invariant (start c) (end c))

pub returns-in_err-push-clause-err : goal.returns-in_err-push-clause-err
returns-in_err-push-clause-err c =
    let p = err_from_is_err_and c.from_residual-in_err-push.result c.from_residual-in_err-push.ensures.1 in
    rw (p.1, c.in_err-push.ensures.items, c.in_ok-extend_from_slice.ensures.items)
    (lists-more c.self.inside.numbers.items c.args.list.now c.self.inside.spans.items c.self.invariant ∙ c.self.view_is)

pub returns-clause-ok : goal.returns-clause-ok
returns-clause-ok c =
    rw (c.in_ok-push.ensures.items, c.in_ok-extend_from_slice.ensures.items, ← c.self.view_is)
    (push_lists c.self.inside.numbers.items c.args.list.now c.self.inside.spans.items (record { start = c.len-start.result; end = c.len-end.result }) c.self.invariant
    (start (goal.at.returns-clause-ok c).In_ok-push) (end (goal.at.returns-clause-ok c).In_ok-push))
