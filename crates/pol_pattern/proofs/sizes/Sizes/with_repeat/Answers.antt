use Rattle.std.proofs.Common.{◌∙◌, ap}
use Rattle.pol_pattern.specs.declared.sizes.Sizes.{Sizes}
use Rattle.pol_pattern.proofs.Counts.{same_sizes, extra_byte, star_sizes, plus_sizes, question_sizes}
use Rattle.pol_pattern.proofs.sizes.Sizes.with_repeat.Goals as goal

pub returns-in-Star : goal.returns-in-Star
returns-in-Star c = λ level is. rw c.in-Star.is (star_sizes c.args.self level c.from.result c.capped_sum-star.result is (c.from.ensures ∙ extra_byte c.args.self.last_is_group) c.capped_sum-star.ensures)

pub returns-in-Plus : goal.returns-in-Plus
returns-in-Plus c = λ level is. rw c.in-Plus.is (plus_sizes c.args.self level c.from.result c.capped_sum-star.result c.capped_sum.result is (c.from.ensures ∙ extra_byte c.args.self.last_is_group) c.capped_sum-star.ensures c.capped_sum.ensures)

pub returns-in-Question : goal.returns-in-Question
returns-in-Question c = λ level is. rw c.in-Question.is (question_sizes c.args.self level c.capped_sum-in-Question.result is c.capped_sum-in-Question.ensures)

pub returns-in-Counted : goal.returns-in-Counted
returns-in-Counted c = λ level is. rw c.in-Counted.is (same_sizes _ _ _ _ _ _ _ _ (ap (λ (s : Sizes). s.done) is) (ap (λ (s : Sizes). s.before) is) (c.counted.ensures level is) (c.counted_is_group.ensures level is))
