use Rattle.std.proofs.Common.{rules, ◌≡◌, ◌≤◌, ◌-◌, ◌^◌, min, ℕ, ◌+◌, length, arith, ap, ◌∙◌}
use Rattle.std.proofs.Math.ListN.{drop_of_length-le}
use Rattle.std.proofs.lemmas.List.Sums.{sum_by-drop_more}
use Rattle.pol_text.specs.declared.subject.Subject.{Subject}
use Rattle.tac_status.specs.Counting as counting
use Rattle.tac_status.proofs.desk_counts.rules_of.Goals as goal

-- one more subject's rules, as far as a number counts
one_more : (most n one rest left n' all : ℕ) → n' ≡ min (n + one) most → left ≡ one + rest
    → min (n + left) most ≡ all → min (n' + rest) most ≡ all
one_more most n one rest left n' all is splits so_far = omega (arith, is, splits, so_far)

within : (most n n' : ℕ) → n' ≡ min n most → n' ≤ most
within most n n' is = omega (arith, is)

whole : (most n left all : ℕ) → n ≤ most → left ≡ 0 → min (n + left) most ≡ all → n ≡ all
whole most n left all small none so_far = omega (arith, small, none, so_far)

pub subjects-init : goal.subjects-init
subjects-init c = search rules

pub subjects-preserved : goal.subjects-preserved
subjects-preserved c = record {
  small = within (2 ^ 64 - 1) _ _ c.saturating_add-rules.ensures;
  all =
      one_more (2 ^ 64 - 1) c.subjects.rules _ _ _ _ _ (c.saturating_add-rules.ensures
      ∙ ap (λ n. min (c.subjects.rules + n) (2 ^ 64 - 1)) (c.len.ensures
      ∙ ap (λ (s : Subject). length s.rules) c.subject-item.is))
      (sum_by-drop_more (λ (s : Subject). length s.rules) _ _ _ c.subjects-test.true)
      c.subjects.invariant.all;
}

pub returns : goal.returns
returns c =
    let none = ap counting.rules_of (drop_of_length-le c.subjects-subject-items.result.now c.subjects-test.false) in
    whole (2 ^ 64 - 1) c.subjects.rules _ _ c.subjects.invariant.small none c.subjects.invariant.all
